-- The rows that a client keeps, by their ids, and the version that it has read of one.
use Rattle.std.specs.Prelude.{ℕ, List, Option, Some, None}
use Rattle.std.specs.declared.cmp.Ordering.{Ordering}
use Rattle.std.specs.Ordering.{nat_cmp}
use Rattle.std.specs.Cmp.Lexicographic.{slice_cmp}
use Rattle.step_tables.specs.Slots.{Shadow}

abbrev pub row_cmp : List ℕ → List ℕ → Ordering
row_cmp a b = slice_cmp nat_cmp a b

-- the version of the row that the client has read, 0 where it has read none
abbrev pub version_in : Option Shadow → ℕ
version_in None = 0
version_in (Some shadow) = shadow.version
