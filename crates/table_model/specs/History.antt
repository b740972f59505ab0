-- The rows of a table's history, which is the list of its entries in their order.
use Rattle.std.specs.Prelude.{ℕ, Bool, List, Option, Some, None}
use Rattle.std.specs.Ordering.{nat_cmp, is_eq}
use Rattle.std.specs.Cmp.Lexicographic.{slice_cmp}
use Rattle.table_model.specs.Last.{last_where}
use Rattle.table_model.specs.declared.entry.Entry.{Entry}

-- whether two row ids are one
abbrev pub same_row : List ℕ → List ℕ → Bool
same_row a b = is_eq (slice_cmp nat_cmp a b)

abbrev pub is_of_row : List ℕ → Entry → Bool
is_of_row row entry = same_row entry.row row

-- the last entry of a row
abbrev pub last_entry : List Entry → List ℕ → Option Entry
last_entry history row = last_where (is_of_row row) history

abbrev pub version_of : Option Entry → ℕ
version_of None = 0
version_of (Some entry) = entry.version

-- the version of a row's last entry, 0 where there is none
abbrev pub current : List Entry → List ℕ → ℕ
current history row = version_of (last_entry history row)
