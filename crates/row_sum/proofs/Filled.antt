-- A row that has objects is shown by their digests.
use Rattle.std.proofs.Common.{◌≡◌, ℕ, ◌<◌, List, [], ◌∷◌, map, length, Some, refl, arith}
use Rattle.row_value.specs.declared.content.Cell.{Cell}
use Rattle.row_value.specs.declared.content.Content.TheVariants.{Row}
use Rattle.table_model.specs.Sums.{object_sum, row_sum}

pub filled : (cells : List Cell) (objects : List (List ℕ)) → 0 < length objects
    → row_sum (Row cells objects) ≡ Some (record { cells = cells; objects = map object_sum objects })
filled cells [] some = absurd (omega arith)
filled cells (object ∷ objects) some = refl
