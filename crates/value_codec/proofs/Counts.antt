-- How many bytes spell cells.
use Rattle.std.proofs.Common.{◌≡◌, ℕ, ◌+◌, true, false, List, [], ◌∷◌, length, refl, ap, ◌∙◌, arith, length-append, add-one}
use Rattle.std.specs.Prelude.{sum_by}
use Rattle.std.specs.Int.{w32, to_be_bytes}
use Rattle.std.specs.List.{flat_map}
use Rattle.std.proofs.lemmas.List.Sums.{sum_by-cons}
use Rattle.row_value.specs.declared.content.Cell.{Cell}
use Rattle.row_value.specs.declared.content.Cell.TheVariants as cells
use Rattle.row_value.specs.Fit.{spelled_len}
use Rattle.value_codec.specs.Spelling.{cell_spelling}

cell_counted : (cell : Cell) → length (cell_spelling cell) ≡ spelled_len cell
cell_counted (cells.Int n) = refl
cell_counted (cells.Bool true) = refl
cell_counted (cells.Bool false) = refl
cell_counted (cells.Text text) = let both = length-append (to_be_bytes w32 (length text)) text in omega (arith, both)

pub cells_counted : (some : List Cell) → length (flat_map cell_spelling some) ≡ sum_by spelled_len some
cells_counted [] = refl
cells_counted (cell ∷ some) =
    let both = length-append (cell_spelling cell) (flat_map cell_spelling some) in
    let first = cell_counted cell in
    let more = cells_counted some in
    omega (arith, both, first, more, sum_by-cons spelled_len cell some)
