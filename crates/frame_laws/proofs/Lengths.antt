-- How long the spellings of contents by pieces are.
use Rattle.std.proofs.Common.{◌≡◌, ℕ, suc, ◌+◌, ◌≤◌, Bool, true, false, List, [], ◌∷◌, length, refl, ap, arith, length-append}
use Rattle.std.specs.Prelude.{◌*◌, sum_by}
use Rattle.std.specs.List.{flat_map}
use Rattle.std.specs.Int.{w32, to_be_bytes}
use Rattle.std.proofs.lemmas.List.Sums.{sum_by-cons}
use Rattle.row_value.specs.declared.content.Cell.{Cell}
use Rattle.row_value.specs.declared.content.Cell.TheVariants as cells
use Rattle.row_value.specs.declared.pieces.Piece.{Piece}
use Rattle.row_value.specs.declared.pieces.Piece.TheVariants.{Keep, Fresh}
use Rattle.row_value.specs.declared.pieces.PieceObject.{PieceObject}
use Rattle.row_value.specs.Fit.{spelled_len}
use Rattle.value_codec.specs.Spelling.{flag_spelling, list_spelling, name_spelling, cell_spelling, piece_spelling, object_spelling, content_spelling, pieces_of}
use Rattle.row_value.specs.declared.pieces.PieceContent.TheVariants.{Row}

list_len : {X : Type 0} (spelling : X → List ℕ) (xs : List X) → length (list_spelling spelling xs) ≡ 4 + length (flat_map spelling xs)
list_len spelling xs = omega arith

flag_len : (b : Bool) → length (flag_spelling b) ≡ 1
flag_len true = refl
flag_len false = refl

-- as many bytes as the row's fit counts
cells_len : (some : List Cell) → length (flat_map cell_spelling some) ≡ sum_by spelled_len some
cells_len [] = refl
cells_len (cell ∷ some) = omega (arith, length-append (cell_spelling cell) (flat_map cell_spelling some), cells_len some, one cell, sum_by-cons spelled_len cell some)
  where
    one : (cell : Cell) → length (cell_spelling cell) ≡ spelled_len cell
    one (cells.Int n) = refl
    one (cells.Bool b) = ap suc (flag_len b)
    one (cells.Text text) = omega arith

piece_most : (piece : Piece) → length (piece_spelling piece) ≤ 13
piece_most (Keep name) = let twelve : length (name_spelling name) ≡ 12 = refl in omega (arith, twelve)
piece_most (Fresh ordinal) = omega arith

pieces_most : (pieces : List Piece) → length (flat_map piece_spelling pieces) ≤ length pieces * 13
pieces_most [] = omega arith
pieces_most (piece ∷ pieces) = omega (arith, length-append (piece_spelling piece) (flat_map piece_spelling pieces), pieces_most pieces, piece_most piece)

objects_most : (objects : List PieceObject) → length (flat_map object_spelling objects) ≤ length objects * 8 + length (pieces_of objects) * 13
objects_most [] = omega arith
objects_most (object ∷ objects) =
    omega (
      arith,
      objects_most objects,
      pieces_most object.pieces,
      length-append object.pieces (pieces_of objects),
      length-append (object_spelling object) (flat_map object_spelling objects),
      length-append (to_be_bytes w32 object.len) (list_spelling piece_spelling object.pieces),
      list_len piece_spelling object.pieces,
    )

-- a row with few cells, objects and chunks
pub row_most : (some : List Cell) (objects : List PieceObject) → sum_by spelled_len some ≤ 524288 → length objects ≤ 32 → length (pieces_of objects) ≤ 32768
    → length (content_spelling (Row some objects)) ≤ 950537
row_most some objects few_bytes few_objects few_pieces =
    omega (
      arith,
      few_bytes,
      few_objects,
      few_pieces,
      cells_len some,
      objects_most objects,
      length-append (list_spelling cell_spelling some) (list_spelling object_spelling objects),
      list_len cell_spelling some,
      list_len object_spelling objects,
    )
