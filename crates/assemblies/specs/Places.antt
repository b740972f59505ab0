-- Where the chunks of a content stand that travel by themselves.
use Rattle.std.specs.Prelude.{◌≡◌, ◌⊎◌, ℕ, ◌+◌, ◌<◌, ◌^◌, ◌==◌, ◌&&◌, nat_lt, Bool, true, if◌then◌else◌}
use Rattle.std.specs.Prelude.{List, [], ◌∷◌, ◌++◌, length}
use Rattle.std.specs.List.{list_all, AllByRecursion}
use Rattle.row_value.specs.declared.pieces.Piece.{Piece}
use Rattle.row_value.specs.declared.pieces.PieceObject.{PieceObject}
use Rattle.row_value.specs.declared.pieces.PieceContent.{PieceContent}
use Rattle.row_value.specs.declared.pieces.PieceContent.TheVariants.{Gone, Row}
use Rattle.chunker.specs.Sized.{count_of, len_at}
use Rattle.assemblies.specs.declared.awaiting.Awaited.{Awaited}

-- the chunks of an object of so many bytes whose pieces from a place on are these
abbrev pub awaited_in : (Piece → Bool) → ℕ → ℕ → ℕ → ℕ → List Piece → List Awaited
awaited_in sends size len column place [] = []
awaited_in sends size len column place (piece ∷ pieces) =
    if sends piece
    then record { column = column; place = place; len = len_at size len place }
    ∷ awaited_in sends size len column (place + 1) pieces
    else awaited_in sends size len column (place + 1) pieces

-- those of objects in the columns from one on
abbrev pub awaited_from : (Piece → Bool) → ℕ → ℕ → List PieceObject → List Awaited
awaited_from sends size column [] = []
awaited_from sends size column (object ∷ objects) =
    awaited_in sends size object.len column 0 object.pieces ++ awaited_from sends size (column + 1) objects

-- those of a content; object columns stand behind the cells
abbrev pub awaited_of : (Piece → Bool) → ℕ → PieceContent → List Awaited
awaited_of sends size Gone = []
awaited_of sends size (Row some objects) = awaited_from sends size (length some) objects

-- each place of an object has a number of 32 bits
abbrev pub has_few : PieceObject → Bool
has_few object = nat_lt (length object.pieces) (2 ^ 32)

-- each column and each place of a content does
abbrev pub has_places : PieceContent → Bool
has_places Gone = true
has_places (Row some objects) = nat_lt (length some + length objects) (2 ^ 32) && list_all has_few objects

-- by column, then place
abbrev pub IsBefore : Awaited → Awaited → Type 0
IsBefore a b = (a.column < b.column) ⊎ ((a.column ≡ b.column) × (a.place < b.place))

abbrev pub Rises : List Awaited → Type 0
Rises [] = Unit {0}
Rises (a ∷ list) = AllByRecursion (λ b. IsBefore a b) list × Rises list

-- as many pieces as an object of this length has chunks
abbrev pub is_full : ℕ → PieceObject → Bool
is_full size object = length object.pieces == count_of size object.len

abbrev pub is_complete : ℕ → PieceContent → Bool
is_complete size Gone = true
is_complete size (Row some objects) = list_all (is_full size) objects
