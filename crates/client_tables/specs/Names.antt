-- The Store's names of an accepted write's chunks.
use Rattle.std.specs.Prelude.{ℕ, ◌+◌, List, [], ◌∷◌, length, take, drop, map, zip, Some}
use Rattle.stab_base.specs.declared.chunk_name.ChunkName.{ChunkName}
use Rattle.row_value.specs.declared.pieces.Piece.{Piece}
use Rattle.row_value.specs.declared.pieces.Piece.TheVariants.{Keep, Fresh}
use Rattle.held_value.specs.declared.content.HeldPiece.{HeldPiece}
use Rattle.held_value.specs.declared.content.HeldObject.{HeldObject}
use Rattle.held_value.specs.declared.content.HeldContent.{HeldContent}
use Rattle.held_value.specs.declared.content.HeldContent.TheVariants.{Gone, Row}

-- a kept chunk has its name, and a new one that of the version with its number
abbrev pub name_at : ℕ → Piece → ChunkName
name_at version (Keep name) = name
name_at version (Fresh ordinal) = record { version = version; ordinal = ordinal }

abbrev pub named_piece : ℕ → HeldPiece → Piece → HeldPiece
named_piece version held piece = record held { name = Some (name_at version piece) }

abbrev pub named_pieces : ℕ → List Piece → List HeldPiece → List HeldPiece
named_pieces version pieces held = map (λ p. named_piece version p.0 p.1) (zip held pieces)

abbrev pub named_object : ℕ → List Piece → HeldObject → HeldObject
named_object version pieces object =
    record object { pieces = named_pieces version (take (length object.pieces) pieces) object.pieces }

-- the pieces are those of the first object, then those of the next, and so on
abbrev pub named_objects : ℕ → List Piece → List HeldObject → List HeldObject
named_objects version pieces [] = []
named_objects version pieces (object ∷ objects) =
    named_object version pieces object ∷ named_objects version (drop (length object.pieces) pieces) objects

-- a content that was accepted at a version, sent as these pieces
abbrev pub named : ℕ → List Piece → HeldContent → HeldContent
named version pieces Gone = Gone
named version pieces (Row some objects) = Row some (named_objects version pieces objects)

-- all chunks new, numbered from here on
abbrev pub fresh_from : ℕ → List Piece → List Piece
fresh_from first [] = []
fresh_from first (piece ∷ pieces) = Fresh first ∷ fresh_from (first + 1) pieces
