-- A content piece by piece.
use Rattle.std.specs.Prelude.{ℕ, Bool, true, List, [], zip, replicate, slice_index_or, if◌then◌else◌}
use Rattle.std.specs.List.{list_any, list_all}
use Rattle.stab_base.specs.declared.chunk_name.ChunkName.{ChunkName}
use Rattle.row_value.specs.declared.pieces.Piece.{Piece}
use Rattle.row_value.specs.declared.pieces.Piece.TheVariants.{Keep, Fresh}
use Rattle.row_value.specs.declared.pieces.PieceObject.{PieceObject}
use Rattle.assemblies.specs.Parts.{held_of}
use Rattle.step_tables.specs.Chunks.{cut}
use Rattle.part_tables.specs.ClientParts.{Held, is_as_long}
use Rattle.part_contents.specs.Held.{is_named_len}

-- what is held of a piece, or the next chunk that came
abbrev pub piece_bytes : (ChunkName → List ℕ) → (Piece → Bool) → Piece → List (List ℕ) → List ℕ
piece_bytes held sends piece chunks = if sends piece then slice_index_or chunks 0 [] else held_of held piece

-- a chunk of this length that doesn't travel is held
abbrev pub has_its_len : (Piece → Bool) → List Held → Piece → ℕ → Bool
has_its_len sends held (Fresh ordinal) len = true
has_its_len sends held (Keep name) len = if sends (Keep name) then true else list_any (is_named_len name len) held

abbrev pub object_is_held : (Piece → Bool) → List Held → ℕ → PieceObject → Bool
object_is_held sends held size object =
    list_all (is_as_long sends held) (zip object.pieces (cut size (replicate object.len 0)))
