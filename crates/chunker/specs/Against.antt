-- The pieces of a new object, where an old one has its chunks at the Store.
use Rattle.std.specs.Prelude.{◌≡◌, ℕ, List, Option, Some, None, slice_get, length}
use Rattle.stab_base.specs.declared.chunk_name.ChunkName.{ChunkName}
use Rattle.row_value.specs.declared.pieces.Piece.{Piece}
use Rattle.row_value.specs.declared.pieces.Piece.TheVariants.{Keep, Fresh}
use Rattle.value_codec.specs.Spelling.{CountsFrom, fresh_in}

-- the old chunk at the same place is kept exactly where it has these bytes
abbrev pub IsPieceOf : Option (ChunkName × List ℕ) → List ℕ → Piece → Type 0
IsPieceOf None chunk (Keep kept) = ⊥
IsPieceOf None chunk (Fresh ordinal) = Unit {0}
IsPieceOf (Some (name, bytes)) chunk (Keep kept) = (kept ≡ name) × (bytes ≡ chunk)
IsPieceOf (Some (name, bytes)) chunk (Fresh ordinal) = bytes ≡ chunk → ⊥

-- a piece for each chunk; the new ones count from `first`
pub record AreAgainst (old : List (ChunkName × List ℕ)) (chunks : List (List ℕ)) (first : ℕ) (pieces : List Piece)
    : Type 0 where
  pub count : length pieces ≡ length chunks
  pub each : (place : ℕ) (chunk : List ℕ) (piece : Piece) → slice_get chunks place ≡ Some chunk
      → slice_get pieces place ≡ Some piece → IsPieceOf (slice_get old place) chunk piece
  pub fresh : CountsFrom first (fresh_in pieces)

-- the name of an old chunk that has these bytes, if it has
abbrev pub IsKept : Option (ChunkName × List ℕ) → List ℕ → Option ChunkName → Type 0
IsKept None chunk found = found ≡ None
IsKept (Some (name, bytes)) chunk None = bytes ≡ chunk → ⊥
IsKept (Some (name, bytes)) chunk (Some kept) = (kept ≡ name) × (bytes ≡ chunk)
