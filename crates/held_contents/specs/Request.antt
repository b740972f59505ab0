-- How a request spells the chunks of a content: a chunk that was read last at the same place is kept, where the Store's
-- name of it is known, and the others are new, numbered from 0 in their order.
use Rattle.std.specs.Prelude.{◌≡◌, ℕ, ◌+◌, ◌≤◌, true, List, ◌++◌, length, map, Option, Some}
use Rattle.std.specs.List.{AllByRecursion}
use Rattle.stab_base.specs.declared.chunk_name.ChunkName.{ChunkName}
use Rattle.row_value.specs.declared.pieces.Piece.{Piece}
use Rattle.value_codec.specs.Spelling.{HasPieceSpelling}
use Rattle.held_value.specs.declared.local_name.LocalName.{LocalName}
use Rattle.held_value.specs.declared.content.HeldPiece.{HeldPiece}
use Rattle.held_value.specs.declared.content.HeldContent.{HeldContent}
use Rattle.client_journal.specs.There.{all_lens}
use Rattle.step_tables.specs.Chunks.{against, next_behind, all_against, flat}
use Rattle.journal_laws.specs.Whole.{HaveLens}

-- the chunks of an object, each with the Store's name where it is known
abbrev pub known_of : List (HeldPiece × List ℕ) → List (Option ChunkName × List ℕ)
known_of read = map (λ (chunk : HeldPiece × List ℕ). (chunk.0.name, chunk.1)) read

-- those of each object
abbrev pub known_in : List (List (HeldPiece × List ℕ)) → List (List (Option ChunkName × List ℕ))
known_in read = map known_of read

-- and their bytes alone
abbrev pub bytes_of : List (HeldPiece × List ℕ) → List (List ℕ)
bytes_of now = map (λ (chunk : HeldPiece × List ℕ). chunk.1) now

abbrev pub bytes_in : List (List (HeldPiece × List ℕ)) → List (List (List ℕ))
bytes_in now = map bytes_of now

-- the pieces of these chunks, in a list an object, against those that were read last
abbrev pub pieces_against : List (List (HeldPiece × List ℕ)) → List (List (List ℕ)) → List (List Piece)
pieces_against read chunks = all_against 0 (known_in read) chunks

-- all of them, one behind the other
abbrev pub request_pieces : List (List (HeldPiece × List ℕ)) → List (List (List ℕ)) → List Piece
request_pieces read chunks = flat (pieces_against read chunks)

-- each object has its length, and each of its chunks that of its place
abbrev pub AreCutBy : (LocalName → List ℕ) → ℕ → HeldContent → Type 0
AreCutBy meaning size held =
    HaveLens meaning held × (all_lens (λ name. Some (meaning name)) size held ≡ true)

-- These pieces were added, those of some chunks whose new ones are numbered from `next` on, and so the number behind
-- them. Each has a spelling.
pub record Spelled (old : List (Option ChunkName × List ℕ)) (chunks : List (List ℕ)) (next : ℕ)
    (before behind : List Piece) (after : ℕ) : Type 0 where
  pub pieces : behind ≡ before ++ against next old chunks
  pub next_is : after ≡ next_behind next (against next old chunks)
  pub most : after ≤ next + length chunks
  pub spelled : AllByRecursion HasPieceSpelling before → AllByRecursion HasPieceSpelling behind
