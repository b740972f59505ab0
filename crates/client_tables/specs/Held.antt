-- A new object's chunks against those that the row shows: what holds them, and which are brought.
use Rattle.std.specs.Prelude.{ℕ, ◌+◌, List, [], ◌∷◌, ◌++◌, drop, Option, Some, None, if◌then◌else◌}
use Rattle.std.specs.Str.{bytes_eq}
use Rattle.stab_base.specs.declared.chunk_name.ChunkName.{ChunkName}
use Rattle.held_value.specs.declared.content.HeldPiece.{HeldPiece}

-- the chunk that is shown at the first place, where it has these bytes
abbrev pub kept_in : List (HeldPiece × List ℕ) → List ℕ → Option HeldPiece
kept_in [] bytes = None
kept_in (first ∷ shown) bytes = if bytes_eq first.1 bytes then Some first.0 else None

abbrev pub or_name : Option ChunkName → Option ChunkName → Option ChunkName
or_name None before = before
or_name (Some name) before = Some name

-- a chunk that is kept has its local name, and the Store's where it is known; another one is brought, and numbered
abbrev pub piece_for : ℕ → Option ChunkName → Option HeldPiece → HeldPiece
piece_for next name None = record { local = record { plan = 0; ordinal = next }; name = name }
piece_for next name (Some kept) = record { local = kept.local; name = or_name name kept.name }

abbrev pub next_behind : ℕ → Option HeldPiece → ℕ
next_behind next None = next + 1
next_behind next (Some kept) = next

abbrev pub brought_for : List ℕ → Option HeldPiece → List (List ℕ)
brought_for bytes None = bytes ∷ []
brought_for bytes (Some kept) = []

-- what holds the chunks of a new object, each with the Store's name where it is known; the chunks that are brought are
-- numbered from `next` on
abbrev pub held_pieces : List (HeldPiece × List ℕ) → List (Option ChunkName × List ℕ) → ℕ → List HeldPiece
held_pieces shown [] next = []
held_pieces shown (chunk ∷ chunks) next =
    piece_for next chunk.0 (kept_in shown chunk.1)
    ∷ held_pieces (drop 1 shown) chunks (next_behind next (kept_in shown chunk.1))

-- the chunks that are brought
abbrev pub brought : List (HeldPiece × List ℕ) → List (Option ChunkName × List ℕ) → List (List ℕ)
brought shown [] = []
brought shown (chunk ∷ chunks) = brought_for chunk.1 (kept_in shown chunk.1) ++ brought (drop 1 shown) chunks
