-- Writes of a client that spell their chunks, and what its Shadow has to be for that.
use Rattle.std.specs.Prelude.{◌≡◌, ℕ, true, false, List, [], ◌∷◌, Option, Some, None}
use Rattle.std.specs.List.{list_any}
use Rattle.stab_base.specs.declared.chunk_name.ChunkName.{ChunkName}
use Rattle.row_value.specs.declared.pieces.Piece.{Piece}
use Rattle.step_tables.specs.Slots.{InFlight, Shadow}
use Rattle.step_tables.specs.Chunks.{are_apart, flat, is_of_version, is_spelled, kept_in}

-- the names that are known
abbrev pub known_in : List (Option ChunkName) → List ChunkName
known_in [] = []
known_in (None ∷ names) = known_in names
known_in (Some name ∷ names) = name ∷ known_in names

-- no known name stands twice
abbrev pub IsApart : Option Shadow → Type 0
IsApart None = Unit {0}
IsApart (Some x) = are_apart (known_in (flat x.names)) ≡ true

abbrev pub Spells : ℕ → InFlight → Type 0
Spells size out = is_spelled size out.content out.pieces ≡ true

-- no name of this version is kept
abbrev pub KeepsOthers : ℕ → List (List Piece) → Type 0
KeepsOthers version pieces = list_any (is_of_version version) (kept_in (flat pieces)) ≡ false
