-- Which chunks of a row from the Store come anew: one whose name there is above a version travels, and isn't looked for
-- elsewhere.
use Rattle.std.specs.Prelude.{◌≡◌, ◌⊎◌, ℕ, ◌+◌, ◌==◌, ◌<◌, nat_le, List, [], ◌∷◌, length, map, filter, slice_index_or}
use Rattle.std.specs.Prelude.{Option, Some, None, if◌then◌else◌}
use Rattle.stab_base.specs.declared.chunk_name.ChunkName.{ChunkName}
use Rattle.held_value.specs.declared.local_name.LocalName.{LocalName}
use Rattle.held_value.specs.declared.content.HeldPiece.{HeldPiece}
use Rattle.client_journal.specs.Names.{Has}

-- a name up to a version
abbrev pub up_to : ℕ → Option ChunkName → Option ChunkName
up_to version None = None
up_to version (Some name) = if nat_le name.version version then Some name else None

-- the Store's names of the chunks that are brought, in order, as far as they are up to a version
abbrev pub names_up_to : ℕ → List HeldPiece → List (Option ChunkName)
names_up_to version pieces =
    map (λ (piece : HeldPiece). up_to version piece.name) (filter (λ (piece : HeldPiece). piece.local.plan == 0) pieces)

-- a chunk without a name among these is brought
abbrev pub AreBroughtAnew : List (Option ChunkName) → List LocalName → Type 0
AreBroughtAnew names locals = (i : ℕ) (none : LocalName) → i < length locals → slice_index_or names i None ≡ None
    → (slice_index_or locals i none).plan ≡ 0

-- the chunks that are brought are numbered on in order
abbrev pub AreInOrder : ℕ → List HeldPiece → Type 0
AreInOrder next [] = Unit {0}
AreInOrder next (piece ∷ pieces) = (piece.local.plan ≡ 0 → piece.local.ordinal ≡ next)
    × AreInOrder (if piece.local.plan == 0 then next + 1 else next) pieces

-- Where the Store's name of a chunk is above the version, the chunk has one of these local names, or it is brought.
abbrev pub IsAnew : ℕ → List LocalName → HeldPiece → Type 0
IsAnew version locals piece = (name : ChunkName) → piece.name ≡ Some name → version < name.version
    → (piece.local.plan ≡ 0) ⊎ Has locals piece.local
