-- A content made of the chunks that travelled and those that were held.
use Rattle.std.specs.Prelude.{◌≡◌, ℕ, ◌-◌, ◌*◌, Bool, true, false, if◌then◌else◌, List, [], ◌∷◌, ◌++◌, map, length}
use Rattle.std.specs.Prelude.{take, drop, Some, slice_get, slice_index_or, count_by}
use Rattle.stab_base.specs.declared.chunk_name.ChunkName.{ChunkName}
use Rattle.row_value.specs.declared.content.Content.{Content}
use Rattle.row_value.specs.declared.content.Content.TheVariants as contents
use Rattle.row_value.specs.declared.pieces.Piece.{Piece}
use Rattle.row_value.specs.declared.pieces.Piece.TheVariants.{Keep, Fresh}
use Rattle.row_value.specs.declared.pieces.PieceObject.{PieceObject}
use Rattle.row_value.specs.declared.pieces.PieceContent.{PieceContent}
use Rattle.row_value.specs.declared.pieces.PieceContent.TheVariants.{Gone, Row}
use Rattle.assemblies.specs.declared.awaiting.Awaited.{Awaited}
use Rattle.assemblies.specs.Places.{awaited_of, is_full}
use Rattle.assemblies.specs.Gathering.{Slot, has_place, taken, takes}

-- ---- the chunks of a whole content

abbrev pub chunk_at : ℕ → List ℕ → ℕ → List ℕ
chunk_at size object place = take size (drop (place * size) object)

-- the chunk at a column and a place
abbrev pub chunk_in : ℕ → Content → ℕ → ℕ → List ℕ
chunk_in size contents.Gone column place = []
chunk_in size (contents.Row some objects) column place =
    chunk_at size (slice_index_or objects (column - length some) []) place

abbrev pub parts_at : ℕ → Content → List Awaited → List (List ℕ)
parts_at size whole awaited = map (λ it. chunk_in size whole it.column it.place) awaited

-- those that travel, in the order in which they are awaited
abbrev pub parts_of : (Piece → Bool) → ℕ → PieceContent → Content → List (List ℕ)
parts_of sends size content whole = parts_at size whole (awaited_of sends size content)

-- ---- a content piece by piece

-- what is held of a chunk by its name; nothing is held of a new one
abbrev pub held_of : (ChunkName → List ℕ) → Piece → List ℕ
held_of held (Keep name) = held name
held_of held (Fresh ordinal) = []

-- a chunk that travels is the next of the parts
abbrev pub object_joined : (ChunkName → List ℕ) → (Piece → Bool) → List Piece → List (List ℕ) → List ℕ
object_joined held sends [] parts = []
object_joined held sends (piece ∷ pieces) parts =
    if sends piece then slice_index_or parts 0 [] ++ object_joined held sends pieces (drop 1 parts)
    else held_of held piece ++ object_joined held sends pieces parts

abbrev pub objects_joined :
    (ChunkName → List ℕ) → (Piece → Bool) → List PieceObject → List (List ℕ) → List (List ℕ)
objects_joined held sends [] parts = []
objects_joined held sends (object ∷ objects) parts =
    object_joined held sends object.pieces parts
    ∷ objects_joined held sends objects (drop (count_by sends object.pieces) parts)

abbrev pub joined : (ChunkName → List ℕ) → (Piece → Bool) → PieceContent → List (List ℕ) → Content
joined held sends Gone parts = contents.Gone
joined held sends (Row some objects) parts = contents.Row some (objects_joined held sends objects parts)

-- ---- pieces of a whole content

-- a piece for each chunk of an object, and what doesn't travel is held
pub record ArePiecesOf (held : ChunkName → List ℕ) (sends : Piece → Bool) (size : ℕ) (object : PieceObject)
    (bytes : List ℕ) : Type 0 where
  pub len : object.len ≡ length bytes
  pub full : is_full size object ≡ true
  pub kept : (place : ℕ) (piece : Piece) → slice_get object.pieces place ≡ Some piece → sends piece ≡ false
      → held_of held piece ≡ chunk_at size bytes place

abbrev pub AllArePieces :
    (ChunkName → List ℕ) → (Piece → Bool) → ℕ → List PieceObject → List (List ℕ) → Type 0
AllArePieces held sends size [] [] = Unit {0}
AllArePieces held sends size [] (bytes ∷ wholes) = ⊥
AllArePieces held sends size (object ∷ objects) [] = ⊥
AllArePieces held sends size (object ∷ objects) (bytes ∷ wholes) =
    ArePiecesOf held sends size object bytes × AllArePieces held sends size objects wholes

-- the same cells, and pieces of each object
abbrev pub IsOf : (ChunkName → List ℕ) → (Piece → Bool) → ℕ → PieceContent → Content → Type 0
IsOf held sends size Gone contents.Gone = Unit {0}
IsOf held sends size Gone (contents.Row some wholes) = ⊥
IsOf held sends size (Row some objects) contents.Gone = ⊥
IsOf held sends size (Row some objects) (contents.Row same wholes) =
    (some ≡ same) × AllArePieces held sends size objects wholes

-- a chunk of the whole, as long as it is awaited
abbrev pub HasItsLen : ℕ → Content → Awaited → Type 0
HasItsLen size whole it = length (chunk_in size whole it.column it.place) ≡ it.len

-- ---- fragments

pub record Fragment : Type 0 where
  pub column : ℕ
  pub place : ℕ
  pub bytes : List ℕ

-- what has come behind some fragments, one after the other
abbrev pub gathered : List Fragment → List Slot → List Slot
gathered [] slots = slots
gathered (it ∷ fragments) slots = gathered fragments (taken it.column it.place it.bytes slots)

-- a fragment of the place and the length of a chunk
abbrev pub brings : Awaited → Fragment → Bool
brings it fragment = has_place fragment.column fragment.place (length fragment.bytes) it

-- what has come is the chunk of the whole at its place
abbrev pub IsChunkOf : ℕ → Content → Slot → Type 0
IsChunkOf size whole slot =
    (bytes : List ℕ) → slot.1 ≡ Some bytes → bytes ≡ chunk_in size whole slot.0.column slot.0.place

-- each fragment that is taken is the chunk of the whole at its place
abbrev pub AreChunksOf : ℕ → Content → List Fragment → List Slot → Type 0
AreChunksOf size whole [] slots = Unit {0}
AreChunksOf size whole (it ∷ fragments) slots =
    (takes it.column it.place it.bytes slots ≡ true → it.bytes ≡ chunk_in size whole it.column it.place)
    × AreChunksOf size whole fragments (taken it.column it.place it.bytes slots)
