-- Named chunks: each name in a row is a chunk's, and no chunk is there that nothing names.
use Rattle.std.specs.Prelude.{◌≡◌, ◌⊎◌, ℕ, ◌<◌, ◌≤◌, Bool, true, false, ◌==◌, List, [], ◌∷◌, Option, Some}
use Rattle.std.specs.List.{list_any}
use Rattle.std.specs.BTreeMap.{is_at}
use Rattle.stab_base.specs.declared.chunk_name.ChunkName.{ChunkName}
use Rattle.row_value.specs.declared.pieces.Piece.{Piece}
use Rattle.row_value.specs.declared.pieces.Piece.TheVariants.{Keep, Fresh}
use Rattle.row_value.specs.declared.pieces.PieceContent.{PieceContent}
use Rattle.row_value.specs.declared.pieces.PieceContent.TheVariants.{Gone, Row}
use Rattle.value_codec.specs.Spelling.{pieces_of}
use Rattle.chunk_store.specs.Payload.{name_cmp}
use Rattle.chunk_store.specs.Standing.{chunk_in}
use Rattle.row_store.specs.declared.stored.StoredRow.{StoredRow}
use Rattle.row_store.specs.Data.{TableData, row_of, version_of}
use Rattle.status_log.specs.Entry.{Entry}
use Rattle.store_commit.specs.Devs.{Devs}

-- one of these
abbrev pub Among : {X : Type 0} → X → List X → Type 0
Among x [] = ⊥
Among x (y ∷ ys) = (x ≡ y) ⊎ Among x ys

abbrev pub is_among : ChunkName → List ChunkName → Bool
is_among name names = list_any (is_at (name_cmp name)) names

-- each once
abbrev pub AreDifferent : {X : Type 0} → List X → Type 0
AreDifferent [] = Unit {0}
AreDifferent (x ∷ xs) = (Among x xs → ⊥) × AreDifferent xs

abbrev pub names_in : List Piece → List ChunkName
names_in [] = []
names_in (Keep name ∷ pieces) = name ∷ names_in pieces
names_in (Fresh ordinal ∷ pieces) = names_in pieces

-- the names in a content, in the order of its pieces
abbrev pub names_of : PieceContent → List ChunkName
names_of Gone = []
names_of (Row some objects) = names_in (pieces_of objects)

-- a row names it
pub record IsNamed (held : TableData) (name : ChunkName) : Type 0 where
  pub row : List ℕ
  pub stored : StoredRow
  pub there : row_of held row ≡ Some stored
  pub among : Among name (names_of stored.content)

-- one of the new chunks of an entry
pub record IsNewOf (entry : Entry) (name : ChunkName) : Type 0 where
  pub version : name.version ≡ entry.version
  pub ordinal : name.ordinal < entry.fresh

-- What is left of an entry: its old chunks where its row has its version, and else its new ones.
abbrev pub left_of : Bool → Entry → ChunkName → Type 0
left_of true entry name = Among name entry.old
left_of false entry name = IsNewOf entry name

abbrev pub IsLeft : TableData → Entry → ChunkName → Type 0
IsLeft held entry name = left_of (version_of held entry.row == entry.version) entry name

-- `meaning` is the bytes that each name stands for.
pub record NamedChunks (meaning : ChunkName → List ℕ) (d : Devs) : Type 0 where
  -- each name in a row is on the device, with its bytes
  pub there : (name : ChunkName) → IsNamed d.held name → chunk_in d.chunks name ≡ Some (meaning name)
  -- the names in a row are different, none stands in two rows, and none has a version above its row's
  pub different : (row : List ℕ) (stored : StoredRow) → row_of d.held row ≡ Some stored
      → AreDifferent (names_of stored.content)
  pub once : (name : ChunkName) (a b : IsNamed d.held name) → a.row ≡ b.row
  pub below : (name : ChunkName) (a : IsNamed d.held name) → name.version ≤ a.stored.version
  -- every other chunk is left of the open entry
  pub others : (name : ChunkName) (bytes : List ℕ) → chunk_in d.chunks name ≡ Some bytes
      → IsNamed d.held name ⊎ ((entry : Entry) × (d.pending ≡ Some entry) × IsLeft d.held entry name)
  -- and what is left of it is named by no row
  pub apart : (entry : Entry) (name : ChunkName) → d.pending ≡ Some entry → IsLeft d.held entry name
      → IsNamed d.held name → ⊥

-- the row of an id with its bytes: the row, and what each of its names stands for, in order
abbrev pub chunks_for : Devs → List ChunkName → List (Option (List ℕ))
chunks_for d [] = []
chunks_for d (name ∷ names) = chunk_in d.chunks name ∷ chunks_for d names
