-- The writes of an update and of a recovery, in their order.
use Rattle.std.specs.Prelude.{◌≡◌, ◌⊎◌, ℕ, ◌+◌, ◌<◌, ◌==◌, Bool, true, false, if◌then◌else◌, List, [], ◌∷◌, ◌++◌}
use Rattle.std.specs.Prelude.{length, map, Some, None, IsSome, slice_index_or}
use Rattle.stab_base.specs.declared.chunk_name.ChunkName.{ChunkName}
use Rattle.row_value.specs.declared.pieces.Piece.{Piece}
use Rattle.row_value.specs.declared.pieces.Piece.TheVariants.{Keep, Fresh}
use Rattle.row_value.specs.declared.pieces.PieceObject.{PieceObject}
use Rattle.row_value.specs.declared.pieces.PieceContent.{PieceContent}
use Rattle.row_value.specs.declared.pieces.PieceContent.TheVariants.{Gone, Row}
use Rattle.chunk_store.specs.Standing.{chunk_in}
use Rattle.row_store.specs.declared.stored.StoredRow.{StoredRow}
use Rattle.row_store.specs.Data.{TableData, with_row, row_of}
use Rattle.status_log.specs.Entry.{Entry}
use Rattle.store_commit.specs.Devs.{Devs, Write, OpenChunks, OpenRows, OpenLog, OpenEntry, PutChunk, PutRow, DropChunk}
use Rattle.store_commit.specs.Devs.{CloseEntry, changed_by}
use Rattle.store_commit.specs.NamedChunks.{Among, AreDifferent, names_of, IsNewOf, IsLeft, NamedChunks}
use Rattle.store_commit.specs.There.{WholeRows}

-- ---- an update

-- the name of a new chunk
abbrev pub fresh_name : ℕ → ℕ → ChunkName
fresh_name version ordinal = record { version = version; ordinal = ordinal }

-- with a name in place of each new piece
abbrev pub named_piece : ℕ → Piece → Piece
named_piece version (Keep name) = Keep name
named_piece version (Fresh ordinal) = Keep (fresh_name version ordinal)

abbrev pub named_object : ℕ → PieceObject → PieceObject
named_object version object = record { len = object.len; pieces = map (named_piece version) object.pieces }

abbrev pub named_content : ℕ → PieceContent → PieceContent
named_content version Gone = Gone
named_content version (Row some objects) = Row some (map (named_object version) objects)

-- each new chunk under its name, from this ordinal on
abbrev pub puts : ℕ → ℕ → List (List ℕ) → List Write
puts version ordinal [] = []
puts version ordinal (bytes ∷ fresh) = PutChunk (fresh_name version ordinal) bytes ∷ puts version (ordinal + 1) fresh

abbrev pub drops : List ChunkName → List Write
drops [] = []
drops (name ∷ names) = DropChunk name ∷ drops names

-- opens the entry, puts each new chunk, puts the row, drops each old chunk that the new row doesn't name, closes the
-- entry
abbrev pub update_writes : Entry → List (List ℕ) → StoredRow → List Write
update_writes entry fresh stored =
    OpenEntry entry ∷ (puts entry.version 0 fresh ++ (PutRow stored ∷ (drops entry.old ++ CloseEntry ∷ [])))

-- This row, with these new chunks, may take the place of the one that stands, as the entry tells.
pub record Replaces (d : Devs) (entry : Entry) (fresh : List (List ℕ)) (stored : StoredRow) : Type 0 where
  pub row : stored.row ≡ entry.row
  pub version : stored.version ≡ entry.version
  -- its version is above 0 and above those of all rows
  pub above : 0 < entry.version
  pub newest : (row : List ℕ) (other : StoredRow) → row_of d.held row ≡ Some other → other.version < entry.version
  pub count : entry.fresh ≡ length fresh
  -- its names are different, each one of the row that stands or of a new chunk, and each new chunk's is among them
  pub different : AreDifferent (names_of stored.content)
  pub kept_or_new : (name : ChunkName) → Among name (names_of stored.content)
      → ((old : StoredRow) × (row_of d.held entry.row ≡ Some old) × Among name (names_of old.content))
      ⊎ IsNewOf entry name
  pub all_new : (name : ChunkName) → IsNewOf entry name → Among name (names_of stored.content)
  -- the old chunks are those of the row that stands which this one doesn't name
  pub old_of : (name : ChunkName) → Among name entry.old
      → ((old : StoredRow) × (row_of d.held entry.row ≡ Some old) × Among name (names_of old.content))
      × (Among name (names_of stored.content) → ⊥)
  pub all_old : (name : ChunkName) (old : StoredRow) → row_of d.held entry.row ≡ Some old
      → Among name (names_of old.content)
      → (Among name (names_of stored.content) → ⊥) → Among name entry.old

-- what names stand for once the new chunks have theirs
abbrev pub meaning_with : (ChunkName → List ℕ) → ℕ → List (List ℕ) → ChunkName → List ℕ
meaning_with meaning version fresh name =
    if name.version == version then slice_index_or fresh name.ordinal [] else meaning name

-- ---- what holds at every moment

-- the row's write is still to come
abbrev pub row_is_to_come : List Write → Bool
row_is_to_come [] = false
row_is_to_come (PutRow stored ∷ ws) = true
row_is_to_come (_ ∷ ws) = row_is_to_come ws

-- While these writes are still to come: named chunks, and the rows from before the update until its row was put, and
-- those with it whole from then on.
pub record IsMoment (meaning : ChunkName → List ℕ) (before : TableData) (stored : StoredRow) (ws : List Write)
    (d : Devs) : Type 0 where
  pub named : NamedChunks meaning d
  pub rows : d.held ≡ (if row_is_to_come ws then before else with_row before stored)
  -- behind the last of them no entry is open
  pub closed : ws ≡ [] → d.pending ≡ None

-- it holds now, and behind each of the writes
abbrev pub Runs : (List Write → Devs → Type 0) → Devs → List Write → Type 0
Runs R d [] = R [] d
Runs R d (w ∷ ws) = R (w ∷ ws) d × Runs R (changed_by d w) ws

-- ---- a recovery

-- while a recovery's writes are still to come: named chunks, and the rows that were there at its start
pub record IsRecovering (meaning : ChunkName → List ℕ) (before : TableData) (ws : List Write) (d : Devs) : Type 0 where
  pub named : NamedChunks meaning d
  pub rows : d.held ≡ before
  -- behind the last of them no entry is open
  pub closed : ws ≡ [] → d.pending ≡ None

-- ---- the put of a subscription or of the table

-- while it is still to come, and behind it: named chunks
pub record IsKeeping (meaning : ChunkName → List ℕ) (ws : List Write) (d : Devs) : Type 0 where
  pub named : NamedChunks meaning d

-- and each row is whole
pub record IsKeepingWhole (meaning : ChunkName → List ℕ) (ws : List Write) (d : Devs) : Type 0 where
  pub named : NamedChunks meaning d
  pub whole : WholeRows meaning d.held

-- and the chunks, the rows and the open entry are those from before
pub record IsStill (before : Devs) (ws : List Write) (d : Devs) : Type 0 where
  pub chunks : d.chunks ≡ before.chunks
  pub rows : d.held.rows ≡ before.held.rows
  pub pending : d.pending ≡ before.pending

-- ---- the writes of a recovery

-- opens the three vaults, drops what is left of an open entry, and closes it
abbrev pub recovery_writes : List ChunkName → Bool → List Write
recovery_writes names is_open =
    OpenChunks ∷ OpenRows ∷ OpenLog ∷ (drops names ++ (if is_open then CloseEntry ∷ [] else []))

-- These names are what is left of the open entry and still there.
pub record AreLeftovers (d : Devs) (names : List ChunkName) : Type 0 where
  pub left : (name : ChunkName) → Among name names → (entry : Entry) × (d.pending ≡ Some entry)
      × IsLeft d.held entry name
  pub all : (name : ChunkName) (bytes : List ℕ) (entry : Entry) → d.pending ≡ Some entry → IsLeft d.held entry name
      → chunk_in d.chunks name ≡ Some bytes → Among name names
  -- each once, and still there
  pub different : AreDifferent names
  pub there : (name : ChunkName) → Among name names → IsSome (chunk_in d.chunks name)
