-- What a table's three devices hold, as the disk of the Store's step table; and the writes of an agenda as its tasks.
use Rattle.std.specs.Prelude.{◌≡◌, ◌⊎◌, ℕ, ◌+◌, ◌==◌, List, [], ◌∷◌, ◌++◌, length, map, Option, Some, None}
use Rattle.std.specs.Prelude.{true, Bool, filter, option_map, IsSome, FitsSigned}
use Rattle.std.specs.Int.{w64}
use Rattle.std.specs.List.{find, AllByRecursion}
use Rattle.stab_base.specs.declared.chunk_name.ChunkName.{ChunkName}
use Rattle.row_value.specs.declared.schema.Schema.{Schema}
use Rattle.row_value.specs.declared.content.Cell.{Cell}
use Rattle.row_value.specs.declared.content.Cell.TheVariants as cell_kinds
use Rattle.row_value.specs.declared.content.Content.{Content}
use Rattle.row_value.specs.declared.content.Content.TheVariants as contents
use Rattle.row_value.specs.declared.pieces.Piece.{Piece}
use Rattle.row_value.specs.declared.pieces.Piece.TheVariants.{Keep, Fresh}
use Rattle.row_value.specs.declared.pieces.PieceObject.{PieceObject}
use Rattle.row_value.specs.declared.pieces.PieceContent.{PieceContent}
use Rattle.row_value.specs.declared.pieces.PieceContent.TheVariants.{Gone, Row}
use Rattle.chunk_store.specs.Standing.{chunk_in}
use Rattle.row_store.specs.declared.stored.LastWrite.{LastWrite}
use Rattle.row_store.specs.declared.stored.StoredRow.{StoredRow}
use Rattle.row_store.specs.declared.stored.Terms.{Terms}
use Rattle.row_store.specs.Data.{TableData, row_of}
use Rattle.row_store.specs.Spelling.{AreLasts}
use Rattle.status_log.specs.Entry.{Entry}
use Rattle.store_commit.specs.declared.update.Update.{Update}
use Rattle.store_commit.specs.Devs.{Devs, Write, changed_by}
use Rattle.store_commit.specs.Devs as devs
use Rattle.store_commit.specs.NamedChunks.{Among, AreDifferent}
use Rattle.table_model.specs.declared.table_state.TableState.{TableState}
use Rattle.table_model.specs.declared.table_state.TableState.TheVariants as states
use Rattle.step_tables.specs.Store.{Stored, current_of}
use Rattle.step_tables.specs.Messages.{Pair, Request}
use Rattle.step_tables.specs.Chunks.{Named, first_of, others_of, flat, objects_of, each_chunk, is_of_each, name_of_new}
use Rattle.step_tables.specs.Chunks.{is_of_version, names_of, chunks_of, chunks_with, new_names, old_names}
use Rattle.step_tables.specs.StoreMoves.{StoreDisk, StoreChange, StoreTask, changed, yours_in}
use Rattle.step_tables.specs.StoreMoves as moves

-- ---- the items of a table

abbrev pub is_new : ℕ → Named → Bool
is_new version chunk = is_of_version version chunk.0

-- the chunks have the names of a version, numbered in order from here on
abbrev pub AreNext : ℕ → ℕ → List Named → Type 0
AreNext version next [] = Unit {0}
AreNext version next (chunk ∷ more) = (chunk.0 ≡ name_of_new version next) × AreNext version (next + 1) more

-- HOW AN ITEM NAMES ITS CHUNKS, BEHIND THESE: each has a name, and none twice; one that isn't new is one of its row,
-- with the same bytes; and the new ones are numbered in order.
pub record IsMade (size : ℕ) (before : List Stored) (item : Stored) : Type 0 where
  pub each : is_of_each size item.names (objects_of item.content) ≡ true
  pub different : AreDifferent (names_of (chunks_with size item))
  pub from : (chunk : Named) → Among chunk (flat (chunks_with size item))
      → Among chunk (flat (chunks_of size before item.entry.row)) ⊎ (chunk.0.version ≡ item.entry.version)
  pub news : AreNext item.entry.version 0
      (filter (is_new item.entry.version) (flat (chunks_with size item)))

-- and so each of these items, behind those
abbrev pub AreMade : ℕ → List Stored → List Stored → Type 0
AreMade size before [] = Unit {0}
AreMade size before (item ∷ items) = IsMade size before item × AreMade size (before ++ item ∷ []) items

-- versions run 1 to n
abbrev pub AreNumbered : ℕ → List Stored → Type 0
AreNumbered n [] = Unit {0}
AreNumbered n (item ∷ items) = (item.entry.version ≡ n + 1) × AreNumbered (n + 1) items

-- ---- a row

-- an object by the names of its chunks
abbrev pub kept_object : List ℕ → List Named → PieceObject
kept_object object held = record { len = length object; pieces = map (λ (chunk : Named). Keep chunk.0) held }

abbrev pub kept_objects : List (List ℕ) → List (List Named) → List PieceObject
kept_objects [] held = []
kept_objects (object ∷ objects) held =
    kept_object object (first_of held) ∷ kept_objects objects (others_of held)

-- a content by the names of its chunks
abbrev pub kept_content : Content → List (List Named) → PieceContent
kept_content contents.Gone held = Gone
kept_content (contents.Row cells objects) held = Row cells (kept_objects objects held)

-- a client's last write in a list of them; zeros where there is none
abbrev pub pair_or : Option LastWrite → Pair
pair_or None = record { number = 0; version = 0 }
pair_or (Some last) = record { number = last.number; version = last.version }

abbrev pub pair_in : List LastWrite → ℕ → Pair
pair_in lasts client = pair_or (find (λ (last : LastWrite). last.client == client) lasts)

-- this is how a Store keeps the row of an item
pub record IsStoredAs (size : ℕ) (items : List Stored) (item : Stored) (stored : StoredRow) : Type 0 where
  pub row : stored.row ≡ item.entry.row
  pub version : stored.version ≡ item.entry.version
  pub content : stored.content ≡ kept_content item.content (chunks_of size items item.entry.row)
  pub lasts : (client : ℕ) → pair_in stored.pairs client ≡ yours_in items client item.entry.row
  pub rising : AreLasts 0 stored.pairs

abbrev pub StandsRow : ℕ → List Stored → Option Stored → Option StoredRow → Type 0
StandsRow size items None None = Unit {0}
StandsRow size items None (Some stored) = ⊥
StandsRow size items (Some item) None = ⊥
StandsRow size items (Some item) (Some stored) = IsStoredAs size items item stored

-- ---- the chunks

-- a chunk that a row has
pub record IsHeld (size : ℕ) (items : List Stored) (name : ChunkName) (bytes : List ℕ) : Type 0 where
  pub row : List ℕ
  pub among : Among (name, bytes) (flat (chunks_of size items row))

-- the device has the chunks of the rows and those that are left, and no other
pub record StandChunks (size : ℕ) (chunks : List (ChunkName × List ℕ)) (disk : StoreDisk) : Type 0 where
  pub held : (name : ChunkName) (bytes : List ℕ) → IsHeld size disk.items name bytes → chunk_in chunks name ≡ Some bytes
  pub left : (name : ChunkName) → Among name disk.left → IsSome (chunk_in chunks name)
  pub only : (name : ChunkName) (bytes : List ℕ) → chunk_in chunks name ≡ Some bytes
      → IsHeld size disk.items name bytes ⊎ Among name disk.left
  pub apart : (name : ChunkName) (bytes : List ℕ) → Among name disk.left → IsHeld size disk.items name bytes → ⊥

-- ---- the open entry

-- this entry tells of an item behind these
pub record IsEntryOf (size : ℕ) (before : List Stored) (item : Stored) (entry : Entry) : Type 0 where
  pub version : entry.version ≡ item.entry.version
  pub row : entry.row ≡ item.entry.row
  pub client : entry.client ≡ item.entry.client
  pub number : entry.number ≡ item.entry.number
  pub base : entry.base ≡ item.entry.base
  pub fresh : entry.fresh ≡ length (new_names size item)
  pub old : entry.old ≡ old_names size before item

-- each of these is one of those
abbrev pub AreWithin : List ChunkName → List ChunkName → Type 0
AreWithin names all = (name : ChunkName) → Among name names → Among name all

-- An item that is pending is the next, and some of its new chunks are left; or the last, and some of its old ones are.
pub record IsBegun (size : ℕ) (disk : StoreDisk) (item : Stored) (entry : Entry) : Type 0 where
  pub before : List Stored
  pub entry_of : IsEntryOf size before item entry
  pub next : item.entry.version ≡ length before + 1
  pub made : IsMade size before item
  pub stage : ((disk.items ≡ before) × AreWithin disk.left (new_names size item))
      ⊎ ((disk.items ≡ before ++ item ∷ []) × AreWithin disk.left (old_names size before item))

abbrev pub StandsEntry : ℕ → StoreDisk → Option Stored → Option Entry → Type 0
StandsEntry size disk None None = disk.left ≡ []
StandsEntry size disk None (Some entry) = ⊥
StandsEntry size disk (Some item) None = ⊥
StandsEntry size disk (Some item) (Some entry) = IsBegun size disk item entry

-- ---- beside the rows

-- a table's state as its record has it
abbrev pub state_number : TableState → ℕ
state_number states.Draft = 1
state_number states.Live = 2
state_number states.Dropped = 3

-- a subscription as its payload has it
abbrev pub stored_terms : moves.Terms → Terms
stored_terms terms = record { gate = terms.gate; period = terms.period; tolerance = terms.tolerance }

abbrev pub stored_subs : List (ℕ × moves.Terms) → List (ℕ × Terms)
stored_subs subs = map (λ (entry : ℕ × moves.Terms). (entry.0, stored_terms entry.1)) subs

-- ---- the devices

-- What the device of the rows holds is that of a disk: the table's schema and state; each subscription; each row by
-- its last item, with the names of its chunks and the last write of each client on it. The items are numbered, and name
-- their chunks one behind the other.
pub record HasRows (schema : Schema) (held : TableData) (disk : StoreDisk) : Type 0 where
  pub table : held.table ≡ Some (schema, state_number disk.state)
  pub subs : held.subs ≡ stored_subs disk.subs
  pub numbered : AreNumbered 0 disk.items
  pub made : AreMade schema.chunk [] disk.items
  pub rows : (row : List ℕ) → StandsRow schema.chunk disk.items (current_of disk.items row) (row_of held row)

-- What the devices of a table hold is this disk: its rows; each chunk of a row, and what is left; and the open
-- entry.
pub record Stands (schema : Schema) (d : Devs) (disk : StoreDisk) : Type 0 where
  pub held : HasRows schema d.held disk
  pub chunks : StandChunks schema.chunk d.chunks disk
  pub entry : StandsEntry schema.chunk disk disk.pending d.pending

-- ---- writes and tasks

-- a device write as a change of the step table's disk
abbrev pub IsWriteOf : ℕ → List Stored → Write → StoreChange → Type 0
IsWriteOf size items devs.OpenChunks moves.OpenChunks = Unit {0}
IsWriteOf size items devs.OpenRows moves.OpenRows = Unit {0}
IsWriteOf size items devs.OpenLog moves.OpenLog = Unit {0}
IsWriteOf size items (devs.OpenEntry entry) (moves.Open item) = IsEntryOf size items item entry
IsWriteOf size items (devs.PutChunk name bytes) (moves.PutChunk other) = name ≡ other
IsWriteOf size items (devs.PutRow stored) (moves.Put item named old) =
    (stored.row ≡ item.entry.row) × (stored.version ≡ item.entry.version)
IsWriteOf size items (devs.DropChunk name) (moves.DropChunk other) = name ≡ other
IsWriteOf size items devs.CloseEntry moves.Close = Unit {0}
IsWriteOf size items (devs.PutTable schema number) (moves.PutBeside (moves.PutState state)) =
    number ≡ state_number state
IsWriteOf size items (devs.PutSub client terms) (moves.PutBeside (moves.PutSub other some)) =
    (client ≡ other) × (terms ≡ option_map stored_terms some)
IsWriteOf size items write change = ⊥

-- The devices hold this disk now and behind each of these writes, which are those of these tasks.
abbrev pub Follows : Schema → Devs → List Write → StoreDisk → List StoreTask → Type 0
Follows schema d [] disk [] = Stands schema d disk
Follows schema d (write ∷ writes) disk (task ∷ tasks) =
    Stands schema d disk × IsWriteOf schema.chunk disk.items write task.change
    × Follows schema (changed_by d write) writes (changed disk task.change) tasks
Follows schema d writes disk tasks = ⊥

-- ---- the update of a request

-- each number among the cells is one of 64 bits
abbrev pub IsWord : Cell → Type 0
IsWord (cell_kinds.Int n) = FitsSigned w64 n
IsWord (cell_kinds.Bool b) = Unit {0}
IsWord (cell_kinds.Text text) = Unit {0}

abbrev pub HaveWords : Content → Type 0
HaveWords contents.Gone = Unit {0}
HaveWords (contents.Row some objects) = AllByRecursion IsWord some

abbrev pub pieced_objects : List (List ℕ) → List (List Piece) → List PieceObject
pieced_objects [] pieces = []
pieced_objects (object ∷ objects) pieces =
    record { len = length object; pieces = first_of pieces } ∷ pieced_objects objects (others_of pieces)

-- a content by the pieces of its objects
abbrev pub pieced_content : Content → List (List Piece) → PieceContent
pieced_content contents.Gone pieces = Gone
pieced_content (contents.Row cells objects) pieces = Row cells (pieced_objects objects pieces)

-- the bytes of the new chunks, in their order
abbrev pub fresh_bytes : List (Piece × List ℕ) → List (List ℕ)
fresh_bytes [] = []
fresh_bytes ((Keep name, chunk) ∷ more) = fresh_bytes more
fresh_bytes ((Fresh ordinal, chunk) ∷ more) = chunk ∷ fresh_bytes more

-- what a Store takes on for a request: its content by the pieces that spell it, and its new chunks
abbrev pub update_for : ℕ → Request → Update
update_for size request = record {
  row = request.row;
  client = request.client;
  number = request.number;
  base = request.base;
  content = pieced_content request.content request.pieces;
  fresh = fresh_bytes (flat (each_chunk size request.pieces (objects_of request.content)));
}
