-- What a device of slots keeps in memory: for each row the index of its payload, for each table its state, its position
-- and where the spelling of its schema stands, and the greatest number of a last write.
use Rattle.std.specs.Prelude.{◌≡◌, ℕ, ◌+◌, ◌-◌, ◌<◌, ◌≤◌, List, [], ◌∷◌, length, take, drop, slice_index_or}
use Rattle.std.specs.Prelude.{None, IsSome, Result, Ok, Err}
use Rattle.std.specs.BTreeMap.{insert_entry, is_at}
use Rattle.std.specs.Map.{lookup}
use Rattle.std.specs.List.{Contains}
use Rattle.std.specs.List.Sorted.{IsStrictlySortedBy}
use Rattle.std.specs.Ordering.{nat_cmp}
use Rattle.std.specs.Vec.{vec_capacity, vec_len}
use Rattle.spare_map.specs.Late.{entries_of, spare_of}
use Rattle.spare_map.specs.Values.{AllValues, with_values}
use Rattle.row_value.specs.declared.schema.Schema.{Schema}
use Rattle.row_value.specs.declared.schema.Scheme.TheVariants.{Strong}
use Rattle.held_value.specs.declared.slots.Slots.{Slots}
use Rattle.slot_store.specs.declared.held.RowKey.{RowKey}
use Rattle.slot_store.specs.declared.held.RowSlots.{RowSlots}
use Rattle.slot_store.specs.declared.held.TableRecord.{TableRecord}
use Rattle.slot_store.specs.declared.memory.SlotMemory.{SlotMemory}
use Rattle.slot_store.specs.declared.schemas.RecordPlace.{RecordPlace}
use Rattle.slot_store.specs.declared.change.Change.{Change}
use Rattle.slot_store.specs.declared.change.TableChange.{TableChange}
use Rattle.slot_store.specs.declared.change.Change.TheVariants as changes
use Rattle.slot_store.specs.Reading.{Said, SaysRow, SaysTable, SaysNothing, said_by, row_in, schema_in}
use Rattle.slot_store.specs.Limit.{tables_most}
use Rattle.slot_store.specs.Spelling.{HasRecordSpelling, record_payload}
use Rattle.slot_store.specs.Data.{id_cmp, key_cmp, key_at, data_of}

-- ---- rows

abbrev pub no_slots : Slots
no_slots = record { main = None; shadow = None; out = None; conflict = None }

abbrev pub no_row : RowSlots
no_row = record { table = 0; row = []; last = 0; slots = no_slots }

abbrev pub row_or : Result RowSlots ℕ → RowSlots
row_or (Ok row) = row
row_or (Err left) = no_row

-- the slots in the payload of this index
abbrev pub row_at : List (List ℕ) → ℕ → RowSlots
row_at payloads index = row_or (row_in (slice_index_or payloads index []))

-- the payload of this index is there, and has slots of a row
pub record IsPlace (payloads : List (List ℕ)) (index : ℕ) : Type 0 where
  pub within : index < length payloads
  pub row : row_in (slice_index_or payloads index []) ≡ Ok (row_at payloads index)

-- each is a row of a table that there may be, and its id has sixteen bytes
abbrev pub AreKeys : List (RowKey × ℕ) → Type 0
AreKeys [] = Unit {0}
AreKeys (e ∷ es) = ((length e.0.row ≡ 16) × (e.0.table ≤ tables_most)) × AreKeys es

-- the ids of a table's rows among these, each once, in rising order
pub record AreIdsOf (places : List (RowKey × ℕ)) (table : ℕ) (rows : List (List ℕ)) : Type 0 where
  pub rising : IsStrictlySortedBy id_cmp rows
  pub only : (row : List ℕ) → Contains rows row → IsSome (lookup (is_at (key_cmp (key_at table row))) places)
  pub all : (row : List ℕ) → IsSome (lookup (is_at (key_cmp (key_at table row))) places) → Contains rows row

-- ---- tables

abbrev pub no_schema : Schema
no_schema = record { name = []; scheme = Strong; chunk = 0; columns = [] }

abbrev pub schema_or : Result Schema ℕ → Schema
schema_or (Ok schema) = schema
schema_or (Err left) = no_schema

-- the bytes from one place up to another
abbrev pub between : ℕ → ℕ → List ℕ → List ℕ
between start end bytes = take (end - start) (drop start bytes)

pub record IsWithin (start end : ℕ) (bytes : List ℕ) : Type 0 where
  pub rising : start ≤ end
  pub within : end ≤ length bytes

-- the record whose schema is spelled by these of the bytes
abbrev pub record_at : List ℕ → RecordPlace → TableRecord
record_at schemas place = record {
  table = place.table;
  state = place.state;
  schema = schema_or (schema_in (between place.start place.end schemas));
  position = place.position;
}

-- these of the bytes are there, and spell a schema
pub record IsRecordPlace (schemas : List ℕ) (place : RecordPlace) : Type 0 where
  pub within : IsWithin place.start place.end schemas
  pub schema : schema_in (between place.start place.end schemas) ≡ Ok (record_at schemas place).schema

-- where a payload of a table spells the schema: behind the first byte, the table and the state, before the position
abbrev pub schema_part : List ℕ → List ℕ
schema_part payload = between 6 (length payload - 8) payload

-- the record of a table, whose schema is spelled so, stands in place of the one before it
pub record IsPut (old new : SlotMemory) (table : TableChange) (bytes : List ℕ) (start end : ℕ) : Type 0 where
  pub within : IsWithin start end new.schemas.items
  pub spelled : between start end new.schemas.items ≡ bytes
  pub records : entries_of nat_cmp new.records
      ≡ insert_entry nat_cmp (entries_of nat_cmp old.records) table.table (record {
        table = table.table;
        state = table.state;
        position = table.position;
        start = start;
        end = end;
      })

-- the record has a spelling, and stands in one of the payloads
pub record IsWhole (payloads : List (List ℕ)) (table : TableRecord) : Type 0 where
  pub spelled : HasRecordSpelling table
  pub index : ℕ
  pub within : index < length payloads
  pub there : slice_index_or payloads index [] ≡ record_payload table

-- ---- all that is kept

pub record Fits (memory : SlotMemory) (payloads : List (List ℕ)) : Type 0 where
  pub rows : (data_of payloads).rows ≡ with_values (row_at payloads) (entries_of key_cmp memory.places)
  pub places : AllValues (IsPlace payloads) (entries_of key_cmp memory.places)
  pub tables : (data_of payloads).tables
      ≡ with_values (record_at memory.schemas.items) (entries_of nat_cmp memory.records)
  pub records : AllValues (IsRecordPlace memory.schemas.items) (entries_of nat_cmp memory.records)
  pub whole : AllValues (IsWhole payloads) (data_of payloads).tables
  pub last : (data_of payloads).last ≡ memory.last

pub record HasSpare (memory : SlotMemory) (payloads bytes : ℕ) : Type 0 where
  pub places : payloads ≤ spare_of memory.places
  pub records : payloads ≤ spare_of memory.records
  pub schemas : vec_len memory.schemas + bytes ≤ vec_capacity memory.schemas

-- what is to be noted of a payload
abbrev pub shape_of : Said → Change
shape_of (SaysRow row) = changes.Row (record { table = row.table; row = row.row; last = row.last })
shape_of (SaysTable table) =
    changes.Table (record { table = table.table; state = table.state; position = table.position })
shape_of SaysNothing = changes.Nothing

abbrev pub Says : List ℕ → Change → Type 0
Says payload change = change ≡ shape_of (said_by payload)
