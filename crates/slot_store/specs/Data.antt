-- What a list of payloads says of a client's rows and tables.
use Rattle.std.specs.Prelude.{◌≡◌, ℕ, max, List, [], map, Option, IsSome, fold}
use Rattle.std.specs.declared.cmp.Ordering.{Ordering}
use Rattle.std.specs.Ordering.{nat_cmp, ordering_then}
use Rattle.std.specs.Cmp.Lexicographic.{slice_cmp}
use Rattle.std.specs.BTreeMap.{insert_entry, is_at}
use Rattle.std.specs.Map.{lookup}
use Rattle.std.specs.List.{Contains}
use Rattle.std.specs.List.Sorted.{IsStrictlySortedBy}
use Rattle.slot_store.specs.declared.held.RowKey.{RowKey}
use Rattle.slot_store.specs.declared.held.RowSlots.{RowSlots}
use Rattle.slot_store.specs.declared.held.TableRecord.{TableRecord}
use Rattle.slot_store.specs.Reading.{Said, SaysRow, SaysTable, SaysNothing, said_by}

-- ids by their bytes
abbrev pub id_cmp : List ℕ → List ℕ → Ordering
id_cmp a b = slice_cmp nat_cmp a b

-- rows by table, then by id
abbrev pub key_cmp : RowKey → RowKey → Ordering
key_cmp a b = ordering_then (nat_cmp a.table b.table) (id_cmp a.row b.row)

abbrev pub key_at : ℕ → List ℕ → RowKey
key_at table row = record { table = table; row = row }

abbrev pub key_of : RowSlots → RowKey
key_of row = key_at row.table row.row

-- the slots of each row by table and id, the record of each table by its number, both in rising order, and the greatest
-- number of a last write
pub record SlotData : Type 0 where
  pub rows : List (RowKey × RowSlots)
  pub tables : List (ℕ × TableRecord)
  pub last : ℕ

abbrev pub nothing_held : SlotData
nothing_held = record { rows = []; tables = []; last = 0 }

abbrev pub with_slots : SlotData → RowSlots → SlotData
with_slots held row = record {
  rows = insert_entry key_cmp held.rows (key_of row) row;
  tables = held.tables;
  last = max held.last row.last;
}

abbrev pub with_record : SlotData → TableRecord → SlotData
with_record held table = record {
  rows = held.rows;
  tables = insert_entry nat_cmp held.tables table.table table;
  last = held.last;
}

abbrev pub step : SlotData → Said → SlotData
step held (SaysRow row) = with_slots held row
step held (SaysTable table) = with_record held table
step held SaysNothing = held

-- The last payload of a row stands, and of a table.
unfoldable pub data_of : List (List ℕ) → SlotData
data_of payloads = fold (λ held payload. step held (said_by payload)) nothing_held payloads

-- ---- what is asked of it

abbrev pub slots_of : SlotData → ℕ → List ℕ → Option RowSlots
slots_of held table row = lookup (is_at (key_cmp (key_at table row))) held.rows

abbrev pub record_of : SlotData → ℕ → Option TableRecord
record_of held table = lookup (is_at (nat_cmp table)) held.tables

abbrev pub records_of : SlotData → List TableRecord
records_of held = map (λ entry. entry.1) held.tables

-- the ids of a table's rows, each once, in rising order
pub record AreRowsOf (held : SlotData) (table : ℕ) (rows : List (List ℕ)) : Type 0 where
  pub rising : IsStrictlySortedBy id_cmp rows
  pub only : (row : List ℕ) → Contains rows row → IsSome (slots_of held table row)
  pub all : (row : List ℕ) → IsSome (slots_of held table row) → Contains rows row
