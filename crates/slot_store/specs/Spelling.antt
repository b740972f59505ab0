-- Which slots of rows and which records of tables have a payload, and the one payload of each.
use Rattle.std.specs.Prelude.{◌≡◌, ℕ, ◌<◌, ◌≤◌, ◌^◌, List, ◌∷◌, ◌++◌, length}
use Rattle.stab_base.specs.declared.limits.TheConstants.{NUMBER_MAX}
use Rattle.value_codec.specs.SchemaSpelling.{HasSchemaSpelling, schema_spelling}
use Rattle.field_codec.specs.Forms.{four, eight}
use Rattle.held_codec.specs.Spelling.{slots_spelling, HasSlots}
use Rattle.slot_store.specs.declared.held.RowSlots.{RowSlots}
use Rattle.slot_store.specs.declared.held.TableRecord.{TableRecord}
use Rattle.slot_store.specs.Limit.{tables_most}

pub record IsTable (table : ℕ) : Type 0 where
  pub least : 1 ≤ table
  pub most : table ≤ tables_most

-- ---- slots of rows

pub record HasRowSpelling (held : RowSlots) : Type 0 where
  pub table : IsTable held.table
  pub row : length held.row ≡ 16
  pub last : held.last ≤ NUMBER_MAX
  pub slots : HasSlots held.slots

-- the slots of a row are 1, the table, the row's id, the number of the last write, and the slots
abbrev pub row_payload : RowSlots → List ℕ
row_payload row = 1 ∷ (four row.table ++ (row.row ++ (eight row.last ++ slots_spelling row.slots)))

-- ---- records of tables

-- 1 opened, 2 closed
pub record IsState (state : ℕ) : Type 0 where
  pub least : 1 ≤ state
  pub most : state ≤ 2

pub record HasRecordSpelling (held : TableRecord) : Type 0 where
  pub table : IsTable held.table
  pub state : IsState held.state
  pub schema : HasSchemaSpelling held.schema
  pub position : held.position < 2 ^ 64

-- the record of a table is 2, the table, its state, its schema, and its position
abbrev pub record_payload : TableRecord → List ℕ
record_payload table =
    2 ∷ (four table.table ++ (table.state ∷ (schema_spelling table.schema ++ eight table.position)))
