-- What a payload says, read from left to right. A field is a value and the bytes behind it; a fault is the number of
-- bytes from the place on at which no spelling goes on.
use Rattle.std.specs.Prelude.{ℕ, Bool, ◌==◌, ◌&&◌, nat_le, if◌then◌else◌, List, length, Result, Ok, Err}
use Rattle.std.specs.Int.{w32, w64}
use Rattle.stab_base.specs.declared.limits.TheConstants.{NUMBER_MAX}
use Rattle.row_value.specs.declared.schema.Schema.{Schema}
use Rattle.value_codec.specs.Reading.{◌>>=◌, byte_at, number_at, id_at, whole}
use Rattle.value_codec.specs.SchemaReading.{schema_at}
use Rattle.field_codec.specs.Fields.{Reader, ◌&◌, made_at}
use Rattle.held_codec.specs.Reading.{slots_at}
use Rattle.slot_store.specs.declared.held.RowSlots.{RowSlots}
use Rattle.slot_store.specs.declared.held.TableRecord.{TableRecord}
use Rattle.slot_store.specs.Limit.{tables_most}

-- a value that passes a test
abbrev pub when_at : {X : Type 0} → (X → Bool) → Reader X → Reader X
when_at test read bytes = do
  a ← read bytes
  if test a.0 then Ok (a.0, a.1) else Err (length bytes)

-- ---- slots of rows

unfoldable pub row_fields_at : Reader RowSlots
row_fields_at bytes =
    made_at (λ p. record { table = p.0; row = p.1.0; last = p.1.1.0; slots = p.1.1.1 })
    (number_at w32 & id_at & number_at w64 & slots_at) bytes

-- a table within the limit, and a number within the limit
abbrev pub is_row : RowSlots → Bool
is_row row = (nat_le 1 row.table && nat_le row.table tables_most) && nat_le row.last NUMBER_MAX

unfoldable pub row_at : Reader RowSlots
row_at bytes = when_at is_row row_fields_at bytes

-- ---- records of tables

unfoldable pub record_fields_at : Reader TableRecord
record_fields_at bytes =
    made_at (λ p. record { table = p.0; state = p.1.0; schema = p.1.1.0; position = p.1.1.1 })
    (number_at w32 & byte_at & schema_at & number_at w64) bytes

-- a table within the limit, and a state that there is
abbrev pub is_record : TableRecord → Bool
is_record table =
    (nat_le 1 table.table && nat_le table.table tables_most) && (nat_le 1 table.state && nat_le table.state 2)

unfoldable pub record_at : Reader TableRecord
record_at bytes = when_at is_record record_fields_at bytes

-- ---- whole payloads

-- the bytes behind this first byte
unfoldable pub tag_at : ℕ → List ℕ → Result (List ℕ) ℕ
tag_at tag payload = do
  first ← byte_at payload
  if first.0 == tag then Ok first.1 else Err (length payload)

unfoldable pub row_in : List ℕ → Result RowSlots ℕ
row_in payload = do
  rest ← tag_at 1 payload
  whole (row_at rest)

unfoldable pub record_in : List ℕ → Result TableRecord ℕ
record_in payload = do
  rest ← tag_at 2 payload
  whole (record_at rest)

-- the schema that these bytes spell
unfoldable pub schema_in : List ℕ → Result Schema ℕ
schema_in bytes = whole (schema_at bytes)

-- what a payload says; nothing where it is no spelling of slots or of a table
pub data Said : Type 0 where
  SaysRow : RowSlots → Said
  SaysTable : TableRecord → Said
  SaysNothing : Said

abbrev pub said_table : Result TableRecord ℕ → Said
said_table (Ok table) = SaysTable table
said_table (Err left) = SaysNothing

abbrev pub said_row : Result RowSlots ℕ → Said → Said
said_row (Ok row) other = SaysRow row
said_row (Err left) other = other

unfoldable pub said_by : List ℕ → Said
said_by payload = said_row (row_in payload) (said_table (record_in payload))
