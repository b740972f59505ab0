-- What a payload says, read from left to right. A field is a value and the bytes behind it; a fault is the number of
-- bytes from the place on at which no spelling goes on.
use Rattle.std.specs.Prelude.{ℕ, Bool, ◌==◌, ◌&&◌, nat_lt, nat_le, if◌then◌else◌, List, length, take, drop, Option}
use Rattle.std.specs.Prelude.{Some, None, Result, Ok, Err}
use Rattle.std.specs.Int.{w32, w64}
use Rattle.stab_base.specs.declared.limits.TheConstants.{NUMBER_MAX}
use Rattle.row_value.specs.declared.schema.Schema.{Schema}
use Rattle.value_codec.specs.Reading.{◌>>=◌, byte_at, number_at, flag_at, list_at, content_at, whole}
use Rattle.value_codec.specs.SchemaReading.{schema_at}
use Rattle.row_store.specs.declared.stored.LastWrite.{LastWrite}
use Rattle.row_store.specs.declared.stored.StoredRow.{StoredRow}
use Rattle.row_store.specs.declared.stored.SubChange.{SubChange}
use Rattle.row_store.specs.declared.stored.Terms.{Terms}
use Rattle.row_store.specs.Spelling.{all_keep}

-- ---- rows

unfoldable pub id_at : List ℕ → Result (List ℕ × List ℕ) ℕ
id_at bytes = if nat_lt (length bytes) 16 then Err 0 else Ok (take 16 bytes, drop 16 bytes)

-- behind the last write of this client
unfoldable pub last_in : ℕ → List ℕ → Result (LastWrite × List ℕ) ℕ
last_in before bytes = do
  client ← number_at w32 bytes
  number ← number_at w64 client.1
  version ← number_at w64 number.1
  if nat_lt before client.0 && nat_le client.0 64
      then Ok (record { client = client.0; number = number.0; version = version.0 }, version.1)
      else Err (length bytes)

abbrev pub after_last : ℕ → LastWrite → ℕ
after_last before last = last.client

-- its version is within the limit, and each of its pieces names a chunk
abbrev pub is_allowed : StoredRow → Bool
is_allowed stored = all_keep stored.content && nat_le stored.version NUMBER_MAX

abbrev pub allowed_at : List ℕ → StoredRow → List ℕ → Result (StoredRow × List ℕ) ℕ
allowed_at bytes stored rest = if is_allowed stored then Ok (stored, rest) else Err (length bytes)

unfoldable pub stored_at : List ℕ → Result (StoredRow × List ℕ) ℕ
stored_at bytes = do
  row ← id_at bytes
  version ← number_at w64 row.1
  content ← content_at version.1
  lasts ← list_at after_last last_in 0 content.1
  allowed_at bytes (record { row = row.0; version = version.0; content = content.0; pairs = lasts.0 }) lasts.1

-- ---- tables and subscriptions

unfoldable pub table_at : List ℕ → Result ((Schema × ℕ) × List ℕ) ℕ
table_at bytes = do
  schema ← schema_at bytes
  state ← byte_at schema.1
  if nat_le 1 state.0 && nat_le state.0 3 then Ok ((schema.0, state.0), state.1) else Err (length schema.1)

abbrev pub terms_if : Bool → Terms → Option Terms
terms_if on terms = if on then Some terms else None

unfoldable pub sub_at : List ℕ → Result (SubChange × List ℕ) ℕ
sub_at bytes = do
  client ← number_at w32 bytes
  on ← flag_at client.1
  gate ← number_at w32 on.1
  period ← number_at w32 gate.1
  tolerance ← number_at w32 period.1
  if nat_le 1 client.0 && nat_le client.0 64 then
      Ok (
        record {
          client = client.0;
          terms = terms_if on.0 (record { gate = gate.0; period = period.0; tolerance = tolerance.0 });
        },
        tolerance.1,
      )
      else Err (length bytes)

-- ---- whole payloads

-- the bytes behind this first byte
unfoldable pub tag_at : ℕ → List ℕ → Result (List ℕ) ℕ
tag_at tag payload = do
  first ← byte_at payload
  if first.0 == tag then Ok first.1 else Err (length payload)

unfoldable pub row_in : List ℕ → Result StoredRow ℕ
row_in payload = do
  rest ← tag_at 1 payload
  whole (stored_at rest)

unfoldable pub table_in : List ℕ → Result (Schema × ℕ) ℕ
table_in payload = do
  rest ← tag_at 2 payload
  whole (table_at rest)

unfoldable pub sub_in : List ℕ → Result SubChange ℕ
sub_in payload = do
  rest ← tag_at 3 payload
  whole (sub_at rest)

-- what a payload says; nothing where it is no spelling of a row, a table or a subscription
pub data Said : Type 0 where
  SaysRow : StoredRow → Said
  SaysTable : Schema → ℕ → Said
  SaysSub : SubChange → Said
  SaysNothing : Said

abbrev pub said_sub : Result SubChange ℕ → Said
said_sub (Ok change) = SaysSub change
said_sub (Err left) = SaysNothing

abbrev pub said_table : Result (Schema × ℕ) ℕ → Said → Said
said_table (Ok table) other = SaysTable table.0 table.1
said_table (Err left) other = other

abbrev pub said_row : Result StoredRow ℕ → Said → Said
said_row (Ok stored) other = SaysRow stored
said_row (Err left) other = other

unfoldable pub said_by : List ℕ → Said
said_by payload = said_row (row_in payload) (said_table (table_in payload) (said_sub (sub_in payload)))
