-- What a payload does to the open entry.
use Rattle.std.specs.Prelude.{ℕ, Bool, zero, suc, ◌*◌, ◌==◌, ◌&&◌, nat_lt, nat_le, if◌then◌else◌, List, [], ◌∷◌, ◌++◌}
use Rattle.std.specs.Prelude.{length, take, drop, Option, Some, None, Result, Ok, Err, fold}
use Rattle.std.specs.Int.{w32, w64, to_be_bytes, from_be_bytes}
use Rattle.stab_base.specs.declared.chunk_name.ChunkName.{ChunkName}
use Rattle.stab_base.specs.declared.codec.TakeFault.{TakeFault}
use Rattle.stab_base.specs.declared.codec.TakeFault.TheVariants.{Short}
use Rattle.stab_base.specs.declared.limits.TheConstants.{NUMBER_MAX}
use Rattle.stab_base.specs.Codec.{◌>>=◌, byte_at, number_at}
use Rattle.value_codec.specs.Spelling.{name_spelling, list_spelling}
use Rattle.status_log.specs.declared.payload.Opening.{Opening}
use Rattle.status_log.specs.Entry.{Entry}

-- an opening is 1, the entry's fields, the number of its names, and each name
abbrev pub open_payload : Entry → List ℕ
open_payload entry = (1 ∷ []) ++ to_be_bytes w64 entry.version ++ entry.row ++ to_be_bytes w32 entry.client
    ++ to_be_bytes w64 entry.number ++ to_be_bytes w64 entry.base ++ to_be_bytes w32 entry.fresh
    ++ list_spelling name_spelling entry.old

-- a close is 2, the entry's version, and nothing behind it
abbrev pub close_payload : ℕ → List ℕ
close_payload version = 2 ∷ to_be_bytes w64 version

-- what stands before an entry's names
abbrev pub opening_of : Entry → Opening
opening_of entry = record {
  version = entry.version;
  row = entry.row;
  client = entry.client;
  number = entry.number;
  base = entry.base;
  fresh = entry.fresh;
  count = length entry.old;
}

abbrev pub id_at : List ℕ → Result (List ℕ × List ℕ) TakeFault
id_at bytes = if nat_lt (length bytes) 16 then Err (Short 16 (length bytes)) else Ok (take 16 bytes, drop 16 bytes)

-- what stands before the names, and the names' bytes
unfoldable pub opening_at : List ℕ → Result (Opening × List ℕ) TakeFault
opening_at bytes = do
  version ← number_at w64 bytes
  row ← id_at version.1
  client ← number_at w32 row.1
  number ← number_at w64 client.1
  base ← number_at w64 number.1
  fresh ← number_at w32 base.1
  count ← number_at w32 fresh.1
  Ok (
    record {
      version = version.0;
      row = row.0;
      client = client.0;
      number = number.0;
      base = base.0;
      fresh = fresh.0;
      count = count.0;
    },
    count.1,
  )

abbrev pub name_in : List ℕ → ChunkName
name_in bytes =
    record { version = from_be_bytes w64 (take 8 bytes); ordinal = from_be_bytes w32 (take 4 (drop 8 bytes)) }

-- so many names
abbrev pub names_in : ℕ → List ℕ → List ChunkName
names_in zero bytes = []
names_in (suc count) bytes = name_in bytes ∷ names_in count (drop 12 bytes)

abbrev pub entry_in : Opening → List ℕ → Entry
entry_in opening names = record {
  version = opening.version;
  row = opening.row;
  client = opening.client;
  number = opening.number;
  base = opening.base;
  fresh = opening.fresh;
  old = names_in opening.count names;
}

-- so many bytes are the entry's names, its client has a client's number, and its version is within the limit
abbrev pub is_whole : Opening → ℕ → Bool
is_whole opening len = (len == 12 * opening.count)
    && ((nat_le 1 opening.client && nat_le opening.client 64) && nat_le opening.version NUMBER_MAX)

abbrev pub opened_by : Opening → List ℕ → Option Entry
opened_by opening names = if is_whole opening (length names) then Some (entry_in opening names) else None

-- What a payload does: it opens an entry, or closes that of a version. Other payloads do nothing.
unfoldable pub opens : List ℕ → Option Entry
opens payload = elim (byte_at payload) [
  | Ok tag ↦ if tag.0 == 1 then (elim (opening_at tag.1) [ Ok found ↦ opened_by found.0 found.1 | Err fault ↦ None ])
      else None
  | Err fault ↦ None
]

unfoldable pub closes : List ℕ → Option ℕ
closes payload = elim (byte_at payload) [
  | Ok tag ↦ if tag.0 == 2
      then (elim (number_at w64 tag.1) [
        | Ok found ↦ if (length found.1 == 0) && nat_le found.0 NUMBER_MAX
            then Some found.0 else None
        | Err fault ↦ None
      ]) else None
  | Err fault ↦ None
]

-- an entry is closed by its own version alone
abbrev pub without : Option Entry → ℕ → Option Entry
without None version = None
without (Some entry) version = if entry.version == version then None else Some entry

abbrev pub step : Option Entry → Option Entry → Option ℕ → Option Entry
step pending (Some entry) closed = Some entry
step pending None (Some version) = without pending version
step pending None None = pending

-- the open entry: the last that was opened, unless it was closed
unfoldable pub pending_of : List (List ℕ) → Option Entry
pending_of payloads = fold (λ pending payload. step pending (opens payload) (closes payload)) None payloads
