-- What a log keeps in memory.
use Rattle.std.specs.Prelude.{◌≡◌, ℕ, ◌+◌, ◌*◌, ◌≤◌, min, if◌then◌else◌, List, length, drop, Option, Some, None}
use Rattle.std.specs.Vec.{vec_capacity}
use Rattle.vault.specs.Limit.{payload_most}
use Rattle.status_log.specs.declared.memory.LogMemory.{LogMemory}
use Rattle.status_log.specs.declared.payload.Opening.{Opening}
use Rattle.status_log.specs.declared.payload.Change.{Change}
use Rattle.status_log.specs.declared.payload.Change.TheVariants.{Open, Close, Nothing}
use Rattle.status_log.specs.Entry.{Entry, entry_of}
use Rattle.status_log.specs.Payload.{entry_in, opens, closes, pending_of}

-- the open entry
abbrev pub pending_in : LogMemory → Option Entry
pending_in memory = if memory.is_open then Some (entry_of memory.entry) else None

pub record Fits (memory : LogMemory) (payloads : List (List ℕ)) : Type 0 where
  pub pending : pending_of payloads ≡ pending_in memory

-- there is room for the names of one payload
abbrev pub HasSpare : LogMemory → ℕ → ℕ → Type 0
HasSpare memory payloads bytes = min bytes payload_most ≤ 12 * vec_capacity memory.entry.old

-- the payload opens this entry, whose names are behind its first 53 bytes
pub record IsOpening (payload : List ℕ) (opening : Opening) : Type 0 where
  pub entry : opens payload ≡ Some (entry_in opening (drop 53 payload))
  pub size : length payload ≡ 53 + 12 * opening.count

abbrev pub Says : List ℕ → Change → Type 0
Says payload (Open opening) = IsOpening payload opening
Says payload (Close version) = (opens payload ≡ None) × (closes payload ≡ Some version)
Says payload Nothing = (opens payload ≡ None) × (closes payload ≡ None)
