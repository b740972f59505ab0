-- The payload of an entry's opening.
use Rattle.std.specs.Prelude.{◌≡◌, ℕ, ◌≤◌, List, length}
use Rattle.stab_base.specs.declared.limits.TheConstants.{NUMBER_MAX}
use Rattle.status_log.specs.Entry.{Entry}
use Rattle.status_log.specs.Payload.{open_payload}

-- these bytes are the payload of the entry's opening
pub record IsOpening (payload : List ℕ) (entry : Entry) : Type 0 where
  pub version : entry.version ≤ NUMBER_MAX
  pub row : length entry.row ≡ 16
  pub client_from : 1 ≤ entry.client
  pub client_to : entry.client ≤ 64
  pub spelled : payload ≡ open_payload entry
