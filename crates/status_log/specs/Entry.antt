-- An entry, with its names as a list.
use Rattle.std.specs.Prelude.{◌≡◌, ℕ, ◌+◌, ◌*◌, ◌<◌, ◌≤◌, ◌^◌, List, length}
use Rattle.std.specs.List.{AllByRecursion}
use Rattle.vault.specs.Limit.{payload_most}
use Rattle.stab_base.specs.declared.chunk_name.ChunkName.{ChunkName}
use Rattle.stab_base.specs.declared.limits.TheConstants.{NUMBER_MAX}
use Rattle.value_codec.specs.Spelling.{HasNameSpelling}
use Rattle.status_log.specs.declared.entry.LogEntry.{LogEntry}

pub record Entry : Type 0 where
  pub version : ℕ
  pub row : List ℕ
  pub client : ℕ
  pub number : ℕ
  pub base : ℕ
  pub fresh : ℕ
  pub old : List ChunkName

abbrev pub entry_of : LogEntry → Entry
entry_of entry = record {
  version = entry.version;
  row = entry.row;
  client = entry.client;
  number = entry.number;
  base = entry.base;
  fresh = entry.fresh;
  old = entry.old.items;
}

-- how many bytes the payload of its opening has
abbrev pub size_of : Entry → ℕ
size_of entry = 53 + 12 * length entry.old

-- the payload of its opening is a spelling, and short enough
pub record HasSpelling (entry : Entry) : Type 0 where
  pub version : entry.version ≤ NUMBER_MAX
  pub row : length entry.row ≡ 16
  pub client_from : 1 ≤ entry.client
  pub client_to : entry.client ≤ 64
  pub number : entry.number < 2 ^ 64
  pub base : entry.base < 2 ^ 64
  pub fresh : entry.fresh < 2 ^ 32
  pub old : AllByRecursion HasNameSpelling entry.old
  pub size : size_of entry ≤ payload_most
