-- Fuses that aren't set, those that are as new, and what a call keeps of both.
use Rattle.std.specs.Prelude.{◌≡◌, ℕ, false}
use Rattle.disk_trait.specs.Calls.{DiskState}
use Rattle.vault.specs.Standing.{disk_of}
use Rattle.chunk_store.specs.Standing as chunks
use Rattle.slot_store.specs.Standing as slots
use Rattle.plan_log.specs.Standing as journals
use Rattle.client_journal.specs.declared.devs.Journal.{Journal}
pub use Rattle.client_journal.specs.Standing.{all_stops}

-- no disk's fuse is set
pub record AreUnset {D : Type 0} (state : D → DiskState) (client : Journal D) : Type 0 where
  pub chunks : (state (disk_of (chunks.vault_of client.chunks))).is_armed ≡ false
  pub slots : (state (disk_of (slots.vault_of client.slots))).is_armed ≡ false
  pub journal : (state (disk_of (journals.vault_of client.journal))).is_armed ≡ false

-- the fuses are as new: none is set, and none has stopped a call
pub record AreFresh {D : Type 0} (state : D → DiskState) (client : Journal D) : Type 0 where
  pub unset : AreUnset state client
  pub unstopped : all_stops state client ≡ 0

-- Where no fuse was set, none is, and none has stopped a call.
pub record KeepsUnset {D : Type 0} (state : D → DiskState) (old new : Journal D) : Type 0 where
  pub unset : AreUnset state old → AreUnset state new
  pub stopped : AreUnset state old → all_stops state new ≡ all_stops state old
  pub fresh : AreFresh state old → AreFresh state new
