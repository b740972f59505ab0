-- Fuses that aren't set, and why a call that may take memory was refused.
use Rattle.std.specs.Prelude.{◌≡◌, ◌⊎◌, ℕ, ◌+◌, false, Result, IfErr}
use Rattle.disk_trait.specs.Calls.{DiskState, IsCounted}
use Rattle.vault.specs.Standing.{disk_of}
use Rattle.chunk_store.specs.Standing as chunks
use Rattle.row_store.specs.Standing as rows
use Rattle.status_log.specs.Standing as logs
use Rattle.store_commit.specs.declared.devs.TableDevs.{TableDevs}
use Rattle.store_commit.specs.declared.fault.CommitFault.{CommitFault}
use Rattle.store_commit.specs.declared.fault.CommitFault.TheVariants.{Disk, Memory}
use Rattle.store_commit.specs.Standing.{all_faults}
pub use Rattle.store_commit.specs.Standing.{all_stops}

-- no disk's fuse is set
pub record AreUnset {D : Type 0} (state : D → DiskState) (table : TableDevs D) : Type 0 where
  pub chunks : (state (disk_of (chunks.vault_of table.chunks))).is_armed ≡ false
  pub rows : (state (disk_of (rows.vault_of table.rows))).is_armed ≡ false
  pub log : (state (disk_of (logs.vault_of table.log))).is_armed ≡ false

-- the fuses are as new: none is set, and none has stopped a call
pub record AreFresh {D : Type 0} (state : D → DiskState) (table : TableDevs D) : Type 0 where
  pub unset : AreUnset state table
  pub unstopped : all_stops state table ≡ 0

-- Where no fuse was set, none is, and none has stopped a call.
pub record KeepsUnset {D : Type 0} (state : D → DiskState) (old new : TableDevs D) : Type 0 where
  pub unset : AreUnset state old → AreUnset state new
  pub stopped : AreUnset state old → all_stops state new ≡ all_stops state old
  pub fresh : AreFresh state old → AreFresh state new

-- Of devices that were up: a disk has failed, or memory was refused.
pub record HasCause {D T : Type 0} (state : D → DiskState) (old new : TableDevs D)
    (result : Result T CommitFault) : Type 0 where
  pub cause : IsCounted Disk (all_faults state old) (all_faults state new) result
  pub only : IfErr result (λ e. (e ≡ Disk) ⊎ (e ≡ Memory))
