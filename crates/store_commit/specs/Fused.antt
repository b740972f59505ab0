-- What is promised where the fuse of a table's disk is set.
use Rattle.std.specs.Prelude.{◌≡◌, ℕ, List, [], ◌∷◌}
use Rattle.disk_trait.specs.Calls.{DiskState}
use Rattle.disk_trait.specs.Fuse.{inner_of}
use Rattle.disk_trait.specs.declared.fuse.FuseDisk.{FuseDisk}
use Rattle.vault.specs.declared.vault.Vault.{Vault}
use Rattle.vault.specs.Standing.{disk_of}
use Rattle.chunk_store.specs.Standing as chunks
use Rattle.row_store.specs.Standing as rows
use Rattle.status_log.specs.Standing as logs
use Rattle.store_commit.specs.declared.devs.TableDevs.{TableDevs}
use Rattle.store_commit.specs.declared.fused.Device.{Device}
use Rattle.store_commit.specs.declared.fused.Device.TheVariants.{Chunks, Rows, Log}
use Rattle.store_commit.specs.Devs.{Write, OpenChunks, OpenRows, OpenLog, OpenEntry, PutChunk, PutRow, DropChunk}
use Rattle.store_commit.specs.Devs.{CloseEntry, PutTable, PutSub}

-- the device that a write is of
abbrev pub device_of : Write → Device
device_of OpenChunks = Chunks
device_of OpenRows = Rows
device_of OpenLog = Log
device_of (OpenEntry entry) = Log
device_of (PutChunk name bytes) = Chunks
device_of (PutRow stored) = Rows
device_of (DropChunk name) = Chunks
device_of CloseEntry = Log
device_of (PutTable schema state) = Rows
device_of (PutSub client terms) = Rows

-- the vault of this device
abbrev pub vault_at : {D : Type 0} → TableDevs D → Device → Vault D
vault_at table Chunks = chunks.vault_of table.chunks
vault_at table Rows = rows.vault_of table.rows
vault_at table Log = logs.vault_of table.log

-- the other devices are as they were
abbrev pub OthersStay : {D : Type 0} → Device → TableDevs D → TableDevs D → Type 0
OthersStay Chunks old new = (new.rows ≡ old.rows) × (new.log ≡ old.log)
OthersStay Rows old new = (new.chunks ≡ old.chunks) × (new.log ≡ old.log)
OthersStay Log old new = (new.chunks ≡ old.chunks) × (new.rows ≡ old.rows)

-- those beside the device of the first of these writes are as they were
abbrev pub StayBeside : {D : Type 0} → List Write → TableDevs D → TableDevs D → Type 0
StayBeside [] old new = new ≡ old
StayBeside (w ∷ ws) old new = OthersStay (device_of w) old new

-- the fuse of this device's disk is set, and the other devices are as they were
abbrev pub StopsOne : {D : Type 0} → (D → DiskState) → (D → ℕ → List ℕ → Type 0) → ℕ → ℕ → Device
    → TableDevs (FuseDisk D) → TableDevs (FuseDisk D) → Type 0
StopsOne state images calls pick Chunks old new =
    chunks.Stops state images calls pick old.chunks new.chunks × (new.rows ≡ old.rows) × (new.log ≡ old.log)
StopsOne state images calls pick Rows old new =
    (new.chunks ≡ old.chunks) × rows.Stops state images calls pick old.rows new.rows × (new.log ≡ old.log)
StopsOne state images calls pick Log old new =
    (new.chunks ≡ old.chunks) × (new.rows ≡ old.rows) × logs.Stops state images calls pick old.log new.log

-- and that device is the one of the first of these writes
abbrev pub StopsNext : {D : Type 0} → (D → DiskState) → (D → ℕ → List ℕ → Type 0) → ℕ → ℕ → List Write
    → TableDevs (FuseDisk D) → TableDevs (FuseDisk D) → Type 0
StopsNext state images calls pick [] old new = new ≡ old
StopsNext state images calls pick (w ∷ ws) old new = StopsOne state images calls pick (device_of w) old new

-- the disks behind the fuses are the same
pub record SameDisks {D : Type 0} (old new : TableDevs (FuseDisk D)) : Type 0 where
  pub chunks : inner_of (disk_of (chunks.vault_of new.chunks)) ≡ inner_of (disk_of (chunks.vault_of old.chunks))
  pub rows : inner_of (disk_of (rows.vault_of new.rows)) ≡ inner_of (disk_of (rows.vault_of old.rows))
  pub log : inner_of (disk_of (logs.vault_of new.log)) ≡ inner_of (disk_of (logs.vault_of old.log))
