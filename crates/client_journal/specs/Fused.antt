-- What is promised where the fuse of a client's disk is set.
use Rattle.std.specs.Prelude.{◌≡◌, ℕ, List, [], ◌∷◌}
use Rattle.disk_trait.specs.Calls.{DiskState}
use Rattle.disk_trait.specs.Fuse.{inner_of}
use Rattle.disk_trait.specs.declared.fuse.FuseDisk.{FuseDisk}
use Rattle.vault.specs.declared.vault.Vault.{Vault}
use Rattle.vault.specs.Standing.{disk_of}
use Rattle.chunk_store.specs.Standing as chunks
use Rattle.slot_store.specs.Standing as slots
use Rattle.plan_log.specs.Standing as journals
use Rattle.client_journal.specs.declared.devs.Journal.{Journal}
use Rattle.client_journal.specs.declared.fused.Device.{Device}
use Rattle.client_journal.specs.declared.fused.Device.TheVariants as devices
use Rattle.client_journal.specs.Devs.{Write, OpenJournal, OpenSlots, OpenChunks, PutIntend, PutChunk, PutCommit}
use Rattle.client_journal.specs.Devs.{PutSlots, PutRecord, DropChunk, PutDone}

-- the device that a write is of
abbrev pub device_of : Write → Device
device_of OpenJournal = devices.Plans
device_of OpenSlots = devices.Slots
device_of OpenChunks = devices.Chunks
device_of (PutIntend intend) = devices.Plans
device_of (PutChunk name bytes) = devices.Chunks
device_of (PutCommit commit) = devices.Plans
device_of (PutSlots row) = devices.Slots
device_of (PutRecord table) = devices.Slots
device_of (DropChunk name) = devices.Chunks
device_of PutDone = devices.Plans

-- the vault of this device
abbrev pub vault_at : {D : Type 0} → Journal D → Device → Vault D
vault_at client devices.Chunks = chunks.vault_of client.chunks
vault_at client devices.Slots = slots.vault_of client.slots
vault_at client devices.Plans = journals.vault_of client.journal

-- the fuse of this device's disk is set, and the other devices are as they were
abbrev pub StopsOne : {D : Type 0} → (D → DiskState) → (D → ℕ → List ℕ → Type 0) → ℕ → ℕ → Device
    → Journal (FuseDisk D) → Journal (FuseDisk D) → Type 0
StopsOne state images calls pick devices.Chunks old new =
    chunks.Stops state images calls pick old.chunks new.chunks × (new.slots ≡ old.slots)
    × (new.journal ≡ old.journal)
StopsOne state images calls pick devices.Slots old new =
    (new.chunks ≡ old.chunks) × slots.Stops state images calls pick old.slots new.slots
    × (new.journal ≡ old.journal)
StopsOne state images calls pick devices.Plans old new =
    (new.chunks ≡ old.chunks) × (new.slots ≡ old.slots)
    × journals.Stops state images calls pick old.journal new.journal

-- and that device is the one of the first of these writes
abbrev pub StopsNext : {D : Type 0} → (D → DiskState) → (D → ℕ → List ℕ → Type 0) → ℕ → ℕ → List Write
    → Journal (FuseDisk D) → Journal (FuseDisk D) → Type 0
StopsNext state images calls pick [] old new = new ≡ old
StopsNext state images calls pick (w ∷ ws) old new = StopsOne state images calls pick (device_of w) old new

-- the disks behind the fuses are the same
pub record SameDisks {D : Type 0} (old new : Journal (FuseDisk D)) : Type 0 where
  pub chunks : inner_of (disk_of (chunks.vault_of new.chunks)) ≡ inner_of (disk_of (chunks.vault_of old.chunks))
  pub slots : inner_of (disk_of (slots.vault_of new.slots)) ≡ inner_of (disk_of (slots.vault_of old.slots))
  pub journal : inner_of (disk_of (journals.vault_of new.journal)) ≡ inner_of (disk_of (journals.vault_of old.journal))
