-- A device of chunks between calls, as its map. How its disk stands is said of its vault.
use Rattle.std.specs.Prelude.{ℕ, List, Option, Result}
use Rattle.std.specs.BTreeMap.{is_at}
use Rattle.std.specs.Map.{lookup}
use Rattle.disk_trait.specs.Calls.{DiskState}
use Rattle.disk_trait.specs.declared.fuse.FuseDisk.{FuseDisk}
use Rattle.vault.specs.declared.vault.Vault.{Vault}
use Rattle.vault.specs.Standing.{payloads}
use Rattle.vault.specs.Standing as vaults
use Rattle.vault.specs.Folded as folded
use Rattle.vault.specs.Calls as calls
use Rattle.vault.specs.Stops as stops
use Rattle.stab_base.specs.declared.chunk_name.ChunkName.{ChunkName}
use Rattle.chunk_store.specs.declared.device.ChunkDev.{ChunkDev}
use Rattle.chunk_store.specs.declared.fault.ChunkFault.{ChunkFault}
use Rattle.chunk_store.specs.Fault.{fault_of}
use Rattle.chunk_store.specs.Payload.{name_cmp, chunks_of}
use Rattle.chunk_store.specs.Index.{IsIndex, HasSpare}

abbrev pub vault_of : {D : Type 0} → ChunkDev D → Vault D
vault_of dev = folded.vault_of dev.inner

-- The chunks of a device, in the order of their names. While it is down they are those that stand there by chance.
abbrev pub chunks : {D : Type 0} → (D → DiskState) → ChunkDev D → List (ChunkName × List ℕ)
chunks state dev = chunks_of (payloads state (vault_of dev))

-- the chunk of a name
abbrev pub chunk_in : List (ChunkName × List ℕ) → ChunkName → Option (List ℕ)
chunk_in map name = lookup (is_at (name_cmp name)) map

-- formatted, or looked at since the last restart
abbrev pub IsLookedAt : {D : Type 0} → (D → DiskState) → ChunkDev D → Type 0
IsLookedAt state dev = folded.IsLookedAt state IsIndex dev.inner

-- ready for puts and drops
abbrev pub IsOpened : {D : Type 0} → (D → DiskState) → ChunkDev D → Type 0
IsOpened state dev = folded.IsOpened state IsIndex dev.inner

-- There is room for so many openings, and for so many puts and drops whose payloads have so many bytes in all.
abbrev pub HasRoom : {D : Type 0} → (D → DiskState) → ChunkDev D → ℕ → ℕ → ℕ → Type 0
HasRoom state dev openings puts bytes = folded.HasRoom state HasSpare dev.inner openings puts bytes

-- Nothing has changed but room that was added.
abbrev pub Stays : {D : Type 0} → (D → DiskState) → ChunkDev D → ChunkDev D → Type 0
Stays state old new = folded.Stays state IsIndex HasSpare old.inner new.inner

-- At every moment since the old state a crash leaves chunks that have R.
abbrev pub Leaves : {D : Type 0} → (D → DiskState) → (D → ℕ → List ℕ → Type 0) → ChunkDev D → ChunkDev D
    → (List (ChunkName × List ℕ) → Type 0) → Type 0
Leaves state images old new R = vaults.Leaves state images (vault_of old) (vault_of new) (λ list. R (chunks_of list))

-- ---- what the calls of a device promise of its chunks

abbrev pub Formats : {D : Type 0} → (D → DiskState) → (D → ℕ → List ℕ → Type 0) → ChunkDev D → ChunkDev D
    → Result (Unit {0}) ChunkFault → Type 0
Formats state images old new result =
    calls.Formats state images IsIndex HasSpare chunks_of fault_of old.inner new.inner old new result

abbrev pub Looks : {D : Type 0} → (D → DiskState) → (D → ℕ → List ℕ → Type 0) → ChunkDev D → ChunkDev D
    → Result (Unit {0}) ChunkFault → Type 0
Looks state images old new result =
    calls.Looks state images IsIndex HasSpare chunks_of fault_of old.inner new.inner old new result

abbrev pub Restarts : {D : Type 0} → (D → DiskState) → (D → ℕ → List ℕ → Type 0) → ChunkDev D → ChunkDev D → Type 0
Restarts state images old new = calls.Restarts state images chunks_of old.inner new.inner

abbrev pub OpensWrite : {D : Type 0} → (D → DiskState) → (D → ℕ → List ℕ → Type 0) → ChunkDev D → ChunkDev D
    → Result (Unit {0}) ChunkFault → Type 0
OpensWrite state images old new result =
    calls.OpensWrite state images IsIndex HasSpare chunks_of fault_of old.inner new.inner old new result

abbrev pub Reserves : {D : Type 0} → (D → DiskState) → (D → ℕ → List ℕ → Type 0) → ℕ → ℕ → ChunkDev D → ChunkDev D
    → Result (Unit {0}) ChunkFault → Type 0
Reserves state images puts bytes old new result =
    calls.Reserves state images IsIndex HasSpare chunks_of fault_of puts bytes old.inner new.inner old new result

-- the put or drop of a payload of so many bytes, after which these are the chunks
abbrev pub Puts : {D : Type 0} → (D → DiskState) → (D → ℕ → List ℕ → Type 0) → ℕ → List (ChunkName × List ℕ)
    → ChunkDev D → ChunkDev D → Result (Unit {0}) ChunkFault → Type 0
Puts state images bytes map old new result =
    calls.Appends state images IsIndex HasSpare chunks_of fault_of bytes map old.inner new.inner old new result

abbrev pub Gets : {D T : Type 0} → (D → DiskState) → (D → ℕ → List ℕ → Type 0) → ChunkDev D → ChunkDev D
    → Result T ChunkFault → Type 0
Gets state images old new result =
    calls.Reads state images IsIndex HasSpare chunks_of fault_of old.inner new.inner old new result

abbrev pub Stops : {D : Type 0} → (D → DiskState) → (D → ℕ → List ℕ → Type 0) → ℕ → ℕ → ChunkDev (FuseDisk D)
    → ChunkDev (FuseDisk D) → Type 0
Stops state images count pick old new =
    stops.Stops state images IsIndex HasSpare chunks_of count pick old.inner new.inner

-- the fuse of its disk is as new, and all else is as it was
abbrev pub Renews : {D : Type 0} → (D → DiskState) → (D → ℕ → List ℕ → Type 0) → ChunkDev (FuseDisk D)
    → ChunkDev (FuseDisk D)
    → Type 0
Renews state images old new = stops.Renews state images IsIndex HasSpare chunks_of old.inner new.inner
