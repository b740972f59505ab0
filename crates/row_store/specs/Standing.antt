-- A device of rows between calls, as what it holds of its table. How its disk stands is said of its vault.
use Rattle.std.specs.Prelude.{ℕ, List, Result, Ok, Err}
use Rattle.disk_trait.specs.Calls.{DiskState}
use Rattle.disk_trait.specs.declared.fuse.FuseDisk.{FuseDisk}
use Rattle.vault.specs.declared.vault.Vault.{Vault}
use Rattle.vault.specs.Standing.{payloads, one_more}
use Rattle.vault.specs.Standing as vaults
use Rattle.vault.specs.Folded as folded
use Rattle.vault.specs.Calls as calls
use Rattle.vault.specs.Stops as stops
use Rattle.row_store.specs.declared.device.RowDev.{RowDev}
use Rattle.row_store.specs.declared.fault.RowFault.{RowFault}
use Rattle.row_store.specs.declared.fault.RowFault.TheVariants.{NoRow, Disk, Down, Memory}
use Rattle.row_store.specs.Fault.{fault_of}
use Rattle.row_store.specs.Data.{TableData, data_of}
use Rattle.row_store.specs.Memory.{Fits, HasSpare}

abbrev pub vault_of : {D : Type 0} → RowDev D → Vault D
vault_of dev = folded.vault_of dev.inner

-- What a device holds of its table. While it is down it is what stands there by chance.
abbrev pub held : {D : Type 0} → (D → DiskState) → RowDev D → TableData
held state dev = data_of (payloads state (vault_of dev))

-- how often a row was read from the disk
abbrev pub row_reads : {D : Type 0} → RowDev D → ℕ
row_reads dev = dev.reads

-- each look-up that goes to the disk is one read of a row
abbrev pub reads_after : {T : Type 0} → ℕ → Result T RowFault → ℕ
reads_after count (Ok x) = one_more count
reads_after count (Err NoRow) = count
reads_after count (Err Disk) = one_more count
reads_after count (Err Down) = count
reads_after count (Err Memory) = one_more count

-- formatted, or looked at since the last restart
abbrev pub IsLookedAt : {D : Type 0} → (D → DiskState) → RowDev D → Type 0
IsLookedAt state dev = folded.IsLookedAt state Fits dev.inner

-- ready for puts
abbrev pub IsOpened : {D : Type 0} → (D → DiskState) → RowDev D → Type 0
IsOpened state dev = folded.IsOpened state Fits dev.inner

-- There is room for so many openings, and for so many puts whose payloads have so many bytes in all.
abbrev pub HasRoom : {D : Type 0} → (D → DiskState) → RowDev D → ℕ → ℕ → ℕ → Type 0
HasRoom state dev openings puts bytes = folded.HasRoom state HasSpare dev.inner openings puts bytes

-- Nothing has changed but room that was added, and the count of reads.
abbrev pub Stays : {D : Type 0} → (D → DiskState) → RowDev D → RowDev D → Type 0
Stays state old new = folded.Stays state Fits HasSpare old.inner new.inner

-- At every moment since the old state a crash leaves a table that has R.
abbrev pub Leaves : {D : Type 0} → (D → DiskState) → (D → ℕ → List ℕ → Type 0) → RowDev D → RowDev D
    → (TableData → Type 0) → Type 0
Leaves state images old new R = vaults.Leaves state images (vault_of old) (vault_of new) (λ list. R (data_of list))

-- ---- what the calls of a device promise of what it holds

abbrev pub Formats :
    {D : Type 0} → (D → DiskState) → (D → ℕ → List ℕ → Type 0) → RowDev D → RowDev D →
    Result (Unit {0}) RowFault → Type 0
Formats state images old new result =
    calls.Formats state images Fits HasSpare data_of fault_of old.inner new.inner old new result

abbrev pub Looks :
    {D : Type 0} → (D → DiskState) → (D → ℕ → List ℕ → Type 0) → RowDev D → RowDev D →
    Result (Unit {0}) RowFault → Type 0
Looks state images old new result =
    calls.Looks state images Fits HasSpare data_of fault_of old.inner new.inner old new result

abbrev pub Restarts : {D : Type 0} → (D → DiskState) → (D → ℕ → List ℕ → Type 0) → RowDev D → RowDev D → Type 0
Restarts state images old new = calls.Restarts state images data_of old.inner new.inner

abbrev pub OpensWrite :
    {D : Type 0} → (D → DiskState) → (D → ℕ → List ℕ → Type 0) → RowDev D → RowDev D →
    Result (Unit {0}) RowFault → Type 0
OpensWrite state images old new result =
    calls.OpensWrite state images Fits HasSpare data_of fault_of old.inner new.inner old new result

abbrev pub Reserves :
    {D : Type 0} → (D → DiskState) → (D → ℕ → List ℕ → Type 0) → ℕ → ℕ → RowDev D → RowDev D →
    Result (Unit {0}) RowFault → Type 0
Reserves state images puts bytes old new result =
    calls.Reserves state images Fits HasSpare data_of fault_of puts bytes old.inner new.inner old new result

-- the put of a payload of so many bytes, after which this is what it holds
abbrev pub Puts :
    {D : Type 0} → (D → DiskState) → (D → ℕ → List ℕ → Type 0) → ℕ → TableData → RowDev D → RowDev D →
    Result (Unit {0}) RowFault → Type 0
Puts state images bytes here old new result =
    calls.Appends state images Fits HasSpare data_of fault_of bytes here old.inner new.inner old new result

abbrev pub Gets :
    {D T : Type 0} → (D → DiskState) → (D → ℕ → List ℕ → Type 0) → RowDev D → RowDev D →
    Result T RowFault → Type 0
Gets state images old new result =
    calls.Reads state images Fits HasSpare data_of fault_of old.inner new.inner old new result

abbrev pub Stops :
    {D : Type 0} → (D → DiskState) → (D → ℕ → List ℕ → Type 0) → ℕ → ℕ → RowDev (FuseDisk D) → RowDev (FuseDisk D) →
    Type 0
Stops state images count pick old new = stops.Stops state images Fits HasSpare data_of count pick old.inner new.inner

-- the fuse of its disk is as new, and all else is as it was
abbrev pub Renews : {D : Type 0} → (D → DiskState) → (D → ℕ → List ℕ → Type 0) → RowDev (FuseDisk D)
    → RowDev (FuseDisk D)
    → Type 0
Renews state images old new = stops.Renews state images Fits HasSpare data_of old.inner new.inner
