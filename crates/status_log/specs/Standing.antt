-- A status log between calls, as its open entry. How its disk stands is said of its vault.
use Rattle.std.specs.Prelude.{ℕ, List, Option, Result}
use Rattle.disk_trait.specs.Calls.{DiskState}
use Rattle.disk_trait.specs.declared.fuse.FuseDisk.{FuseDisk}
use Rattle.vault.specs.declared.vault.Vault.{Vault}
use Rattle.vault.specs.Standing.{payloads}
use Rattle.vault.specs.Standing as vaults
use Rattle.vault.specs.Folded as folded
use Rattle.vault.specs.Calls as calls
use Rattle.vault.specs.Stops as stops
use Rattle.status_log.specs.declared.device.StatusLog.{StatusLog}
use Rattle.status_log.specs.declared.fault.LogFault.{LogFault}
use Rattle.status_log.specs.Fault.{fault_of}
use Rattle.status_log.specs.Entry.{Entry}
use Rattle.status_log.specs.Payload.{pending_of}
use Rattle.status_log.specs.Memory.{Fits, HasSpare}

abbrev pub vault_of : {D : Type 0} → StatusLog D → Vault D
vault_of log = folded.vault_of log.inner

-- The open entry of a log. While it is down it is what stands there by chance.
abbrev pub entry_open : {D : Type 0} → (D → DiskState) → StatusLog D → Option Entry
entry_open state log = pending_of (payloads state (vault_of log))

-- formatted, or looked at since the last restart
abbrev pub IsLookedAt : {D : Type 0} → (D → DiskState) → StatusLog D → Type 0
IsLookedAt state log = folded.IsLookedAt state Fits log.inner

-- ready for writes
abbrev pub IsOpened : {D : Type 0} → (D → DiskState) → StatusLog D → Type 0
IsOpened state log = folded.IsOpened state Fits log.inner

-- There is room for so many openings of the log, and for so many writes whose payloads have so many bytes in all.
abbrev pub HasRoom : {D : Type 0} → (D → DiskState) → StatusLog D → ℕ → ℕ → ℕ → Type 0
HasRoom state log openings puts bytes = folded.HasRoom state HasSpare log.inner openings puts bytes

-- Nothing has changed but room that was added.
abbrev pub Stays : {D : Type 0} → (D → DiskState) → StatusLog D → StatusLog D → Type 0
Stays state old new = folded.Stays state Fits HasSpare old.inner new.inner

-- At every moment since the old state a crash leaves an open entry, or none, that has R.
abbrev pub Leaves : {D : Type 0} → (D → DiskState) → (D → ℕ → List ℕ → Type 0) → StatusLog D → StatusLog D
    → (Option Entry → Type 0) → Type 0
Leaves state images old new R = vaults.Leaves state images (vault_of old) (vault_of new) (λ list. R (pending_of list))

-- ---- what the calls of a device promise of what it holds

abbrev pub Formats :
    {D : Type 0} → (D → DiskState) → (D → ℕ → List ℕ → Type 0) → StatusLog D → StatusLog D →
    Result (Unit {0}) LogFault → Type 0
Formats state images old new result =
    calls.Formats state images Fits HasSpare pending_of fault_of old.inner new.inner old new result

abbrev pub Looks :
    {D : Type 0} → (D → DiskState) → (D → ℕ → List ℕ → Type 0) → StatusLog D → StatusLog D →
    Result (Unit {0}) LogFault → Type 0
Looks state images old new result =
    calls.Looks state images Fits HasSpare pending_of fault_of old.inner new.inner old new result

abbrev pub Restarts : {D : Type 0} → (D → DiskState) → (D → ℕ → List ℕ → Type 0) → StatusLog D → StatusLog D → Type 0
Restarts state images old new = calls.Restarts state images pending_of old.inner new.inner

abbrev pub OpensWrite :
    {D : Type 0} → (D → DiskState) → (D → ℕ → List ℕ → Type 0) → StatusLog D → StatusLog D →
    Result (Unit {0}) LogFault → Type 0
OpensWrite state images old new result =
    calls.OpensWrite state images Fits HasSpare pending_of fault_of old.inner new.inner old new result

abbrev pub Reserves :
    {D : Type 0} → (D → DiskState) → (D → ℕ → List ℕ → Type 0) → ℕ → ℕ → StatusLog D → StatusLog D →
    Result (Unit {0}) LogFault → Type 0
Reserves state images puts bytes old new result =
    calls.Reserves state images Fits HasSpare pending_of fault_of puts bytes old.inner new.inner old new result

-- the put of a payload of so many bytes, after which this is what it holds
abbrev pub Puts :
    {D : Type 0} → (D → DiskState) → (D → ℕ → List ℕ → Type 0) → ℕ → Option Entry → StatusLog D → StatusLog D →
    Result (Unit {0}) LogFault → Type 0
Puts state images bytes entry old new result =
    calls.Appends state images Fits HasSpare pending_of fault_of bytes entry old.inner new.inner old new result

abbrev pub Gets :
    {D T : Type 0} → (D → DiskState) → (D → ℕ → List ℕ → Type 0) → StatusLog D → StatusLog D →
    Result T LogFault → Type 0
Gets state images old new result =
    calls.Reads state images Fits HasSpare pending_of fault_of old.inner new.inner old new result

abbrev pub Stops :
    {D : Type 0} → (D → DiskState) → (D → ℕ → List ℕ → Type 0) → ℕ → ℕ → StatusLog (FuseDisk D)
    → StatusLog (FuseDisk D) →
    Type 0
Stops state images count pick old new = stops.Stops state images Fits HasSpare pending_of count pick old.inner new.inner

-- the fuse of its disk is as new, and all else is as it was
abbrev pub Renews : {D : Type 0} → (D → DiskState) → (D → ℕ → List ℕ → Type 0) → StatusLog (FuseDisk D)
    → StatusLog (FuseDisk D)
    → Type 0
Renews state images old new = stops.Renews state images Fits HasSpare pending_of old.inner new.inner

abbrev pub Refuses : {D T : Type 0} → (D → DiskState) → StatusLog D → StatusLog D → Result T LogFault → Type 0
Refuses state old new result = calls.Refuses state fault_of (vault_of old) (vault_of new) old new result
