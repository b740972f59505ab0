-- What is done to a node's devices in a call.
use Rattle.std.specs.Prelude.{◌≡◌, ℕ, ◌<◌, List, Result, OnErr, IsErrOf}
use Rattle.disk_trait.specs.Calls.{DiskState}
use Rattle.client_journal.specs.declared.devs.Journal.{Journal}
use Rattle.client_journal.specs.Standing.{devs, writes_of, all_faults, AreUp, IsReady}
use Rattle.client_journal.specs.Asking.{AllLeave}
use Rattle.client_journal.specs.Unset.{KeepsUnset}
use Rattle.client_node.specs.declared.fault.CallFault.{CallFault}
use Rattle.client_node.specs.declared.fault.CallFault.TheVariants.{Disk}

abbrev pub IsNotDisk : {T : Type 0} → Result T CallFault → Type 0
IsNotDisk result = IsErrOf result Disk → ⊥

-- Writes may be taken on where no fault is told; or a disk has failed. What the devices hold stays, and a crash at any
-- moment leaves it.
pub record Serves {D T : Type 0} (state : D → DiskState) (images : D → ℕ → List ℕ → Type 0) (old new : Journal D)
    (result : Result T CallFault) : Type 0 where
  pub same : IsNotDisk result → devs state new ≡ devs state old
  pub up : IsNotDisk result → AreUp new
  pub ready : IsNotDisk result → IsReady state new (writes_of new)
  pub refused : OnErr result (writes_of new ≡ writes_of old)
  pub counted : IsNotDisk result → all_faults state new ≡ all_faults state old
  pub disk : IsErrOf result Disk → all_faults state old < all_faults state new
  pub leave : AllLeave state images old new
  pub fuse : KeepsUnset state old new

-- The devices are only read.
pub record Looks {D T : Type 0} (state : D → DiskState) (images : D → ℕ → List ℕ → Type 0) (old new : Journal D)
    (result : Result T CallFault) : Type 0 where
  pub serves : Serves state images old new result
  pub agenda : writes_of new ≡ writes_of old
