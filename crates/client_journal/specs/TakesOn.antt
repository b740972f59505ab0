-- What the calls promise that take writes on, and do none.
use Rattle.std.specs.Prelude.{◌≡◌, ◌⊎◌, ◌↔◌, ℕ, ◌<◌, List, [], Result, OnOk, OnErr, IfOk, IfErr, IsErrOf}
use Rattle.disk_trait.specs.Calls.{DiskState}
use Rattle.stab_base.specs.declared.limits.TheConstants.{NUMBER_MAX}
use Rattle.chunk_store.specs.Standing as chunks
use Rattle.slot_store.specs.Standing as slots
use Rattle.plan_log.specs.Standing as journals
use Rattle.client_journal.specs.declared.devs.Journal.{Journal}
use Rattle.client_journal.specs.declared.fault.JournalFault.{JournalFault}
use Rattle.client_journal.specs.declared.fault.JournalFault.TheVariants.{Busy, Spent, Disk, Down, Memory}
use Rattle.client_journal.specs.Devs.{Write}
use Rattle.client_journal.specs.Plan.{plan_at_work}
use Rattle.client_journal.specs.Standing.{devs, writes_of, AreUp, IsOneDown, all_faults, IsReady, DevsLeave}
use Rattle.client_journal.specs.Unset.{KeepsUnset}

abbrev pub IsNotDisk : {T : Type 0} → Result T JournalFault → Type 0
IsNotDisk result = IsErrOf result Disk → ⊥

-- Nothing has changed but room that was added; or a disk has failed, and its device is down. A crash at any moment
-- leaves what was held.
pub record Waits {D T : Type 0} (state : D → DiskState) (images : D → ℕ → List ℕ → Type 0) (old new : Journal D)
    (result : Result T JournalFault) : Type 0 where
  pub agenda : writes_of new ≡ writes_of old
  pub same : IsNotDisk result → devs state new ≡ devs state old
  pub up : IsNotDisk result → AreUp new
  pub rests : IsNotDisk result → IsReady state new []
  pub counted : IsNotDisk result → all_faults state new ≡ all_faults state old
  pub disk : IsErrOf result Disk → (all_faults state old < all_faults state new) × IsOneDown new
  pub only : IfErr result (λ e. (e ≡ Disk) ⊎ (e ≡ Memory))
  pub chunks : chunks.Leaves state images old.chunks new.chunks (λ here. here ≡ chunks.chunks state old.chunks)
  pub slots : slots.Leaves state images old.slots new.slots (λ here. here ≡ slots.held state old.slots)
  pub journal : journals.Leaves state images old.journal new.journal (λ here. here ≡ journals.held state old.journal)
  pub fuse : KeepsUnset state old new

-- Whether writes can be taken on: each device is up, and none is to be done.
pub record IsFree {D : Type 0} (state : D → DiskState) (client : Journal D)
    (result : Result (Unit {0}) JournalFault) : Type 0 where
  pub free : OnOk result (AreUp client × (writes_of client ≡ []))
  pub down : IsErrOf result Down ↔ IsOneDown client
  pub busy : (plan : ℕ) → IsErrOf result (Busy plan) ↔ (AreUp client × (writes_of client ≡ [] → ⊥)
      × (plan ≡ plan_at_work (devs state client) (writes_of client)))
  pub only : IfErr result (λ e. (e ≡ Down) ⊎ ((plan : ℕ) × (e ≡ Busy plan)))

-- Writes are taken on, for which there is room; else nothing is. Each refusal has its cause, and `is_spent` is that of
-- `Spent`. What the devices hold stays, and a crash at any moment leaves it. After `Disk` one device is down, and what
-- it holds is known once it was looked at.
pub record TakesOn {D T : Type 0} (state : D → DiskState) (images : D → ℕ → List ℕ → Type 0) (is_spent : Type 0)
    (writes : T → List Write) (old new : Journal D) (result : Result T JournalFault) : Type 0 where
  pub taken : IfOk result (λ x. writes_of new ≡ writes x)
  pub ready : OnOk result (IsReady state new (writes_of new))
  pub up : OnOk result (AreUp new)
  pub refused : OnErr result (writes_of new ≡ writes_of old)
  pub same : IsNotDisk result → devs state new ≡ devs state old
  -- devices that were at rest still are where nothing was taken on
  pub rests : IsNotDisk result → AreUp old → writes_of old ≡ [] → IsReady state old []
      → AreUp new × IsReady state new (writes_of new)
  pub any_moment : AreUp old → DevsLeave state images old new (λ d. d ≡ devs state old)
  pub down : IsErrOf result Down ↔ IsOneDown old
  pub busy : (plan : ℕ) → IsErrOf result (Busy plan) ↔ (AreUp old × (writes_of old ≡ [] → ⊥)
      × (plan ≡ plan_at_work (devs state old) (writes_of old)))
  pub spent : (last : ℕ) → IsErrOf result (Spent last)
      ↔ (AreUp old × (writes_of old ≡ []) × is_spent × (last ≡ NUMBER_MAX))
  pub unchanged : IfErr result (λ e. (e ≡ Disk → ⊥) → (e ≡ Memory → ⊥) → new ≡ old)
  pub disk : IsErrOf result Disk → (all_faults state old < all_faults state new) × IsOneDown new
  pub counted : IsNotDisk result → all_faults state new ≡ all_faults state old
  pub fuse : KeepsUnset state old new
