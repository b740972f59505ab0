-- What the readers of a client's devices promise.
use Rattle.std.specs.Prelude.{◌≡◌, ◌⊎◌, ◌↔◌, ℕ, ◌<◌, List, Option, Some, None, IsSome, Result, IfErr}
use Rattle.std.specs.Prelude.{IsErrOf}
use Rattle.std.specs.List.{Contains}
use Rattle.disk_trait.specs.Calls.{DiskState}
use Rattle.vault.specs.Standing.{gets, one_more}
use Rattle.chunk_store.specs.Standing as chunks
use Rattle.slot_store.specs.Data.{SlotData, slots_of}
use Rattle.slot_store.specs.Standing as slots
use Rattle.plan_log.specs.declared.plan.Commit.{Commit}
use Rattle.plan_log.specs.Journal.{AtWork, Idle, Intended, Committed}
use Rattle.plan_log.specs.Standing as journals
use Rattle.client_journal.specs.declared.devs.Journal.{Journal}
use Rattle.client_journal.specs.declared.fault.JournalFault.{JournalFault}
use Rattle.client_journal.specs.declared.fault.JournalFault.TheVariants.{Disk, Down, Memory}
use Rattle.client_journal.specs.Redone.{applied}
use Rattle.client_journal.specs.Standing.{devs, writes_of, all_faults, AreUp, IsOneDown, AreSound, DevsLeave}
use Rattle.client_journal.specs.TakesOn.{IsNotDisk}
use Rattle.client_journal.specs.Unset.{KeepsUnset}

-- the commit at work
abbrev pub commit_of : AtWork → Option Commit
commit_of Idle = None
commit_of (Intended intend) = None
commit_of (Committed commit) = Some commit

-- what is held, with a commit applied to it
abbrev pub applied_if : Option Commit → SlotData → SlotData
applied_if None held = held
applied_if (Some commit) held = applied commit held

-- ---- ids of rows

-- the same ids stand in both
pub record HaveSameIds (a b : List (List ℕ)) : Type 0 where
  pub only : (id : List ℕ) → Contains a id → Contains b id
  pub all : (id : List ℕ) → Contains b id → Contains a id

-- the rows of a table that have slots, and this one
pub record HasRowMore (before after : SlotData) (table : ℕ) (row : List ℕ) : Type 0 where
  pub only : (id : List ℕ) → IsSome (slots_of after table id) → IsSome (slots_of before table id) ⊎ (id ≡ row)
  pub all : (id : List ℕ) → IsSome (slots_of before table id) ⊎ (id ≡ row) → IsSome (slots_of after table id)

-- ---- the calls

-- nothing has changed but room that was added, and counts of reads
pub record AllStay {D : Type 0} (state : D → DiskState) (old new : Journal D) : Type 0 where
  pub chunks : chunks.Stays state old.chunks new.chunks
  pub slots : slots.Stays state old.slots new.slots
  pub journal : journals.Stays state old.journal new.journal

-- a crash at any moment leaves of each device what it held
pub record AllLeave {D : Type 0} (state : D → DiskState) (images : D → ℕ → List ℕ → Type 0) (old new : Journal D)
    : Type 0 where
  pub chunks : chunks.Leaves state images old.chunks new.chunks (λ here. here ≡ chunks.chunks state old.chunks)
  pub slots : slots.Leaves state images old.slots new.slots (λ here. here ≡ slots.held state old.slots)
  pub journal : journals.Leaves state images old.journal new.journal (λ here. here ≡ journals.held state old.journal)

-- A call of devices that are up: they stay, or a disk failed and its device is down.
pub record Reads {D T : Type 0} (state : D → DiskState) (images : D → ℕ → List ℕ → Type 0) (old new : Journal D)
    (result : Result T JournalFault) : Type 0 where
  pub stay : IsNotDisk result → AllStay state old new
  pub counted : IsNotDisk result → all_faults state new ≡ all_faults state old
  pub disk : IsErrOf result Disk → (all_faults state old < all_faults state new) × IsOneDown new
  pub only : IfErr result (λ e. (e ≡ Disk) ⊎ (e ≡ Memory))
  -- a crash at any moment leaves what was held
  pub chunks : AreSound state old
      → chunks.Leaves state images old.chunks new.chunks (λ here. here ≡ chunks.chunks state old.chunks)
  pub slots : AreSound state old
      → slots.Leaves state images old.slots new.slots (λ here. here ≡ slots.held state old.slots)
  pub journal : AreSound state old
      → journals.Leaves state images old.journal new.journal (λ here. here ≡ journals.held state old.journal)
  pub agenda : writes_of new ≡ writes_of old
  pub fuse : KeepsUnset state old new

-- A call that writes nothing: the devices stay, or a disk failed and its device is down. Each refusal has its cause.
pub record Asks {D T : Type 0} (state : D → DiskState) (images : D → ℕ → List ℕ → Type 0) (old new : Journal D)
    (result : Result T JournalFault) : Type 0 where
  pub stay : IsNotDisk result → AllStay state old new
  pub same : IsNotDisk result → devs state new ≡ devs state old
  pub counted : IsNotDisk result → all_faults state new ≡ all_faults state old
  pub disk : IsErrOf result Disk → (all_faults state old < all_faults state new) × IsOneDown new
  pub down : IsErrOf result Down ↔ IsOneDown old
  pub unchanged : IsErrOf result Down → new ≡ old
  pub only : IfErr result (λ e. (e ≡ Disk) ⊎ ((e ≡ Down) ⊎ (e ≡ Memory)))
  -- a crash at any moment leaves what was held
  pub any_moment : AreUp old → AreSound state old → DevsLeave state images old new (λ d. d ≡ devs state old)
  -- so calls can be put together, one after the other
  pub leave : AreUp old → AreSound state old → AllLeave state images old new
  pub agenda : writes_of new ≡ writes_of old
  pub fuse : KeepsUnset state old new

-- a count stayed, or rose by one where it isn't at its end
abbrev pub IsOnceMore : ℕ → ℕ → Type 0
IsOnceMore before after = (after ≡ before) ⊎ (after ≡ one_more before)

-- slots are read once at most, and the commit at work, and no chunk
pub record ReadsOnce {D : Type 0} (old new : Journal D) : Type 0 where
  pub chunks : new.chunks ≡ old.chunks
  pub slots : IsOnceMore (gets (slots.vault_of old.slots)) (gets (slots.vault_of new.slots))
  pub journal : IsOnceMore (gets (journals.vault_of old.journal)) (gets (journals.vault_of new.journal))
