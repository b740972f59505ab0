-- What a start makes of a plan that was cut short.
use Rattle.std.specs.Prelude.{◌≡◌, ◌⊎◌, ℕ, ◌+◌, ◌*◌, ◌<◌, ◌≤◌, false, if◌then◌else◌, List, [], ◌∷◌, Option, Some}
use Rattle.std.specs.Prelude.{None, IsSome}
use Rattle.std.specs.Prelude.{option_map, Result, OnOk, OnErr, IfOk, IfErr, IsErrOf}
use Rattle.disk_trait.specs.Calls.{DiskState}
use Rattle.held_value.specs.declared.local_name.LocalName.{LocalName}
use Rattle.chunk_store.specs.Standing as chunks
use Rattle.slot_store.specs.Standing as slots
use Rattle.plan_log.specs.declared.plan.Intend.{Intend}
use Rattle.plan_log.specs.declared.plan.Commit.{Commit}
use Rattle.plan_log.specs.Journal.{AtWork, Idle, Intended, Committed}
use Rattle.plan_log.specs.Standing as journals
use Rattle.client_journal.specs.declared.devs.Journal.{Journal}
use Rattle.client_journal.specs.declared.rolled.Rolled.{Rolled}
use Rattle.client_journal.specs.declared.fault.JournalFault.{JournalFault}
use Rattle.client_journal.specs.declared.fault.JournalFault.TheVariants.{Disk, Memory}
use Rattle.stab_base.specs.declared.chunk_name.ChunkName.{ChunkName}
use Rattle.client_journal.specs.Names.{Has}
use Rattle.client_journal.specs.Devs.{ClientDevs, chunk_of, local_in, Write}
use Rattle.client_journal.specs.Redone.{redone}
use Rattle.client_journal.specs.NamedSlots.{NamedSlots}
use Rattle.client_journal.specs.Agenda.{Runs, IsRedoing, recovery_writes, AreLeftovers}
use Rattle.client_journal.specs.Standing.{devs, writes_of, all_faults, AreUp, IsOneDown, AreLookedAt, AreSound}
use Rattle.client_journal.specs.Standing.{HaveOpenings, IsReady, DevsLeave}
use Rattle.client_journal.specs.TakesOn.{IsNotDisk}
use Rattle.client_journal.specs.Unset.{KeepsUnset}

-- What is told of the plan at work: a commit that is redone, by its table, its row and what it tells; or the row from
-- the Store whose chunks were being brought.
abbrev pub rolled_of : AtWork → Rolled
rolled_of Idle = record { redone = None; torn = None }
rolled_of (Intended intend) =
    record { redone = None; torn = if intend.server then Some (intend.table, intend.row) else None }
rolled_of (Committed commit) = record {
  redone = Some (record {
    table = commit.table;
    row = option_map (λ change. change.row) commit.row;
    tells = commit.tells;
  });
  torn = None;
}

-- one of these
abbrev pub Among : {X : Type 0} → X → List X → Type 0
Among x [] = ⊥
Among x (y ∷ ys) = (x ≡ y) ⊎ Among x ys

-- these names are those of the old ones that have a chunk
pub record AreStillThere (map : List (ChunkName × List ℕ)) (old : List LocalName) (names : List ChunkName)
    : Type 0 where
  pub only : (name : LocalName) → Among (chunk_of name) names → Has old name × IsSome (local_in map name)
  pub all : (name : LocalName) → Has old name → IsSome (local_in map name) → Among (chunk_of name) names

-- These are the writes that recover what the devices hold.
abbrev pub AreRecoveryWrites : ClientDevs → List Write → Type 0
AreRecoveryWrites d ws = (names : List LocalName) × AreLeftovers d names × (ws ≡ recovery_writes d names)

-- as a look leaves them: sound, with room for an opening of each vault, and no write to come
pub record IsStarting {D : Type 0} (state : D → DiskState) (client : Journal D) : Type 0 where
  pub looked : AreLookedAt state client
  pub sound : AreSound state client
  pub openings : HaveOpenings state client
  pub idle : writes_of client ≡ []

-- Nothing has changed but room that was added; or a disk has failed, and its device is down. A crash at any moment
-- leaves what was held.
pub record Starts {D T : Type 0} (state : D → DiskState) (images : D → ℕ → List ℕ → Type 0) (old new : Journal D)
    (result : Result T JournalFault) : Type 0 where
  pub agenda : writes_of new ≡ writes_of old
  pub same : IsNotDisk result → devs state new ≡ devs state old
  pub starting : IsNotDisk result → IsStarting state new
  pub counted : IsNotDisk result → all_faults state new ≡ all_faults state old
  pub disk : IsErrOf result Disk → (all_faults state old < all_faults state new) × IsOneDown new
  pub only : IfErr result (λ e. (e ≡ Disk) ⊎ (e ≡ Memory))
  pub chunks : chunks.Leaves state images old.chunks new.chunks (λ here. here ≡ chunks.chunks state old.chunks)
  pub slots : slots.Leaves state images old.slots new.slots (λ here. here ≡ slots.held state old.slots)
  pub journal : journals.Leaves state images old.journal new.journal (λ here. here ≡ journals.held state old.journal)
  pub fuse : KeepsUnset state old new

-- nothing was done
pub record StaysAtStart {D : Type 0} (state : D → DiskState) (old new : Journal D) : Type 0 where
  pub starting : IsStarting state new
  pub same : devs state new ≡ devs state old
  pub counted : all_faults state new ≡ all_faults state old

-- A recovery was taken on; or a disk failed, and its device is down; or memory was refused, and nothing was done.
pub record Recovers {D : Type 0} (state : D → DiskState) (images : D → ℕ → List ℕ → Type 0) (old new : Journal D)
    (result : Result Rolled JournalFault) : Type 0 where
  pub answer : IfOk result (λ rolled. rolled ≡ rolled_of (devs state old).journal.at_work)
  pub writes : OnOk result (AreRecoveryWrites (devs state old) (writes_of new))
  pub ready : OnOk result (IsReady state new (writes_of new))
  pub up : OnOk result (AreUp new)
  pub same : OnOk result (devs state new ≡ devs state old)
  pub counted : OnOk result (all_faults state new ≡ all_faults state old)
  -- where the devices have named slots, they do so behind each of these writes, and stand for the same
  pub runs : OnOk result ((meaning : LocalName → List ℕ) → NamedSlots meaning (devs state old)
      → Runs (IsRedoing meaning (redone (devs state old))) (devs state new) (writes_of new))
  -- a crash at any moment of the call leaves what was there
  pub any_moment : DevsLeave state images old new (λ d. d ≡ devs state old)
  pub idle : OnErr result (writes_of new ≡ [])
  pub memory : IsErrOf result Memory → StaysAtStart state old new
  pub disk : IsErrOf result Disk → IsOneDown new × (all_faults state old < all_faults state new)
  pub only : IfErr result (λ e. (e ≡ Disk) ⊎ (e ≡ Memory))
