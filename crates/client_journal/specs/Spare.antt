-- A recovery that spares the chunks of rows that are there.
use Rattle.std.specs.Prelude.{◌≡◌, ◌⊎◌, ℕ, ◌<◌, Bool, true, false, not, List, [], filter, Result, OnOk, OnErr, IfOk}
use Rattle.std.specs.Prelude.{IfErr, IsErrOf}
use Rattle.std.specs.BTreeSet.{BTreeSet, contains}
use Rattle.disk_trait.specs.Calls.{DiskState}
use Rattle.held_value.specs.declared.local_name.LocalName.{LocalName}
use Rattle.chunk_store.specs.Payload.{name_cmp}
use Rattle.stab_base.specs.declared.chunk_name.ChunkName.{ChunkName}
use Rattle.client_journal.specs.declared.devs.Journal.{Journal}
use Rattle.client_journal.specs.declared.rolled.Rolled.{Rolled}
use Rattle.client_journal.specs.declared.scanned.Scanned.{Scanned}
use Rattle.client_journal.specs.declared.fault.JournalFault.{JournalFault}
use Rattle.client_journal.specs.declared.fault.JournalFault.TheVariants.{Disk, Memory}
use Rattle.client_journal.specs.Devs.{ClientDevs, chunk_of, local_in, Write, DropChunk, changed_by_all}
use Rattle.client_journal.specs.Redone.{redone}
use Rattle.client_journal.specs.NamedSlots.{NamedSlots}
use Rattle.client_journal.specs.Agenda.{Runs, IsRedoing}
use Rattle.client_journal.specs.Standing.{devs, writes_of, all_faults, AreUp, IsOneDown, IsReady, DevsLeave}
use Rattle.client_journal.specs.Recover.{rolled_of, AreRecoveryWrites, StaysAtStart}
use Rattle.client_journal.specs.Scan.{IsFound}

-- whether a set has the name of a chunk
abbrev pub is_in : BTreeSet ChunkName → LocalName → Bool
is_in set name = contains name_cmp set (chunk_of name)

-- it drops a chunk that is named
abbrev pub spares : (LocalName → Bool) → Write → Bool
spares is_named (DropChunk name) = is_named name
spares is_named _ = false

-- without the drops of chunks that are named
abbrev pub unspared : (LocalName → Bool) → List Write → List Write
unspared is_named ws = filter (λ w. not (spares is_named w)) ws

-- These are the writes that recover what the devices hold, without the drops of chunks that are named.
abbrev pub AreSparing : (LocalName → Bool) → ClientDevs → List Write → Type 0
AreSparing is_named d ws = (all : List Write) × AreRecoveryWrites d all × (ws ≡ unspared is_named all)

-- A recovery was taken on, which spares what a scan has found named; or a disk failed, and its device is down; or
-- memory was refused, and nothing was done.
pub record Spares {D : Type 0} (state : D → DiskState) (images : D → ℕ → List ℕ → Type 0) (scanned : Scanned)
    (old new : Journal D) (result : Result Rolled JournalFault) : Type 0 where
  pub answer : IfOk result (λ rolled. rolled ≡ rolled_of (devs state old).journal.at_work)
  pub writes : OnOk result (AreSparing (is_in scanned.named) (devs state old) (writes_of new))
  pub ready : OnOk result (IsReady state new (writes_of new))
  pub up : OnOk result (AreUp new)
  pub same : OnOk result (devs state new ≡ devs state old)
  pub counted : OnOk result (all_faults state new ≡ all_faults state old)
  -- behind the writes each chunk that is named is what it was
  pub spared : OnOk result ((name : LocalName) → is_in scanned.named name ≡ true
      → local_in (changed_by_all (devs state new) (writes_of new)).chunks name
      ≡ local_in (devs state old).chunks name)
  -- where the devices have named slots, nothing is spared: they do so behind each of these writes, and stand for the
  -- same
  pub runs : OnOk result ((meaning : LocalName → List ℕ) → NamedSlots meaning (devs state old)
      → IsFound (devs state old) scanned
      → AreRecoveryWrites (devs state old) (writes_of new)
      × Runs (IsRedoing meaning (redone (devs state old))) (devs state new) (writes_of new))
  -- a crash at any moment of the call leaves what was there
  pub any_moment : DevsLeave state images old new (λ d. d ≡ devs state old)
  pub idle : OnErr result (writes_of new ≡ [])
  pub memory : IsErrOf result Memory → StaysAtStart state old new
  pub disk : IsErrOf result Disk → IsOneDown new × (all_faults state old < all_faults state new)
  pub only : IfErr result (λ e. (e ≡ Disk) ⊎ (e ≡ Memory))
