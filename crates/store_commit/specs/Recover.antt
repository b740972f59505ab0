-- What a start makes of an update that was cut short.
use Rattle.std.specs.Prelude.{◌≡◌, ◌⊎◌, ℕ, ◌+◌, ◌*◌, ◌<◌, ◌≤◌, List, [], Some, None, IsSome, is_some, Result}
use Rattle.std.specs.Prelude.{OnOk, OnErr, IfOk, IfErr, IsErrOf}
use Rattle.std.specs.Prelude.{filter, not}
use Rattle.std.specs.BTreeSet.{BTreeSet, contains}
use Rattle.std.specs.VecDeque.{deque_len, deque_capacity}
use Rattle.disk_trait.specs.Calls.{DiskState}
use Rattle.stab_base.specs.declared.chunk_name.ChunkName.{ChunkName}
use Rattle.chunk_store.specs.Payload.{name_cmp}
use Rattle.chunk_store.specs.Standing.{chunk_in}
use Rattle.chunk_store.specs.Standing as chunks
use Rattle.row_store.specs.Data.{version_of}
use Rattle.status_log.specs.Entry.{Entry, entry_of}
use Rattle.status_log.specs.Standing as logs
use Rattle.store_commit.specs.declared.devs.TableDevs.{TableDevs}
use Rattle.store_commit.specs.declared.recovery.Recovery.{Recovery}
use Rattle.store_commit.specs.declared.recovery.Recovery.TheVariants.{Nothing, Forward, Back}
use Rattle.store_commit.specs.declared.fault.CommitFault.{CommitFault}
use Rattle.store_commit.specs.declared.fault.CommitFault.TheVariants.{Disk, Memory}
use Rattle.store_commit.specs.Devs.{Devs, Write}
use Rattle.store_commit.specs.NamedChunks.{Among, NamedChunks}
use Rattle.store_commit.specs.Agenda.{Runs, IsRecovering, recovery_writes, AreLeftovers}
use Rattle.store_commit.specs.Standing.{devs, writes_of, all_faults, AreUp, IsOneDown, AreLookedAt, AreSound}
use Rattle.store_commit.specs.Standing.{HaveOpenings}
use Rattle.store_commit.specs.Standing.{IsReady, DevsLeave, RowsLeave, NothingSpared, spared_of}

-- What was cut short: nothing; the entry of an update whose row was put; or the version of one whose row wasn't.
abbrev pub IsRecovery : Devs → Recovery → Type 0
IsRecovery d Nothing = d.pending ≡ None
IsRecovery d (Forward entry) = (d.pending ≡ Some (entry_of entry)) × (version_of d.held entry.row ≡ entry.version)
IsRecovery d (Back version) = (entry : Entry) × (d.pending ≡ Some entry) × (entry.version ≡ version)
    × (version_of d.held entry.row ≡ version → ⊥)

-- these names are those of the old ones that have a chunk
pub record AreStillThere (map : List (ChunkName × List ℕ)) (old names : List ChunkName) : Type 0 where
  pub only : (name : ChunkName) → Among name names → Among name old × IsSome (chunk_in map name)
  pub all : (name : ChunkName) → Among name old → IsSome (chunk_in map name) → Among name names

-- These are the writes that recover what the devices hold: of all that is left and still there each is dropped but what
-- is spared, and what is open is closed.
abbrev pub AreRecoveryWrites : BTreeSet ChunkName → Devs → List Write → Type 0
AreRecoveryWrites spared d ws = (names : List ChunkName) × AreLeftovers d names
    × (ws ≡ recovery_writes (filter (λ name. not (contains name_cmp spared name)) names) (is_some d.pending))

-- as a look leaves them: sound, with room for an opening of each vault, and no write to come
pub record IsStarting {D : Type 0} (state : D → DiskState) (table : TableDevs D) : Type 0 where
  pub looked : AreLookedAt state table
  pub sound : AreSound state table
  pub openings : HaveOpenings state table
  pub idle : writes_of table ≡ []

-- nothing was done
pub record StaysAtStart {D : Type 0} (state : D → DiskState) (old new : TableDevs D) : Type 0 where
  pub starting : IsStarting state new
  pub same : devs state new ≡ devs state old
  pub counted : all_faults state new ≡ all_faults state old

-- room for so many drops, and for a close
pub record MakesRoom {D : Type 0} (state : D → DiskState) (images : D → ℕ → List ℕ → Type 0) (drops : ℕ)
    (old new : TableDevs D) (result : Result (Unit {0}) CommitFault) : Type 0 where
  pub stays : OnOk result (StaysAtStart state old new)
  pub chunk_room : OnOk result (chunks.HasRoom state new.chunks 1 drops (13 * drops))
  pub log_room : OnOk result (logs.HasRoom state new.log 1 1 9)
  pub agenda_room : OnOk result (deque_len new.agenda + (drops + 4) ≤ deque_capacity new.agenda)
  pub any_moment : DevsLeave state images old new (λ d. d ≡ devs state old)
  pub idle : writes_of new ≡ []
  pub memory : IsErrOf result Memory → StaysAtStart state old new
  pub disk : IsErrOf result Disk → IsOneDown new × (all_faults state old < all_faults state new)
  pub only : IfErr result (λ e. (e ≡ Disk) ⊎ (e ≡ Memory))

-- A recovery was taken on; or a disk failed, and its device is down; or memory was refused, and nothing was done.
pub record Recovers {D : Type 0} (state : D → DiskState) (images : D → ℕ → List ℕ → Type 0) (old new : TableDevs D)
    (result : Result Recovery CommitFault) : Type 0 where
  pub answer : IfOk result (IsRecovery (devs state old))
  pub writes : OnOk result (AreRecoveryWrites (spared_of old) (devs state old) (writes_of new))
  pub ready : OnOk result (IsReady state new (writes_of new))
  pub up : OnOk result (AreUp new)
  pub same : OnOk result (devs state new ≡ devs state old)
  pub counted : OnOk result (all_faults state new ≡ all_faults state old)
  -- where the devices have named chunks and nothing is spared, they do so behind each of these writes, and their rows
  -- stay
  pub runs : OnOk result ((meaning : ChunkName → List ℕ) → NothingSpared old → NamedChunks meaning (devs state old)
      → Runs (IsRecovering meaning (devs state old).held) (devs state new) (writes_of new))
  -- a crash at any moment of the call leaves what was there
  pub any_moment : DevsLeave state images old new (λ d. d ≡ devs state old)
  pub rows_left : RowsLeave state images old new (λ held. held ≡ (devs state old).held)
  pub idle : OnErr result (writes_of new ≡ [])
  pub memory : IsErrOf result Memory → StaysAtStart state old new
  pub disk : IsErrOf result Disk → IsOneDown new × (all_faults state old < all_faults state new)
  pub only : IfErr result (λ e. (e ≡ Disk) ⊎ (e ≡ Memory))
