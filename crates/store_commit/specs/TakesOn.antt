-- What the calls promise that take writes on, and do none.
use Rattle.std.specs.Prelude.{◌≡◌, ◌⊎◌, ◌↔◌, ℕ, ◌<◌, ◌≤◌, List, [], length, Option, None, IfSome, Result, Ok, Err}
use Rattle.std.specs.Prelude.{OnOk, OnErr, IfOk, IfErr, IsErrOf}
use Rattle.std.specs.Prelude.{Bool, false}
use Rattle.std.specs.List.{AllByRecursion, Contains}
use Rattle.disk_trait.specs.Calls.{DiskState}
use Rattle.vault.specs.Limit.{payload_most}
use Rattle.stab_base.specs.declared.row_version.RowVersion.{RowVersion}
use Rattle.chunk_store.specs.Standing as chunks
use Rattle.row_store.specs.declared.stored.StoredRow.{StoredRow}
use Rattle.row_store.specs.Data.{TableData, nothing_held, row_of}
use Rattle.row_store.specs.Spelling.{HasStoredSpelling, row_payload}
use Rattle.row_store.specs.Standing as rows
use Rattle.status_log.specs.Entry.{Entry, HasSpelling}
use Rattle.status_log.specs.Standing as logs
use Rattle.store_commit.specs.declared.devs.TableDevs.{TableDevs}
use Rattle.store_commit.specs.declared.fault.CommitFault.{CommitFault}
use Rattle.store_commit.specs.declared.fault.CommitFault.TheVariants.{Busy, Spent, Disk, Down, Memory}
use Rattle.store_commit.specs.Devs.{Devs, Write}
use Rattle.store_commit.specs.Standing.{devs, writes_of, AreUp, IsOneDown, all_faults, IsReady, DevsLeave, RowsLeave}
use Rattle.store_commit.specs.Update.{at_work, chunk_most}
use Rattle.store_commit.specs.Unset.{KeepsUnset}

abbrev pub IsNotDisk : {T : Type 0} → Result T CommitFault → Type 0
IsNotDisk result = IsErrOf result Disk → ⊥

-- a crash at any moment leaves of each device what it held
pub record AllLeave {D : Type 0} (state : D → DiskState) (images : D → ℕ → List ℕ → Type 0)
    (old new : TableDevs D) : Type 0 where
  pub chunks : chunks.Leaves state images old.chunks new.chunks (λ here. here ≡ chunks.chunks state old.chunks)
  pub rows : RowsLeave state images old new (λ held. held ≡ (devs state old).held)
  pub log : logs.Leaves state images old.log new.log (λ here. here ≡ logs.entry_open state old.log)

-- a crash at any moment leaves of each device nothing
pub record NoneLeave {D : Type 0} (state : D → DiskState) (images : D → ℕ → List ℕ → Type 0)
    (old new : TableDevs D) : Type 0 where
  pub chunks : chunks.Leaves state images old.chunks new.chunks (λ here. here ≡ [])
  pub rows : RowsLeave state images old new (λ held. held ≡ nothing_held)
  pub log : logs.Leaves state images old.log new.log (λ here. here ≡ None)

-- Nothing has changed but room that was added; or a disk has failed, and its device is down. A crash at any moment
-- leaves what was held.
pub record Waits {D T : Type 0} (state : D → DiskState) (images : D → ℕ → List ℕ → Type 0) (old new : TableDevs D)
    (result : Result T CommitFault) : Type 0 where
  pub agenda : writes_of new ≡ writes_of old
  pub same : IsNotDisk result → devs state new ≡ devs state old
  pub up : IsNotDisk result → AreUp new
  pub rests : IsNotDisk result → IsReady state new []
  pub counted : IsNotDisk result → all_faults state new ≡ all_faults state old
  pub disk : IsErrOf result Disk → (all_faults state old < all_faults state new) × IsOneDown new
  pub only : IfErr result (λ e. (e ≡ Disk) ⊎ (e ≡ Memory))
  pub chunks : chunks.Leaves state images old.chunks new.chunks (λ here. here ≡ chunks.chunks state old.chunks)
  pub rows : rows.Leaves state images old.rows new.rows (λ here. here ≡ rows.held state old.rows)
  pub log : logs.Leaves state images old.log new.log (λ here. here ≡ logs.entry_open state old.log)
  pub fuse : KeepsUnset state old new

-- the row that stands, if one does, as it was put
pub record IsStanding (held : TableData) (row : List ℕ) (found : Option StoredRow) : Type 0 where
  pub is : row_of held row ≡ found
  pub spelled : IfSome found HasStoredSpelling
  pub short : IfSome found (λ stored. length (row_payload stored) ≤ payload_most)

-- the greatest version of these rows but the hidden ones, 0 where there is none
pub record IsNewestOf (is_hidden : List ℕ → Bool) (rows : List RowVersion) (newest : ℕ) : Type 0 where
  pub greatest : (each : RowVersion) → Contains rows each → is_hidden each.row ≡ false → each.version ≤ newest
  pub attained : (newest ≡ 0) ⊎ ((each : RowVersion) × Contains rows each × (is_hidden each.row ≡ false)
      × (each.version ≡ newest))

-- What is known of an update that is worked out.
pub record IsPlan (entry : Entry) (fresh : List (List ℕ)) (stored : StoredRow) : Type 0 where
  pub spelled : HasSpelling entry
  pub row_spelled : HasStoredSpelling stored
  pub short : length (row_payload stored) ≤ payload_most
  pub few : length fresh ≤ 645176
  pub chunks : AllByRecursion (λ bytes. length bytes ≤ chunk_most) fresh

-- Whether writes can be taken on: each device is up, and none is to be done.
pub record IsFree {D : Type 0} (state : D → DiskState) (table : TableDevs D)
    (result : Result (Unit {0}) CommitFault) : Type 0 where
  pub free : OnOk result (AreUp table × (writes_of table ≡ []))
  pub down : IsErrOf result Down ↔ IsOneDown table
  pub busy : (version : ℕ) → IsErrOf result (Busy version) ↔ (AreUp table × (writes_of table ≡ [] → ⊥)
      × (version ≡ at_work (devs state table) (writes_of table)))
  pub only : IfErr result (λ e. (e ≡ Down) ⊎ ((version : ℕ) × (e ≡ Busy version)))

-- Writes are taken on, for which there is room; else nothing is. Each refusal has its cause, and `is_spent` is that of
-- `Spent`. What the devices hold stays, and a crash at any moment leaves it. After `Disk` one device is down, and what
-- it holds is known once it was looked at.
pub record TakesOn {D T : Type 0} (state : D → DiskState) (images : D → ℕ → List ℕ → Type 0) (is_spent : Type 0)
    (writes : T → List Write) (old new : TableDevs D) (result : Result T CommitFault) : Type 0 where
  pub taken : IfOk result (λ x. writes_of new ≡ writes x)
  pub ready : OnOk result (IsReady state new (writes_of new))
  pub up : OnOk result (AreUp new)
  pub refused : OnErr result (writes_of new ≡ writes_of old)
  pub same : IsNotDisk result → devs state new ≡ devs state old
  pub any_moment : AreUp old → DevsLeave state images old new (λ d. d ≡ devs state old)
  pub down : IsErrOf result Down ↔ IsOneDown old
  pub busy : (version : ℕ) → IsErrOf result (Busy version) ↔ (AreUp old × (writes_of old ≡ [] → ⊥)
      × (version ≡ at_work (devs state old) (writes_of old)))
  pub spent : IsErrOf result Spent → AreUp old × (writes_of old ≡ []) × is_spent
  pub unchanged : IfErr result (λ e. (e ≡ Disk → ⊥) → (e ≡ Memory → ⊥) → (e ≡ Spent → ⊥) → new ≡ old)
  pub disk : IsErrOf result Disk → (all_faults state old < all_faults state new) × IsOneDown new
  pub counted : IsNotDisk result → all_faults state new ≡ all_faults state old
  -- where memory was refused, they are at rest
  pub rests : IsErrOf result Memory → IsReady state new []
  pub leave : AreUp old → AllLeave state images old new
  pub fuse : KeepsUnset state old new
