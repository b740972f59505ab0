-- What a declaration and a start do to a table's devices.
use Rattle.std.specs.Prelude.{◌≡◌, ℕ, ◌==◌, if◌then◌else◌, List, [], Option, Some, None, Result, Ok, Err, OnOk, IfOk}
use Rattle.disk_trait.specs.Calls.{DiskState}
use Rattle.row_value.specs.declared.schema.Schema.{Schema}
use Rattle.vault.specs.Calls.{IsEither}
use Rattle.table_model.specs.declared.table_state.TableState.{TableState}
use Rattle.table_model.specs.declared.table_state.TableState.TheVariants.{Draft, Live, Dropped}
use Rattle.chunk_store.specs.Standing as chunks
use Rattle.row_store.specs.Data.{nothing_held, with_table}
use Rattle.status_log.specs.Standing as logs
use Rattle.store_commit.specs.declared.devs.TableDevs.{TableDevs}
use Rattle.store_commit.specs.declared.recovery.Recovery.{Recovery}
use Rattle.store_commit.specs.declared.fault.CommitFault.{CommitFault}
use Rattle.store_commit.specs.Devs.{Devs, PutTable, changed_by}
use Rattle.store_commit.specs.Recover.{IsRecovery}
use Rattle.store_commit.specs.Rising.{AreRisingWrites}
use Rattle.store_commit.specs.Standing.{devs, writes_of, nothing, AreUp, AreSound, AreSynced, IsReady, DevsLeave}
use Rattle.store_commit.specs.Standing.{RowsLeave, NothingHidden}
use Rattle.store_commit.specs.Unset.{KeepsUnset, HasCause}
use Rattle.device_laws.specs.Stands.{state_number}
use Rattle.store_node.specs.declared.devices.Resumed.{Resumed}

-- what the devices of a table hold that was declared in this state, and has no rows
abbrev pub no_rows : Schema → TableState → Devs
no_rows schema stage =
    record { chunks = []; held = with_table nothing_held schema (state_number stage); pending = None }

-- A crash at any moment since the old devices leaves nothing, or the record of the table alone.
pub record LeavesNoRows {D : Type 0} (state : D → DiskState) (images : D → ℕ → List ℕ → Type 0) (schema : Schema)
    (stage : TableState) (old new : TableDevs D) : Type 0 where
  pub any_moment : DevsLeave state images old new (IsEither nothing (no_rows schema stage))
  pub rows_left : RowsLeave state images old new (IsEither nothing_held (no_rows schema stage).held)

-- The disks hold nothing, or the record of the table alone, and not by chance, and all of it is on them.
pub record HoldNone {D : Type 0} (state : D → DiskState) (schema : Schema) (stage : TableState) (table : TableDevs D)
    : Type 0 where
  pub held : IsEither nothing (no_rows schema stage) (devs state table)
  pub sound : AreSound state table
  pub synced : AreSynced state table

-- The devices are those of a table in this state with no rows, and at rest. Where their disks were such, no crash
-- leaves more.
pub record MakesTable {D : Type 0} (state : D → DiskState) (images : D → ℕ → List ℕ → Type 0) (were_such : Type 0)
    (schema : Schema) (stage : TableState) (old new : TableDevs D) (result : Result (Unit {0}) CommitFault)
    : Type 0 where
  pub held : OnOk result (devs state new ≡ no_rows schema stage)
  pub ready : OnOk result (IsReady state new [])
  pub idle : OnOk result (writes_of new ≡ [])
  pub up : OnOk result (AreUp new)
  pub hidden : OnOk result (NothingHidden new)
  pub fuse : KeepsUnset state old new
  pub cause : HasCause state old new result
  pub none : were_such → LeavesNoRows state images schema stage old new

-- The record of a table in this state is put on devices at rest, and they are at rest again. A crash at any moment
-- leaves of the rows' disk what was held without it or with it, and of the others what they held.
pub record PutsRecord {D : Type 0} (state : D → DiskState) (images : D → ℕ → List ℕ → Type 0) (schema : Schema)
    (stage : TableState) (old new : TableDevs D) (result : Result (Unit {0}) CommitFault) : Type 0 where
  pub held : OnOk result (devs state new ≡ changed_by (devs state old) (PutTable schema (state_number stage)))
  pub ready : OnOk result (IsReady state new [])
  pub idle : OnOk result (writes_of new ≡ [])
  pub up : OnOk result (AreUp new)
  pub hidden : NothingHidden old → OnOk result (NothingHidden new)
  pub fuse : KeepsUnset state old new
  pub cause : HasCause state old new result
  pub chunks : chunks.Leaves state images old.chunks new.chunks (λ here. here ≡ chunks.chunks state old.chunks)
  pub rows : RowsLeave state images old new
      (IsEither (devs state old).held (with_table (devs state old).held schema (state_number stage)))
  pub log : logs.Leaves state images old.log new.log (λ here. here ≡ logs.entry_open state old.log)

-- the state of this number
abbrev pub state_of : ℕ → TableState
state_of number = if number == 1 then Draft else (if number == 2 then Live else Dropped)

-- the state that a record has
abbrev pub state_in : Option (Schema × ℕ) → TableState
state_in None = Draft
state_in (Some found) = state_of found.1

-- The writes of a start are taken on; else a crash since some moment leaves what was held. A crash at any moment leaves
-- the rows.
pub record BeginsStart {D : Type 0} (state : D → DiskState) (images : D → ℕ → List ℕ → Type 0) (old new : TableDevs D)
    (result : Result Recovery CommitFault) : Type 0 where
  pub answer : IfOk result (IsRecovery (devs state old))
  pub writes : OnOk result (AreRisingWrites (devs state old) (writes_of new))
  pub ready : OnOk result (IsReady state new (writes_of new))
  pub up : OnOk result (AreUp new)
  pub same : OnOk result (devs state new ≡ devs state old)
  pub hidden : OnOk result (NothingHidden new)
  pub fuse : KeepsUnset state old new
  pub cause : HasCause state old new result
  pub left : (start : TableDevs D) × DevsLeave state images start new (λ d. d ≡ devs state old)
  pub rows_left : RowsLeave state images old new (λ held. held ≡ (devs state old).held)

abbrev pub recovery_in : Result Resumed CommitFault → Result Recovery CommitFault
recovery_in (Ok resumed) = Ok resumed.recovery
recovery_in (Err e) = Err e

-- The same, with the state that the table's record has.
pub record Resumes {D : Type 0} (state : D → DiskState) (images : D → ℕ → List ℕ → Type 0) (old new : TableDevs D)
    (result : Result Resumed CommitFault) : Type 0 where
  pub begins : BeginsStart state images old new (recovery_in result)
  pub stage : IfOk result (λ resumed. resumed.state ≡ state_in (devs state old).held.table)
