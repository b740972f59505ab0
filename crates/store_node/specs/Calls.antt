-- What the calls of a table's node promise, in the moves of the Store's step table.
use Rattle.std.specs.Prelude.{◌≡◌, ◌⊎◌, ◌↔◌, ℕ, ◌<◌, ◌≤◌, ◌++◌, List, [], ◌∷◌, length, Option, Some, None, Result, OnOk}
use Rattle.std.specs.Prelude.{option_map, OnErr, IfOk, IfErr, IsErrOf, true, false}
use Rattle.disk_trait.specs.Calls.{DiskState}
use Rattle.disk_trait.specs.Fuse.{behind, inner_of}
use Rattle.disk_trait.specs.declared.fuse.FuseDisk.{FuseDisk}
use Rattle.vault.specs.Calls.{IsEither}
use Rattle.row_store.specs.Data.{TableData}
use Rattle.stab_base.specs.declared.limits.TheConstants.{NUMBER_MAX}
use Rattle.stab_base.specs.declared.node.Node.{Node}
use Rattle.stab_base.specs.declared.step.Step.{Step}
use Rattle.stab_base.specs.declared.step.Step.TheVariants as steps
use Rattle.row_value.specs.declared.schema.Scheme.{Scheme}
use Rattle.store_commit.specs.declared.devs.TableDevs.{TableDevs}
use Rattle.store_commit.specs.Devs.{Devs}
use Rattle.store_commit.specs.Standing.{devs, writes_of, AreUp, AreSound, AreSynced, DevsLeave, RowsLeave}
use Rattle.store_commit.specs.Unset.{AreFresh}
use Rattle.step_tables.specs.StoreMoves.{StoreDisk, StoreTask, TableStore, StoreStep, StoreMove, SidePut, Take, Place}
use Rattle.step_tables.specs.StoreMoves.{Work, Crash, Start, store_step, yours_in, version_at, new_disk}
use Rattle.step_tables.specs.StoreMoves as moves
use Rattle.step_tables.specs.Facts as facts
use Rattle.step_tables.specs.Messages.{Done, FailedBefore, FailedAfter}
use Rattle.step_tables.specs.Store.{Stored, current_of}
use Rattle.step_tables.specs.Travels.{message_of}
use Rattle.step_tables.specs.declared.message.Message.{Message}
use Rattle.step_tables.specs.declared.message.Message.TheVariants as kinds
use Rattle.store_node.specs.declared.fault.NodeFault.{NodeFault}
use Rattle.store_node.specs.declared.fault.NodeFault.TheVariants.{Busy, Spent, Disk, Memory}
use Rattle.store_node.specs.declared.node.TableNode.{TableNode}
use Rattle.store_node.specs.declared.showing.ShownRow.{ShownRow}
use Rattle.store_node.specs.declared.showing.WholeRow.{WholeRow}
use Rattle.device_laws.specs.Stands.{pair_in}
use Rattle.store_node.specs.Reading.{shown_of}
use Rattle.store_node.specs.Node.{IsTable, IsSame, told_by, sent_by, own_faults, behind_next, LeavesEither}
use Rattle.store_node.specs.Node.{LeavesRows, LeavesNone, HoldsNone, HasBlankDisks}
use Rattle.store_node.specs.Node.{Fits}
use Rattle.store_node.specs.Messages.{IsFor}
use Rattle.step_tables.specs.Chunks.{is_spelled}
use Rattle.step_tables.specs.declared.message.SyncRequest.{SyncRequest}
use Rattle.store_node.specs.Taking.{refused_by}

-- what a move makes of the node's table
abbrev pub step_at : {D : Type 0} → TableNode D → TableStore → StoreMove → StoreStep
step_at node s move = store_step node.store node.schema.scheme node.schema.chunk node.table s move

-- The node is where this step leads to, and has gathered what it tells and sends.
pub record IsBehind {D : Type 0} (state : D → DiskState) (old new : TableNode D) (step : StoreStep) : Type 0 where
  pub table : IsTable state new step.store
  pub told : told_by new ≡ told_by old ++ step.facts
  pub sent : sent_by new ≡ sent_by old ++ step.sends
  pub same : IsSame old new

-- Nothing has changed.
pub record Stays {D : Type 0} (state : D → DiskState) (old new : TableNode D) (s : TableStore) : Type 0 where
  pub table : IsTable state new s
  pub told : told_by new ≡ told_by old
  pub sent : sent_by new ≡ sent_by old
  pub same : IsSame old new

-- the name of the next write
abbrev pub named : Option (List StoreTask) → Step
named None = steps.Idle
named (Some []) = steps.Idle
named (Some (task ∷ tasks)) = moves.step_of task.change

-- One write was done, if one was to be done; or a disk failed, and the write is undone or done.
pub record Works {D : Type 0} (state : D → DiskState) (images : D → ℕ → List ℕ → Type 0) (s : TableStore)
    (old new : TableNode D) (result : Result Step NodeFault) : Type 0 where
  pub done : IfOk result (λ step. IsBehind state old new (step_at old s (Work Done)) × (step ≡ named s.agenda))
  pub failed : OnErr result (IsBehind state old new (step_at old s (Work FailedBefore))
      ⊎ IsBehind state old new (step_at old s (Work FailedAfter)))
  pub counted : OnOk result (own_faults state new ≡ own_faults state old)
  pub cause : OnErr result (own_faults state old < own_faults state new)
  pub only : IfErr result (λ e. e ≡ Disk)
  pub any_moment : LeavesEither state images old new s.disk (behind_next s.disk s.agenda)
  pub rows_left : LeavesRows state images old new s.disk (behind_next s.disk s.agenda)

-- The write at work is undone, or done.
pub record Crashes {D : Type 0} (state : D → DiskState) (images : D → ℕ → List ℕ → Type 0) (calls : ℕ)
    (s : TableStore) (old new : TableNode D) : Type 0 where
  pub crashed : IsBehind state old new (step_at old s (Crash FailedBefore))
      ⊎ IsBehind state old new (step_at old s (Crash FailedAfter))
  -- where no disk failed by itself, 0 or 1 passing calls leave the write undone, and 4 leave it done
  pub undone : own_faults state new ≡ own_faults state old → calls ≤ 1
      → IsBehind state old new (step_at old s (Crash FailedBefore))
  pub done : own_faults state new ≡ own_faults state old → 4 ≤ calls
      → IsBehind state old new (step_at old s (Crash FailedAfter))
  pub later : own_faults state old ≤ own_faults state new
  pub any_moment : LeavesEither state images old new s.disk (behind_next s.disk s.agenda)
  pub rows_left : LeavesRows state images old new s.disk (behind_next s.disk s.agenda)

-- A table that wasn't declared is, in its first state, and holds no rows; else it isn't yet. Where its disks were such,
-- a crash at any moment leaves no rows, and where it isn't declared they hold none.
pub record Makes {D : Type 0} (state : D → DiskState) (images : D → ℕ → List ℕ → Type 0) (were_such : Type 0)
    (s : TableStore) (old new : TableNode D) (result : Result (Unit {0}) NodeFault) : Type 0 where
  pub declared : OnOk result (Stays state old new (record { disk = new_disk old.state; agenda = Some [] }))
  pub refused : OnErr result (Stays state old new s)
  pub counted : (IsErrOf result Disk → ⊥) → own_faults state new ≡ own_faults state old
  pub cause : IsErrOf result Disk → own_faults state old < own_faults state new
  pub only : IfErr result (λ e. (e ≡ Disk) ⊎ (e ≡ Memory))
  pub none : were_such → LeavesNone state images old new
  pub left : were_such → OnErr result (HoldsNone state new)

-- a first declaration, which formats the disks: of blank ones a crash leaves no rows
abbrev pub Declares : {D : Type 0} → (D → DiskState) → (D → ℕ → List ℕ → Type 0) → TableStore → TableNode D
    → TableNode D
    → Result (Unit {0}) NodeFault → Type 0
Declares state images s old new result = Makes state images (HasBlankDisks state old) s old new result

-- The table is started; else it is still down.
pub record Recovers {D : Type 0} (state : D → DiskState) (images : D → ℕ → List ℕ → Type 0) (s : TableStore)
    (old new : TableNode D) (result : Result (Unit {0}) NodeFault) : Type 0 where
  pub started : OnOk result (IsBehind state old new (step_at old s Start))
  pub refused : OnErr result (Stays state old new s)
  pub counted : (IsErrOf result Disk → ⊥) → own_faults state new ≡ own_faults state old
  pub cause : IsErrOf result Disk → own_faults state old < own_faults state new
  pub only : IfErr result (λ e. (e ≡ Disk) ⊎ (e ≡ Memory))
  pub rows_left : LeavesRows state images old new s.disk s.disk

-- A table that is declared late has recovered, since it holds no rows.
abbrev pub late : {D : Type 0} → TableNode D → StoreStep
late node = record {
  store = record { disk = new_disk node.state; agenda = Some [] };
  answer = facts.Done;
  facts = facts.StoreRecovered node.store node.table ∷ [];
  sends = [];
}

-- A late declaration looks at the disks first. Where they hold nothing, or the record of the table alone, and not by
-- chance, as they do behind a declaration on blank disks that failed, and behind a crash inside one, a crash at any
-- moment leaves no rows, and where it isn't declared they hold none again. Of other disks nothing is said of these
-- moments: where they read as no row, no subscription, no chunk and no open entry they are opened, else they are
-- formatted.
pub record DeclaresLate {D : Type 0} (state : D → DiskState) (images : D → ℕ → List ℕ → Type 0) (s : TableStore)
    (old new : TableNode D) (result : Result (Unit {0}) NodeFault) : Type 0 where
  pub declared : OnOk result (IsBehind state old new (late old))
  pub refused : OnErr result (Stays state old new s)
  pub counted : (IsErrOf result Disk → ⊥) → own_faults state new ≡ own_faults state old
  pub cause : IsErrOf result Disk → own_faults state old < own_faults state new
  pub only : IfErr result (λ e. (e ≡ Disk) ⊎ (e ≡ Memory))
  pub none : HoldsNone state old → LeavesNone state images old new
  pub left : HoldsNone state old → OnErr result (HoldsNone state new)
  pub blank : HasBlankDisks state old → LeavesNone state images old new

-- The table is started, or was up; a table that was never declared is; else it is still down.
pub record Starts {D : Type 0} (state : D → DiskState) (images : D → ℕ → List ℕ → Type 0) (s : TableStore)
    (old new : TableNode D) (result : Result (Unit {0}) NodeFault) : Type 0 where
  pub started : old.is_declared ≡ true → OnOk result (IsBehind state old new (step_at old s Start))
  pub declared : old.is_declared ≡ false → OnOk result (IsBehind state old new (late old))
  pub refused : OnErr result (Stays state old new s)
  pub counted : (IsErrOf result Disk → ⊥) → own_faults state new ≡ own_faults state old
  pub cause : IsErrOf result Disk → own_faults state old < own_faults state new
  pub only : IfErr result (λ e. (e ≡ Disk) ⊎ (e ≡ Memory))
  pub rows_left : old.is_declared ≡ true → LeavesRows state images old new s.disk s.disk
  pub none : old.is_declared ≡ false → HoldsNone state old → LeavesNone state images old new
  pub left : old.is_declared ≡ false → HoldsNone state old → OnErr result (HoldsNone state new)
  pub blank : old.is_declared ≡ false → HasBlankDisks state old → LeavesNone state images old new

-- The node is down, and its disks were restarted: they hold what a crash since an earlier moment might have left.
pub record Falls {D : Type 0} (state : D → DiskState) (images : D → ℕ → List ℕ → Type 0)
    (old new : TableNode D) : Type 0 where
  pub left : (start : TableDevs (FuseDisk D)) (a b : Devs)
      → DevsLeave (behind state) (λ f. images (inner_of f)) start old.devs (IsEither a b)
      → IsEither a b (devs (behind state) new.devs) × AreSound (behind state) new.devs
      × DevsLeave (behind state) (λ f. images (inner_of f)) start new.devs (IsEither a b)
  pub rows_left : (start : TableDevs (FuseDisk D)) (a b : TableData)
      → RowsLeave (behind state) (λ f. images (inner_of f)) start old.devs (IsEither a b)
      → IsEither a b (devs (behind state) new.devs).held
      × RowsLeave (behind state) (λ f. images (inner_of f)) start new.devs (IsEither a b)
  pub up : AreUp new.devs
  pub fresh : AreFresh (behind state) new.devs
  pub synced : AreSynced (behind state) new.devs
  pub idle : writes_of new.devs ≡ []
  pub counted : own_faults state new ≡ own_faults state old

-- A disk has failed: the node is down, its disks were restarted, and what it has gathered stays.
pub record Fell {D : Type 0} (state : D → DiskState) (images : D → ℕ → List ℕ → Type 0)
    (old new : TableNode D) : Type 0 where
  pub falls : Falls state images old new
  pub down : new.is_up ≡ false
  pub declared : new.is_declared ≡ old.is_declared
  pub same : IsSame old new
  pub facts : new.facts ≡ old.facts
  pub messages : new.messages ≡ old.messages

-- What is shown is the row's last write, if it has one. Nothing has changed; or a disk has failed, and the node is down
-- with the disk as it was.
pub record Shows {D : Type 0} (state : D → DiskState) (images : D → ℕ → List ℕ → Type 0) (s : TableStore) (row : List ℕ)
    (old new : TableNode D) (result : Result (Option ShownRow) NodeFault) : Type 0 where
  pub shown : IfOk result (λ shown. shown ≡ option_map shown_of (current_of s.disk.items row))
  pub stays : (IsErrOf result Disk → ⊥) → Stays state old new s
  pub fallen : IsErrOf result Disk → Stays state old new (record { disk = s.disk; agenda = None })
  pub counted : (IsErrOf result Disk → ⊥) → own_faults state new ≡ own_faults state old
  pub cause : IsErrOf result Disk → own_faults state old < own_faults state new
  pub only : IfErr result (λ e. (e ≡ Disk) ⊎ (e ≡ Memory))
  pub any_moment : LeavesEither state images old new s.disk s.disk
  pub rows_left : LeavesRows state images old new s.disk s.disk

-- a row as the table has it: its last version, with the names of its chunks and the last write of each client on it
pub record IsRow (items : List Stored) (row : List ℕ) (item : Stored) (found : WholeRow) : Type 0 where
  pub id : found.row ≡ row
  pub version : found.version ≡ item.entry.version
  pub content : found.content ≡ item.content
  pub names : found.names ≡ item.names
  pub yours : (client : ℕ) → pair_in found.pairs client ≡ yours_in items client row

-- where there is one
abbrev pub IsRowAt : List Stored → List ℕ → Option Stored → Option WholeRow → Type 0
IsRowAt items row None None = Unit {0}
IsRowAt items row None (Some found) = ⊥
IsRowAt items row (Some item) None = ⊥
IsRowAt items row (Some item) (Some found) = IsRow items row item found

-- What is given is the row as it is now, if anything was written to it. Nothing has changed; or a disk has failed, and
-- the node is down with the disk as it was.
pub record Gives {D : Type 0} (state : D → DiskState) (images : D → ℕ → List ℕ → Type 0) (s : TableStore) (row : List ℕ)
    (old new : TableNode D) (result : Result (Option WholeRow) NodeFault) : Type 0 where
  pub given : IfOk result (IsRowAt s.disk.items row (current_of s.disk.items row))
  pub stays : (IsErrOf result Disk → ⊥) → Stays state old new s
  pub fallen : IsErrOf result Disk → Stays state old new (record { disk = s.disk; agenda = None })
  pub counted : (IsErrOf result Disk → ⊥) → own_faults state new ≡ own_faults state old
  pub cause : IsErrOf result Disk → own_faults state old < own_faults state new
  pub only : IfErr result (λ e. (e ≡ Disk) ⊎ (e ≡ Memory))
  pub any_moment : LeavesEither state images old new s.disk s.disk
  pub rows_left : LeavesRows state images old new s.disk s.disk

-- ---- messages

-- a message that the node takes
abbrev pub IsTaken : {D : Type 0} → TableNode D → Message → Type 0
IsTaken node message = IsFor node.table message × Fits node.schema message

-- the version at work, where there are writes to do
abbrev pub IsAtWork : StoreDisk → Option (List StoreTask) → ℕ → Type 0
IsAtWork disk None version = ⊥
IsAtWork disk (Some []) version = ⊥
IsAtWork disk (Some (task ∷ tasks)) version = version ≡ version_at disk task.change

-- a write that is to be taken on where no version is left
abbrev pub IsSpentOn : Scheme → ℕ → StoreDisk → SyncRequest → Type 0
IsSpentOn g size disk request = (is_spelled size request.content request.pieces ≡ true)
    × (refused_by g size disk request ≡ None) × (length disk.items ≡ NUMBER_MAX)

abbrev pub IsSpent : Scheme → ℕ → StoreDisk → Message → Type 0
IsSpent g size disk (kinds.SyncRequest request) = IsSpentOn g size disk request
IsSpent g size disk other = ⊥

-- What a node with nothing to be done makes of a message: this step; or nothing, where it was refused; or it is down,
-- with the disk as it was.
pub record Answers {D : Type 0} (state : D → DiskState) (images : D → ℕ → List ℕ → Type 0) (s : TableStore)
    (step : StoreStep) (is_spent : Type 0) (old new : TableNode D) (result : Result (Unit {0}) NodeFault) : Type 0 where
  pub done : OnOk result (IsBehind state old new step)
  pub given : is_spent → OnOk result ⊥
  pub spent : IsErrOf result (Spent NUMBER_MAX) → is_spent
  pub refused : (IsErrOf result Disk → ⊥) → OnErr result (Stays state old new s)
  pub fallen : IsErrOf result Disk → Stays state old new (record { disk = s.disk; agenda = None })
  pub counted : (IsErrOf result Disk → ⊥) → own_faults state new ≡ own_faults state old
  pub cause : IsErrOf result Disk → own_faults state old < own_faults state new
  pub only : IfErr result (λ e. (e ≡ Spent NUMBER_MAX) ⊎ ((e ≡ Disk) ⊎ (e ≡ Memory)))
  pub any_moment : LeavesEither state images old new s.disk s.disk
  pub rows_left : LeavesRows state images old new s.disk s.disk

-- A message that is taken makes the table's step, and any other is dropped. Each refusal has its cause, and leaves all
-- as it was; where a disk has failed the node is down, with the disk as it was. That no version is left is told behind
-- the reads of the row and its chunks.
pub record Delivers {D : Type 0} (state : D → DiskState) (images : D → ℕ → List ℕ → Type 0) (s : TableStore)
    (from : Node) (message : Message) (old new : TableNode D) (result : Result (Unit {0}) NodeFault) : Type 0 where
  pub taken : IsTaken old message
      → OnOk result (IsBehind state old new (step_at old s (Take from (message_of message))))
  pub dropped : (IsTaken old message → ⊥) → OnOk result (Stays state old new s)
  pub busy : (version : ℕ) → IsErrOf result (Busy version) ↔ IsAtWork s.disk s.agenda version
  pub given : IsTaken old message → IsSpent old.schema.scheme old.schema.chunk s.disk message → OnOk result ⊥
  pub spent : (last : ℕ) → IsErrOf result (Spent last)
      → IsTaken old message × IsSpent old.schema.scheme old.schema.chunk s.disk message × (s.agenda ≡ Some [])
      × (last ≡ NUMBER_MAX)
  pub refused : (IsErrOf result Disk → ⊥) → OnErr result (Stays state old new s)
  pub fallen : IsErrOf result Disk → Stays state old new (record { disk = s.disk; agenda = None })
  pub counted : (IsErrOf result Disk → ⊥) → own_faults state new ≡ own_faults state old
  pub cause : IsErrOf result Disk → own_faults state old < own_faults state new
  pub only : IfErr result (λ e. ((version : ℕ) × (e ≡ Busy version)) ⊎ ((e ≡ Spent NUMBER_MAX)
      ⊎ ((e ≡ Disk) ⊎ (e ≡ Memory))))
  pub any_moment : LeavesEither state images old new s.disk s.disk
  pub rows_left : LeavesRows state images old new s.disk s.disk

-- ---- what is put beside the rows

abbrev pub put_step : ℕ → StoreDisk → SidePut → StoreStep
put_step table disk put = moves.quiet disk (Some (moves.beside_task table put ∷ [])) facts.Done

-- The put is begun: its one write is to be done. Each refusal has its cause, and leaves all as it was; where a disk has
-- failed the node is down, with the disk as it was.
pub record Places {D : Type 0} (state : D → DiskState) (images : D → ℕ → List ℕ → Type 0) (s : TableStore)
    (put : SidePut) (old new : TableNode D) (result : Result (Unit {0}) NodeFault) : Type 0 where
  pub placed : OnOk result (IsBehind state old new (step_at old s (Place put)))
  pub busy : (version : ℕ) → IsErrOf result (Busy version) ↔ IsAtWork s.disk s.agenda version
  pub refused : (IsErrOf result Disk → ⊥) → OnErr result (Stays state old new s)
  pub fallen : IsErrOf result Disk → Stays state old new (record { disk = s.disk; agenda = None })
  pub counted : (IsErrOf result Disk → ⊥) → own_faults state new ≡ own_faults state old
  pub cause : IsErrOf result Disk → own_faults state old < own_faults state new
  pub only : IfErr result (λ e. ((version : ℕ) × (e ≡ Busy version)) ⊎ ((e ≡ Disk) ⊎ (e ≡ Memory)))
  pub any_moment : LeavesEither state images old new s.disk s.disk
  pub rows_left : LeavesRows state images old new s.disk s.disk
