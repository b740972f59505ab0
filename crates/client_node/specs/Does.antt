-- What the calls of a client's node promise, each by its move of the client's step table.
use Rattle.std.specs.Prelude.{◌≡◌, ◌⊎◌, ℕ, suc, ◌<◌, List, Option, Some, None, Result, IfOk, IfErr, IsErrOf}
use Rattle.disk_trait.specs.Calls.{DiskState}
use Rattle.disk_trait.specs.Fuse.{behind}
use Rattle.stab_base.specs.declared.limits.TheConstants.{NUMBER_MAX}
use Rattle.row_value.specs.declared.fit.FitFault.TheVariants as faults
use Rattle.client_journal.specs.Plan.{plan_at_work}
use Rattle.client_journal.specs.Standing.{devs, writes_of}
use Rattle.step_tables.specs.Facts.{Answer, Refusal}
use Rattle.step_tables.specs.Facts as facts
use Rattle.step_tables.specs.ClientMoves.{Shape, ClientDisk, Client, ClientStep, ClientMove, seen}
use Rattle.client_node.specs.declared.fault.CallFault.{CallFault}
use Rattle.client_node.specs.declared.fault.CallFault.TheVariants as call
use Rattle.client_node.specs.declared.node.ClientNode.{ClientNode}
use Rattle.client_node.specs.Node.{own_faults, LeavesEither, HasPlansBelow}
use Rattle.client_node.specs.Linked.{phased_step}
use Rattle.client_node.specs.Phases.{is_open}
use Rattle.client_node.specs.Calls.{IsBehind, Stays}

-- the refusal of the step table that a fault tells of; a table knows no limit of numbers and no want of memory
abbrev pub refusal_in : CallFault → Option Refusal
refusal_in call.NoTable = Some facts.NoTable
refusal_in (call.BadCell column) = Some (facts.Unfit (faults.BadCell column))
refusal_in (call.BadObject column len) = Some (facts.Unfit (faults.BadObject column len))
refusal_in (call.RowTooLarge len) = Some (facts.Unfit (faults.RowTooLarge len))
refusal_in (call.TooManyChunks count) = Some (facts.Unfit (faults.TooManyChunks count))
refusal_in call.NoRow = Some facts.NoRow
refusal_in (call.Busy with) = Some (facts.Busy with)
refusal_in call.NotInResolution = Some facts.NotInResolution
refusal_in call.InResolution = Some facts.InResolution
refusal_in call.NoConflict = Some facts.NoConflict
refusal_in (call.Moved seen now) = Some (facts.Moved seen now)
refusal_in call.Offline = Some facts.Offline
refusal_in (call.Outstanding number) = Some (facts.Outstanding number)
refusal_in (call.Conflicted version) = Some (facts.Conflicted version)
refusal_in (call.Spent last) = None
refusal_in call.Disk = None
refusal_in call.Memory = None

-- what a move makes of the node's client
abbrev pub step_with : {D : Type 0} → ClientNode D → Shape → Client → ClientMove → ClientStep
step_with node shape s move = phased_step (is_open node) node.is_linked node.number shape s move

-- the plan of the shape is that of the node's next write, or else the one at work, or else 0
pub record IsOfNode {D : Type 0} (state : D → DiskState) (node : ClientNode D) (shape : Shape) : Type 0 where
  pub plan : shape.plan ≡ plan_at_work (devs (behind state) node.devs) (writes_of node.devs)

-- the last number of a write is given, or the last one of a plan
abbrev pub HasNoNumber : {D : Type 0} → (D → DiskState) → ClientNode D → ClientDisk → Type 0
HasNoNumber state node disk = ((seen disk).last ≡ NUMBER_MAX)
    ⊎ ((devs (behind state) node.devs).journal.greatest ≡ NUMBER_MAX)

-- The move was made, and answered so; or it was refused, as the step table refuses it, or for want of numbers or of
-- memory, and nothing has changed; or a disk has failed, and the node is down with the disk as it was. A crash at any
-- moment of the call leaves that disk.
pub record Does {D T : Type 0} (state : D → DiskState) (images : D → ℕ → List ℕ → Type 0) (s : Client)
    (move : ClientMove) (said : T → Answer) (old new : ClientNode D) (result : Result T CallFault) : Type 0 where
  pub done : IfOk result (λ value. (shape : Shape) × IsOfNode state old shape
      × IsBehind state old new (step_with old shape s move)
      × ((step_with old shape s move).answer ≡ said value))
  pub refused : IfErr result (λ e. (refusal : Refusal) (shape : Shape) → refusal_in e ≡ Some refusal
      → IsOfNode state old shape → (step_with old shape s move).answer ≡ facts.Refuses refusal)
  pub spent : (last : ℕ) → IsErrOf result (call.Spent last) → (last ≡ NUMBER_MAX) × HasNoNumber state old s.disk
  pub kept : (IsErrOf result call.Disk → ⊥) → IfErr result (λ e. Stays state old new s)
  pub fallen : IsErrOf result call.Disk → Stays state old new (record { disk = s.disk; agenda = None })
  pub counted : (IsErrOf result call.Disk → ⊥) → own_faults state new ≡ own_faults state old
  pub cause : IsErrOf result call.Disk → own_faults state old < own_faults state new
  pub any_moment : LeavesEither state images old new s.disk s.disk
  -- one plan more at most
  pub plans : (n : ℕ) → HasPlansBelow state n old → HasPlansBelow state (suc n) new
