-- What a client makes of a message.
use Rattle.std.specs.Prelude.{◌≡◌, ℕ, suc, ◌<◌, List, Option, Some, None, Result, Ok, OnOk, IfErr, IsErrOf}
use Rattle.disk_trait.specs.Calls.{DiskState}
use Rattle.row_value.specs.Fit.{fit_of}
use Rattle.step_tables.specs.Facts.{Refusal, Done}
use Rattle.step_tables.specs.Facts as facts
use Rattle.step_tables.specs.Messages.{Header, Message, SyncRequest, SyncResponse, PullRequest, PullResponse}
use Rattle.step_tables.specs.Messages.{TornRowRequest, TornRowResponse}
use Rattle.step_tables.specs.ClientMoves.{Shape, TableDisk, ClientDisk, Client, Take, table_at, seen}
use Rattle.client_node.specs.declared.fault.CallFault.{CallFault}
use Rattle.client_node.specs.declared.fault.CallFault.TheVariants.{Disk}
use Rattle.client_node.specs.declared.node.ClientNode.{ClientNode}
use Rattle.client_node.specs.Node.{own_faults, LeavesEither, HasPlansBelow}
use Rattle.client_node.specs.Calls.{Stays}
use Rattle.client_node.specs.Does.{Does, IsOfNode, refusal_in, step_with}

-- a row fits the table that is opened
abbrev pub FitsTable : Option TableDisk → Option Header → Type 0
FitsTable None row = Unit {0}
FitsTable (Some table) None = Unit {0}
FitsTable (Some table) (Some row) = fit_of table.schema row.content ≡ Ok tt

-- what a message brings fits its table, where the client has opened that
abbrev pub FitsClient : ClientDisk → Message → Type 0
FitsClient d (PullResponse pulled) = FitsTable (table_at (seen d) pulled.table) pulled.header
FitsClient d (TornRowResponse answer) = FitsTable (table_at (seen d) answer.table) answer.header
FitsClient d (SyncRequest request) = Unit {0}
FitsClient d (SyncResponse response) = Unit {0}
FitsClient d (PullRequest pull) = Unit {0}
FitsClient d (TornRowRequest torn) = Unit {0}

-- A message whose row doesn't fit is dropped; or it is refused as the step table refuses it, or a disk has failed.
pub record Drops {D : Type 0} (state : D → DiskState) (images : D → ℕ → List ℕ → Type 0) (s : Client)
    (message : Message) (old new : ClientNode D) (result : Result (Unit {0}) CallFault) : Type 0 where
  pub dropped : OnOk result (Stays state old new s)
  pub refused : IfErr result (λ e. (refusal : Refusal) (shape : Shape) → refusal_in e ≡ Some refusal
      → IsOfNode state old shape → (step_with old shape s (Take message)).answer ≡ facts.Refuses refusal)
  pub kept : (IsErrOf result Disk → ⊥) → IfErr result (λ e. Stays state old new s)
  pub fallen : IsErrOf result Disk → Stays state old new (record { disk = s.disk; agenda = None })
  pub counted : (IsErrOf result Disk → ⊥) → own_faults state new ≡ own_faults state old
  pub cause : IsErrOf result Disk → own_faults state old < own_faults state new
  pub any_moment : LeavesEither state images old new s.disk s.disk
  pub plans : (n : ℕ) → HasPlansBelow state n old → HasPlansBelow state (suc n) new

-- A message whose row fits makes the table's step, and any other is dropped.
pub record Takes {D : Type 0} (state : D → DiskState) (images : D → ℕ → List ℕ → Type 0) (s : Client)
    (message : Message) (old new : ClientNode D) (result : Result (Unit {0}) CallFault) : Type 0 where
  pub taken : FitsClient s.disk message
      → Does state images s (Take message) (λ value. Done) old new result
  pub dropped : (FitsClient s.disk message → ⊥) → Drops state images s message old new result
