-- What a call of one client's node promises to its host.
use Rattle.std.specs.Prelude.{◌≡◌, ◌⊎◌, ℕ, suc, Bool, List, Option, Some, Result, Ok, IfOk, IfErr, OnErr}
use Rattle.disk_trait.specs.Calls.{DiskState}
use Rattle.table_model.specs.declared.line.Answer.{Answer}
use Rattle.table_model.specs.declared.line.Answer.TheVariants as answers
use Rattle.table_model.specs.declared.line.RowPair.{RowPair}
use Rattle.step_tables.specs.ClientMoves.{Client, TableDisk, seen, table_at}
use Rattle.client_node.specs.declared.fault.CallFault.{CallFault}
use Rattle.client_node.specs.declared.node.ClientNode.{ClientNode}
use Rattle.client_node.specs.Node.{IsClient, HasPlansBelow}
use Rattle.client_node.specs.Phases.{KeepsPhases}
use Rattle.journal_host.specs.declared.asking.Request.{Request}
use Rattle.journal_host.specs.declared.fault.ClientFault.{ClientFault}
use Rattle.journal_host.specs.declared.out.ClientOut.{ClientOut}
use Rattle.journal_host.specs.Asks.{asked_by, FitsDisk, AreAsked}
use Rattle.journal_host.specs.Calls.{IsNumberCause, if_open}
use Rattle.journal_host.specs.Holds.{IsHosted, AreSameOuts}
use Rattle.journal_host.specs.Phases.{MovesPhases, answer_in}
use Rattle.journal_host.specs.Steps.{IsFallen, IsDropped, OnlyLooks, HasAnswerCause}

-- Where the call fails, nothing has changed; a disk of the node failed where a device fault is answered, and else none;
-- and one plan more at most was begun.
pub record Ends {D : Type 0} (state : D → DiskState) (c : ℕ) (old new : ClientNode D) (before after : List ClientOut)
    (result : Result Answer ClientFault) : Type 0 where
  pub kept : (cut : Bool) (s : Client) → IsHosted state cut c s old
      → OnErr result (IsHosted state cut c s new × AreSameOuts before after)
  pub cause : HasAnswerCause state old new result
  pub plans : (n : ℕ) → HasPlansBelow state n old → HasPlansBelow state (suc n) new

-- A request: the client has done so with it, or a disk has failed and the client is down; one that doesn't fit its
-- table may be dropped besides. What was counted is handed over, and the phases are those behind the move.
pub record Asked {D : Type 0} (state : D → DiskState) (c : ℕ) (request : Request)
    (did_so : Bool → Client → Answer → Type 0) (old new : ClientNode D) (before after : List ClientOut)
    (found : List RowPair) (result : Result Answer ClientFault) : Type 0 where
  pub made : (cut : Bool) (s : Client) → IsHosted state cut c s old → FitsDisk s.disk request
      → IfOk result (λ answer. did_so cut s answer ⊎ IsFallen state cut c s new before after answer)
  pub dropped : (cut : Bool) (s : Client) → IsHosted state cut c s old → (FitsDisk s.disk request → ⊥)
      → IfOk result (λ answer. IsDropped state cut c s new before after answer
      ⊎ (did_so cut s answer ⊎ IsFallen state cut c s new before after answer))
  pub spent : (cut : Bool) (s : Client) (n : ℕ) → IsHosted state cut c s old → HasPlansBelow state n old
      → FitsDisk s.disk request → IfErr result (IsNumberCause n (Some s))
  pub pairs : (cut : Bool) (s : Client) (count : ℕ) → IsHosted state cut c s old
      → result ≡ Ok (answers.Number count) → AreAsked (Some s) request found
  pub phases : (s : Option Client) → MovesPhases (asked_by s request) (answer_in result) old new
  pub ends : Ends state c old new before after result

-- A list of the rows in conflict of a table: the client has listed them so; or it has done so, or a disk has failed and
-- the client is down, and what is handed over is as it was.
pub record Listed {D : Type 0} (state : D → DiskState) (c : ℕ) (lists_so did_so : Bool → Client → Answer → Type 0)
    (old new : ClientNode D) (before after : List ClientOut) (none found : List RowPair)
    (result : Result Answer ClientFault) : Type 0 where
  pub listed : (cut : Bool) (s : Client) → IsHosted state cut c s old → IfOk result (λ answer. lists_so cut s answer
      ⊎ ((found ≡ none) × (did_so cut s answer ⊎ IsFallen state cut c s new before after answer)))
  pub spent : (cut : Bool) (s : Client) (n : ℕ) → IsHosted state cut c s old → HasPlansBelow state n old
      → IfErr result (IsNumberCause n (Some s))
  pub phases : KeepsPhases old new
  pub ends : Ends state c old new before after result

-- A look at a table, whatever is still to be done: what is made of it where it isn't closed, and of none where it is.
pub record LooksAt {D T : Type 0} (state : D → DiskState) (table : ℕ) (made_of : Option TableDisk → T)
    (old new : ClientNode D) (result : Result T CallFault) : Type 0 where
  pub held : (s : Client) → IsClient state old s
      → IfOk result (λ found. found ≡ made_of (if_open (table_at (seen s.disk) table)))
  pub looks : (s : Client) → IsClient state old s → OnlyLooks state s old new result
  pub phases : KeepsPhases old new
