-- What the work that follows a client's move makes of the clients and of the answer.
use Rattle.std.specs.Prelude.{◌≡◌, ℕ, List, Result, Ok, IfOk, if◌then◌else◌}
use Rattle.std.specs.BTreeMap as tree
use Rattle.disk_trait.specs.Calls.{DiskState}
use Rattle.table_model.specs.declared.line.Answer.{Answer}
use Rattle.table_model.specs.declared.line.Answer.TheVariants as answers
use Rattle.step_tables.specs.Facts as facts
use Rattle.step_tables.specs.Lines.{answer_of}
use Rattle.step_tables.specs.Messages.{Luck}
use Rattle.client_node.specs.declared.node.ClientNode.{ClientNode}
use Rattle.world_tables.specs.World.{World, Moved, client_until_idle}
use Rattle.journal_host.specs.declared.fault.ClientFault.{ClientFault}
use Rattle.journal_host.specs.declared.host.ClientHost.{ClientHost}
use Rattle.journal_host.specs.Calls.{IsMoved}
use Rattle.journal_host.specs.Holds.{SameFaults, RisenFaults}
use Rattle.journal_host.specs.Steps.{IsDeviceFault}

-- the answer of an event whose move and whose work gave these
abbrev pub behind : Answer → Answer → Answer
behind answer (answers.Refused refusal) = answers.Refused refusal
behind answer other = answer

-- Nothing follows, and the answer is the move's.
pub record Rests {D : Type 0} (old new : ClientHost D) (found result : Result Answer ClientFault) : Type 0 where
  pub clients : new ≡ old
  pub answer : result ≡ found

-- These moves follow one that gave an answer, and this is the event's.
pub record IsFollowed {D : Type 0} (state : D → DiskState) (old new : ClientHost D) (m : Moved) (answer given : Answer)
    : Type 0 where
  pub moved : IsMoved state old new m
  pub answer_is : answer_of given ≡ (if m.failed then facts.Refuses facts.NoDevice else answer_of answer)

-- all a client's writes follow a move that gave an answer
abbrev pub Follows : {D : Type 0} → (D → DiskState) → World → (old new : ClientHost D) → ℕ → Answer
    → Result Answer ClientFault → Type 0
Follows state w old new c answer result = IfOk result (λ given. (lucks : List Luck)
    × IsFollowed state old new (client_until_idle c lucks w) answer given)

-- Which disks failed in the work: some of this client, where the answer says so and the move's didn't, and else none.
pub record HasWorkCause {D : Type 0} (state : D → DiskState) (c : ℕ) (old new : tree.BTreeMap ℕ (ClientNode D))
    (answer : Answer) (result : Result Answer ClientFault) : Type 0 where
  pub counted : (IsDeviceFault result → ⊥) → SameFaults state old new
  pub cause : IsDeviceFault result → (IsDeviceFault (Ok answer) → ⊥) → RisenFaults state c old new
