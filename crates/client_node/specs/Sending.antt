-- A call that reads the devices, and tells facts and sends messages at once where it is done.
use Rattle.std.specs.Prelude.{◌≡◌, ℕ, Bool, List, [], Some, Result, IfOk, IsErrOf}
use Rattle.disk_trait.specs.Calls.{DiskState}
use Rattle.client_journal.specs.declared.devs.Journal.{Journal}
use Rattle.client_journal.specs.Devs.{Write}
use Rattle.client_journal.specs.Plan.{plan_at_work}
use Rattle.client_journal.specs.Standing.{devs, writes_of}
use Rattle.step_tables.specs.Facts.{Answer, Fact}
use Rattle.step_tables.specs.Messages.{Send}
use Rattle.step_tables.specs.ClientMoves.{ClientDisk, ClientTask, Client, ClientStep, ClientMove, Shape, quiet}
use Rattle.client_node.specs.declared.fault.CallFault.{CallFault}
use Rattle.client_node.specs.declared.fault.CallFault.TheVariants.{Spent}
use Rattle.client_node.specs.Answers.{IsAnswered}
use Rattle.client_node.specs.Linked.{linked_step}
use Rattle.client_node.specs.Node.{StandsFor}

abbrev pub with_tasks : ClientDisk → List ClientTask → Client
with_tasks disk tasks = record { disk = disk; agenda = Some tasks }

-- an idle client that answers so, tells these and sends these
abbrev pub sending : ClientDisk → Answer → List Fact → List Send → ClientStep
sending disk answer some sends = record (quiet disk (Some []) answer) { facts = some; sends = sends }

-- no task is to be done just where no write is
pub record AreTasksOf (ws : List Write) (tasks : List ClientTask) : Type 0 where
  pub none : ws ≡ [] → tasks ≡ []
  pub some : tasks ≡ [] → ws ≡ []

-- Where the devices stand for a disk, the move of its client is answered so, and where it is done it tells these and
-- sends these.
pub record Sends {D T : Type 0} (state : D → DiskState) (old : Journal D) (up : Bool) (c : ℕ) (move : ClientMove)
    (said : T → Answer) (told : T → List Fact) (sent : T → List Send) (result : Result T CallFault) : Type 0 where
  pub answered : (disk : ClientDisk) (tasks : List ClientTask) (shape : Shape) → StandsFor c (devs state old) disk
      → AreTasksOf (writes_of old) tasks → shape.plan ≡ plan_at_work (devs state old) (writes_of old)
      → IsAnswered said (linked_step up c shape (with_tasks disk tasks) move).answer result
  pub done : (disk : ClientDisk) (tasks : List ClientTask) (shape : Shape) → StandsFor c (devs state old) disk
      → AreTasksOf (writes_of old) tasks
      → IfOk result (λ x. (tasks ≡ [])
      × (linked_step up c shape (with_tasks disk tasks) move ≡ sending disk (said x) (told x) (sent x)))
  pub unspent : (last : ℕ) → IsErrOf result (Spent last) → ⊥
