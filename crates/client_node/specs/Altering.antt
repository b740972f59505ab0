-- How a table is opened, and closed for good: the plan of the devices, and which plan of the step table it is.
use Rattle.std.specs.Prelude.{◌≡◌, ◌⊎◌, ℕ, ◌==◌, true, false, List, [], ◌∷◌, Option, Some, None, IfSome, Result, OnOk}
use Rattle.std.specs.Prelude.{IfOk, IfErr, if◌then◌else◌}
use Rattle.disk_trait.specs.Calls.{DiskState}
use Rattle.table_model.specs.declared.line.ClientFact.{ClientFact}
use Rattle.table_model.specs.declared.line.Fact.TheVariants as told_of
use Rattle.held_value.specs.declared.tell.Tell.{Tell}
use Rattle.slot_store.specs.declared.held.TableRecord.{TableRecord}
use Rattle.plan_log.specs.declared.plan.RecordChange.{RecordChange}
use Rattle.client_journal.specs.declared.devs.Journal.{Journal}
use Rattle.client_journal.specs.Devs.{ClientDevs, Write}
use Rattle.client_journal.specs.NamedSlots.{IsAtRest}
use Rattle.client_journal.specs.Plan.{IsPlan, plan_at_work}
use Rattle.client_journal.specs.Standing.{devs, writes_of, AreUp, IsReady}
use Rattle.step_tables.specs.ClientMoves.{TableChange, ClientDisk, table_at, seen, may_alter, alter_plan}
use Rattle.client_node.specs.declared.fault.CallFault.{CallFault}
use Rattle.client_node.specs.declared.fault.CallFault.TheVariants.{Busy}
use Rattle.client_node.specs.declared.planning.Planned.{Planned}
use Rattle.client_node.specs.declared.waiting.Waiting.{Waiting}
use Rattle.client_node.specs.Answers.{IsFault}
use Rattle.client_node.specs.Readied.{IsIdleAt, IsReadied}

-- the record of a table that isn't closed
abbrev pub open_record : Option TableRecord → Option TableRecord
open_record None = None
open_record (Some found) = if found.state == 2 then None else Some found

-- The record of the table gets this state and this schema, and nothing else changes; this is told.
pub record IsOfTable (table last : ℕ) (change : RecordChange) (told : Tell) (fact : ClientFact) (planned : Planned)
    : Type 0 where
  pub table_is : planned.plan.table ≡ table
  pub last_is : planned.plan.last ≡ last
  pub no_row : planned.plan.row ≡ None
  pub no_position : planned.plan.position ≡ None
  pub new_record : planned.plan.new_record ≡ Some change
  pub brought : planned.plan.brought ≡ []
  pub drops : planned.plan.drops ≡ []
  pub tells : planned.plan.tells ≡ told ∷ []
  pub facts_are : planned.facts.items ≡ told_of.Client fact ∷ []
  pub no_messages : planned.messages.items ≡ []

-- There is a plan where the table would be another one behind the change, and it is the step table's.
pub record AltersTo (d : ClientDevs) (c table : ℕ) (change : TableChange) (found : Option Planned) : Type 0 where
  pub none : found ≡ None → (waiting : Waiting) (disk : ClientDisk) → IsIdleAt d c waiting disk
      → may_alter change (table_at (seen disk) table) ≡ false
  pub some : IfSome found (λ planned. (waiting : Waiting) (disk : ClientDisk)
      → (idle : IsIdleAt d c waiting disk)
      → (may_alter change (table_at (seen disk) table) ≡ true)
      × IsReadied d c idle.stands.0 disk planned (alter_plan c disk table change) [])

-- it is refused for the plan at work, or a disk has failed, or memory was refused
abbrev pub IsUnaltered : ClientDevs → List Write → CallFault → Type 0
IsUnaltered d ws e = ((ws ≡ [] → ⊥) × (e ≡ Busy (plan_at_work d ws))) ⊎ IsFault e

-- A change of a table is prepared where nothing is to be done.
pub record Alters {D : Type 0} (state : D → DiskState) (old : Journal D) (c table : ℕ) (change : TableChange)
    (result : Result (Option Planned) CallFault) : Type 0 where
  pub idle : OnOk result (writes_of old ≡ [])
  pub alters : IfOk result (AltersTo (devs state old) c table change)
  pub refused : IfErr result (IsUnaltered (devs state old) (writes_of old))

-- devices that have nothing to do may take this plan on
pub record MayTake {D : Type 0} (state : D → DiskState) (client : Journal D) (planned : Planned) : Type 0 where
  pub up : AreUp client
  pub idle : writes_of client ≡ []
  pub ready : IsReady state client (writes_of client)
  pub rests : IsAtRest (devs state client)
  pub plan : IsPlan (devs state client) planned.plan
