-- How a node takes a prepared plan on.
use Rattle.std.specs.Prelude.{◌≡◌, ◌⊎◌, ℕ, ◌++◌, true, List, map, Option, Some, None, IsSome, Result, Ok, Err, OnOk, IfErr, IfSome}
use Rattle.std.specs.Prelude.{length}
use Rattle.std.specs.BTreeSet.{contains}
use Rattle.disk_trait.specs.Calls.{DiskState}
use Rattle.disk_trait.specs.Fuse.{behind, inner_of}
use Rattle.stab_base.specs.declared.limits.TheConstants.{NUMBER_MAX}
use Rattle.held_value.specs.declared.slots.Slots.{Slots}
use Rattle.plan_log.specs.declared.plan.RowChange.{RowChange}
use Rattle.slot_store.specs.Data.{key_cmp, key_at}
use Rattle.client_tables.specs.Transitions.{can_send}
use Rattle.client_journal.specs.declared.plan.Plan.{Plan}
use Rattle.client_journal.specs.Standing.{devs, writes_of}
use Rattle.step_tables.specs.Facts.{Fact}
use Rattle.step_tables.specs.Lines.{fact_of}
use Rattle.step_tables.specs.Messages.{Send}
use Rattle.step_tables.specs.Travels.{send_of}
use Rattle.gathering.specs.Room.{HasRoom}
use Rattle.client_node.specs.declared.fault.CallFault.{CallFault}
use Rattle.client_node.specs.declared.fault.CallFault.TheVariants as call
use Rattle.client_node.specs.declared.node.ClientNode.{ClientNode}
use Rattle.client_node.specs.declared.owed.When.TheVariants.{AtCommit}
use Rattle.client_node.specs.declared.planning.Planned.{Planned}
use Rattle.client_node.specs.declared.waiting.Waiting.{Waiting}
use Rattle.client_node.specs.Answers.{IsFault}
use Rattle.client_node.specs.Begins.{BeginsPlan}
use Rattle.client_node.specs.Calls.{Fell}
use Rattle.client_node.specs.Looks.{Serves}
use Rattle.client_node.specs.Node.{told_by, sent_by, facts_owed, sends_owed}
use Rattle.client_node.specs.Waiting.{IsMore}

-- a row is noted where its slots have a write that waits for its answer, or one to send, and where it is in conflict;
-- there its id has sixteen bytes
pub record IsNotedRow (waiting : Waiting) (table : ℕ) (change : RowChange) : Type 0 where
  pub out : IsSome change.slots.out → contains key_cmp waiting.outs (key_at table change.row) ≡ true
  pub ready : can_send change.slots ≡ true → contains key_cmp waiting.ready (key_at table change.row) ≡ true
  pub conflict : IsSome change.slots.conflict
      → contains key_cmp waiting.conflicts (key_at table change.row) ≡ true
  pub sized : IsSome change.slots.conflict → length change.row ≡ 16

-- each row that was noted still is, and the plan's
pub record NotesPlan {E : Type 0} (old new : Waiting) (plan : Plan) (result : Result (Unit {0}) E) : Type 0 where
  pub more : IsMore old new
  pub row : OnOk result (IfSome plan.row (IsNotedRow new plan.table))

-- a node amid a call: room was made, and rows were noted
pub record IsAmid {D : Type 0} (old mid : ClientNode D) : Type 0 where
  pub number : mid.number ≡ old.number
  pub linked : mid.is_linked ≡ old.is_linked
  pub up : mid.is_up ≡ old.is_up
  pub declared : mid.is_declared ≡ old.is_declared
  pub told : told_by mid ≡ told_by old
  pub sent : sent_by mid ≡ sent_by old
  pub owed : mid.owed ≡ old.owed
  pub fact_room : (n : ℕ) → HasRoom old.facts n → HasRoom mid.facts n
  pub message_room : (n : ℕ) → HasRoom old.messages n → HasRoom mid.messages n
  pub more : IsMore old.waiting mid.waiting

-- the plan is begun, and what it tells and sends is owed; these messages were sent at once
pub record IsCarried {D : Type 0} (state : D → DiskState) (old new : ClientNode D) (planned : Planned)
    (again : List Send) : Type 0 where
  pub number : new.number ≡ old.number
  pub linked : new.is_linked ≡ old.is_linked
  pub up : new.is_up ≡ old.is_up
  pub declared : new.is_declared ≡ old.is_declared
  pub told : told_by new ≡ told_by old
  pub sent : sent_by new ≡ sent_by old ++ again
  pub begins : BeginsPlan (behind state) old.devs new.devs planned.plan
  pub when : new.owed.when ≡ AtCommit
  pub tells : facts_owed new.owed ≡ map fact_of planned.facts.items
  pub sends : sends_owed new.owed ≡ map send_of planned.messages.items
  pub fact_room : HasRoom new.facts (length new.owed.facts.items)
  pub message_room : HasRoom new.messages (length new.owed.messages.items)
  pub more : IsMore old.waiting new.waiting
  pub noted : IfSome planned.plan.row (IsNotedRow new.waiting planned.plan.table)

-- nothing is begun; where a disk has failed the node is down
pub record IsUncarried {D : Type 0} (state : D → DiskState) (images : D → ℕ → List ℕ → Type 0) (old new : ClientNode D)
    (e : CallFault) : Type 0 where
  pub cause : ((e ≡ call.Spent NUMBER_MAX) × ((devs (behind state) old.devs).journal.greatest ≡ NUMBER_MAX)) ⊎ IsFault e
  pub mid : ClientNode D
  pub amid : IsAmid old mid
  pub serves : Serves {T = Unit {0}} (behind state) (λ f. images (inner_of f)) old.devs mid.devs (Err e)
  pub fell : e ≡ call.Disk → Fell state images mid new
  pub other : (e ≡ call.Disk → ⊥) → new ≡ mid

pub record Carries {D : Type 0} (state : D → DiskState) (images : D → ℕ → List ℕ → Type 0) (old new : ClientNode D)
    (planned : Planned) (again : List Send) (result : Result (Unit {0}) CallFault) : Type 0 where
  pub done : OnOk result (IsCarried state old new planned again)
  pub serves : OnOk result (Serves (behind state) (λ f. images (inner_of f)) old.devs new.devs result)
  pub refused : IfErr result (IsUncarried state images old new)
