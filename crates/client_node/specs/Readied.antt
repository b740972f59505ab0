-- Plans that a client's node is about to take on: which of the step table's plans each is, and what it tells and sends.
use Rattle.std.specs.Prelude.{◌≡◌, ℕ, ◌+◌, ◌≤◌, List, [], map, Option, Some, None}
use Rattle.std.specs.Prelude.{IfSome}
use Rattle.stab_base.specs.declared.limits.TheConstants.{NUMBER_MAX}
use Rattle.held_value.specs.declared.local_name.LocalName.{LocalName}
use Rattle.held_value.specs.declared.slots.Slots.{Slots as HeldSlots}
use Rattle.slot_store.specs.Data.{record_of}
use Rattle.client_tables.specs.declared.plan.RowPlan.{RowPlan}
use Rattle.client_journal.specs.declared.plan.Plan.{Plan as Begun}
use Rattle.client_journal.specs.Agenda.{meaning_with}
use Rattle.client_journal.specs.Devs.{ClientDevs}
use Rattle.client_journal.specs.NamedSlots.{IsAtRest}
use Rattle.client_journal.specs.Plan.{IsPlan, commit_for}
use Rattle.step_tables.specs.declared.message.Message.{Message}
use Rattle.step_tables.specs.Facts as facts
use Rattle.step_tables.specs.Messages.{Send}
use Rattle.step_tables.specs.ClientMoves.{Plan, Shape, ClientDisk, ClientStep, begun, ignored, take_step, told}
use Rattle.step_tables.specs.Lines.{fact_of}
use Rattle.step_tables.specs.Travels.{message_of, send_of}
use Rattle.journal_laws.specs.Holds.{Stands, IsPlanOf, IsPlanAt}
use Rattle.plan_limits.specs.Fit.{AreFitRows, IsFitChange}
use Rattle.client_node.specs.Node.{StandsFor}
use Rattle.client_node.specs.Steady.{IsSteady, IsSteadyAlter}
use Rattle.client_node.specs.Tells.{facts_told, with_position}
use Rattle.client_node.specs.Taking.{FitsClient}
use Rattle.client_node.specs.declared.planning.Planned.{Planned}
use Rattle.client_node.specs.declared.planning.Reaction.{Reaction}
use Rattle.client_node.specs.declared.planning.Reaction.TheVariants.{Nothing, Sends, Begins}
use Rattle.client_node.specs.declared.waiting.Waiting.{Waiting}

-- ---- where a plan may be taken on

-- nothing is at work, and the devices stand for this disk
pub record IsIdleAt (d : ClientDevs) (c : ℕ) (waiting : Waiting) (disk : ClientDisk) : Type 0 where
  pub stands : StandsFor c d disk
  pub rests : IsAtRest d
  pub steady : IsSteady waiting disk

-- and for some disk
pub record IsIdle (d : ClientDevs) (c : ℕ) : Type 0 where
  pub waiting : Waiting
  pub disk : ClientDisk
  pub at : IsIdleAt d c waiting disk

-- ---- a plan of a row

-- The plan of the devices for a change of a row's slots, with the last number of the client's writes and the new position.
pub record IsPlanFor (table : ℕ) (row : List ℕ) (last : ℕ) (position : Option ℕ) (made : RowPlan) (plan : Begun)
    : Type 0 where
  pub behind : HeldSlots
  pub changes : made.change.slots ≡ Some behind
  pub table_is : plan.table ≡ table
  pub last_is : plan.last ≡ last
  pub row_is : plan.row ≡ Some (record { row = row; slots = behind })
  pub position_is : plan.position ≡ position
  pub new_record : plan.new_record ≡ None
  pub brought : plan.brought ≡ made.chunks
  pub drops : plan.drops ≡ made.drops
  pub tells : plan.tells ≡ with_position made.change.tells position

-- The plan of a change of a row's slots, which tells what the change does and the new position, and sends these.
pub record IsOfRow (c table : ℕ) (row : List ℕ) (last : ℕ) (position : Option ℕ) (made : RowPlan) (sends : List Send)
    (planned : Planned) : Type 0 where
  pub behind : HeldSlots
  pub changes : made.change.slots ≡ Some behind
  pub table_is : planned.plan.table ≡ table
  pub last_is : planned.plan.last ≡ last
  pub row_is : planned.plan.row ≡ Some (record { row = row; slots = behind })
  pub position_is : planned.plan.position ≡ position
  pub new_record : planned.plan.new_record ≡ None
  pub brought : planned.plan.brought ≡ made.chunks
  pub drops : planned.plan.drops ≡ made.drops
  pub tells : planned.plan.tells ≡ with_position made.change.tells position
  pub facts_are : map fact_of planned.facts.items ≡ facts_told c table row (with_position made.change.tells position)
  pub sends_are : map send_of planned.messages.items ≡ sends

-- ---- a plan of the step table

-- the number that the next plan gets
abbrev pub number_next : ClientDevs → ℕ
number_next d = d.journal.greatest + 1

-- The devices take this plan on, and it is that one of the step table: it tells what that tells and sends these, and
-- its row fits the table.
pub record IsReadied (d : ClientDevs) (c : ℕ) (meaning : LocalName → List ℕ) (disk : ClientDisk) (planned : Planned)
    (p : Plan) (sends : List Send) : Type 0 where
  pub taken : IsPlan d planned.plan
  pub its : IsPlanOf (meaning_with meaning (number_next d) planned.plan.brought) c
      (commit_for (number_next d) planned.plan) p
  pub at : IsPlanAt disk planned.plan.new_record p
  pub few : p.last ≤ NUMBER_MAX
  pub tells : map fact_of planned.facts.items ≡ told p
  pub sends_are : map send_of planned.messages.items ≡ sends
  pub alters : IsSteadyAlter p.table p.alters
  pub fit : IfSome planned.plan.row (IsFitChange meaning (number_next d) planned.plan.brought
      (record_of d.held planned.plan.table))

-- what a message makes of a client with nothing to do
abbrev pub taken_at : ℕ → Message → Shape → ClientDisk → ClientStep
taken_at c message shape disk = take_step c shape disk (Some []) (message_of message)

-- A message begins a plan; or it is ignored, where a row that it brings fits its table.
pub record Readies (d : ClientDevs) (c : ℕ) (message : Message) (found : Option Planned) : Type 0 where
  pub none : found ≡ None → (waiting : Waiting) (disk : ClientDisk) (shape : Shape)
      → IsIdleAt d c waiting disk → FitsClient disk (message_of message)
      → taken_at c message shape disk ≡ ignored disk
  pub some : IfSome found (λ planned. (waiting : Waiting) (disk : ClientDisk)
      → (idle : IsIdleAt d c waiting disk)
      → FitsClient disk (message_of message) × (p : Plan) × (sends : List Send)
      × IsReadied d c idle.stands.0 disk planned p sends
      × ((shape : Shape) → taken_at c message shape disk ≡ begun shape disk facts.Done p sends))

-- A message begins no plan, and these are sent at once; a row that it brings fits its table.
pub record SendsBack (d : ClientDevs) (c : ℕ) (message : Message) (sends : List Send) : Type 0 where
  pub fits : (waiting : Waiting) (disk : ClientDisk) → IsIdleAt d c waiting disk
      → FitsClient disk (message_of message)
  pub step : (waiting : Waiting) (disk : ClientDisk) (shape : Shape) → IsIdleAt d c waiting disk
      → taken_at c message shape disk ≡ record (ignored disk) { sends = sends }

-- a plan, if there is one, as what a message comes to
abbrev pub begins : Option Planned → Reaction
begins None = Nothing
begins (Some planned) = Begins planned

abbrev pub Reacts : ClientDevs → ℕ → Message → Reaction → Type 0
Reacts d c message Nothing = Readies d c message None
Reacts d c message (Sends sends) = SendsBack d c message (map send_of sends.items)
Reacts d c message (Begins planned) = Readies d c message (Some planned)
