-- What a synchronization of a table sends.
use Rattle.std.specs.Prelude.{◌≡◌, ℕ, ◌+◌, Bool, true, List, [], ◌∷◌, length, map, Option, Some, None, IfSome}
use Rattle.std.specs.Prelude.{Result, OnOk, IfOk, IfErr, IsErrOf}
use Rattle.std.specs.BTreeSet.{BTreeSet}
use Rattle.disk_trait.specs.Calls.{DiskState}
use Rattle.held_value.specs.declared.slots.Slots.{Slots as HeldSlots}
use Rattle.slot_store.specs.declared.held.RowKey.{RowKey}
use Rattle.client_journal.specs.declared.devs.Journal.{Journal}
use Rattle.client_journal.specs.Devs.{ClientDevs}
use Rattle.client_journal.specs.Plan.{plan_at_work}
use Rattle.client_journal.specs.Standing.{devs, writes_of}
use Rattle.step_tables.specs.Facts.{Refusal}
use Rattle.step_tables.specs.Facts as facts
use Rattle.step_tables.specs.Messages.{Send}
use Rattle.step_tables.specs.ClientMoves.{Plan, Shape, TableDisk, ClientDisk, ClientStep, RowOut, quiet, begun}
use Rattle.step_tables.specs.ClientMoves.{ClientTask, Sync, table_at, slots_at, to_send, row_out, send_plan, request_for}
use Rattle.step_tables.specs.ClientMoves.{sync_step}
use Rattle.step_tables.specs.Travels.{send_of}
use Rattle.client_node.specs.Does.{refusal_in}
use Rattle.client_node.specs.Linked.{linked_step}
use Rattle.client_node.specs.Node.{StandsFor}
use Rattle.client_node.specs.Sending.{with_tasks, AreTasksOf}
use Rattle.client_node.specs.NotedRows.{AreNotedRows}
use Rattle.client_node.specs.Readied.{IsIdleAt, IsReadied}
use Rattle.client_node.specs.Requesting.{first_ready, NoneWaits, NoneSends}
use Rattle.client_node.specs.declared.fault.CallFault.{CallFault}
use Rattle.client_node.specs.declared.fault.CallFault.TheVariants.{Spent}
use Rattle.client_node.specs.declared.planning.Planned.{Planned}
use Rattle.client_node.specs.declared.waiting.Waiting.{Waiting}
use Rattle.client_node.specs.declared.waiting.Stale.{Stale}
use Rattle.client_node.specs.declared.calls.sending.Synced.{Synced}

-- the plan of a row that has something to send: its last write sends the request
pub record IsSendOf (d : ClientDevs) (c table : ℕ) (row : List ℕ) (found : Option Planned) : Type 0 where
  pub some : found ≡ None → ⊥
  pub plan : IfSome found (λ planned. (waiting : Waiting) (disk : ClientDisk)
      → (idle : IsIdleAt d c waiting disk) → (t : TableDisk) → table_at disk table ≡ Some t
      → (x : RowOut) → x.row ≡ row → x.slots ≡ slots_at t row
      → to_send x.slots x.slots.out x.slots.main x.slots.conflict ≡ Some x.out
      → IsReadied d c idle.stands.0 disk planned (send_plan disk table (row_out t.schema.chunk x))
      (request_for c table row (row_out t.schema.chunk x).out ∷ []))

-- the plan of the first of these rows that has something to send
abbrev pub IsNextOf : ClientDevs → ℕ → ℕ → Option (List ℕ × HeldSlots) → Option Planned → Type 0
IsNextOf d c table None found = found ≡ None
IsNextOf d c table (Some first) found = IsSendOf d c table first.0 found

-- the plan of the first row of a table in a set that has something to send
pub record IsNextIn (d : ClientDevs) (c table : ℕ) (set : BTreeSet RowKey) (found : Option Planned) : Type 0 where
  pub rows : List (List ℕ)
  pub noted : AreNotedRows set table rows
  pub is : IsNextOf d c table (first_ready d table rows) found

-- These rows wait for no answer, and these have nothing to send.
pub record AreStale (d : ClientDevs) (table : ℕ) (stale : Stale) : Type 0 where
  pub outs : NoneWaits d table stale.outs.items
  pub ready : NoneSends d table stale.ready.items

abbrev pub again_of : Synced → List Send
again_of synced = map send_of synced.again.items

-- a step that sends these at once
abbrev pub at_once : List Send → ClientStep → ClientStep
at_once again step = record step { sends = again }

-- These requests are sent again, and the first row that has something to send begins its plan, if one has.
pub record Syncs (d : ClientDevs) (c table : ℕ) (waiting : Waiting) (synced : Synced) : Type 0 where
  pub none : synced.next ≡ None → (disk : ClientDisk) (shape : Shape) → IsIdleAt d c waiting disk
      → sync_step c shape disk (Some []) table
      ≡ at_once (again_of synced) (quiet disk (Some []) (facts.Number (length (again_of synced))))
  pub some : IfSome synced.next (λ planned. (disk : ClientDisk) → (idle : IsIdleAt d c waiting disk)
      → (p : Plan) × (sends : List Send) × IsReadied d c idle.stands.0 disk planned p sends
      × ((shape : Shape) → sync_step c shape disk (Some []) table
      ≡ at_once (again_of synced) (begun shape disk (facts.Number (length (again_of synced) + 1)) p sends)))

-- The requests and the plan of an opened table, with the rows of it that are noted without need; or a refusal, as the
-- step table refuses the move.
pub record SendsAgain {D : Type 0} (state : D → DiskState) (old : Journal D) (up : Bool) (c table : ℕ)
    (waiting : Waiting) (result : Result Synced CallFault) : Type 0 where
  pub syncs : IfOk result (Syncs (devs state old) c table waiting)
  pub stale : IfOk result (λ synced. AreStale (devs state old) table synced.stale)
  pub linked : OnOk result (up ≡ true)
  pub refused : (disk : ClientDisk) (tasks : List ClientTask) (shape : Shape) → StandsFor c (devs state old) disk
      → AreTasksOf (writes_of old) tasks → shape.plan ≡ plan_at_work (devs state old) (writes_of old)
      → IfErr result (λ e. (refusal : Refusal) → refusal_in e ≡ Some refusal
      → (linked_step up c shape (with_tasks disk tasks) (Sync table)).answer ≡ facts.Refuses refusal)
  pub unspent : (last : ℕ) → IsErrOf result (Spent last) → ⊥
