-- How a write of a row is prepared: what holds its content, its plan of the devices, and which plan of the step table
-- that is.
use Rattle.std.specs.Prelude.{◌≡◌, ◌⊎◌, ℕ, ◌+◌, ◌<◌, ◌≤◌, Bool, false, true, List, [], ◌∷◌, length, map, Some}
use Rattle.std.specs.Prelude.{None, option_map, IfSome, Result, OnOk, IfOk, IfErr, IsErrOf}
use Rattle.std.specs.List.{AllByRecursion}
use Rattle.std.specs.BTreeSet.{BTreeSet}
use Rattle.disk_trait.specs.Calls.{DiskState}
use Rattle.stab_base.specs.declared.limits.TheConstants.{NUMBER_MAX}
use Rattle.row_value.specs.declared.content.Content.{Content}
use Rattle.row_value.specs.declared.pieces.Piece.{Piece}
use Rattle.row_value.specs.declared.schema.Scheme.{Scheme}
use Rattle.row_value.specs.declared.schema.Scheme.TheVariants.{Strong, Causal, Eventual}
use Rattle.table_model.specs.declared.line.Write.{Write}
use Rattle.table_model.specs.declared.line.ClientFact.TheVariants as client
use Rattle.table_model.specs.declared.line.Fact.{Fact}
use Rattle.table_model.specs.declared.line.Fact.TheVariants as told_of
use Rattle.held_value.specs.declared.local_name.LocalName.{LocalName}
use Rattle.held_value.specs.declared.content.HeldPiece.{HeldPiece}
use Rattle.held_value.specs.declared.slots.Slots.{Slots}
use Rattle.slot_store.specs.declared.held.RowKey.{RowKey}
use Rattle.plan_log.specs.declared.plan.RowChange.{RowChange}
use Rattle.client_tables.specs.declared.plan.RowPlan.{RowPlan}
use Rattle.client_tables.specs.Drops.{names_in as tree_names}
use Rattle.client_tables.specs.Kept.{SlotEvent, slots_behind}
use Rattle.client_tables.specs.Plan.{IsPlan as IsRowPlan, IsBrought, AreKnown, names_with}
use Rattle.client_tables.specs.declared.change.Change.{Change}
use Rattle.client_tables.specs.Change.{version_in}
use Rattle.client_tables.specs.Shown.{shown_content}
use Rattle.client_tables.specs.Transitions.{written, written_strong}
use Rattle.client_journal.specs.declared.devs.Journal.{Journal}
use Rattle.client_journal.specs.declared.plan.Plan.{Plan as Begun}
use Rattle.client_journal.specs.Devs.{ClientDevs}
use Rattle.client_journal.specs.Names.{Has, names_of}
use Rattle.client_journal.specs.NamedSlots.{IsAtRest}
use Rattle.client_journal.specs.Plan.{IsPlan, plan_at_work}
use Rattle.client_journal.specs.Redone.{redone}
use Rattle.client_journal.specs.Standing.{devs, writes_of, AreUp, IsReady}
use Rattle.step_tables.specs.Facts.{Answer, Refusal, Number}
use Rattle.step_tables.specs.Facts as facts
use Rattle.step_tables.specs.Messages.{Send}
use Rattle.step_tables.specs.Travels.{send_of}
use Rattle.step_tables.specs.ClientMoves.{Plan, Shape, ClientDisk, ClientTask, ClientMove, begun}
use Rattle.journal_laws.specs.Moves.{IsNewTo, plan_meaning}
use Rattle.journal_laws.specs.Whole.{whole, pieces_by, HaveLens}
use Rattle.held_contents.specs.declared.holding.HeldNew.{HeldNew}
use Rattle.held_contents.specs.Reading.{AreThereIf, chunks_shown}
use Rattle.held_contents.specs.Holding.{IsHeldAgainst, AreShown, names_shown, brought_name}
use Rattle.plan_limits.specs.Fit.{HaveWords}
use Rattle.client_node.specs.declared.fault.CallFault.{CallFault}
use Rattle.client_node.specs.declared.fault.CallFault.TheVariants.{Offline, Outstanding, Spent}
use Rattle.client_node.specs.declared.planning.Planned.{Planned}
use Rattle.client_node.specs.declared.preparing.OpenedRow.{OpenedRow}
use Rattle.client_node.specs.declared.preparing.Prepared.{Prepared}
use Rattle.client_node.specs.declared.waiting.Waiting.{Waiting}
use Rattle.client_node.specs.Answers.{record_at, held_at, IsFault}
use Rattle.client_node.specs.Does.{refusal_in}
use Rattle.client_node.specs.Linked.{phased_step}
use Rattle.client_node.specs.Node.{StandsFor}
use Rattle.client_node.specs.Sending.{with_tasks, AreTasksOf}
use Rattle.client_node.specs.Readied.{IsIdleAt, IsReadied}
use Rattle.client_node.specs.Requesting.{request_with, IsFirstOut}
use Rattle.client_node.specs.Spelling.{SpellsContent}
use Rattle.client_node.specs.Steady.{IsSteady}

-- ---- what is read first

-- the record of the row's table, and the row's slots
pub record IsOpenedRow (d : ClientDevs) (table : ℕ) (row : List ℕ) (at : OpenedRow) : Type 0 where
  pub table_is : at.table ≡ table
  pub row_is : at.row ≡ row
  pub opened : record_at d table ≡ Some at.opened
  pub slots : at.slots ≡ held_at d table row
  pub size : length row ≡ 16

-- ---- what holds a new content

-- This holds the content, where these chunks are shown: it is whole under a plan of any number above those of the
-- shown chunks, and it names some of these and the chunks that it brings.
pub record HoldsNew (size : ℕ) (shown : List (List (HeldPiece × List ℕ))) (content : Content) (made : HeldNew)
    : Type 0 where
  pub against : IsHeldAgainst size shown content made.content made.brought
  pub whole_is : (meaning : LocalName → List ℕ) (number : ℕ) → AreShown meaning number shown
      → whole (plan_meaning meaning number made.brought) made.content ≡ content
  pub lens : (meaning : LocalName → List ℕ) (number : ℕ) → AreShown meaning number shown
      → HaveLens (plan_meaning meaning number made.brought) made.content
  pub names : (name : LocalName) → Has (names_of made.content) name
      → Has (names_shown shown) name ⊎ IsBrought (length made.brought) name
  pub all_brought : (ordinal : ℕ) → ordinal < length made.brought
      → Has (names_of made.content) (brought_name ordinal)
  pub small : AllByRecursion (λ bytes. length bytes ≤ size) made.brought

-- ---- its plan of the devices

abbrev pub change_for : List ℕ → Slots → RowChange
change_for row slots = record { row = row; slots = slots }

-- what a row comes to, as a plan of the devices
abbrev pub plan_for : ℕ → ℕ → List ℕ → RowPlan → Begun
plan_for table last row made = record {
  server = false;
  table = table;
  last = last;
  row = option_map (change_for row) made.change.slots;
  position = None;
  new_record = None;
  brought = made.chunks;
  drops = made.drops;
  tells = made.change.tells;
}

abbrev pub wrote : Write → Fact
wrote write = told_of.Client (client.Wrote write)

-- each name behind an event is known
abbrev pub AreKnownBehind : Type 0
AreKnownBehind = (scheme : Scheme) (slots : Slots) (event : SlotEvent) (count : ℕ)
    → AreKnown slots count (names_with event) → AreKnown slots count (tree_names (slots_behind scheme slots event))

-- The plan makes this change of these slots, and brings these chunks.
pub record MakesChange (slots : Slots) (change : Change) (given : List (List ℕ)) (table last : ℕ) (row : List ℕ)
    (planned : Planned) : Type 0 where
  pub made : RowPlan
  pub row_plan : IsRowPlan slots change given made
  pub plan_is : planned.plan ≡ plan_for table last row made
  pub known : AreKnownBehind

abbrev pub write_of : ℕ → ℕ → OpenedRow → Content → Write
write_of c number at content = record {
  client = c;
  number = number;
  table = at.table;
  row = at.row;
  read = version_in at.slots.shadow;
  content = content;
}

-- A write of a row under the client's next number: this holds its content, it is told at its commit, and its plan makes
-- this change and sends these.
pub record IsWrite (d : ClientDevs) (c : ℕ) (at : OpenedRow) (content : Content) (new : HeldNew) (change : Change)
    (sends : List Send) (x : Prepared) : Type 0 where
  pub next : x.number ≡ (redone d).last + 1
  pub few : x.number ≤ NUMBER_MAX
  pub words : HaveWords content
  pub holds : (meaning : LocalName → List ℕ) → AreThereIf meaning d (shown_content at.slots)
      → HoldsNew at.opened.schema.chunk (chunks_shown meaning (shown_content at.slots)) content new
  pub makes : MakesChange at.slots change new.brought at.table x.number at.row x.planned
  pub facts : x.planned.facts.items ≡ wrote (write_of c x.number at content) ∷ []
  pub sends_are : map send_of x.planned.messages.items ≡ sends

-- in a causal or an eventual table it is sent later
pub record IsFreeWrite (d : ClientDevs) (c : ℕ) (at : OpenedRow) (content : Content) (x : Prepared) : Type 0 where
  pub new : HeldNew
  pub is : IsWrite d c at content new (written at.slots x.number new.content) [] x

-- and in a strong one at once
pub record IsStrongWrite (d : ClientDevs) (c : ℕ) (at : OpenedRow) (content : Content) (x : Prepared) : Type 0 where
  pub new : HeldNew
  pub pieces : List Piece
  pub spells : SpellsContent d at.opened.schema.chunk at.slots.shadow content pieces
  pub unused : IsNewTo at.slots.main x.number
  pub is : IsWrite d c at content new (written_strong at.slots x.number new.content pieces)
      (request_with c at.table at.row x.number (version_in at.slots.shadow) content (pieces_by new.content pieces) ∷ [])
      x

-- the last number is given, or a disk has failed, or memory was refused
abbrev pub IsSpent : ClientDevs → CallFault → Type 0
IsSpent d e = ((e ≡ Spent NUMBER_MAX) × (NUMBER_MAX ≤ (redone d).last)) ⊎ IsFault e

-- a strong write isn't sent: the link is down, or this one waits for its answer, or as any write
abbrev pub IsUnsent : ClientDevs → BTreeSet RowKey → Bool → ℕ → CallFault → Type 0
IsUnsent d outs is_linked table e = ((e ≡ Offline) × (is_linked ≡ false))
    ⊎ (((is_linked ≡ true) × (number : ℕ) × (e ≡ Outstanding number) × IsFirstOut d table outs (Some number))
    ⊎ IsSpent d e)

-- what is written by the scheme of the table
abbrev pub WritesBy : Scheme → ClientDevs → Bool → BTreeSet RowKey → ℕ → OpenedRow → Content → Prepared → Type 0
WritesBy Strong d is_linked outs c at content x =
    (is_linked ≡ true) × IsFirstOut d at.table outs None × IsStrongWrite d c at content x
WritesBy Causal d is_linked outs c at content x = IsFreeWrite d c at content x
WritesBy Eventual d is_linked outs c at content x = IsFreeWrite d c at content x

abbrev pub IsWriteBy : ClientDevs → Bool → BTreeSet RowKey → ℕ → OpenedRow → Content → Prepared → Type 0
IsWriteBy d is_linked outs c at content x = WritesBy at.opened.schema.scheme d is_linked outs c at content x

abbrev pub UnwrittenBy : Scheme → ClientDevs → Bool → BTreeSet RowKey → ℕ → CallFault → Type 0
UnwrittenBy Strong d is_linked outs table e = IsUnsent d outs is_linked table e
UnwrittenBy Causal d is_linked outs table e = IsSpent d e
UnwrittenBy Eventual d is_linked outs table e = IsSpent d e

abbrev pub IsUnwritten : ClientDevs → Bool → BTreeSet RowKey → OpenedRow → CallFault → Type 0
IsUnwritten d is_linked outs at e = UnwrittenBy at.opened.schema.scheme d is_linked outs at.table e

-- ---- as a plan of the step table

-- A call of a client that is up: its devices stand for this disk, which is steady, and these tasks are to be done; the
-- shape has the plan at work.
pub record IsCalled {D : Type 0} (state : D → DiskState) (old : Journal D) (waiting : Waiting) (c : ℕ)
    (disk : ClientDisk) (tasks : List ClientTask) (shape : Shape) : Type 0 where
  pub stands : StandsFor c (devs state old) disk
  pub steady : IsSteady waiting disk
  pub rests : writes_of old ≡ [] → IsAtRest (devs state old)
  pub tasks_are : AreTasksOf (writes_of old) tasks
  pub work : shape.plan ≡ plan_at_work (devs state old) (writes_of old)

-- The step table's move begins a plan with this number as its answer, and the devices' plan is that one.
pub record IsPrepared (d : ClientDevs) (phase : ℕ → Bool) (linked : Bool) (c : ℕ) (move : ClientMove)
    (disk : ClientDisk) (meaning : LocalName → List ℕ) (x : Prepared) : Type 0 where
  pub p : Plan
  pub sends : List Send
  pub readied : IsReadied d c meaning disk x.planned p sends
  pub step : (shape : Shape) → phased_step phase linked c shape (with_tasks disk []) move
      ≡ begun shape disk (Number x.number) p sends

-- where this fault is a refusal of the step table, the answer is that refusal
abbrev pub IsRefusedSo : Answer → CallFault → Type 0
IsRefusedSo answer e = (refusal : Refusal) → refusal_in e ≡ Some refusal → answer ≡ facts.Refuses refusal

-- A write is prepared where nothing is to be done; or it is refused as the step table refuses the move, or for want of
-- numbers.
pub record Prepares {D : Type 0} (state : D → DiskState) (old : Journal D) (waiting : Waiting) (phase : ℕ → Bool)
    (linked : Bool) (c : ℕ) (move : ClientMove) (result : Result Prepared CallFault) : Type 0 where
  pub refused : (disk : ClientDisk) (tasks : List ClientTask) (shape : Shape)
      → IsCalled state old waiting c disk tasks shape
      → IfErr result (IsRefusedSo (phased_step phase linked c shape (with_tasks disk tasks) move).answer)
  pub spent : (last : ℕ) → IsErrOf result (Spent last)
      → (last ≡ NUMBER_MAX) × (NUMBER_MAX ≤ (redone (devs state old)).last)
  pub idle : OnOk result (writes_of old ≡ [])
  pub prepared : (disk : ClientDisk) → (idle : IsIdleAt (devs state old) c waiting disk)
      → IfOk result (IsPrepared (devs state old) phase linked c move disk idle.stands.0)

-- devices that have nothing to do may take its plan on
pub record MayBegin {D : Type 0} (state : D → DiskState) (client : Journal D) (x : Prepared) : Type 0 where
  pub up : AreUp client
  pub idle : writes_of client ≡ []
  pub ready : IsReady state client (writes_of client)
  pub rests : IsAtRest (devs state client)
  pub plan : IsPlan (devs state client) x.planned.plan
