-- What a client's three devices hold, as the disk of the client's step table; and device writes as tasks of its agenda.
use Rattle.std.specs.Prelude.{◌≡◌, ℕ, ◌≤◌, ◌==◌, Bool, true, false, List, [], ◌∷◌, map, Option, Some, None, IsSome}
use Rattle.std.specs.Prelude.{if◌then◌else◌}
use Rattle.std.specs.Ordering.{nat_cmp}
use Rattle.std.specs.Map.{lookup}
use Rattle.std.specs.BTreeMap.{is_at}
use Rattle.stab_base.specs.declared.step.Step.TheVariants as steps
use Rattle.row_value.specs.declared.schema.Schema.{Schema}
use Rattle.row_value.specs.declared.content.Content.{Content}
use Rattle.row_value.specs.declared.content.Content.TheVariants as contents
use Rattle.held_value.specs.declared.local_name.LocalName.{LocalName}
use Rattle.held_value.specs.declared.slots.Slots.{Slots as HeldSlots}
use Rattle.held_value.specs.declared.tell.Tell.{Tell}
use Rattle.held_value.specs.declared.tell.Tell.TheVariants as tell
use Rattle.slot_store.specs.declared.held.RowSlots.{RowSlots}
use Rattle.slot_store.specs.declared.held.TableRecord.{TableRecord}
use Rattle.slot_store.specs.Data.{SlotData, slots_of, record_of}
use Rattle.plan_log.specs.declared.plan.RowChange.{RowChange}
use Rattle.plan_log.specs.declared.plan.RecordChange.{RecordChange}
use Rattle.plan_log.specs.declared.plan.Commit.{Commit}
use Rattle.plan_log.specs.Journal.{AtWork, Idle, Intended, Committed}
use Rattle.client_journal.specs.Devs.{ClientDevs, Write, changed_by}
use Rattle.client_journal.specs.Devs as writes
use Rattle.client_journal.specs.NamedSlots.{NamedSlots}
use Rattle.step_tables.specs.Slots.{Main}
use Rattle.step_tables.specs.Slots.{InFlight}
use Rattle.step_tables.specs.Facts.{ClientFact}
use Rattle.step_tables.specs.Facts as facts
use Rattle.step_tables.specs.ClientMoves.{Slots, TableDisk, RowPut, Plan, ClientDisk, ClientChange, ClientTask}
use Rattle.step_tables.specs.ClientMoves.{Commit as DoCommit, PutRow, PutTable, Finish, Keep, slots_in, table_at}
use Rattle.step_tables.specs.ClientMoves.{TableChange, Opens, Closes, opened_table, changed}
use Rattle.journal_laws.specs.Whole.{whole_slots, AreHeld, AreNumbered}

-- ---- what is held

abbrev pub empty : HeldSlots
empty = record { main = None; shadow = None; out = None; conflict = None }

abbrev pub slots_or_empty : Option RowSlots → HeldSlots
slots_or_empty None = empty
slots_or_empty (Some stored) = stored.slots

-- 1 opened, 2 closed
abbrev pub state_of : Bool → ℕ
state_of false = 1
state_of true = 2

-- the record of a table that was opened
pub record IsRecordOf (held : TableRecord) (table : TableDisk) : Type 0 where
  pub state : held.state ≡ state_of table.closed
  pub schema : held.schema ≡ table.schema
  pub position : held.position ≡ table.position

abbrev pub StandsTable : Option TableRecord → Option TableDisk → Type 0
StandsTable None None = Unit {0}
StandsTable None (Some table) = ⊥
StandsTable (Some held) None = ⊥
StandsTable (Some held) (Some table) = IsRecordOf held table

-- Slots and records stand for this last number and these tables: each has its record, and each row its slots.
pub record HoldsTables (meaning : LocalName → List ℕ) (held : SlotData) (last : ℕ) (tables : List (ℕ × TableDisk))
    : Type 0 where
  pub last_is : held.last ≡ last
  pub records : (table : ℕ) → StandsTable (record_of held table) (lookup (is_at (nat_cmp table)) tables)
  pub rows : (table : ℕ) (row : List ℕ) → whole_slots meaning (slots_or_empty (slots_of held table row))
      ≡ slots_in (lookup (is_at (nat_cmp table)) tables) row
  pub held_all : (table : ℕ) (row : List ℕ) → AreHeld meaning (slots_or_empty (slots_of held table row))
  pub numbered : (table : ℕ) (row : List ℕ) → AreNumbered (slots_or_empty (slots_of held table row))

-- ---- what a plan tells

abbrev pub content_in_out : Option InFlight → Content
content_in_out None = contents.Gone
content_in_out (Some out) = out.content

abbrev pub content_in : ℕ → Option Main → Option InFlight → Content
content_in number None out = content_in_out out
content_in number (Some main) out = if main.number == number then main.content else content_in_out out

-- the content of the write of this number, Main or else Out
abbrev pub content_of : ℕ → Slots → Content
content_of number slots = content_in number slots.main slots.out

-- what a tell says of a client's table and its row
abbrev pub fact_of : ℕ → ℕ → RowPut → Tell → Option ClientFact
fact_of c table put (tell.Wrote number read) = Some (facts.Wrote (record {
  client = c;
  number = number;
  table = table;
  row = put.row;
  read = read;
  content = content_of number put.slots;
}))
fact_of c table put (tell.Acked number version) = Some (facts.Acked c number table put.row version)
fact_of c table put (tell.Refused number latest) = Some (facts.Refused c number table put.row latest)
fact_of c table put (tell.Conflict number version) = Some (facts.Conflict c number table put.row version)
fact_of c table put (tell.Resolved number version) = Some (facts.Resolved c number table put.row version)
fact_of c table put (tell.New version) = Some (facts.New c table put.row version)
fact_of c table put (tell.Position position) = Some (facts.Position c table position)
fact_of c table put tell.Opened = None
fact_of c table put tell.Dropped = None

-- of a plan that puts no row a position alone is told, or that the table is opened or closed
abbrev pub fact_alone : ℕ → ℕ → Tell → Option ClientFact
fact_alone c table (tell.Position position) = Some (facts.Position c table position)
fact_alone c table tell.Opened = Some (facts.Opened c table)
fact_alone c table tell.Dropped = Some (facts.Dropped c table)
fact_alone c table told = None

abbrev pub fact_in : ℕ → ℕ → Option RowPut → Tell → Option ClientFact
fact_in c table None told = fact_alone c table told
fact_in c table (Some put) told = fact_of c table put told

-- these tells say these facts
abbrev pub Say : ℕ → ℕ → Option RowPut → List Tell → List ClientFact → Type 0
Say c table put told some = map (fact_in c table put) told ≡ map (λ (fact : ClientFact). Some fact) some

-- ---- a commit as a plan

-- the new slots of a row, whole
pub record IsPutOf (meaning : LocalName → List ℕ) (change : RowChange) (put : RowPut) : Type 0 where
  pub row : change.row ≡ put.row
  pub slots : whole_slots meaning change.slots ≡ put.slots
  pub held : AreHeld meaning change.slots
  pub numbered : AreNumbered change.slots

abbrev pub StandsPut : (LocalName → List ℕ) → Option RowChange → Option RowPut → Type 0
StandsPut meaning None None = Unit {0}
StandsPut meaning None (Some put) = ⊥
StandsPut meaning (Some change) None = ⊥
StandsPut meaning (Some change) (Some put) = IsPutOf meaning change put

-- A table is opened with this state and this schema of its record, or closed with this state.
abbrev pub IsAlteredTo : ℕ → Schema → TableChange → Type 0
IsAlteredTo state schema (Opens opened) = (state ≡ 1) × (schema ≡ opened)
IsAlteredTo state schema Closes = state ≡ 2

-- The table's record gets a new state where the plan opens or closes the table. No row and no position changes then.
abbrev pub StandsChange : Option RecordChange → Plan → Option TableChange → Type 0
StandsChange None p None = Unit {0}
StandsChange None p (Some alters) = ⊥
StandsChange (Some change) p None = ⊥
StandsChange (Some change) p (Some alters) =
    IsAlteredTo change.state change.schema alters × (p.row ≡ None) × (p.position ≡ None)

-- A commit of client c is this plan of the step table.
pub record IsPlanOf (meaning : LocalName → List ℕ) (c : ℕ) (commit : Commit) (p : Plan) : Type 0 where
  pub last : commit.last ≡ p.last
  pub table : commit.table ≡ p.table
  pub row : StandsPut meaning commit.row p.row
  pub position : commit.position ≡ p.position
  pub alters : StandsChange commit.new_record p p.alters
  pub tells : Say c p.table p.row commit.tells p.facts

-- there is no such table, or it is as it was opened
abbrev pub MayOpen : Schema → Option TableDisk → Type 0
MayOpen schema None = Unit {0}
MayOpen schema (Some table) = table ≡ opened_table schema

-- the table is there, and its new record keeps its schema
abbrev pub MayClose : Option RecordChange → Option TableDisk → Type 0
MayClose None there = ⊥
MayClose (Some change) None = ⊥
MayClose (Some change) (Some table) = change.schema ≡ table.schema

-- the table of a plan that opens or closes it, or does neither: then it is there
abbrev pub IsTableFor : Option RecordChange → Option TableDisk → Option TableChange → Type 0
IsTableFor change there None = IsSome there
IsTableFor change there (Some (Opens schema)) = MayOpen schema there
IsTableFor change there (Some Closes) = MayClose change there

-- A plan with this change of its table's record, whose number isn't below the last. It is of an opened table, if it
-- doesn't open it.
pub record IsPlanAt (disk : ClientDisk) (change : Option RecordChange) (p : Plan) : Type 0 where
  pub last : disk.last ≤ p.last
  pub opened : IsTableFor change (table_at disk p.table) p.alters

abbrev pub StandsPlan : (LocalName → List ℕ) → ℕ → ClientDisk → AtWork → Option Plan → Type 0
StandsPlan meaning c disk Idle None = Unit {0}
StandsPlan meaning c disk Idle (Some p) = ⊥
StandsPlan meaning c disk (Intended intend) None = Unit {0}
StandsPlan meaning c disk (Intended intend) (Some p) = ⊥
StandsPlan meaning c disk (Committed commit) None = ⊥
StandsPlan meaning c disk (Committed commit) (Some p) =
    IsPlanOf meaning c commit p × IsPlanAt disk commit.new_record p

-- ---- the devices

-- The devices of client c stand for this disk, where `meaning` is the bytes that each name stands for: they have named
-- slots, each row's slots are those of its table, and the plan that is committed is the disk's.
pub record Stands (c : ℕ) (meaning : LocalName → List ℕ) (d : ClientDevs) (disk : ClientDisk) : Type 0 where
  pub named : NamedSlots meaning d
  pub held : HoldsTables meaning d.held disk.last disk.tables
  pub plan : StandsPlan meaning c disk d.journal.at_work disk.plan

-- ---- writes and tasks

-- these slots are those of the plan's row
pub record IsRowOf (meaning : LocalName → List ℕ) (row : RowSlots) (p : Plan) : Type 0 where
  pub table : row.table ≡ p.table
  pub last : row.last ≡ p.last
  pub put : p.row ≡ Some (record { row = row.row; slots = whole_slots meaning row.slots })

-- at the plan's position, or as the plan opens or closes the table
abbrev pub IsPutFor : TableRecord → Plan → Option TableChange → Type 0
IsPutFor table p None = p.position ≡ Some table.position
IsPutFor table p (Some alters) = IsAlteredTo table.state table.schema alters

-- this record is what the plan makes of its table
pub record IsTableOf (table : TableRecord) (p : Plan) : Type 0 where
  pub table_is : table.table ≡ p.table
  pub put : IsPutFor table p p.alters

-- a device write as a change of the step table's disk
abbrev pub IsWriteOf : ℕ → (LocalName → List ℕ) → Write → ClientChange → Type 0
IsWriteOf c meaning writes.OpenJournal (Keep step) = step ≡ steps.OpenJournal
IsWriteOf c meaning writes.OpenSlots (Keep step) = step ≡ steps.OpenSlots
IsWriteOf c meaning writes.OpenChunks (Keep step) = step ≡ steps.OpenChunks
IsWriteOf c meaning (writes.PutIntend intend) (Keep step) = step ≡ steps.Intend
IsWriteOf c meaning (writes.PutChunk name bytes) (Keep step) = step ≡ steps.ChunkPut
IsWriteOf c meaning (writes.DropChunk name) (Keep step) = step ≡ steps.ChunkDrop
IsWriteOf c meaning (writes.PutCommit commit) (DoCommit p) = IsPlanOf meaning c commit p
IsWriteOf c meaning (writes.PutSlots row) (PutRow p) = IsRowOf meaning row p
IsWriteOf c meaning (writes.PutRecord table) (PutTable p) = IsTableOf table p
IsWriteOf c meaning writes.PutDone Finish = Unit {0}
IsWriteOf c meaning write change = ⊥

-- The devices stand for this disk now and behind each of these writes, which are those of these tasks.
abbrev pub Follows : ℕ → (LocalName → List ℕ) → ClientDevs → List Write → ClientDisk → List ClientTask → Type 0
Follows c meaning d [] disk [] = Stands c meaning d disk
Follows c meaning d (write ∷ ws) disk (task ∷ tasks) = Stands c meaning d disk
    × IsWriteOf c meaning write task.change
    × Follows c meaning (changed_by d write) ws (changed disk task.change) tasks
Follows c meaning d ws disk tasks = ⊥
