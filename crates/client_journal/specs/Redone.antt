-- What the devices stand for: what is held, with the commit at work applied to it.
use Rattle.std.specs.Prelude.{ℕ, Option, Some, None, option_map}
use Rattle.slot_store.specs.declared.held.RowSlots.{RowSlots}
use Rattle.slot_store.specs.declared.held.TableRecord.{TableRecord}
use Rattle.slot_store.specs.Data.{SlotData, with_slots, with_record, record_of}
use Rattle.plan_log.specs.declared.plan.RowChange.{RowChange}
use Rattle.plan_log.specs.declared.plan.RecordChange.{RecordChange}
use Rattle.plan_log.specs.declared.plan.Commit.{Commit}
use Rattle.plan_log.specs.Journal.{AtWork, Idle, Intended, Committed}
use Rattle.client_journal.specs.Devs.{ClientDevs}

-- ---- the slots of a commit's row

abbrev pub slots_for : Commit → RowChange → RowSlots
slots_for commit change =
    record { table = commit.table; row = change.row; last = commit.last; slots = change.slots }

abbrev pub row_behind : Commit → Option RowSlots
row_behind commit = option_map (slots_for commit) commit.row

abbrev pub with_row_if : SlotData → Option RowSlots → SlotData
with_row_if held None = held
with_row_if held (Some row) = with_slots held row

-- ---- the record of its table

abbrev pub position_in : Option TableRecord → ℕ
position_in None = 0
position_in (Some old) = old.position

-- the new position, or else the old one, or else 0
abbrev pub position_from : Option ℕ → Option TableRecord → ℕ
position_from (Some position) old = position
position_from None old = position_in old

-- the old record at a new position
abbrev pub moved : ℕ → ℕ → Option TableRecord → Option TableRecord
moved table position None = None
moved table position (Some old) =
    Some (record { table = table; state = old.state; schema = old.schema; position = position })

abbrev pub moved_if : ℕ → Option ℕ → Option TableRecord → Option TableRecord
moved_if table None old = None
moved_if table (Some position) old = moved table position old

abbrev pub record_from : ℕ → Option RecordChange → Option ℕ → Option TableRecord → Option TableRecord
record_from table None position old = moved_if table position old
record_from table (Some change) position old = Some (record {
  table = table;
  state = change.state;
  schema = change.schema;
  position = position_from position old;
})

-- the table's record behind a commit, where its state, its schema or its position changes
abbrev pub record_for : Option TableRecord → Commit → Option TableRecord
record_for old commit = record_from commit.table commit.new_record commit.position old

abbrev pub with_record_if : SlotData → Option TableRecord → SlotData
with_record_if held None = held
with_record_if held (Some table) = with_record held table

-- ---- both

abbrev pub applied : Commit → SlotData → SlotData
applied commit held =
    with_record_if (with_row_if held (row_behind commit)) (record_for (record_of held commit.table) commit)

abbrev pub redone_by : AtWork → SlotData → SlotData
redone_by Idle held = held
redone_by (Intended intend) held = held
redone_by (Committed commit) held = applied commit held

abbrev pub redone : ClientDevs → SlotData
redone d = redone_by d.journal.at_work d.held
