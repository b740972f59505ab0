-- A client that has opened a table and holds no row, and its first write: an object of three bytes in two chunks.
use Rattle.std.specs.Prelude.{ℕ, false, List, [], ◌∷◌, map, Some, None}
use Rattle.stab_base.specs.declared.step.Step.{Step}
use Rattle.row_value.specs.declared.content.Content.{Content}
use Rattle.row_value.specs.declared.content.Content.TheVariants as contents
use Rattle.held_value.specs.declared.local_name.LocalName.{LocalName}
use Rattle.held_value.specs.declared.tell.Tell.TheVariants as tell
use Rattle.plan_log.specs.Journal.{Idle}
use Rattle.client_journal.specs.declared.plan.Plan.{Plan}
use Rattle.client_journal.specs.Devs.{ClientDevs, Write}
use Rattle.client_journal.specs.Small.{small_schema, one, in_main, named}
use Rattle.client_journal.specs.Agenda.{plan_writes}
use Rattle.client_journal.specs.Plan.{intend_for, commit_for}
use Rattle.client_journal.specs.Standing.{step_of as write_name}
use Rattle.step_tables.specs.Facts.{Done}
use Rattle.step_tables.specs.ClientMoves.{ClientDisk, ClientTask, Slots, Shape, changed, begun, write_plan, step_of}
use Rattle.step_tables.specs.ClientMoves as tables
use Rattle.journal_laws.specs.Moves.{tasks_of, bring_steps, drop_steps}

abbrev pub row_id : List ℕ
row_id = 9 ∷ []

abbrev pub no_row : ClientDevs
no_row = record {
  chunks = [];
  held = record {
    rows = [];
    tables = (1, record { table = 1; state = 1; schema = small_schema; position = 0 }) ∷ [];
    last = 0;
  };
  journal = record { greatest = 0; at_work = Idle };
}

abbrev pub no_row_disk : ClientDisk
no_row_disk = record {
  last = 0;
  tables = (1, tables.opened_table small_schema) ∷ [];
  plan = None;
}

-- a name stands for nothing, since there is no chunk
abbrev pub nothing_meant : LocalName → List ℕ
nothing_meant name = []

abbrev pub two_chunks : List (List ℕ)
two_chunks = (5 ∷ 6 ∷ []) ∷ (7 ∷ []) ∷ []

abbrev pub first_write : Plan
first_write = record {
  server = false;
  table = 1;
  last = 1;
  row = Some (record { row = row_id; slots = in_main (one 3 (named 0 0 ∷ named 0 1 ∷ [])) });
  position = None;
  new_record = None;
  brought = two_chunks;
  drops = [];
  tells = tell.Wrote 1 0 ∷ [];
}

abbrev pub first_writes : List Write
first_writes = plan_writes no_row.held (intend_for 1 first_write) two_chunks (commit_for 1 first_write)

abbrev pub first_content : Content
first_content = contents.Row [] ((5 ∷ 6 ∷ 7 ∷ []) ∷ [])

abbrev pub first_plan : tables.Plan
first_plan = write_plan 4 no_row_disk 1 row_id tables.no_slots first_content

abbrev pub first_shape : Shape
first_shape = record { plan = 1; before = bring_steps two_chunks; after = drop_steps []; torn = None }

abbrev pub first_tasks : List ClientTask
first_tasks = tasks_of (begun first_shape no_row_disk Done first_plan [])

abbrev pub all_changed : ClientDisk → List ClientTask → ClientDisk
all_changed disk [] = disk
all_changed disk (task ∷ tasks) = all_changed (changed disk task.change) tasks

abbrev pub names_of_writes : List Write → List Step
names_of_writes writes = map write_name writes

abbrev pub names_of_tasks : List ClientTask → List Step
names_of_tasks tasks = map (λ (task : ClientTask). step_of task.change) tasks
