-- A client's step table: what a move makes of it, what it answers, and what is told and sent. Its state is what its
-- devices stand for, and the device writes that it has begun.
use Rattle.std.specs.Prelude.{ℕ, ◌+◌, ◌==◌, nat_lt, nat_le, Bool, true, false, not, ◌&&◌, ◌||◌, List, [], ◌∷◌, ◌++◌}
use Rattle.std.specs.Prelude.{length, map, filter, slice_get, Option, Some}
use Rattle.std.specs.Prelude.{None, option_map, option_to_list, Result, Ok, Err, if◌then◌else◌}
use Rattle.std.specs.Ordering.{nat_cmp}
use Rattle.std.specs.Map.{lookup}
use Rattle.std.specs.BTreeMap.{is_at, insert_entry}
use Rattle.stab_base.specs.declared.chunk_name.ChunkName.{ChunkName}
use Rattle.stab_base.specs.declared.step.Step.{Step}
use Rattle.stab_base.specs.declared.step.Step.TheVariants as steps
use Rattle.row_value.specs.declared.content.Content.{Content}
use Rattle.row_value.specs.declared.content.Content.TheVariants.{Gone, Row}
use Rattle.row_value.specs.declared.schema.Schema.{Schema}
use Rattle.row_value.specs.declared.schema.Scheme.{Scheme}
use Rattle.row_value.specs.declared.schema.Scheme.TheVariants.{Strong, Causal, Eventual}
use Rattle.row_value.specs.declared.schema.Column.{Column}
use Rattle.row_value.specs.declared.schema.ColumnKind.{ColumnKind}
use Rattle.row_value.specs.declared.schema.ColumnKind.TheVariants as kinds
use Rattle.row_value.specs.declared.fit.FitFault.{FitFault}
use Rattle.row_value.specs.declared.fit.FitFault.TheVariants as faults
use Rattle.table_model.specs.declared.line.RowPair.{RowPair}
use Rattle.row_value.specs.Fit.{fit_of}
use Rattle.conflicts.specs.declared.pair.Choice.{Choice}
use Rattle.conflicts.specs.declared.pair.Choice.TheVariants.{Mine, Theirs, New}
use Rattle.conflicts.specs.declared.stored.Stored.{Stored}
use Rattle.conflicts.specs.declared.stored.Stored.TheVariants as resolvers
use Rattle.row_edits.specs.declared.change.Edit.{Edit}
use Rattle.row_edits.specs.Edit.{edited_to}
use Rattle.step_tables.specs.Slots.{Main}
use Rattle.step_tables.specs.Slots.{InFlight}
use Rattle.step_tables.specs.Slots.{Shadow}
use Rattle.step_tables.specs.Client.{row_cmp, version_in}
use Rattle.step_tables.specs.Chunks.{each_chunk, all_against, all_fresh, names_at, is_named, objects_of, cut}
use Rattle.step_tables.specs.Facts.{ClientFact, Fact, Answer, Refusal, Shown}
use Rattle.step_tables.specs.Sums.{by_digests}
use Rattle.step_tables.specs.Facts as facts
use Rattle.step_tables.specs.Messages.{Response, Pulled, Header, Pair, Outcome, Message, Send, Luck, SyncRequest}
use Rattle.step_tables.specs.Messages.{SyncResponse, PullRequest, PullResponse, TornPulled, TornRowRequest}
use Rattle.step_tables.specs.Messages.{TornRowResponse}
use Rattle.step_tables.specs.Messages as messages

-- ---- state

-- what a client keeps of a row: its last write that isn't accepted, the row as it last had it from the Store, the write
-- that waits for its answer, and the Store's row that is in conflict with Main
pub record Slots : Type 0 where
  pub main : Option Main
  pub shadow : Option Shadow
  pub out : Option InFlight
  pub conflict : Option Shadow

-- a table that was opened: the rows in the order of their ids, and whether it was closed since. What is done to a
-- closed table isn't said here; the world above refuses it
pub record TableDisk : Type 0 where
  pub schema : Schema
  pub position : ℕ
  pub rows : List (List ℕ × Slots)
  pub closed : Bool

-- a table that is opened just now
abbrev pub opened_table : Schema → TableDisk
opened_table schema = record { schema = schema; position = 0; rows = []; closed = false }

-- a table is opened, or closed for good
pub data TableChange : Type 0 where
  Opens : (schema : Schema) → TableChange
  Closes : TableChange

pub record RowPut : Type 0 where
  pub row : List ℕ
  pub slots : Slots

-- a change that is carried out whole: the client's last number, a row of a table, the table's position, and what is
-- told; or a table is opened or closed, and no row and no position changes
pub record Plan : Type 0 where
  pub last : ℕ
  pub table : ℕ
  pub row : Option RowPut
  pub position : Option ℕ
  pub alters : Option TableChange
  pub facts : List ClientFact

-- what the devices stand for: the number of the client's last write, the opened tables by their numbers, and the plan
-- that is committed and not done
pub record ClientDisk : Type 0 where
  pub last : ℕ
  pub tables : List (ℕ × TableDisk)
  pub plan : Option Plan

-- one device write: a plan is committed, its row or its table is put, it is done; or nothing of what the devices stand
-- for changes
pub data ClientChange : Type 0 where
  Commit : (plan : Plan) → ClientChange
  PutRow : (plan : Plan) → ClientChange
  PutTable : (plan : Plan) → ClientChange
  Finish : ClientChange
  Keep : (step : Step) → ClientChange

pub record ClientTask : Type 0 where
  pub change : ClientChange
  pub facts : List Fact
  pub sends : List Send

-- The device writes of a plan or a start beside those that change what the devices stand for, by their names, before
-- the plan's and behind them; the number of the plan, or of the one at work; and the row from the Store whose plan was
-- cut short before its commit, with its table. A client names its chunks itself, and how many there are isn't said
-- here.
pub record Shape : Type 0 where
  pub plan : ℕ
  pub before : List Step
  pub after : List Step
  pub torn : Option (ℕ × List ℕ)

abbrev pub no_shape : Shape
no_shape = record { plan = 0; before = []; after = []; torn = None }

-- no agenda: the client is down
pub record Client : Type 0 where
  pub disk : ClientDisk
  pub agenda : Option (List ClientTask)

pub data ClientMove : Type 0 where
  Write : (table : ℕ) → (row : List ℕ) → (content : Content) → ClientMove
  Change : (table : ℕ) → (row : List ℕ) → (edit : Edit) → ClientMove
  Show : (table : ℕ) → (row : List ℕ) → ClientMove
  Sum : (table : ℕ) → (row : List ℕ) → ClientMove
  Sync : (table : ℕ) → ClientMove
  Next : (table : ℕ) → (tears asks : List (List ℕ)) → ClientMove
  BeginCr : (table : ℕ) → ClientMove
  Conflicts : (table : ℕ) → ClientMove
  EndCr : (table : ℕ) → ClientMove
  Resolve : (table : ℕ) → (row : List ℕ) → (seen : ℕ) → (choice : Choice) → ClientMove
  ResolveAll : (table : ℕ) → (by : Stored) → ClientMove
  Alter : (table : ℕ) → (change : TableChange) → ClientMove
  Take : (message : Message) → ClientMove
  Work : (luck : Luck) → ClientMove
  Crash : (luck : Luck) → ClientMove
  Start : ClientMove

pub record ClientStep : Type 0 where
  pub client : Client
  pub answer : Answer
  pub facts : List Fact
  pub sends : List Send

abbrev pub quiet : ClientDisk → Option (List ClientTask) → Answer → ClientStep
quiet d agenda answer =
    record { client = record { disk = d; agenda = agenda }; answer = answer; facts = []; sends = [] }

abbrev pub down : ClientDisk → ClientStep
down d = quiet d None (facts.Refuses facts.Down)

-- an idle client that refuses, or has nothing to do
abbrev pub refused : ClientDisk → Refusal → ClientStep
refused d refusal = quiet d (Some []) (facts.Refuses refusal)

abbrev pub ignored : ClientDisk → ClientStep
ignored d = quiet d (Some []) facts.Done

-- ---- what the devices hold

abbrev pub no_slots : Slots
no_slots = record { main = None; shadow = None; out = None; conflict = None }

abbrev pub or_none : Option Slots → Slots
or_none None = no_slots
or_none (Some slots) = slots

abbrev pub slots_at : TableDisk → List ℕ → Slots
slots_at table row = or_none (lookup (is_at (row_cmp row)) table.rows)

abbrev pub table_at : ClientDisk → ℕ → Option TableDisk
table_at d number = lookup (is_at (nat_cmp number)) d.tables

abbrev pub slots_in : Option TableDisk → List ℕ → Slots
slots_in None row = no_slots
slots_in (Some table) row = slots_at table row

-- what a client keeps of a row of a table
abbrev pub slots_of : ClientDisk → ℕ → List ℕ → Slots
slots_of d table row = slots_in (table_at d table) row

abbrev pub position_in : Option TableDisk → ℕ
position_in None = 0
position_in (Some table) = table.position

abbrev pub position_of : ClientDisk → ℕ → ℕ
position_of d table = position_in (table_at d table)

-- an opened table, changed
abbrev pub with_table : ClientDisk → ℕ → Option TableDisk → (TableDisk → TableDisk) → ClientDisk
with_table d number None f = d
with_table d number (Some table) f = record d { tables = insert_entry nat_cmp d.tables number (f table) }

abbrev pub put_row : RowPut → TableDisk → TableDisk
put_row x table = record table { rows = insert_entry row_cmp table.rows x.row x.slots }

abbrev pub put_position : ℕ → TableDisk → TableDisk
put_position position table = record table { position = position }

abbrev pub row_put : ClientDisk → ℕ → ℕ → Option RowPut → ClientDisk
row_put d last table None = d
row_put d last table (Some x) = with_table (record d { last = last }) table (table_at d table) (put_row x)

abbrev pub table_put : ClientDisk → ℕ → Option ℕ → ClientDisk
table_put d table None = d
table_put d table (Some position) = with_table d table (table_at d table) (put_position position)

-- a table that is there already stays as it is
abbrev pub open_table : ClientDisk → ℕ → Schema → Option TableDisk → ClientDisk
open_table d number schema None = record d { tables = insert_entry nat_cmp d.tables number (opened_table schema) }
open_table d number schema (Some table) = d

abbrev pub close_table : TableDisk → TableDisk
close_table table = record table { closed = true }

abbrev pub altered : ClientDisk → ℕ → TableChange → ClientDisk
altered d number (Opens schema) = open_table d number schema (table_at d number)
altered d number Closes = with_table d number (table_at d number) close_table

-- the devices behind a plan of a row and a position
abbrev pub rows_applied : Plan → ClientDisk → ClientDisk
rows_applied p d = table_put (row_put d p.last p.table p.row) p.table p.position

abbrev pub applied_by : Plan → ClientDisk → Option TableChange → ClientDisk
applied_by p d None = rows_applied p d
applied_by p d (Some change) = altered d p.table change

-- the devices behind a plan
abbrev pub applied : Plan → ClientDisk → ClientDisk
applied p d = applied_by p d p.alters

abbrev pub planned_in : ClientDisk → Option Plan → ClientDisk
planned_in d None = d
planned_in d (Some p) = applied p d

-- the devices as they are read: a plan's change stands from its commit on
abbrev pub seen : ClientDisk → ClientDisk
seen d = planned_in d d.plan

-- ---- a device write

abbrev pub put_of : ClientDisk → Plan → Option TableChange → ClientDisk
put_of d p None = table_put d p.table p.position
put_of d p (Some change) = altered d p.table change

abbrev pub changed : ClientDisk → ClientChange → ClientDisk
changed d (Commit p) = record d { plan = Some p }
changed d (PutRow p) = row_put d p.last p.table p.row
changed d (PutTable p) = put_of d p p.alters
changed d Finish = record d { plan = None }
changed d (Keep step) = d

-- what the write is called
abbrev pub step_of : ClientChange → Step
step_of (Commit p) = steps.Commit
step_of (PutRow p) = steps.SlotPut
step_of (PutTable p) = steps.TablePut
step_of Finish = steps.Done
step_of (Keep step) = step

abbrev pub done : ClientDisk → Option (List ClientTask) → ClientStep
done d None = down d
done d (Some []) = quiet d (Some []) facts.Done
done d (Some (task ∷ more)) = record {
  client = record { disk = changed d task.change; agenda = Some more };
  answer = facts.Done;
  facts = task.facts;
  sends = task.sends;
}

-- a crash: the write at work is undone, or done with nothing told and sent, and all that isn't on a device is lost
abbrev pub crashed : ClientDisk → Option (List ClientTask) → Luck → ClientStep
crashed d (Some (task ∷ more)) messages.FailedBefore = quiet d None facts.Done
crashed d (Some (task ∷ more)) messages.FailedAfter = quiet (changed d task.change) None facts.Done
crashed d (Some (task ∷ more)) messages.Done = quiet (changed d task.change) None facts.Done
crashed d (Some []) luck = quiet d None facts.Done
crashed d None luck = down d

-- a write that fails takes the client down
abbrev pub failed : ClientDisk → Option (List ClientTask) → Luck → ClientStep
failed d agenda luck = record (crashed d agenda luck) { answer = facts.Refuses facts.NoDevice }

abbrev pub worked : ClientDisk → Option (List ClientTask) → Luck → ClientStep
worked d agenda messages.Done = done d agenda
worked d agenda messages.FailedBefore = failed d agenda messages.FailedBefore
worked d agenda messages.FailedAfter = failed d agenda messages.FailedAfter

-- ---- a plan's writes; what it tells comes with the commit, what it sends with the last write

abbrev pub told : Plan → List Fact
told p = map facts.Client p.facts

abbrev pub retold : Plan → List Fact
retold p = map facts.Redone p.facts

abbrev pub only : ClientChange → ClientTask
only change = record { change = change; facts = []; sends = [] }

abbrev pub row_task : Plan → Option RowPut → List ClientTask
row_task p None = []
row_task p (Some x) = only (PutRow p) ∷ []

abbrev pub table_task : Plan → Option ℕ → List ClientTask
table_task p None = []
table_task p (Some position) = only (PutTable p) ∷ []

abbrev pub keeps : List Step → List ClientTask
keeps some = map (λ (step : Step). only (Keep step)) some

-- the puts of a plan: of a row and a position, or of a table that is opened or closed
abbrev pub put_tasks : Plan → Option TableChange → List ClientTask → List ClientTask
put_tasks p None more = row_task p p.row ++ (table_task p p.position ++ more)
put_tasks p (Some change) more = only (PutTable p) ∷ more

-- behind the commit
abbrev pub rest_of : Shape → Plan → List Send → List ClientTask
rest_of shape p sends =
    put_tasks p p.alters (keeps shape.after ++ record { change = Finish; facts = []; sends = sends } ∷ [])

abbrev pub planning : Shape → Plan → List Send → List ClientTask
planning shape p sends =
    keeps shape.before ++ record { change = Commit p; facts = told p; sends = [] } ∷ rest_of shape p sends

abbrev pub begun : Shape → ClientDisk → Answer → Plan → List Send → ClientStep
begun shape d answer p sends = quiet d (Some (planning shape p sends)) answer

-- a plan that changes the slots of a row, and no number
abbrev pub slots_plan : ClientDisk → ℕ → List ℕ → Slots → List ClientFact → Plan
slots_plan d table row slots some =
    record {
      last = d.last;
      table = table;
      row = Some (record { row = row; slots = slots });
      position = None;
      alters = None;
      facts = some;
    }

-- ---- a start

-- the last of some writes tells more
abbrev pub ending : List Fact → List ClientTask → List ClientTask
ending some [] = []
ending some (task ∷ []) = record task { facts = task.facts ++ some } ∷ []
ending some (task ∷ next ∷ more) = task ∷ ending some (next ∷ more)

-- the writes of a start: those of the plan that is committed and not done, if there is one
abbrev pub opening : Shape → Option Plan → List ClientTask
opening shape None = keeps shape.before ++ keeps shape.after
opening shape (Some p) = keeps shape.before ++ rest_of shape p []

-- what a start tells at once: a plan's facts again, or the row whose plan was cut short before its commit
abbrev pub told_at_start : ℕ → Option (ℕ × List ℕ) → Option Plan → List Fact
told_at_start c torn (Some p) = retold p
told_at_start c (Some row) None = facts.Torn c row.0 row.1 ∷ []
told_at_start c None None = []

-- what the last of some writes would tell is told at once where there is none
abbrev pub told_without : List Fact → List ClientTask → List Fact
told_without some [] = some
told_without some (task ∷ more) = []

-- a client that has recovered says so; one whose declaration failed is made without a write
abbrev pub resumed : ℕ → Shape → ClientDisk → Option Plan → ClientStep
resumed c shape d plan =
    let tasks : List ClientTask = opening shape plan in
    let recovered : List Fact = facts.ClientRecovered c ∷ [] in
    record {
      client = record { disk = d; agenda = Some (ending recovered tasks) };
      answer = facts.Done;
      facts = told_at_start c shape.torn plan ++ told_without recovered tasks;
      sends = [];
    }

-- a client that is up goes on
abbrev pub started : ℕ → Shape → ClientDisk → Option (List ClientTask) → ClientStep
started c shape d (Some agenda) = quiet d (Some agenda) facts.Done
started c shape d None = resumed c shape d d.plan

-- ---- messages to the table's owner

abbrev pub to_owner : Message → Send
to_owner message = record { to = None; message = message }

abbrev pub request_for : ℕ → ℕ → List ℕ → InFlight → Send
request_for c table row out = to_owner (SyncRequest (record {
  client = c;
  table = table;
  row = row;
  number = out.number;
  base = out.base;
  content = out.content;
  pieces = out.pieces;
}))

abbrev pub pull_from : ℕ → ℕ → ℕ → Send
pull_from c table position = to_owner (PullRequest (record { client = c; table = table; position = position }))

-- ---- write

abbrev pub main_of : ℕ → ℕ → Content → Main
main_of number read content = record { number = number; read = read; content = content }

abbrev pub wrote : ℕ → ℕ → List ℕ → Main → ClientFact
wrote c table row main = facts.Wrote (record {
  client = c;
  number = main.number;
  table = table;
  row = row;
  read = main.read;
  content = main.content;
})

-- the next write is Main
abbrev pub write_plan : ℕ → ClientDisk → ℕ → List ℕ → Slots → Content → Plan
write_plan c d table row slots content =
    let main : Main = main_of (d.last + 1) (version_in slots.shadow) content in
    record (slots_plan d table row (record slots { main = Some main }) (wrote c table row main ∷ []))
    { last = main.number }

-- a write over a base, whose chunks aren't spelled yet
abbrev pub out_of : Main → ℕ → InFlight
out_of main base = record {
  number = main.number;
  read = main.read;
  base = base;
  content = main.content;
  pieces = [];
  whole = false;
}

-- the chunks of what was read last, each with the Store's name where it is known
abbrev pub chunks_read : ℕ → Option Shadow → List (List (Option ChunkName × List ℕ))
chunks_read size None = []
chunks_read size (Some x) = each_chunk size x.names (objects_of x.content)

-- a write whose chunks are spelled against what was read last, in chunks of a size
abbrev pub spelled : ℕ → Option Shadow → InFlight → InFlight
spelled size shadow out =
    record out { pieces = all_against 0 (chunks_read size shadow) (map (cut size) (objects_of out.content)) }

-- a strong write waits for its answer at once, over what was read
abbrev pub strong_out : ℕ → ℕ → Slots → Content → InFlight
strong_out size number slots content =
    let read : ℕ = version_in slots.shadow in spelled size slots.shadow (out_of (main_of number read content) read)

abbrev pub strong_plan : ℕ → ℕ → ClientDisk → ℕ → List ℕ → Slots → Content → Plan
strong_plan size c d table row slots content =
    let main : Main = main_of (d.last + 1) (version_in slots.shadow) content in
    record (slots_plan d table row (record slots { out = Some (strong_out size main.number slots content) })
    (wrote c table row main ∷ []))
    { last = main.number }

-- the first row of a table whose write waits for its answer
abbrev pub first_out : List (List ℕ × Slots) → Option InFlight
first_out [] = None
first_out (entry ∷ rows) = or_later entry.1.out (first_out rows)
  where
    or_later : Option InFlight → Option InFlight → Option InFlight
    or_later None later = later
    or_later (Some out) later = Some out

abbrev pub write_strong : ℕ → ℕ → Shape → ClientDisk → ℕ → List ℕ → Slots → Content → Option InFlight → ClientStep
write_strong size c shape d table row slots content (Some out) = refused d (facts.Outstanding out.number)
write_strong size c shape d table row slots content None =
    begun shape d (facts.Number (d.last + 1)) (strong_plan size c d table row slots content)
    (request_for c table row (strong_out size (d.last + 1) slots content) ∷ [])

abbrev pub write_by : Scheme → ℕ → Shape → ClientDisk → ℕ → List ℕ → TableDisk → Slots → Content → ClientStep
write_by Strong c shape d table row opened slots content =
    write_strong opened.schema.chunk c shape d table row slots content (first_out opened.rows)
write_by Causal c shape d table row opened slots content =
    begun shape d (facts.Number (d.last + 1)) (write_plan c d table row slots content) []
write_by Eventual c shape d table row opened slots content =
    begun shape d (facts.Number (d.last + 1)) (write_plan c d table row slots content) []

-- a row in conflict isn't written
abbrev pub write_free : Scheme → ℕ → Shape → ClientDisk → ℕ → List ℕ → TableDisk → Slots → Content → Option Shadow
    → ClientStep
write_free g c shape d table row opened slots content None = write_by g c shape d table row opened slots content
write_free g c shape d table row opened slots content (Some x) = refused d (facts.Conflicted x.version)

-- nor is one while a plan is at work
abbrev pub write_idle : Scheme → ℕ → Shape → ClientDisk → List ClientTask → ℕ → List ℕ → TableDisk → Content
    → ClientStep
write_idle g c shape d (task ∷ more) table row opened content =
    quiet d (Some (task ∷ more)) (facts.Refuses (facts.Busy shape.plan))
write_idle g c shape d [] table row opened content =
    let slots : Slots = slots_at opened row in write_free g c shape d table row opened slots content slots.conflict

abbrev pub write_fitting : Scheme → ℕ → Shape → ClientDisk → List ClientTask → ℕ → List ℕ → TableDisk → Content
    → Result (Unit {0}) FitFault → ClientStep
write_fitting g c shape d agenda table row opened content (Ok fits) =
    write_idle g c shape d agenda table row opened content
write_fitting g c shape d agenda table row opened content (Err fault) =
    quiet d (Some agenda) (facts.Refuses (facts.Unfit fault))

abbrev pub write_to : ℕ → Shape → ClientDisk → List ClientTask → ℕ → List ℕ → Content → Option TableDisk → ClientStep
write_to c shape d agenda table row content None = quiet d (Some agenda) (facts.Refuses facts.NoTable)
write_to c shape d agenda table row content (Some opened) =
    write_fitting opened.schema.scheme c shape d agenda table row opened content (fit_of opened.schema content)

abbrev pub write_step : ℕ → Shape → ClientDisk → Option (List ClientTask) → ℕ → List ℕ → Content → ClientStep
write_step c shape d None table row content = down d
write_step c shape d (Some agenda) table row content =
    write_to c shape d agenda table row content (table_at (seen d) table)

-- ---- show

-- what a client shows of a row
abbrev pub shown_in : Option Main → Option Shadow → Option Shadow → Option Shown
shown_in (Some main) None shadow = Some (facts.Mine main.number main.content)
shown_in (Some main) (Some x) shadow = Some (facts.Contended main.number x.version main.content)
shown_in None conflict (Some x) = Some (facts.Clean x.version x.content)
shown_in None conflict None = None

abbrev pub show_answer : Option Shown → Answer
show_answer None = facts.Refuses facts.NoRow
show_answer (Some what) = facts.Shows what

abbrev pub show_in : List ℕ → Option TableDisk → Answer
show_in row None = facts.Refuses facts.NoTable
show_in row (Some table) = let slots : Slots = slots_at table row in
    show_answer (shown_in slots.main slots.conflict slots.shadow)

abbrev pub show_step : ClientDisk → Option (List ClientTask) → ℕ → List ℕ → ClientStep
show_step d None table row = down d
show_step d (Some agenda) table row = quiet d (Some agenda) (show_in row (table_at (seen d) table))

-- ---- an edit: what it makes of the content that is shown is written; there is nothing to edit where nothing is shown,
-- nor where a row is shown that is gone

abbrev pub content_of : Shown → Content
content_of (facts.Clean version content) = content
content_of (facts.Mine number content) = content
content_of (facts.Contended number version content) = content

abbrev pub edit_made : ℕ → Shape → ClientDisk → List ClientTask → ℕ → List ℕ → TableDisk → Result Content FitFault
    → ClientStep
edit_made c shape d agenda table row opened (Ok content) = write_to c shape d agenda table row content (Some opened)
edit_made c shape d agenda table row opened (Err fault) = quiet d (Some agenda) (facts.Refuses (facts.Unfit fault))

abbrev pub edit_over : ℕ → Shape → ClientDisk → List ClientTask → ℕ → List ℕ → TableDisk → Edit → Option Content
    → ClientStep
edit_over c shape d agenda table row opened edit None = quiet d (Some agenda) (facts.Refuses facts.NoRow)
edit_over c shape d agenda table row opened edit (Some Gone) = quiet d (Some agenda) (facts.Refuses facts.NoRow)
edit_over c shape d agenda table row opened edit (Some (Row some objects)) =
    edit_made c shape d agenda table row opened (edited_to opened.schema some objects edit)

abbrev pub edit_in : ℕ → Shape → ClientDisk → List ClientTask → ℕ → List ℕ → Edit → Option TableDisk → ClientStep
edit_in c shape d agenda table row edit None = quiet d (Some agenda) (facts.Refuses facts.NoTable)
edit_in c shape d agenda table row edit (Some opened) = let slots : Slots = slots_at opened row in
    edit_over c shape d agenda table row opened edit
    (option_map content_of (shown_in slots.main slots.conflict slots.shadow))

abbrev pub edit_step : ℕ → Shape → ClientDisk → Option (List ClientTask) → ℕ → List ℕ → Edit → ClientStep
edit_step c shape d None table row edit = down d
edit_step c shape d (Some agenda) table row edit =
    edit_in c shape d agenda table row edit (table_at (seen d) table)

-- ---- sum: what is shown, its objects by their digests

abbrev pub digested : ClientStep → ClientStep
digested step = record step { answer = by_digests step.answer }

abbrev pub sum_step : ClientDisk → Option (List ClientTask) → ℕ → List ℕ → ClientStep
sum_step d agenda table row = digested (show_step d agenda table row)

-- ---- sync

-- the requests that wait for their answers are sent again, by rising row
abbrev pub resent : ℕ → ℕ → List (List ℕ × Slots) → List Send
resent c table [] = []
resent c table (entry ∷ rows) =
    option_to_list (option_map (request_for c table entry.0) entry.1.out) ++ resent c table rows

-- what a row sends next: its Main, where nothing of it waits for an answer and nothing is in conflict
abbrev pub to_send : Slots → Option InFlight → Option Main → Option Shadow → Option InFlight
to_send slots None (Some main) None = Some (out_of main (version_in slots.shadow))
to_send slots None (Some main) (Some x) = None
to_send slots None None conflict = None
to_send slots (Some out) main conflict = None

pub record RowOut : Type 0 where
  pub row : List ℕ
  pub slots : Slots
  pub out : InFlight

abbrev pub or_later : List ℕ → Slots → Option InFlight → Option RowOut → Option RowOut
or_later row slots None later = later
or_later row slots (Some out) later = Some (record { row = row; slots = slots; out = out })

-- the first row that has something to send
abbrev pub first_to_send : List (List ℕ × Slots) → Option RowOut
first_to_send [] = None
first_to_send (entry ∷ rows) =
    or_later entry.0 entry.1 (to_send entry.1 entry.1.out entry.1.main entry.1.conflict) (first_to_send rows)

-- with its chunks spelled
abbrev pub row_out : ℕ → RowOut → RowOut
row_out size x = record x { out = spelled size x.slots.shadow x.out }

abbrev pub send_plan : ClientDisk → ℕ → RowOut → Plan
send_plan d table x = slots_plan d table x.row (record x.slots { out = Some x.out }) []

abbrev pub sync_first : ℕ → Shape → ClientDisk → ℕ → List Send → Option RowOut → ClientStep
sync_first c shape d table again None = record (quiet d (Some []) (facts.Number (length again))) { sends = again }
sync_first c shape d table again (Some x) =
    record (begun shape d (facts.Number (length again + 1)) (send_plan d table x)
    (request_for c table x.row x.out ∷ []))
    { sends = again }

abbrev pub sync_in : ℕ → Shape → ClientDisk → List ClientTask → ℕ → Option TableDisk → ClientStep
sync_in c shape d agenda table None = quiet d (Some agenda) (facts.Refuses facts.NoTable)
sync_in c shape d (task ∷ more) table (Some opened) =
    quiet d (Some (task ∷ more)) (facts.Refuses (facts.Busy shape.plan))
sync_in c shape d [] table (Some opened) =
    sync_first c shape d table (resent c table opened.rows)
    (option_map (row_out opened.schema.chunk) (first_to_send opened.rows))

abbrev pub sync_step : ℕ → Shape → ClientDisk → Option (List ClientTask) → ℕ → ClientStep
sync_step c shape d None table = down d
sync_step c shape d (Some agenda) table = sync_in c shape d agenda table (table_at (seen d) table)

-- ---- the next change; or some rows are told as torn, and some are asked for whole in its place

abbrev pub torn_from : ℕ → ℕ → List ℕ → Send
torn_from c table row = to_owner (TornRowRequest (record { client = c; table = table; row = row }))

abbrev pub next_from : ℕ → ℕ → ℕ → List (List ℕ) → List Send
next_from c table position [] = pull_from c table position ∷ []
next_from c table position (row ∷ rows) = map (torn_from c table) (row ∷ rows)

abbrev pub next_in : ℕ → Shape → ClientDisk → List ClientTask → ℕ → List (List ℕ) → List (List ℕ) → Option TableDisk
    → ClientStep
next_in c shape d agenda table tears asks None = quiet d (Some agenda) (facts.Refuses facts.NoTable)
next_in c shape d (task ∷ more) table tears asks (Some opened) =
    quiet d (Some (task ∷ more)) (facts.Refuses (facts.Busy shape.plan))
next_in c shape d [] table tears asks (Some opened) = record (ignored d) {
  facts = map (facts.Torn c table) tears;
  sends = next_from c table opened.position asks;
}

abbrev pub next_step : ℕ → Shape → ClientDisk → Option (List ClientTask) → ℕ → List (List ℕ) → List (List ℕ)
    → ClientStep
next_step c shape d None table tears asks = down d
next_step c shape d (Some agenda) table tears asks = next_in c shape d agenda table tears asks (table_at (seen d) table)

-- ---- resolving: the row in conflict is read, and a new write stands over it, or none

abbrev pub over_plan : ℕ → ClientDisk → ℕ → List ℕ → Slots → Main → Shadow → Content → Plan
over_plan c d table row slots main x content =
    let next : Main = main_of (d.last + 1) x.version content in
    record (slots_plan d table row (record slots { main = Some next; shadow = Some x; conflict = None })
    (facts.Resolved c main.number table row x.version ∷ wrote c table row next ∷ [])) { last = next.number }

abbrev pub theirs_plan : ℕ → ClientDisk → ℕ → List ℕ → Slots → Main → Shadow → Plan
theirs_plan c d table row slots main x =
    slots_plan d table row (record slots { main = None; shadow = Some x; conflict = None })
    (facts.Resolved c main.number table row x.version ∷ [])

abbrev pub over_fitting : ℕ → Shape → ClientDisk → ℕ → List ℕ → Slots → Main → Shadow → Content
    → Result (Unit {0}) FitFault
    → ClientStep
over_fitting c shape d table row slots main x content (Ok fits) =
    begun shape d (facts.Number (d.last + 1)) (over_plan c d table row slots main x content) []
over_fitting c shape d table row slots main x content (Err fault) = refused d (facts.Unfit fault)

abbrev pub choose : ℕ → Shape → ClientDisk → ℕ → List ℕ → Schema → Slots → Main → Shadow → Choice → ClientStep
choose c shape d table row schema slots main x Mine =
    begun shape d (facts.Number (d.last + 1)) (over_plan c d table row slots main x main.content) []
choose c shape d table row schema slots main x Theirs =
    begun shape d (facts.Number 0) (theirs_plan c d table row slots main x) []
choose c shape d table row schema slots main x (New content) =
    over_fitting c shape d table row slots main x content (fit_of schema content)

abbrev pub resolve_over : ℕ → Shape → ClientDisk → ℕ → List ℕ → Schema → Slots → ℕ → Choice → Option Main
    → Option Shadow
    → ClientStep
resolve_over c shape d table row schema slots version choice (Some main) (Some x) =
    if x.version == version then choose c shape d table row schema slots main x choice
    else refused d (facts.Moved version x.version)
resolve_over c shape d table row schema slots version choice None conflict = refused d facts.NoConflict
resolve_over c shape d table row schema slots version choice (Some main) None = refused d facts.NoConflict

abbrev pub resolve_in : ℕ → Shape → ClientDisk → List ClientTask → ℕ → List ℕ → ℕ → Choice → Option TableDisk
    → ClientStep
resolve_in c shape d agenda table row version choice None = quiet d (Some agenda) (facts.Refuses facts.NoTable)
resolve_in c shape d (task ∷ more) table row version choice (Some opened) =
    quiet d (Some (task ∷ more)) (facts.Refuses (facts.Busy shape.plan))
resolve_in c shape d [] table row version choice (Some opened) =
    let slots : Slots = slots_at opened row in
    resolve_over c shape d table row opened.schema slots version choice slots.main slots.conflict

abbrev pub resolve_step : ℕ → Shape → ClientDisk → Option (List ClientTask) → ℕ → List ℕ → ℕ → Choice → ClientStep
resolve_step c shape d None table row version choice = down d
resolve_step c shape d (Some agenda) table row version choice =
    resolve_in c shape d agenda table row version choice (table_at (seen d) table)

-- ---- the rows in conflict

abbrev pub pair_of : List ℕ → Option Main → Option Shadow → Option RowPair
pair_of row None conflict = None
pair_of row (Some main) None = None
pair_of row (Some main) (Some x) = Some (record { row = row; number = main.number; version = x.version })

-- by rising row
abbrev pub pairs_of : List (List ℕ × Slots) → List RowPair
pairs_of [] = []
pairs_of (entry ∷ rows) = option_to_list (pair_of entry.0 entry.1.main entry.1.conflict) ++ pairs_of rows

abbrev pub conflicts_in : ClientDisk → List ClientTask → Option TableDisk → ClientStep
conflicts_in d agenda None = quiet d (Some agenda) (facts.Refuses facts.NoTable)
conflicts_in d agenda (Some opened) = quiet d (Some agenda) (facts.Pairs (pairs_of opened.rows))

abbrev pub conflicts_step : ClientDisk → Option (List ClientTask) → ℕ → ClientStep
conflicts_step d None table = down d
conflicts_step d (Some agenda) table = conflicts_in d agenda (table_at (seen d) table)

-- ---- a phase of a table begins or ends: what it allows is said below

abbrev pub phase_in : ClientDisk → List ClientTask → Option TableDisk → ClientStep
phase_in d agenda None = quiet d (Some agenda) (facts.Refuses facts.NoTable)
phase_in d agenda (Some opened) = quiet d (Some agenda) facts.Done

abbrev pub phase_step : ClientDisk → Option (List ClientTask) → ℕ → ClientStep
phase_step d None table = down d
phase_step d (Some agenda) table = phase_in d agenda (table_at (seen d) table)

-- ---- all conflicts of a table: how many there are to be resolved. Only numbers are compared

abbrev pub is_int : Option Column → Bool
is_int None = false
is_int (Some column) = is_int_kind column.kind
  where
    is_int_kind : ColumnKind → Bool
    is_int_kind kinds.Int = true
    is_int_kind kinds.Bool = false
    is_int_kind kinds.Text = false
    is_int_kind kinds.Object = false

abbrev pub can_resolve : Schema → Stored → Result (Unit {0}) FitFault
can_resolve schema resolvers.Mine = Ok tt
can_resolve schema resolvers.Theirs = Ok tt
can_resolve schema (resolvers.Larger column) =
    if is_int (slice_get schema.columns column) then Ok tt else Err (faults.BadCell column)

abbrev pub all_idle : Shape → ClientDisk → List ClientTask → TableDisk → ClientStep
all_idle shape d (task ∷ more) opened = quiet d (Some (task ∷ more)) (facts.Refuses (facts.Busy shape.plan))
all_idle shape d [] opened = quiet d (Some []) (facts.Number (length (pairs_of opened.rows)))

abbrev pub all_fitting : Shape → ClientDisk → List ClientTask → TableDisk → Result (Unit {0}) FitFault → ClientStep
all_fitting shape d agenda opened (Ok fits) = all_idle shape d agenda opened
all_fitting shape d agenda opened (Err fault) = quiet d (Some agenda) (facts.Refuses (facts.Unfit fault))

abbrev pub all_in : Shape → ClientDisk → List ClientTask → Stored → Option TableDisk → ClientStep
all_in shape d agenda by None = quiet d (Some agenda) (facts.Refuses facts.NoTable)
all_in shape d agenda by (Some opened) = all_fitting shape d agenda opened (can_resolve opened.schema by)

abbrev pub all_step : Shape → ClientDisk → Option (List ClientTask) → ℕ → Stored → ClientStep
all_step shape d None table by = down d
all_step shape d (Some agenda) table by = all_in shape d agenda by (table_at (seen d) table)

-- ---- the answer to a request

-- Main is dropped where it is the write of this number
abbrev pub without : ℕ → Option Main → Option Main
without number None = None
without number (Some main) = if main.number == number then None else Some main

-- what waited is accepted
abbrev pub freed : Slots → ℕ → Slots
freed slots number = record slots { main = without number slots.main; out = None }

abbrev pub known : List (List ChunkName) → List (List (Option ChunkName))
known names = map (λ (object : List ChunkName). map (λ (name : ChunkName). Some name) object) names

-- the row at the version that it was accepted at
abbrev pub shadow_at : ℕ → InFlight → Shadow
shadow_at version out =
    record { version = version; content = out.content; names = known (names_at version out.pieces) }

abbrev pub ack_plan : ℕ → ClientDisk → ℕ → List ℕ → Slots → InFlight → ℕ → Plan
ack_plan c d table row slots out version =
    slots_plan d table row (record (freed slots out.number) { shadow = Some (shadow_at version out) })
    (facts.Acked c out.number table row version ∷ [])

-- what waited is refused for good
abbrev pub lost_plan : ℕ → ClientDisk → ℕ → List ℕ → Slots → InFlight → ℕ → Plan
lost_plan c d table row slots out latest =
    slots_plan d table row (record slots { out = None }) (facts.Refused c out.number table row latest ∷ [])

-- what waited is to be sent with all its chunks
abbrev pub whole_out : InFlight → InFlight
whole_out out = record out { pieces = all_fresh 0 out.pieces; whole = true }

abbrev pub whole_plan : ClientDisk → ℕ → List ℕ → Slots → InFlight → Plan
whole_plan d table row slots out = slots_plan d table row (record slots { out = Some (whole_out out) }) []

abbrev pub outcome_taken : ℕ → Shape → ClientDisk → ℕ → List ℕ → TableDisk → Slots → InFlight → Outcome → ClientStep
outcome_taken c shape d table row opened slots out (messages.Accepted version) =
    begun shape d facts.Done (ack_plan c d table row slots out version) []
outcome_taken c shape d table row opened slots out (messages.Again version) =
    begun shape d facts.Done (ack_plan c d table row slots out version) []
outcome_taken c shape d table row opened slots out (messages.Late last) = ignored d
outcome_taken c shape d table row opened slots out (messages.Stale latest) =
    begun shape d facts.Done (lost_plan c d table row slots out latest) (pull_from c table opened.position ∷ [])
outcome_taken c shape d table row opened slots out (messages.Conflict latest) =
    record (ignored d) { sends = pull_from c table opened.position ∷ [] }
outcome_taken c shape d table row opened slots out messages.NeedWhole =
    if out.whole then ignored d
    else begun shape d facts.Done (whole_plan d table row slots out) (request_for c table row (whole_out out) ∷ [])

abbrev pub response_taken : ℕ → Shape → ClientDisk → Response → TableDisk → Option InFlight → ClientStep
response_taken c shape d response opened None = ignored d
response_taken c shape d response opened (Some out) =
    if out.number == response.number
    then outcome_taken c shape d response.table response.row opened (slots_at opened response.row) out response.outcome
    else ignored d

abbrev pub response_in : ℕ → Shape → ClientDisk → Response → Option TableDisk → ClientStep
response_in c shape d response None = ignored d
response_in c shape d response (Some opened) =
    response_taken c shape d response opened (slots_at opened response.row).out

-- ---- a row from the Store

-- the slots behind a row, and what is told
pub record Placed : Type 0 where
  pub slots : Slots
  pub facts : List ClientFact

abbrev pub shadow_of : Header → Shadow
shadow_of header = record { version = header.version; content = header.content; names = known header.names }

abbrev pub read_new : ℕ → ℕ → Header → Slots → List ClientFact → Placed
read_new c table header slots before = record {
  slots = record slots { shadow = Some (shadow_of header) };
  facts = before ++ facts.New c table header.row header.version ∷ [];
}

abbrev pub read_conflict : ℕ → ℕ → Header → Slots → List ClientFact → Main → Placed
read_conflict c table header slots before main = record {
  slots = record slots { conflict = Some (shadow_of header); out = None };
  facts = before ++ facts.Conflict c main.number table header.row header.version ∷ [];
}

-- whether a row is read over Main: in an eventual table, and where it is the client's own
abbrev pub reads_over : Scheme → ℕ → ℕ → Bool
reads_over Strong yours version = yours == version
reads_over Causal yours version = yours == version
reads_over Eventual yours version = true

-- whether every row is
abbrev pub is_weak : Scheme → Bool
is_weak Strong = false
is_weak Causal = false
is_weak Eventual = true

abbrev pub placed : Scheme → ℕ → ℕ → Header → Slots → List ClientFact → Option Main → Option Shadow → Placed
placed g c table header slots before None conflict = read_new c table header slots before
placed g c table header slots before (Some main) (Some x) =
    if is_weak g then read_new c table header slots before else read_conflict c table header slots before main
placed g c table header slots before (Some main) None =
    if reads_over g header.yours.version header.version
    then read_new c table header slots before
    else read_conflict c table header slots before main

-- a write of Out up to the number in `yours` was accepted
abbrev pub row_placed : Scheme → ℕ → ℕ → Header → Slots → Option InFlight → Placed
row_placed g c table header slots None = placed g c table header slots [] slots.main slots.conflict
row_placed g c table header slots (Some out) =
    if nat_le out.number header.yours.number
    then placed g c table header (freed slots out.number)
    (facts.Acked c out.number table header.row header.yours.version ∷ []) (without out.number slots.main) slots.conflict
    else placed g c table header slots [] slots.main slots.conflict

-- the version of a row that a client has read: Conflict's, else Shadow's, else 0
abbrev pub top : Option Shadow → Option Shadow → ℕ
top None shadow = version_in shadow
top (Some x) shadow = x.version

abbrev pub next_pull : ℕ → ℕ → Pulled → List Send
next_pull c table pulled = if nat_lt pulled.to pulled.latest then pull_from c table pulled.to ∷ [] else []

abbrev pub row_plan : ℕ → ClientDisk → ℕ → List ℕ → ℕ → Placed → Plan
row_plan c d table row position x =
    record (slots_plan d table row x.slots (x.facts ++ facts.Position c table position ∷ []))
    { position = Some position }

abbrev pub position_plan : ℕ → ClientDisk → ℕ → ℕ → Plan
position_plan c d table position =
    record {
      last = d.last;
      table = table;
      row = None;
      position = Some position;
      alters = None;
      facts = facts.Position c table position ∷ [];
    }

-- a row that isn't newer than the one read changes no slot
abbrev pub row_taken : ℕ → Shape → ClientDisk → Pulled → TableDisk → Header → Slots → ClientStep
row_taken c shape d pulled opened header slots =
    if nat_le header.version (top slots.conflict slots.shadow)
    then begun shape d facts.Done (position_plan c d pulled.table pulled.to) (next_pull c pulled.table pulled)
    else begun shape d facts.Done (row_plan c d pulled.table header.row pulled.to
    (row_placed opened.schema.scheme c pulled.table header slots slots.out))
    (next_pull c pulled.table pulled)

-- whether an answer comes next, and names the chunks of its row
abbrev pub comes_next : Pulled → TableDisk → Header → Bool
comes_next pulled opened header =
    (pulled.from == opened.position) && is_named opened.schema.chunk header.content header.names

-- another is dropped, and one without a row changes nothing
abbrev pub pulled_taken : ℕ → Shape → ClientDisk → Pulled → TableDisk → Option Header → ClientStep
pulled_taken c shape d pulled opened None = ignored d
pulled_taken c shape d pulled opened (Some header) =
    if comes_next pulled opened header then row_taken c shape d pulled opened header (slots_at opened header.row)
    else ignored d

abbrev pub pulled_in : ℕ → Shape → ClientDisk → Pulled → Option TableDisk → ClientStep
pulled_in c shape d pulled None = ignored d
pulled_in c shape d pulled (Some opened) = pulled_taken c shape d pulled opened pulled.header

-- ---- a row that was asked for whole: behind it, the next change is asked for

abbrev pub torn_plan : ClientDisk → ℕ → List ℕ → Placed → Plan
torn_plan d table row x = slots_plan d table row x.slots x.facts

-- a row that isn't newer than the one read changes no slot
abbrev pub torn_row_taken : ℕ → Shape → ClientDisk → ℕ → TableDisk → Header → Slots → ClientStep
torn_row_taken c shape d table opened header slots =
    if nat_le header.version (top slots.conflict slots.shadow)
    then record (ignored d) { sends = pull_from c table opened.position ∷ [] }
    else begun shape d facts.Done
    (torn_plan d table header.row (row_placed opened.schema.scheme c table header slots slots.out))
    (pull_from c table opened.position ∷ [])

-- one that doesn't name its chunks is dropped
abbrev pub torn_taken : ℕ → Shape → ClientDisk → ℕ → TableDisk → Option Header → ClientStep
torn_taken c shape d table opened None = record (ignored d) { sends = pull_from c table opened.position ∷ [] }
torn_taken c shape d table opened (Some header) =
    if is_named opened.schema.chunk header.content header.names
    then torn_row_taken c shape d table opened header (slots_at opened header.row)
    else ignored d

abbrev pub torn_in : ℕ → Shape → ClientDisk → TornPulled → Option TableDisk → ClientStep
torn_in c shape d answer None = ignored d
torn_in c shape d answer (Some opened) = torn_taken c shape d answer.table opened answer.header

-- a client at work doesn't take a message, and one that no rule takes is dropped
abbrev pub take_step : ℕ → Shape → ClientDisk → Option (List ClientTask) → Message → ClientStep
take_step c shape d None message = down d
take_step c shape d (Some (task ∷ more)) message = quiet d (Some (task ∷ more)) (facts.Refuses (facts.Busy shape.plan))
take_step c shape d (Some []) (SyncRequest request) = ignored d
take_step c shape d (Some []) (PullRequest pull) = ignored d
take_step c shape d (Some []) (SyncResponse response) =
    response_in c shape d response (table_at (seen d) response.table)
take_step c shape d (Some []) (PullResponse pulled) = pulled_in c shape d pulled (table_at (seen d) pulled.table)
take_step c shape d (Some []) (TornRowRequest torn) = ignored d
take_step c shape d (Some []) (TornRowResponse answer) = torn_in c shape d answer (table_at (seen d) answer.table)

-- ---- a table that isn't open yet is opened, and one that is is closed for good

abbrev pub told_of : ℕ → ℕ → TableChange → ClientFact
told_of c table (Opens schema) = facts.Opened c table
told_of c table Closes = facts.Dropped c table

abbrev pub alter_plan : ℕ → ClientDisk → ℕ → TableChange → Plan
alter_plan c d table change = record {
  last = d.last;
  table = table;
  row = None;
  position = None;
  alters = Some change;
  facts = told_of c table change ∷ [];
}

-- whether a table would be another one behind the change
abbrev pub may_alter : TableChange → Option TableDisk → Bool
may_alter (Opens schema) None = true
may_alter (Opens schema) (Some table) = false
may_alter Closes None = false
may_alter Closes (Some table) = not table.closed

abbrev pub alter_in : ℕ → Shape → ClientDisk → List ClientTask → ℕ → TableChange → ClientStep
alter_in c shape d (task ∷ more) table change = quiet d (Some (task ∷ more)) (facts.Refuses (facts.Busy shape.plan))
alter_in c shape d [] table change = if may_alter change (table_at (seen d) table)
    then begun shape d facts.Done (alter_plan c d table change) []
    else ignored d

abbrev pub alter_step : ℕ → Shape → ClientDisk → Option (List ClientTask) → ℕ → TableChange → ClientStep
alter_step c shape d None table change = down d
alter_step c shape d (Some agenda) table change = alter_in c shape d agenda table change

-- what a move makes of a client of this number, where its devices are written so beside
abbrev pub client_step : ℕ → Shape → Client → ClientMove → ClientStep
client_step c shape s (Write table row content) = write_step c shape s.disk s.agenda table row content
client_step c shape s (Change table row edit) = edit_step c shape s.disk s.agenda table row edit
client_step c shape s (Show table row) = show_step s.disk s.agenda table row
client_step c shape s (Sum table row) = sum_step s.disk s.agenda table row
client_step c shape s (Sync table) = sync_step c shape s.disk s.agenda table
client_step c shape s (Next table tears asks) = next_step c shape s.disk s.agenda table tears asks
client_step c shape s (BeginCr table) = phase_step s.disk s.agenda table
client_step c shape s (Conflicts table) = conflicts_step s.disk s.agenda table
client_step c shape s (EndCr table) = phase_step s.disk s.agenda table
client_step c shape s (Resolve table row version choice) =
    resolve_step c shape s.disk s.agenda table row version choice
client_step c shape s (ResolveAll table by) = all_step shape s.disk s.agenda table by
client_step c shape s (Alter table change) = alter_step c shape s.disk s.agenda table change
client_step c shape s (Take message) = take_step c shape s.disk s.agenda message
client_step c shape s (Work luck) = worked s.disk s.agenda luck
client_step c shape s (Crash luck) = crashed s.disk s.agenda luck
client_step c shape s Start = started c shape s.disk s.agenda

-- ---- a client whose link is down: it takes no message, sends and asks for nothing when it is called, and begins no
-- write of a strong table. What it refuses before it looks at its link, it refuses all the same

-- whether a client whose link is up would refuse before it looks at it
abbrev pub is_before_link : Answer → Bool
is_before_link facts.Done = false
is_before_link (facts.Number number) = false
is_before_link (facts.Shows shown) = false
is_before_link (facts.Sums sum) = false
is_before_link (facts.Stores version content) = false
is_before_link (facts.Did step) = false
is_before_link (facts.Names names) = false
is_before_link (facts.Pairs pairs) = false
is_before_link (facts.Refuses refusal) = is_before refusal
  where
    is_before : Refusal → Bool
    is_before (facts.Outstanding number) = false
    is_before other = true

abbrev pub is_strong : Scheme → Bool
is_strong Strong = true
is_strong Causal = false
is_strong Eventual = false

abbrev pub is_strong_in : Option TableDisk → Bool
is_strong_in None = false
is_strong_in (Some table) = is_strong table.schema.scheme

abbrev pub needs_link : ClientDisk → ClientMove → Bool
needs_link d (Write table row content) = is_strong_in (table_at (seen d) table)
needs_link d (Change table row edit) = is_strong_in (table_at (seen d) table)
needs_link d (Sync table) = true
needs_link d (Next table tears asks) = true
needs_link d (Take message) = true
needs_link d other = false

abbrev pub is_taking : ClientMove → Bool
is_taking (Take message) = true
is_taking other = false

-- whether it refuses the move for its link
abbrev pub is_cut_off : ℕ → Shape → Client → ClientMove → Bool
is_cut_off c shape s move =
    needs_link s.disk move && (is_taking move || not (is_before_link (client_step c shape s move).answer))

-- ---- while a phase of a table is open, its conflicts are resolved and its rows aren't written; while none is, none is
-- resolved. What a client refuses before it looks at the phase, it refuses all the same

-- whether a write is refused before: for what is to be written, or since a plan is at work
abbrev pub is_before_write : Answer → Bool
is_before_write (facts.Refuses refusal) = is_before refusal
  where
    is_before : Refusal → Bool
    is_before (facts.Conflicted version) = false
    is_before (facts.Outstanding number) = false
    is_before other = true
is_before_write other = false

-- whether another call is
abbrev pub is_before_phase : ClientMove → Answer → Bool
is_before_phase move (facts.Refuses facts.NoTable) = true
is_before_phase move (facts.Refuses (facts.Busy with)) = true
is_before_phase move (facts.Refuses facts.Down) = true
is_before_phase (ResolveAll table by) (facts.Refuses (facts.Unfit fault)) = true
is_before_phase move other = false

abbrev pub if_open : Bool → Bool → Option Refusal
if_open before is_open = if is_open && not before then Some facts.InResolution else None

abbrev pub if_closed : Bool → Bool → Option Refusal
if_closed before is_open = if not (is_open || before) then Some facts.NotInResolution else None

-- the refusal for the phases that are open, of a move that would be answered so
abbrev pub kept_out : (ℕ → Bool) → ClientMove → Answer → Option Refusal
kept_out phase (Write table row content) answer = if_open (is_before_write answer) (phase table)
kept_out phase (Change table row edit) answer = if_open (is_before_write answer) (phase table)
kept_out phase (BeginCr table) answer = if_open (is_before_phase (BeginCr table) answer) (phase table)
kept_out phase (Conflicts table) answer = if_closed (is_before_phase (Conflicts table) answer) (phase table)
kept_out phase (EndCr table) answer = if_closed (is_before_phase (EndCr table) answer) (phase table)
kept_out phase (Resolve table row seen choice) answer =
    if_closed (is_before_phase (Resolve table row seen choice) answer) (phase table)
kept_out phase (ResolveAll table by) answer = if_closed (is_before_phase (ResolveAll table by) answer) (phase table)
kept_out phase move answer = None

-- the phases behind a move that isn't kept out, of each client with its table: one that is down has none
abbrev pub phases_by : ℕ → ClientMove → Answer → Option (List ClientTask) → List (ℕ × ℕ) → List (ℕ × ℕ)
phases_by c move answer None phases = filter (λ (phase : ℕ × ℕ). not (phase.0 == c)) phases
phases_by c (BeginCr table) facts.Done (Some agenda) phases = (c, table) ∷ phases
phases_by c (EndCr table) facts.Done (Some agenda) phases =
    filter (λ (phase : ℕ × ℕ). not (phase.0 == c && phase.1 == table)) phases
phases_by c move answer (Some agenda) phases = phases
