-- The world: what an event makes of all nodes and of the network, with the lucks of the device calls that it does.
use Rattle.std.specs.Prelude.{ℕ, zero, suc, ◌+◌, ◌==◌, nat_le, nat_lt, Bool, true, false, ◌&&◌, ◌||◌, not, List, []}
use Rattle.std.specs.Prelude.{◌∷◌, ◌++◌, length, map, filter, drop, slice_get, Option, Some, None, option_to_list}
use Rattle.std.specs.Prelude.{if◌then◌else◌}
use Rattle.std.specs.List.{flat_map, find, list_any}
use Rattle.std.specs.Ordering.{nat_cmp}
use Rattle.std.specs.Map.{lookup, keys_of}
use Rattle.std.specs.BTreeMap.{is_at, insert_entry}
use Rattle.stab_base.specs.declared.node.Node.{Node}
use Rattle.stab_base.specs.declared.node.Node.TheVariants as nodes
use Rattle.stab_base.specs.declared.chunk_name.ChunkName.{ChunkName}
use Rattle.stab_base.specs.declared.step.Step.{Step}
use Rattle.stab_base.specs.declared.step.Step.TheVariants as steps
use Rattle.row_value.specs.declared.schema.Schema.{Schema}
use Rattle.row_value.specs.declared.schema.Scheme.{Scheme}
use Rattle.row_value.specs.declared.schema.Scheme.TheVariants.{Eventual}
use Rattle.table_model.specs.declared.entry.Entry.{Entry}
use Rattle.conflicts.specs.declared.pair.Choice.{Choice}
use Rattle.conflicts.specs.declared.pair.Choice.TheVariants as choices
use Rattle.conflicts.specs.declared.stored.Stored.{Stored}
use Rattle.conflicts.specs.Stored.{chosen}
use Rattle.table_model.specs.declared.line.RowPair.{RowPair}
use Rattle.table_model.specs.declared.event.Event.{Event}
use Rattle.table_model.specs.declared.event.Event.TheVariants as events
use Rattle.table_model.specs.declared.table_state.TableState.{TableState}
use Rattle.table_model.specs.declared.table_state.TableState.TheVariants as states
use Rattle.table_model.specs.History.{same_row}
use Rattle.ring_map.specs.Owners.{owner_on}
use Rattle.step_tables.specs.Slots.{Main}
use Rattle.step_tables.specs.Slots.{Shadow}
use Rattle.step_tables.specs.Store.{current_of}
use Rattle.step_tables.specs.Store as items
use Rattle.step_tables.specs.Chunks.{chunks_of, names_of, rising}
use Rattle.step_tables.specs.Facts.{Fact, Answer, Refusal, Line, AnswerLine, EntryLine, PairLine}
use Rattle.step_tables.specs.Facts.{FactLine}
use Rattle.step_tables.specs.Facts as facts
use Rattle.step_tables.specs.Messages.{Message, Send, Luck, name_of, table_of}
use Rattle.step_tables.specs.Messages as messages
use Rattle.step_tables.specs.Sayings.{Saying, SaysEntry, saying, entered}
use Rattle.step_tables.specs.StoreMoves as store
use Rattle.step_tables.specs.StoreMoves.{TableStore, StoreDisk, StoreTask, StoreMove, StoreStep, SidePut, store_step}
use Rattle.step_tables.specs.ClientMoves as client
use Rattle.step_tables.specs.ClientMoves.{Slots, TableDisk, Client, ClientTask, ClientMove, ClientStep, Shape}
use Rattle.step_tables.specs.ClientMoves.{no_shape, client_step, is_cut_off, kept_out, phases_by}

-- a message that was sent
pub record Packet : Type 0 where
  pub from : Node
  pub to : Node
  pub message : Message

-- a table at the Store, the history that it has told, and whether its devices were made: a declaration in which a disk
-- fails leaves that to the Store's next start
pub record Hosted : Type 0 where
  pub store : TableStore
  pub history : List Entry
  pub made : Bool

-- the declared Stores, the last one first, and tables with their schemas, the clients, every packet that was ever sent,
-- in order: each may be delivered at any time, again, or never; the nodes on hold, the Stores that a crash or a disk
-- has taken down, the clients whose link is down, and the phases that are open, each of a client with its table
pub record World : Type 0 where
  pub stores : List ℕ
  pub schemas : List (ℕ × Schema)
  pub tables : List (ℕ × Hosted)
  pub clients : List (ℕ × Client)
  pub packets : List Packet
  pub holds : List Node
  pub downs : List Node
  pub cuts : List Node
  pub phases : List (ℕ × ℕ)

abbrev pub start : World
start = record {
  stores = [];
  schemas = [];
  tables = [];
  clients = [];
  packets = [];
  holds = [];
  downs = [];
  cuts = [];
  phases = [];
}

abbrev pub schema_at : World → ℕ → Option Schema
schema_at w table = lookup (is_at (nat_cmp table)) w.schemas

abbrev pub hosted_at : World → ℕ → Option Hosted
hosted_at w table = lookup (is_at (nat_cmp table)) w.tables

abbrev pub client_at : World → ℕ → Option Client
client_at w c = lookup (is_at (nat_cmp c)) w.clients

abbrev pub scheme_in : Option Schema → Scheme
scheme_in None = Eventual
scheme_in (Some schema) = schema.scheme

-- the size of a table's chunks
abbrev pub chunk_in : Option Schema → ℕ
chunk_in None = 0
chunk_in (Some schema) = schema.chunk

-- ---- which Store keeps a table: its owner on the ring of those that are declared

abbrev pub owner_by : List ℕ → Option Schema → ℕ
owner_by stores None = 0
owner_by stores (Some schema) = owner_on schema.name stores

abbrev pub owner_of : World → ℕ → ℕ
owner_of w table = owner_by w.stores (schema_at w table)

abbrev pub has_store : World → ℕ → Bool
has_store w number = list_any (λ store. number == store) w.stores

-- the tables of a Store, by rising number
abbrev pub tables_of : World → ℕ → List ℕ
tables_of w number =
    if has_store w number then filter (λ table. owner_of w table == number) (keys_of w.tables) else []

-- a table, where this Store keeps it
abbrev pub hosted_by : World → ℕ → ℕ → Option Hosted
hosted_by w number table = if owner_of w table == number then hosted_at w table else None

-- ---- holds, and nodes that are down

abbrev pub same_node : Node → Node → Bool
same_node (nodes.Store a) (nodes.Store b) = a == b
same_node (nodes.Gate a) (nodes.Gate b) = a == b
same_node (nodes.Client a) (nodes.Client b) = a == b
same_node a b = false

abbrev pub has_node : List Node → Node → Bool
has_node some node = list_any (same_node node) some

abbrev pub without_node : List Node → Node → List Node
without_node some node = filter (λ other. not (same_node node other)) some

abbrev pub is_client_down : Option Client → Bool
is_client_down None = false
is_client_down (Some node) = has_none node.agenda
  where
    has_none : Option (List ClientTask) → Bool
    has_none None = true
    has_none (Some agenda) = false

abbrev pub is_unmade : Option Hosted → Bool
is_unmade None = false
is_unmade (Some hosted) = not hosted.made

-- whether a Store keeps a table whose declaration failed, which its next start makes
abbrev pub has_unmade : World → ℕ → Bool
has_unmade w number = list_any (λ table. is_unmade (hosted_at w table)) (tables_of w number)

-- a Store that isn't declared is down too
abbrev pub is_store_down : World → ℕ → Bool
is_store_down w number =
    not (has_store w number) || (has_node w.downs (nodes.Store number) || has_unmade w number)

abbrev pub is_down : World → Node → Bool
is_down w (nodes.Store number) = is_store_down w number
is_down w (nodes.Client c) = is_client_down (client_at w c)
is_down w (nodes.Gate gate) = false

-- whether a client's link is down
abbrev pub is_cut : World → ℕ → Bool
is_cut w c = has_node w.cuts (nodes.Client c)

-- a link that goes up or down
abbrev pub with_link : ℕ → Bool → World → World
with_link c true w = record w { cuts = without_node w.cuts (nodes.Client c) }
with_link c false w = record w { cuts = nodes.Client c ∷ w.cuts }

-- whether a client resolves the conflicts of a table
abbrev pub is_resolving : World → ℕ → ℕ → Bool
is_resolving w c table = list_any (λ (phase : ℕ × ℕ). phase.0 == c && phase.1 == table) w.phases

-- ---- what moves tell and send, and the lines of it

-- of one move
pub record Outbox : Type 0 where
  pub facts : List Fact
  pub packets : List Packet

abbrev pub sent_lines : ℕ → List Packet → List Line
sent_lines number [] = []
sent_lines number (packet ∷ packets) =
    FactLine (facts.Sent number packet.from packet.to (name_of packet.message)) ∷ sent_lines (number + 1) packets

-- each move's facts, and then its packets, the first of which has this number
abbrev pub lines_from : ℕ → List Outbox → List Line
lines_from number [] = []
lines_from number (out ∷ outs) =
    map FactLine out.facts ++ (sent_lines number out.packets ++ lines_from (number + length out.packets) outs)

-- the world behind an event: its answer with the lines that the answer counts, and what its moves told and sent
pub record WorldStep : Type 0 where
  pub world : World
  pub answer : Option Answer
  pub counted : List Line
  pub outs : List Outbox

abbrev pub lines_of : World → WorldStep → List Line
lines_of w s = map AnswerLine (option_to_list s.answer) ++ (s.counted ++ lines_from (length w.packets) s.outs)

-- behind some moves of an event: what they told and sent, and whether a device call failed
pub record Moved : Type 0 where
  pub world : World
  pub outs : List Outbox
  pub failed : Bool

abbrev pub still : World → Moved
still w = record { world = w; outs = []; failed = false }

abbrev pub and_then : Moved → (World → Moved) → Moved
and_then m f =
    record { world = (f m.world).world; outs = m.outs ++ (f m.world).outs; failed = m.failed || (f m.world).failed }

-- the same where nothing has failed so far; else nothing more is done
abbrev pub and_unless : Moved → (World → Moved) → Moved
and_unless m f = if m.failed then m else and_then m f

abbrev pub failing : Moved → Moved
failing m = record m { failed = true }

abbrev pub is_fault : Answer → Bool
is_fault facts.Done = false
is_fault (facts.Number number) = false
is_fault (facts.Shows shown) = false
is_fault (facts.Sums sum) = false
is_fault (facts.Stores version content) = false
is_fault (facts.Did step) = false
is_fault (facts.Names names) = false
is_fault (facts.Pairs pairs) = false
is_fault (facts.Refuses refusal) = is_device refusal
  where
    is_device : Refusal → Bool
    is_device facts.NoDevice = true
    is_device other = false

-- ---- moves

-- a message goes to a node, or to the owner of its table
abbrev pub address : (ℕ → ℕ) → Option Node → Message → Node
address owners None message = nodes.Store (owners (table_of message))
address owners (Some node) message = node

abbrev pub packets_from : (ℕ → ℕ) → Node → List Send → List Packet
packets_from owners from sends = map
    (λ (send : Send). record { from = from; to = address owners send.to send.message; message = send.message }) sends

-- the history goes on by the entries that facts tell
abbrev pub goes_on : List Entry → Saying → List Entry
goes_on history (SaysEntry table entry) = entered history entry
goes_on history other = history

abbrev pub history_on : List Entry → List Fact → List Entry
history_on history [] = history
history_on history (fact ∷ more) = history_on (goes_on history (saying fact)) more

abbrev pub after_table : World → ℕ → Hosted → StoreStep → Moved
after_table w table hosted s =
    let packets : List Packet = packets_from (owner_of w) (nodes.Store (owner_of w table)) s.sends in
    record {
      world = record w {
        tables =
            insert_entry nat_cmp w.tables table
            (record { store = s.store; history = history_on hosted.history s.facts; made = hosted.made });
        packets = w.packets ++ packets;
      };
      outs = record { facts = s.facts; packets = packets } ∷ [];
      failed = is_fault s.answer;
    }

abbrev pub table_step : World → ℕ → Hosted → StoreMove → StoreStep
table_step w table hosted move =
    let schema : Option Schema = schema_at w table in
    store_step (owner_of w table) (scheme_in schema) (chunk_in schema) table hosted.store move

abbrev pub move_hosted : World → ℕ → StoreMove → Option Hosted → Moved
move_hosted w table move None = still w
move_hosted w table move (Some hosted) = after_table w table hosted (table_step w table hosted move)

abbrev pub move_table : ℕ → StoreMove → World → Moved
move_table table move w = move_hosted w table move (hosted_at w table)

abbrev pub after_client : World → ℕ → ClientStep → Moved
after_client w c s =
    let packets : List Packet = packets_from (owner_of w) (nodes.Client c) s.sends in
    record {
      world = record w { clients = insert_entry nat_cmp w.clients c s.client; packets = w.packets ++ packets };
      outs = record { facts = s.facts; packets = packets } ∷ [];
      failed = is_fault s.answer;
    }

-- the phases that a step leaves open
abbrev pub with_phases : World → ℕ → ClientMove → ClientStep → World
with_phases w c move s = record w { phases = phases_by c move s.answer s.client.agenda w.phases }

abbrev pub moved_client : World → ℕ → ClientMove → ClientStep → Moved
moved_client w c move s = after_client (with_phases w c move s) c s

abbrev pub move_there : World → ℕ → ClientMove → Shape → Option Client → Moved
move_there w c move shape None = still w
move_there w c move shape (Some node) = moved_client w c move (client_step c shape node move)

abbrev pub move_client : ℕ → ClientMove → Shape → World → Moved
move_client c move shape w = move_there w c move shape (client_at w c)

-- ---- the work that follows, until idle: one device write for each task. A node that goes down does nothing more

-- where no luck is left, a write is done
abbrev pub first_luck : List Luck → Luck
first_luck [] = messages.Done
first_luck (luck ∷ more) = luck

abbrev pub other_lucks : List Luck → List Luck
other_lucks [] = []
other_lucks (luck ∷ more) = more

abbrev pub client_works : ℕ → List ClientTask → List Luck → World → Moved
client_works c [] lucks w = still w
client_works c (task ∷ tasks) lucks w =
    and_then (move_client c (client.Work (first_luck lucks)) no_shape w) (client_works c tasks (other_lucks lucks))

abbrev pub tasks_in : {X : Type 0} → Option (List X) → List X
tasks_in None = []
tasks_in (Some tasks) = tasks

abbrev pub hosted_tasks : Option Hosted → List StoreTask
hosted_tasks None = []
hosted_tasks (Some hosted) = tasks_in hosted.store.agenda

abbrev pub client_tasks : Option Client → List ClientTask
client_tasks None = []
client_tasks (Some node) = tasks_in node.agenda

-- the work of a client until it is idle
abbrev pub client_until_idle : ℕ → List Luck → World → Moved
client_until_idle c lucks w = client_works c (client_tasks (client_at w c)) lucks w

-- where the client isn't on hold
abbrev pub client_follows : ℕ → List Luck → World → Moved
client_follows c lucks w = if has_node w.holds (nodes.Client c) then still w else client_until_idle c lucks w

-- a client's next write
abbrev pub client_writes : ℕ → Luck → List ClientTask → World → Moved
client_writes c luck [] w = still w
client_writes c luck (task ∷ tasks) w = move_client c (client.Work luck) no_shape w

-- a client that is down is started, where what is read of its disks can be
abbrev pub starts_by : ℕ → Shape → Luck → List Luck → World → Moved
starts_by c shape messages.Done lucks w = and_then (move_client c client.Start shape w) (client_follows c lucks)
starts_by c shape messages.FailedBefore lucks w = failing (still w)
starts_by c shape messages.FailedAfter lucks w = failing (still w)

abbrev pub client_starts : ℕ → Shape → List Luck → World → Moved
client_starts c shape lucks w = starts_by c shape (first_luck lucks) (other_lucks lucks) w

-- a client loses what it has begun
abbrev pub client_falls : ℕ → World → Moved
client_falls c w = move_client c (client.Crash messages.FailedBefore) no_shape w

-- ---- a Store's tables

-- a table loses what it has begun
abbrev pub table_falls : ℕ → World → Moved
table_falls table w = move_table table (store.Crash messages.FailedBefore) w

abbrev pub tables_fall : List ℕ → World → Moved
tables_fall [] w = still w
tables_fall (table ∷ tables) w = and_then (table_falls table w) (tables_fall tables)

abbrev pub with_down : Node → World → World
with_down node w = record w { downs = node ∷ w.downs }

abbrev pub without_down : Node → World → World
without_down node w = record w { downs = without_node w.downs node }

-- a Store goes down with all its tables
abbrev pub store_falls : ℕ → World → Moved
store_falls number w =
    and_then (tables_fall (tables_of w number) w) (λ x. still (with_down (nodes.Store number) x))

-- a device call that fails takes its Store down
abbrev pub or_falls : ℕ → Moved → Moved
or_falls number m = if m.failed then and_then m (store_falls number) else m

abbrev pub is_at_work : World → ℕ → Bool
is_at_work w table = has_tasks (hosted_tasks (hosted_at w table))
  where
    has_tasks : List StoreTask → Bool
    has_tasks [] = false
    has_tasks (task ∷ tasks) = true

-- a Store's table of least number that has writes to do
abbrev pub busy_table : World → ℕ → Option ℕ
busy_table w number = find (is_at_work w) (tables_of w number)

abbrev pub is_live_state : TableState → Bool
is_live_state states.Draft = false
is_live_state states.Live = true
is_live_state states.Dropped = false

abbrev pub is_live : Option Hosted → Bool
is_live None = false
is_live (Some hosted) = is_live_state hosted.store.disk.state

-- a Store's live table of least number that has writes to do
abbrev pub busy_live : World → ℕ → Option ℕ
busy_live w number = find (λ table. is_live (hosted_at w table) && is_at_work w table) (tables_of w number)

-- its next write
abbrev pub write_next : ℕ → Luck → Option ℕ → World → Moved
write_next number luck None w = still w
write_next number luck (Some table) w = or_falls number (move_table table (store.Work luck) w)

-- so many writes of a Store, of its table of least number that has any
abbrev pub store_works : ℕ → ℕ → List Luck → World → Moved
store_works number zero lucks w = still w
store_works number (suc more) lucks w =
    and_unless (write_next number (first_luck lucks) (busy_table w number) w)
    (store_works number more (other_lucks lucks))

abbrev pub tasks_of : World → ℕ → List StoreTask
tasks_of w number = flat_map (λ table. hosted_tasks (hosted_at w table)) (tables_of w number)

-- the work of a Store until it is idle
abbrev pub store_until_idle : ℕ → List Luck → World → Moved
store_until_idle number lucks w = store_works number (length (tasks_of w number)) lucks w

-- where the Store isn't on hold
abbrev pub store_follows : ℕ → List Luck → World → Moved
store_follows number lucks w =
    if has_node w.holds (nodes.Store number) then still w else store_until_idle number lucks w

-- behind a step of a table that had no writes to do: where it has some now
abbrev pub table_follows : ℕ → List Luck → World → Moved
table_follows table lucks w = if is_at_work w table then store_follows (owner_of w table) lucks w else still w

-- a table whose declaration failed is declared, in the state in which it was to be, and has recovered
abbrev pub declared_late : ℕ → ℕ → TableState → StoreStep
declared_late number table state = record {
  store = record { disk = store.new_disk state; agenda = Some [] };
  answer = facts.Done;
  facts = facts.StoreRecovered number table ∷ [];
  sends = [];
}

abbrev pub start_hosted : World → ℕ → Option Hosted → Moved
start_hosted w table None = still w
start_hosted w table (Some hosted) = if hosted.made then move_table table store.Start w
    else after_table w table (record hosted { made = true })
    (declared_late (owner_of w table) table hosted.store.disk.state)

-- a table is started, where what is read of its disks can be
abbrev pub table_starts : ℕ → Luck → World → Moved
table_starts table messages.Done w = start_hosted w table (hosted_at w table)
table_starts table messages.FailedBefore w = failing (still w)
table_starts table messages.FailedAfter w = failing (still w)

abbrev pub tables_start : List ℕ → List Luck → World → Moved
tables_start [] lucks w = still w
tables_start (table ∷ tables) lucks w =
    and_unless (table_starts table (first_luck lucks) w) (tables_start tables (other_lucks lucks))

-- all tables of a Store are started, one after the other; where one isn't the Store is down, with all of them. A Store
-- that is down by a declaration alone loses the tables that are up first
abbrev pub store_starts : ℕ → List Luck → World → Moved
store_starts number lucks w =
    let tables : List ℕ = tables_of w number in
    let m : Moved = and_then (tables_fall tables w) (tables_start tables lucks) in
    if m.failed then and_then m (store_falls number)
    else and_then m (λ x. store_follows number (drop (length tables) lucks) (without_down (nodes.Store number) x))

-- how the write at work goes in a crash in which so many calls of its disk pass: where no disk fails by itself it is
-- undone with 0 or 1, done with 4, and either with 2 or 3
abbrev pub luck_of : ℕ → Luck → Luck
luck_of calls luck = if nat_le calls 1 then messages.FailedBefore
    else (if nat_lt calls 4 then luck else messages.FailedAfter)

abbrev pub crash_luck : ℕ → List Luck → Luck → Luck
crash_luck calls lucks messages.Done = luck_of calls (first_luck lucks)
crash_luck calls lucks messages.FailedBefore = messages.FailedBefore
crash_luck calls lucks messages.FailedAfter = messages.FailedAfter

abbrev pub table_crashes : Luck → Option ℕ → World → Moved
table_crashes luck None w = still w
table_crashes luck (Some table) w = move_table table (store.Crash luck) w

-- a Store crashes inside the next write of its busy table of least number, or beside any
abbrev pub store_crashes : ℕ → ℕ → List Luck → World → Moved
store_crashes number calls lucks w =
    and_then
    (table_crashes (crash_luck calls (other_lucks lucks) (first_luck lucks)) (busy_table w number) w)
    (store_falls number)

-- a client crashes inside its next write, or beside any
abbrev pub client_crashes : ℕ → ℕ → List Luck → World → Moved
client_crashes c calls lucks w =
    move_client c (client.Crash (crash_luck calls (other_lucks lucks) (first_luck lucks))) no_shape w

-- ---- events

-- an event whose device call failed is answered so
abbrev pub answering : Answer → Moved → WorldStep
answering answer m = record {
  world = m.world;
  answer = Some (if m.failed then facts.Refuses facts.NoDevice else answer);
  counted = [];
  outs = m.outs;
}

abbrev pub answered : World → Answer → WorldStep
answered w answer = answering answer (still w)

abbrev pub refused : World → Refusal → WorldStep
refused w refusal = answered w (facts.Refuses refusal)

abbrev pub silent : World → WorldStep
silent w = record { world = w; answer = None; counted = []; outs = [] }

abbrev pub unless_down : World → Node → WorldStep → WorldStep
unless_down w node s = if is_down w node then refused w (facts.NodeDown node) else s

abbrev pub agenda_of : Bool → Option (List StoreTask)
agenda_of true = Some []
agenda_of false = None

-- a table that is made is up; one that isn't is down, and its owner with it
abbrev pub new_hosted : TableState → Bool → Hosted
new_hosted state made = record {
  store = record { disk = store.new_disk state; agenda = agenda_of made };
  history = [];
  made = made;
}

abbrev pub with_table : World → ℕ → Schema → TableState → Bool → World
with_table w table schema state made = record w {
  schemas = insert_entry nat_cmp w.schemas table schema;
  tables = insert_entry nat_cmp w.tables table (new_hosted state made);
}

abbrev pub made_with : World → ℕ → Schema → TableState → Luck → World
made_with w table schema state messages.Done = with_table w table schema state true
made_with w table schema state messages.FailedBefore = with_table w table schema state false
made_with w table schema state messages.FailedAfter = with_table w table schema state false

-- a Store that joins while one is down is down too
abbrev pub joining : ℕ → List Node → List Node
joining number [] = []
joining number (node ∷ more) = nodes.Store number ∷ node ∷ more

abbrev pub with_store : ℕ → World → World
with_store number w = record w { stores = number ∷ w.stores; downs = joining number w.downs }

-- a table that is there already stays as it is, and so does a client
abbrev pub declared : World → ℕ → Schema → TableState → Luck → Option Hosted → World
declared w table schema state luck None = made_with w table schema state luck
declared w table schema state luck (Some hosted) = w

abbrev pub with_opened : List (ℕ × TableDisk) → ℕ → Option Schema → List (ℕ × TableDisk)
with_opened tables table None = tables
with_opened tables table (Some schema) = insert_entry nat_cmp tables table (client.opened_table schema)

-- the declared ones among some tables, each with its schema
abbrev pub open_all : World → List (ℕ × TableDisk) → List ℕ → List (ℕ × TableDisk)
open_all w some [] = some
open_all w some (table ∷ tables) = open_all w (with_opened some table (schema_at w table)) tables

abbrev pub new_client : List (ℕ × TableDisk) → Option (List ClientTask) → Client
new_client tables agenda = record { disk = record { last = 0; tables = tables; plan = None }; agenda = agenda }

-- a client in whose declaration a disk fails is down
abbrev pub first_agenda : Luck → Option (List ClientTask)
first_agenda messages.Done = Some []
first_agenda messages.FailedBefore = None
first_agenda messages.FailedAfter = None

abbrev pub joined : World → ℕ → List ℕ → Luck → Option Client → World
joined w c tables luck (Some node) = w
joined w c tables luck None = record w {
  clients = insert_entry nat_cmp w.clients c (new_client (open_all w [] tables) (first_agenda luck));
}

-- whether a client that had no writes to do has some behind a step
abbrev pub gets_tasks : Option (List ClientTask) → World → ℕ → Bool
gets_tasks (Some []) w c = has_tasks (client_tasks (client_at w c))
  where
    has_tasks : List ClientTask → Bool
    has_tasks [] = false
    has_tasks (task ∷ tasks) = true
gets_tasks agenda w c = false

-- the work that follows such a step
abbrev pub client_follows_from : Option (List ClientTask) → ℕ → List Luck → World → Moved
client_follows_from agenda c lucks w = if gets_tasks agenda w c then client_follows c lucks w else still w

-- a call that reads the client's disks; one that fails takes the client down, with its devices as they were
abbrev pub reads : World → ℕ → Luck → WorldStep → WorldStep
reads w c messages.Done s = s
reads w c messages.FailedBefore s = answering facts.Done (failing (client_falls c w))
reads w c messages.FailedAfter s = answering facts.Done (failing (client_falls c w))

-- a client that is up
abbrev pub calls : World → ℕ → ClientMove → Shape → List Luck → Client → WorldStep
calls w c move shape lucks node =
    answering (client_step c shape node move).answer
    (and_then (move_client c move shape w) (client_follows_from node.agenda c lucks))

-- what it can't do with its link down, it refuses
abbrev pub unless_cut : World → Bool → WorldStep → WorldStep
unless_cut w cut s = if cut then refused w facts.Offline else s

-- nor what the phases that are open keep it from
abbrev pub unless_kept : World → Option Refusal → WorldStep → WorldStep
unless_kept w None s = s
unless_kept w (Some refusal) s = refused w refusal

-- ---- a table that is closed: each call is refused, and a message is taken with no use for it

abbrev pub table_of_move : ClientMove → Option ℕ
table_of_move (client.Write table row content) = Some table
table_of_move (client.Change table row edit) = Some table
table_of_move (client.Show table row) = Some table
table_of_move (client.Sum table row) = Some table
table_of_move (client.Sync table) = Some table
table_of_move (client.Next table tears asks) = Some table
table_of_move (client.BeginCr table) = Some table
table_of_move (client.Conflicts table) = Some table
table_of_move (client.EndCr table) = Some table
table_of_move (client.Resolve table row seen choice) = Some table
table_of_move (client.ResolveAll table by) = Some table
table_of_move (client.Take message) = Some (table_of message)
table_of_move other = None

abbrev pub is_closed_in : Option TableDisk → Bool
is_closed_in None = false
is_closed_in (Some table) = table.closed

abbrev pub is_closed : Client → Option ℕ → Bool
is_closed node None = false
is_closed node (Some table) = is_closed_in (client.table_at (client.seen node.disk) table)

abbrev pub idle_answer : Shape → Option (List ClientTask) → Answer
idle_answer shape (Some (task ∷ more)) = facts.Refuses (facts.Busy shape.plan)
idle_answer shape agenda = facts.Done

abbrev pub closed_answer : Shape → Bool → Option (List ClientTask) → ClientMove → Answer
closed_answer shape cut agenda (client.Take message) =
    if cut then facts.Refuses facts.Offline else idle_answer shape agenda
closed_answer shape cut agenda move = facts.Refuses facts.NoTable

abbrev pub unless_closed : World → Bool → Answer → WorldStep → WorldStep
unless_closed w closed answer s = if closed then answered w answer else s

abbrev pub call_there : World → ℕ → ClientMove → Shape → List Luck → Option Client → WorldStep
call_there w c move shape lucks None = refused w facts.NoTable
call_there w c move shape lucks (Some node) =
    unless_down w (nodes.Client c)
    (reads w c (first_luck lucks)
    (unless_closed w (is_closed node (table_of_move move)) (closed_answer shape (is_cut w c) node.agenda move)
    (unless_kept w (kept_out (is_resolving w c) move (client_step c shape node move).answer)
    (unless_cut w (is_cut w c && is_cut_off c shape node move) (calls w c move shape (other_lucks lucks) node)))))

-- a client's move, and the work that follows
abbrev pub call : World → ℕ → ClientMove → Shape → List Luck → WorldStep
call w c move shape lucks = call_there w c move shape lucks (client_at w c)

-- the rows in conflict that an answer has, each on a line of its own
abbrev pub listed : WorldStep → WorldStep
listed s = by_answer s.answer
  where
    by_answer : Option Answer → WorldStep
    by_answer (Some (facts.Pairs pairs)) =
        record s { answer = Some (facts.Number (length pairs)); counted = map PairLine pairs }
    by_answer other = s

-- ---- all conflicts of a table, by rising row: each is resolved in one way, and the plan of it worked to its end, also
-- on hold

abbrev pub first_shape : List Shape → Shape
first_shape [] = no_shape
first_shape (shape ∷ shapes) = shape

abbrev pub other_shapes : List Shape → List Shape
other_shapes [] = []
other_shapes (shape ∷ shapes) = shapes

abbrev pub chosen_in : Stored → List ℕ → Option Main → Option Shadow → Choice
chosen_in by row (Some main) (Some x) = chosen by
    (record { row = row; number = main.number; version = x.version; mine = main.content; theirs = x.content })
chosen_in by row (Some main) None = choices.Mine
chosen_in by row None conflict = choices.Mine

abbrev pub chosen_of : Stored → List ℕ → Option Client → ℕ → Choice
chosen_of by row None table = choices.Mine
chosen_of by row (Some node) table = let slots : Slots = client.slots_of (client.seen node.disk) table row in
    chosen_in by row slots.main slots.conflict

abbrev pub client_pairs : Option Client → ℕ → List RowPair
client_pairs None table = []
client_pairs (Some node) table = pairs_in (client.table_at (client.seen node.disk) table)
  where
    pairs_in : Option TableDisk → List RowPair
    pairs_in None = []
    pairs_in (Some opened) = client.pairs_of opened.rows

-- a row in conflict is read, which may fail, and resolved
abbrev pub resolve_by : ℕ → ℕ → Stored → Shape → RowPair → Luck → World → Moved
resolve_by c table by shape pair messages.Done w =
    move_client c (client.Resolve table pair.row pair.version (chosen_of by pair.row (client_at w c) table)) shape w
resolve_by c table by shape pair messages.FailedBefore w = failing (client_falls c w)
resolve_by c table by shape pair messages.FailedAfter w = failing (client_falls c w)

-- how many device writes its plan has
abbrev pub plan_size : ℕ → World → ℕ
plan_size c w = length (client_tasks (client_at w c))

abbrev pub resolve_each : ℕ → ℕ → Stored → List Shape → List Luck → List RowPair → World → Moved
resolve_each c table by shapes lucks [] w = still w
resolve_each c table by shapes lucks (pair ∷ pairs) w =
    let resolved : Moved = resolve_by c table by (first_shape shapes) pair (first_luck lucks) w in
    and_unless (and_unless resolved (client_until_idle c (other_lucks lucks)))
    (resolve_each c table by (other_shapes shapes) (drop (1 + plan_size c resolved.world) lucks) pairs)

-- where the client may resolve them
abbrev pub resolve_all : World → ℕ → ℕ → Stored → List Shape → List Luck → WorldStep → WorldStep
resolve_all w c table by shapes lucks s = by_answer s.answer
  where
    by_answer : Option Answer → WorldStep
    by_answer (Some (facts.Number count)) =
        answering (facts.Number count) (resolve_each c table by shapes lucks (client_pairs (client_at w c) table) w)
    by_answer other = s

-- a table that has no writes to do reads its disks for a message, which may fail; any other refuses
abbrev pub take_read : World → ℕ → Hosted → StoreMove → List Luck → Luck → WorldStep
take_read w table hosted move lucks messages.Done =
    answering (table_step w table hosted move).answer (and_then (move_table table move w) (table_follows table lucks))
take_read w table hosted move lucks messages.FailedBefore =
    answering facts.Done (failing (store_falls (owner_of w table) w))
take_read w table hosted move lucks messages.FailedAfter =
    answering facts.Done (failing (store_falls (owner_of w table) w))

abbrev pub take_at : World → ℕ → Hosted → StoreMove → List Luck → Option (List StoreTask) → WorldStep
take_at w table hosted move lucks (Some []) = take_read w table hosted move (other_lucks lucks) (first_luck lucks)
take_at w table hosted move lucks agenda =
    answering (table_step w table hosted move).answer (move_table table move w)

abbrev pub to_hosted : World → ℕ → StoreMove → List Luck → Option Hosted → WorldStep
to_hosted w table move lucks None = answered w facts.Done
to_hosted w table move lucks (Some hosted) = take_at w table hosted move lucks hosted.store.agenda

abbrev pub to_there : World → ℕ → Message → Shape → List Luck → Option Client → WorldStep
to_there w c message shape lucks None = answered w facts.Done
to_there w c message shape lucks (Some node) = call_there w c (client.Take message) shape lucks (Some node)

-- a packet whose party or table isn't there is lost
abbrev pub carried : World → Packet → Shape → List Luck → Node → WorldStep
carried w packet shape lucks (nodes.Store number) =
    unless_down w (nodes.Store number)
    (to_hosted w (table_of packet.message) (store.Take packet.from packet.message) lucks
    (hosted_by w number (table_of packet.message)))
carried w packet shape lucks (nodes.Client c) = to_there w c packet.message shape lucks (client_at w c)
carried w packet shape lucks (nodes.Gate gate) = answered w facts.Done

abbrev pub delivered : World → Shape → List Luck → Option Packet → WorldStep
delivered w shape lucks None = refused w (facts.NoPacket (length w.packets))
delivered w shape lucks (Some packet) = carried w packet shape lucks packet.to

abbrev pub row_shown : Option items.Stored → Answer
row_shown None = facts.Refuses facts.NoRow
row_shown (Some item) = facts.Stores item.entry.version item.content

-- the Store reads its disks for a row
abbrev pub row_read : World → ℕ → Hosted → List ℕ → Luck → WorldStep
row_read w table hosted row messages.Done = answered w (row_shown (current_of hosted.store.disk.items row))
row_read w table hosted row messages.FailedBefore =
    answering facts.Done (failing (store_falls (owner_of w table) w))
row_read w table hosted row messages.FailedAfter =
    answering facts.Done (failing (store_falls (owner_of w table) w))

abbrev pub store_shows : World → ℕ → List ℕ → List Luck → Option Hosted → WorldStep
store_shows w table row lucks None = refused w facts.NoTable
store_shows w table row lucks (Some hosted) =
    unless_down w (nodes.Store (owner_of w table)) (row_read w table hosted row (first_luck lucks))

-- each row that the items are of, once
abbrev pub rows_in : List items.Stored → List (List ℕ)
rows_in [] = []
rows_in (item ∷ items) =
    item.entry.row ∷ filter (λ row. not (same_row item.entry.row row)) (rows_in items)

-- the chunks that are on the devices of a table whose chunks have this size: those of its rows, and those that no row
-- names
abbrev pub names_on : ℕ → StoreDisk → List ChunkName
names_on size disk =
    rising (flat_map (λ row. names_of (chunks_of size disk.items row)) (rows_in disk.items) ++ disk.left)

-- no name is the number 0
abbrev pub names_answer : List ChunkName → Answer
names_answer [] = facts.Number 0
names_answer (name ∷ names) = facts.Names (name ∷ names)

abbrev pub chunk_names : World → ℕ → Option Hosted → WorldStep
chunk_names w table None = refused w facts.NoTable
chunk_names w table (Some hosted) =
    unless_down w (nodes.Store (owner_of w table))
    (answered w (names_answer (names_on (chunk_in (schema_at w table)) hosted.store.disk)))

abbrev pub entry_lines : ℕ → List Entry → List Line
entry_lines table history = map (EntryLine table) history

abbrev pub history_lines : World → ℕ → Option Hosted → WorldStep
history_lines w table None = refused w facts.NoTable
history_lines w table (Some hosted) = record {
  world = w;
  answer = Some (facts.Number (length hosted.history));
  counted = entry_lines table hosted.history;
  outs = [];
}

-- ---- what is done to a node; a gateway has no devices

abbrev pub next_step : List StoreTask → Step
next_step [] = steps.Idle
next_step (task ∷ tasks) = store.step_of task.change

abbrev pub busy_step : World → Option ℕ → Step
busy_step w None = steps.Idle
busy_step w (Some table) = next_step (hosted_tasks (hosted_at w table))

abbrev pub next_write : List ClientTask → Step
next_write [] = steps.Idle
next_write (task ∷ tasks) = client.step_of task.change

abbrev pub worked : World → List Luck → Node → WorldStep
worked w lucks (nodes.Store number) =
    let busy : Option ℕ = busy_table w number in
    answering (facts.Did (busy_step w busy)) (write_next number (first_luck lucks) busy w)
worked w lucks (nodes.Client c) =
    let tasks : List ClientTask = client_tasks (client_at w c) in
    answering (facts.Did (next_write tasks)) (client_writes c (first_luck lucks) tasks w)
worked w lucks (nodes.Gate gate) = answered w (facts.Did steps.Idle)

abbrev pub all_worked : World → List Luck → Node → WorldStep
all_worked w lucks (nodes.Store number) =
    answering (facts.Number (length (tasks_of w number))) (store_until_idle number lucks w)
all_worked w lucks (nodes.Client c) =
    answering (facts.Number (length (client_tasks (client_at w c)))) (client_until_idle c lucks w)
all_worked w lucks (nodes.Gate gate) = answered w (facts.Number 0)

abbrev pub crashed : World → ℕ → List Luck → Node → WorldStep
crashed w calls lucks (nodes.Store number) = answering facts.Done (store_crashes number calls lucks w)
crashed w calls lucks (nodes.Client c) = answering facts.Done (client_crashes c calls lucks w)
crashed w calls lucks (nodes.Gate gate) = answered w facts.Done

-- a node that is up goes on; a Store that isn't declared doesn't start
abbrev pub started : World → Shape → List Luck → Node → WorldStep
started w shape lucks (nodes.Store number) = if has_store w number && is_down w (nodes.Store number)
    then answering facts.Done (store_starts number lucks w)
    else answered w facts.Done
started w shape lucks (nodes.Client c) = if is_down w (nodes.Client c)
    then answering facts.Done (client_starts c shape lucks w)
    else answered w facts.Done
started w shape lucks (nodes.Gate gate) = answered w facts.Done

-- a client whose link goes down, or up
abbrev pub linked : World → ℕ → Bool → Option Client → WorldStep
linked w c up None = answered w facts.Done
linked w c up (Some node) = unless_down w (nodes.Client c) (answered (with_link c up w) facts.Done)

-- ---- a table is opened or closed at a client, or its Store puts something beside its rows. No message says so here:
-- the world above has the messages, and does this where one is taken

-- what is put at the Store that keeps the table
abbrev pub puts_beside : World → ℕ → ℕ → SidePut → List Luck → WorldStep
puts_beside w number table put lucks =
    unless_down w (nodes.Store number) (to_hosted w table (store.Place put) lucks (hosted_by w number table))

-- a table that isn't declared isn't opened
abbrev pub opens : World → ℕ → ℕ → Shape → List Luck → Option Schema → WorldStep
opens w c table shape lucks None = answered w facts.Done
opens w c table shape lucks (Some schema) = call w c (client.Alter table (client.Opens schema)) shape lucks

abbrev pub created : World → ℕ → Shape → List Luck → Node → WorldStep
created w table shape lucks (nodes.Store number) = puts_beside w number table (store.PutState states.Live) lucks
created w table shape lucks (nodes.Client c) = opens w c table shape lucks (schema_at w table)
created w table shape lucks (nodes.Gate gate) = answered w facts.Done

abbrev pub dropped : World → ℕ → Shape → List Luck → Node → WorldStep
dropped w table shape lucks (nodes.Store number) = puts_beside w number table (store.PutState states.Dropped) lucks
dropped w table shape lucks (nodes.Client c) = call w c (client.Alter table client.Closes) shape lucks
dropped w table shape lucks (nodes.Gate gate) = answered w facts.Done

-- What isn't in the script: how the device calls of an event go, one after the other; which device writes a client has
-- in it beside those that change what its devices stand for, for each of its plans where it may begin many; and where a
-- client pulls, the rows that it tells as torn, and those that it asks for whole.
pub record Lucks : Type 0 where
  pub calls : List Luck
  pub shape : Shape
  pub shapes : List Shape
  pub tears : List (List ℕ)
  pub asks : List (List ℕ)

-- where all goes well, no client has such writes, and no row is torn
abbrev pub no_lucks : Lucks
no_lucks = record { calls = []; shape = no_shape; shapes = []; tears = []; asks = [] }

-- what an event makes of the world, where its device calls go so
abbrev pub step : World → Event → Lucks → WorldStep
step w (events.Store number) lucks = silent (with_store number w)
step w (events.Gate number) lucks = silent w
step w (events.Table table schema) lucks =
    silent (declared w table schema states.Live (first_luck lucks.calls) (hosted_at w table))
step w (events.Draft table schema) lucks =
    silent (declared w table schema states.Draft (first_luck lucks.calls) (hosted_at w table))
step w (events.Client c gate tables) lucks =
    silent (joined w c tables (first_luck lucks.calls) (client_at w c))
step w (events.Write c table row content) lucks = call w c (client.Write table row content) lucks.shape lucks.calls
step w (events.Edit c table row edit) lucks = call w c (client.Change table row edit) lucks.shape lucks.calls
step w (events.Show c table row) lucks = call w c (client.Show table row) lucks.shape lucks.calls
step w (events.Sum c table row) lucks = call w c (client.Sum table row) lucks.shape lucks.calls
step w (events.Sync c table) lucks = call w c (client.Sync table) lucks.shape lucks.calls
step w (events.Pull c table) lucks =
    call w c (client.Next table lucks.tears lucks.asks) lucks.shape lucks.calls
step w (events.BeginCr c table) lucks = call w c (client.BeginCr table) lucks.shape lucks.calls
step w (events.Conflicts c table) lucks = listed (call w c (client.Conflicts table) lucks.shape lucks.calls)
step w (events.EndCr c table) lucks = call w c (client.EndCr table) lucks.shape lucks.calls
step w (events.Resolve c table row seen choice) lucks =
    call w c (client.Resolve table row seen choice) lucks.shape lucks.calls
step w (events.ResolveAll c table by) lucks =
    resolve_all w c table by lucks.shapes (other_lucks lucks.calls)
    (call w c (client.ResolveAll table by) lucks.shape lucks.calls)
step w (events.Link c up) lucks = linked w c up (client_at w c)
step w (events.Create node table) lucks = created w table lucks.shape lucks.calls node
step w (events.Drop node table) lucks = dropped w table lucks.shape lucks.calls node
step w (events.Save number table c terms) lucks =
    puts_beside w number table (store.PutSub c terms) lucks.calls
step w (events.Ask c table) lucks = call w c (client.Next table [] []) lucks.shape lucks.calls
step w (events.Net it) lucks = answered w facts.Done
step w (events.Deliver packet) lucks = delivered w lucks.shape lucks.calls (slice_get w.packets packet)
step w (events.StoreShow table row) lucks = store_shows w table row lucks.calls (hosted_at w table)
step w (events.History table) lucks = history_lines w table (hosted_at w table)
step w (events.Chunks table) lucks = chunk_names w table (hosted_at w table)
step w (events.Hold node) lucks =
    unless_down w node (answered (record w { holds = node ∷ w.holds }) facts.Done)
step w (events.Free node) lucks =
    unless_down w node (answered (record w { holds = without_node w.holds node }) facts.Done)
step w (events.Work node) lucks = unless_down w node (worked w lucks.calls node)
step w (events.WorkAll node) lucks = unless_down w node (all_worked w lucks.calls node)
step w (events.Crash node calls pick) lucks = unless_down w node (crashed w calls lucks.calls node)
step w (events.Start node) lucks = started w lucks.shape lucks.calls node
