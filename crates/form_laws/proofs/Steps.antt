-- What an event of the world answers and counts has such a form, where each row at the Store has a value.
use Rattle.std.proofs.Common.{◌≡◌, ℕ, Bool, true, false, List, [], ◌∷◌, length, Option, Some, None, refl}
use Rattle.std.specs.Prelude.{◌&&◌, map, slice_get, if◌then◌else◌}
use Rattle.std.specs.List.{AllByRecursion}
use Rattle.conflicts.specs.declared.stored.Stored as resolvers
use Rattle.row_value.specs.declared.schema.Schema.{Schema}
use Rattle.stab_base.specs.declared.node.Node.{Node}
use Rattle.stab_base.specs.declared.node.Node.TheVariants as nodes
use Rattle.table_model.specs.declared.entry.Entry.{Entry}
use Rattle.table_model.specs.declared.event.Event.{Event}
use Rattle.table_model.specs.declared.event.Event.TheVariants as events
use Rattle.table_model.specs.declared.table_state.TableState.TheVariants as states
use Rattle.table_model.specs.declared.line.RowPair.{RowPair}
use Rattle.step_tables.specs.Facts.{Answer, Refusal, EntryLine, PairLine}
use Rattle.step_tables.specs.Facts as facts
use Rattle.step_tables.specs.Members.{Among}
use Rattle.step_tables.specs.Messages.{Message, Luck, table_of}
use Rattle.step_tables.specs.Messages as messages
use Rattle.step_tables.specs.Store.{Stored, current_of, is_of_row}
use Rattle.step_tables.specs.StoreMoves as store
use Rattle.step_tables.specs.StoreMoves.{SidePut, StoreTask, StoreMove}
use Rattle.step_tables.specs.ClientMoves as client
use Rattle.step_tables.specs.ClientMoves.{Client, ClientTask, ClientMove, TableChange, Shape, client_step, is_cut_off, kept_out}
use Rattle.step_tables.proofs.Lists.{among_last}
use Rattle.world_tables.specs.World.{World, Packet, Hosted, Moved, WorldStep, Lucks, schema_at, scheme_in, chunk_in, hosted_at, client_at, owner_of, has_store, hosted_by, is_down, is_cut}
use Rattle.world_tables.specs.World.{is_resolving, still}
use Rattle.world_tables.specs.World.{move_table, table_follows, first_luck, other_lucks, answering, answered, refused, unless_down, unless_cut, unless_kept, calls, call_there, call, listed}
use Rattle.world_tables.specs.World.{client_pairs, resolve_each, resolve_all, table_step, take_read, take_at, to_hosted, to_there, carried, delivered, row_shown, row_read, store_shows, names_on}
use Rattle.world_tables.specs.World.{chunk_names, history_lines, failing, and_then, move_client, client_follows_from, client_falls, store_falls, client_tasks, client_writes}
use Rattle.world_tables.specs.World.{client_until_idle, busy_table, write_next, tasks_of, store_until_idle, store_crashes, client_crashes, busy_step, next_write, worked, all_worked, crashed}
use Rattle.world_tables.specs.World.{table_of_move, is_closed, closed_answer, unless_closed}
use Rattle.world_tables.specs.World.{store_starts, client_starts, started, linked, puts_beside, opens, created, dropped, step}
use Rattle.world_tables.specs.World as world
use Rattle.world_laws.proofs.Forms.{write_form, edit_form, show_form, sync_form, next_form, phase_form, resolve_form, all_form, alter_form, take_form, taken_form, placed_form}
use Rattle.transcript_text.specs.OneForm.{HasValue}
use Rattle.form_laws.specs.Forms.{HasAnswerForm, HasLineForm}
use Rattle.form_laws.proofs.Answers.{number_form, done_form, shown_form, sum_form, names_form, conflicts_form}

abbrev pub HasForm : Option Answer → Type 0
HasForm None = Unit {0}
HasForm (Some answer) = HasAnswerForm answer

abbrev pub HasForms : WorldStep → Type 0
HasForms s = HasForm s.answer × AllByRecursion HasLineForm s.counted

-- each row at the Store has a value
abbrev pub AreValued : List Stored → Type 0
AreValued items = (item : Stored) → Among items item → HasValue item.content

abbrev pub HaveValues : World → Type 0
HaveValues w = (table : ℕ) (hosted : Hosted) → hosted_at w table ≡ Some hosted → AreValued hosted.store.disk.items

-- ---- what is answered in any case

answering_forms : (answer : Answer) (m : Moved) → HasAnswerForm answer → HasForms (answering answer m)
answering_forms answer m form = (go m.failed, tt)
  where
    go : (b : Bool) → HasAnswerForm (if b then facts.Refuses facts.NoDevice else answer)
    go true = tt
    go false = form

up_forms : (w : World) (node : Node) (s : WorldStep) → HasForms s → HasForms (unless_down w node s)
up_forms w node s forms = go (is_down w node)
  where
    go : (b : Bool) → HasForms (if b then refused w (facts.NodeDown node) else s)
    go true = (tt, tt)
    go false = forms

fallen_forms : (m : Moved) → HasForms (answering facts.Done m)
fallen_forms m = answering_forms facts.Done m tt

-- ---- calls

-- what is answered where the table is closed
closed_form : (shape : Shape) (cut : Bool) (agenda : Option (List ClientTask)) (move : ClientMove) → HasAnswerForm (closed_answer shape cut agenda move)
closed_form shape true agenda (client.Take message) = tt
closed_form shape false None (client.Take message) = tt
closed_form shape false (Some []) (client.Take message) = tt
closed_form shape false (Some (task ∷ more)) (client.Take message) = tt
closed_form shape cut agenda other = tt

call_forms : (w : World) (c : ℕ) (move : ClientMove) (shape : Shape) (lucks : List Luck) → ((node : Client) → HasAnswerForm (client_step c shape node move).answer)
    → (o : Option Client) → HasForms (call_there w c move shape lucks o)
call_forms w c move shape lucks forms None = (tt, tt)
call_forms w c move shape lucks forms (Some node) = up_forms w (nodes.Client c) _ (by_luck (first_luck lucks))
  where
    by_link : (cut : Bool) → HasForms (unless_cut w cut (calls w c move shape (other_lucks lucks) node))
    by_link true = (tt, tt)
    by_link false = answering_forms (client_step c shape node move).answer (and_then (move_client c move shape w) (client_follows_from node.agenda c (other_lucks lucks))) (forms node)

    linked : WorldStep
    linked = unless_cut w (is_cut w c && is_cut_off c shape node move) (calls w c move shape (other_lucks lucks) node)

    by_phase : (out : Option Refusal) → HasForms (unless_kept w out linked)
    by_phase None = by_link (is_cut w c && is_cut_off c shape node move)
    by_phase (Some refusal) = (tt, tt)

    kept : WorldStep
    kept = unless_kept w (kept_out (is_resolving w c) move (client_step c shape node move).answer) linked

    answer : Answer
    answer = closed_answer shape (is_cut w c) node.agenda move

    if_closed : (closed : Bool) → HasForms (unless_closed w closed answer kept)
    if_closed true = answering_forms answer (still w) (closed_form shape (is_cut w c) node.agenda move)
    if_closed false = by_phase (kept_out (is_resolving w c) move (client_step c shape node move).answer)

    by_luck : (luck : Luck) → HasForms (world.reads w c luck (unless_closed w (is_closed node (table_of_move move)) answer kept))
    by_luck messages.Done = if_closed (is_closed node (table_of_move move))
    by_luck messages.FailedBefore = fallen_forms (failing (client_falls c w))
    by_luck messages.FailedAfter = fallen_forms (failing (client_falls c w))

-- a step whose answer is another one
abbrev with_answer : WorldStep → Option Answer → WorldStep
with_answer s o = record s { answer = o }

pairs_forms : (pairs : List RowPair) → AllByRecursion HasLineForm (map PairLine pairs)
pairs_forms [] = tt
pairs_forms (pair ∷ pairs) = (tt, pairs_forms pairs)

listed_forms : (s : WorldStep) → HasForms s → HasForms (listed s)
listed_forms s forms = go s.answer forms
  where
    go : (o : Option Answer) → HasForm o × AllByRecursion HasLineForm s.counted → HasForms (listed (with_answer s o))
    go None k = k
    go (Some facts.Done) k = k
    go (Some (facts.Number number)) k = k
    go (Some (facts.Shows what)) k = k
    go (Some (facts.Sums sum)) k = k
    go (Some (facts.Stores version content)) k = k
    go (Some (facts.Did did)) k = k
    go (Some (facts.Names names)) k = k
    go (Some (facts.Pairs pairs)) k = (tt, pairs_forms pairs)
    go (Some (facts.Refuses refusal)) k = k

resolve_all_forms : (w : World) (c table : ℕ) (by : resolvers.Stored) (shapes : List Shape) (lucks : List Luck) (s : WorldStep) → HasForms s → HasForms (resolve_all w c table by shapes lucks s)
resolve_all_forms w c table by shapes lucks s forms = go s.answer forms
  where
    go : (o : Option Answer) → HasForm o × AllByRecursion HasLineForm s.counted → HasForms (resolve_all w c table by shapes lucks (with_answer s o))
    go None k = k
    go (Some facts.Done) k = k
    go (Some (facts.Number number)) k = answering_forms (facts.Number number) (resolve_each c table by shapes lucks (client_pairs (client_at w c) table) w) tt
    go (Some (facts.Shows what)) k = k
    go (Some (facts.Sums sum)) k = k
    go (Some (facts.Stores version content)) k = k
    go (Some (facts.Did did)) k = k
    go (Some (facts.Names names)) k = k
    go (Some (facts.Pairs pairs)) k = k
    go (Some (facts.Refuses refusal)) k = k

-- ---- deliveries

hosted_forms : (w : World) (table : ℕ) (move : StoreMove) (lucks : List Luck) → ((hosted : Hosted) → HasAnswerForm (table_step w table hosted move).answer) → (o : Option Hosted)
    → HasForms (to_hosted w table move lucks o)
hosted_forms w table move lucks forms None = (tt, tt)
hosted_forms w table move lucks forms (Some hosted) = go hosted.store.agenda
  where
    read : (luck : Luck) → HasForms (take_read w table hosted move (other_lucks lucks) luck)
    read messages.Done =
        answering_forms (table_step w table hosted move).answer (and_then (move_table table move w) (table_follows table (other_lucks lucks))) (forms hosted)
    read messages.FailedBefore = fallen_forms (failing (store_falls (owner_of w table) w))
    read messages.FailedAfter = fallen_forms (failing (store_falls (owner_of w table) w))

    go : (agenda : Option (List StoreTask)) → HasForms (take_at w table hosted move lucks agenda)
    go None = answering_forms (table_step w table hosted move).answer (move_table table move w) (forms hosted)
    go (Some []) = read (first_luck lucks)
    go (Some (task ∷ tasks)) = answering_forms (table_step w table hosted move).answer (move_table table move w) (forms hosted)

client_take_forms : (w : World) (c : ℕ) (m : Message) (shape : Shape) (lucks : List Luck) (o : Option Client) → HasForms (to_there w c m shape lucks o)
client_take_forms w c m shape lucks None = (tt, tt)
client_take_forms w c m shape lucks (Some node) = call_forms w c (client.Take m) shape lucks (λ s. done_form _ (take_form c shape s.disk s.agenda m)) (Some node)

pub carried_forms : (w : World) (packet : Packet) (shape : Shape) (lucks : List Luck) (to : Node) → HasForms (carried w packet shape lucks to)
carried_forms w packet shape lucks (nodes.Store number) =
    up_forms w (nodes.Store number) _ (hosted_forms w table (store.Take packet.from packet.message) lucks
    (λ hosted. done_form _ (taken_form (scheme_in (schema_at w table)) (chunk_in (schema_at w table)) table hosted.store.disk hosted.store.agenda packet.from packet.message))
    (hosted_by w number table))
  where
    table : ℕ
    table = table_of packet.message
carried_forms w packet shape lucks (nodes.Client c) = client_take_forms w c packet.message shape lucks (client_at w c)
carried_forms w packet shape lucks (nodes.Gate gate) = (tt, tt)

delivered_forms : (w : World) (shape : Shape) (lucks : List Luck) (o : Option Packet) → HasForms (delivered w shape lucks o)
delivered_forms w shape lucks None = (tt, tt)
delivered_forms w shape lucks (Some packet) = carried_forms w packet shape lucks packet.to

-- ---- tables that are made and dropped

puts_forms : (w : World) (number table : ℕ) (put : SidePut) (lucks : List Luck) → HasForms (puts_beside w number table put lucks)
puts_forms w number table put lucks =
    up_forms w (nodes.Store number) _ (hosted_forms w table (store.Place put) lucks (λ hosted. done_form _ (placed_form table hosted.store.disk hosted.store.agenda put)) (hosted_by w number table))

alter_forms : (w : World) (c table : ℕ) (change : TableChange) (shape : Shape) (lucks : List Luck) → HasForms (call w c (client.Alter table change) shape lucks)
alter_forms w c table change shape lucks = call_forms w c (client.Alter table change) shape lucks (λ s. done_form _ (alter_form c shape s.disk s.agenda table change)) (client_at w c)

opens_forms : (w : World) (c table : ℕ) (shape : Shape) (lucks : List Luck) (o : Option Schema) → HasForms (opens w c table shape lucks o)
opens_forms w c table shape lucks None = (tt, tt)
opens_forms w c table shape lucks (Some schema) = alter_forms w c table (client.Opens schema) shape lucks

created_forms : (w : World) (table : ℕ) (shape : Shape) (lucks : List Luck) (node : Node) → HasForms (created w table shape lucks node)
created_forms w table shape lucks (nodes.Store number) = puts_forms w number table (store.PutState states.Live) lucks
created_forms w table shape lucks (nodes.Client c) = opens_forms w c table shape lucks (schema_at w table)
created_forms w table shape lucks (nodes.Gate gate) = (tt, tt)

dropped_forms : (w : World) (table : ℕ) (shape : Shape) (lucks : List Luck) (node : Node) → HasForms (dropped w table shape lucks node)
dropped_forms w table shape lucks (nodes.Store number) = puts_forms w number table (store.PutState states.Dropped) lucks
dropped_forms w table shape lucks (nodes.Client c) = alter_forms w c table client.Closes shape lucks
dropped_forms w table shape lucks (nodes.Gate gate) = (tt, tt)

-- ---- a pull, which the wire does by itself

pub pull_forms : (w : World) (c table : ℕ) (tears asks : List (List ℕ)) (shape : Shape) (lucks : List Luck) → HasForms (call w c (client.Next table tears asks) shape lucks)
pull_forms w c table tears asks shape lucks = call_forms w c (client.Next table tears asks) shape lucks (λ s. done_form _ (next_form c shape s.disk s.agenda table tears asks)) (client_at w c)

-- ---- what the Store has

row_forms : (items : List Stored) (row : List ℕ) → AreValued items → HasAnswerForm (row_shown (current_of items row))
row_forms items row values = go (current_of items row) refl
  where
    go : (o : Option Stored) → current_of items row ≡ o → HasAnswerForm (row_shown o)
    go None is = tt
    go (Some item) is = values item (among_last (is_of_row row) items item is).0

shows_forms : (w : World) (table : ℕ) (row : List ℕ) (lucks : List Luck) (o : Option Hosted)
    → ((hosted : Hosted) → o ≡ Some hosted → AreValued hosted.store.disk.items) → HasForms (store_shows w table row lucks o)
shows_forms w table row lucks None values = (tt, tt)
shows_forms w table row lucks (Some hosted) values = up_forms w (nodes.Store (owner_of w table)) _ (read (first_luck lucks))
  where
    read : (luck : Luck) → HasForms (row_read w table hosted row luck)
    read messages.Done = answering_forms (row_shown (current_of hosted.store.disk.items row)) (still w) (row_forms hosted.store.disk.items row (values hosted refl))
    read messages.FailedBefore = fallen_forms (failing (store_falls (owner_of w table) w))
    read messages.FailedAfter = fallen_forms (failing (store_falls (owner_of w table) w))

chunks_forms : (w : World) (table : ℕ) (o : Option Hosted) → HasForms (chunk_names w table o)
chunks_forms w table None = (tt, tt)
chunks_forms w table (Some hosted) = up_forms w (nodes.Store (owner_of w table)) _ (answering_forms _ (still w) (names_form (names_on (chunk_in (schema_at w table)) hosted.store.disk)))

entries_forms : (table : ℕ) (history : List Entry) → AllByRecursion HasLineForm (map (EntryLine table) history)
entries_forms table [] = tt
entries_forms table (entry ∷ history) = (tt, entries_forms table history)

history_forms : (w : World) (table : ℕ) (o : Option Hosted) → HasForms (history_lines w table o)
history_forms w table None = (tt, tt)
history_forms w table (Some hosted) = (tt, entries_forms table hosted.history)

-- ---- what is done to a node

worked_forms : (w : World) (lucks : List Luck) (node : Node) → HasForms (worked w lucks node)
worked_forms w lucks (nodes.Store number) =
    answering_forms (facts.Did (busy_step w (busy_table w number))) (write_next number (first_luck lucks) (busy_table w number) w) tt
worked_forms w lucks (nodes.Client c) =
    answering_forms (facts.Did (next_write (client_tasks (client_at w c)))) (client_writes c (first_luck lucks) (client_tasks (client_at w c)) w) tt
worked_forms w lucks (nodes.Gate gate) = (tt, tt)

all_worked_forms : (w : World) (lucks : List Luck) (node : Node) → HasForms (all_worked w lucks node)
all_worked_forms w lucks (nodes.Store number) = answering_forms (facts.Number (length (tasks_of w number))) (store_until_idle number lucks w) tt
all_worked_forms w lucks (nodes.Client c) = answering_forms (facts.Number (length (client_tasks (client_at w c)))) (client_until_idle c lucks w) tt
all_worked_forms w lucks (nodes.Gate gate) = (tt, tt)

crashed_forms : (w : World) (count : ℕ) (lucks : List Luck) (node : Node) → HasForms (crashed w count lucks node)
crashed_forms w count lucks (nodes.Store number) = fallen_forms (store_crashes number count lucks w)
crashed_forms w count lucks (nodes.Client c) = fallen_forms (client_crashes c count lucks w)
crashed_forms w count lucks (nodes.Gate gate) = (tt, tt)

started_forms : (w : World) (shape : Shape) (lucks : List Luck) (node : Node) → HasForms (started w shape lucks node)
started_forms w shape lucks node = at node
  where
    up : (b : Bool) (m : Moved) → HasForms (if b then answering facts.Done m else answering facts.Done (still w))
    up true m = fallen_forms m
    up false m = (tt, tt)

    at : (n : Node) → HasForms (started w shape lucks n)
    at (nodes.Store number) = up (has_store w number && is_down w (nodes.Store number)) (store_starts number lucks w)
    at (nodes.Client c) = up (is_down w (nodes.Client c)) (client_starts c shape lucks w)
    at (nodes.Gate gate) = (tt, tt)

linked_forms : (w : World) (c : ℕ) (up : Bool) (o : Option Client) → HasForms (linked w c up o)
linked_forms w c up None = (tt, tt)
linked_forms w c up (Some node) = up_forms w (nodes.Client c) _ (tt, tt)

-- ---- every event

pub step_forms : (w : World) → HaveValues w → (event : Event) (lucks : Lucks) → HasForms (step w event lucks)
step_forms w values (events.Store number) lucks = (tt, tt)
step_forms w values (events.Gate number) lucks = (tt, tt)
step_forms w values (events.Table table schema) lucks = (tt, tt)
step_forms w values (events.Draft table schema) lucks = (tt, tt)
step_forms w values (events.Client c gate tables) lucks = (tt, tt)
step_forms w values (events.Write c table row content) lucks =
    call_forms w c (client.Write table row content) lucks.shape lucks.calls (λ s. number_form _ (write_form c lucks.shape s.disk s.agenda table row content)) (client_at w c)
step_forms w values (events.Edit c table row edit) lucks =
    call_forms w c (client.Change table row edit) lucks.shape lucks.calls (λ s. number_form _ (edit_form c lucks.shape s.disk s.agenda table row edit)) (client_at w c)
step_forms w values (events.Show c table row) lucks =
    call_forms w c (client.Show table row) lucks.shape lucks.calls (λ s. shown_form _ (show_form c lucks.shape s.disk s.agenda table row)) (client_at w c)
step_forms w values (events.Sum c table row) lucks =
    call_forms w c (client.Sum table row) lucks.shape lucks.calls (λ s. sum_form _ (show_form c lucks.shape s.disk s.agenda table row)) (client_at w c)
step_forms w values (events.Sync c table) lucks =
    call_forms w c (client.Sync table) lucks.shape lucks.calls (λ s. number_form _ (sync_form c lucks.shape s.disk s.agenda table)) (client_at w c)
step_forms w values (events.Pull c table) lucks = pull_forms w c table lucks.tears lucks.asks lucks.shape lucks.calls
step_forms w values (events.BeginCr c table) lucks =
    call_forms w c (client.BeginCr table) lucks.shape lucks.calls (λ s. done_form _ (phase_form c lucks.shape s.disk s.agenda table)) (client_at w c)
step_forms w values (events.Conflicts c table) lucks =
    listed_forms (call w c (client.Conflicts table) lucks.shape lucks.calls)
    (call_forms w c (client.Conflicts table) lucks.shape lucks.calls (λ s. conflicts_form s.disk s.agenda table) (client_at w c))
step_forms w values (events.EndCr c table) lucks =
    call_forms w c (client.EndCr table) lucks.shape lucks.calls (λ s. done_form _ (phase_form c lucks.shape s.disk s.agenda table)) (client_at w c)
step_forms w values (events.Resolve c table row seen choice) lucks =
    call_forms w c (client.Resolve table row seen choice) lucks.shape lucks.calls (λ s. number_form _ (resolve_form c lucks.shape s.disk s.agenda table row seen choice)) (client_at w c)
step_forms w values (events.ResolveAll c table by) lucks =
    resolve_all_forms w c table by lucks.shapes (other_lucks lucks.calls) (call w c (client.ResolveAll table by) lucks.shape lucks.calls)
    (call_forms w c (client.ResolveAll table by) lucks.shape lucks.calls (λ s. number_form _ (all_form c lucks.shape s.disk s.agenda table by)) (client_at w c))
step_forms w values (events.Link c up) lucks = linked_forms w c up (client_at w c)
step_forms w values (events.Create node table) lucks = created_forms w table lucks.shape lucks.calls node
step_forms w values (events.Drop node table) lucks = dropped_forms w table lucks.shape lucks.calls node
step_forms w values (events.Save number table d terms) lucks = puts_forms w number table (store.PutSub d terms) lucks.calls
step_forms w values (events.Ask d table) lucks = pull_forms w d table [] [] lucks.shape lucks.calls
step_forms w values (events.Net it) lucks = (tt, tt)
step_forms w values (events.Deliver packet) lucks = delivered_forms w lucks.shape lucks.calls (slice_get w.packets packet)
step_forms w values (events.StoreShow table row) lucks = shows_forms w table row lucks.calls (hosted_at w table) (values table)
step_forms w values (events.History table) lucks = history_forms w table (hosted_at w table)
step_forms w values (events.Chunks table) lucks = chunks_forms w table (hosted_at w table)
step_forms w values (events.Hold node) lucks = up_forms w node _ (tt, tt)
step_forms w values (events.Free node) lucks = up_forms w node _ (tt, tt)
step_forms w values (events.Work node) lucks = up_forms w node _ (worked_forms w lucks.calls node)
step_forms w values (events.WorkAll node) lucks = up_forms w node _ (all_worked_forms w lucks.calls node)
step_forms w values (events.Crash node count pick) lucks = up_forms w node _ (crashed_forms w count lucks.calls node)
step_forms w values (events.Start node) lucks = started_forms w lucks.shape lucks.calls node
