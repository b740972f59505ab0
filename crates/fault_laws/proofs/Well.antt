-- Where every device call is done, no move fails, and no answer is a device fault.
use Rattle.std.proofs.Common.{◌≡◌, ℕ, zero, suc, Bool, true, false, List, [], ◌∷◌, length, Option, Some, None, refl, ◌∙◌, ap, arith}
use Rattle.std.specs.Prelude.{◌+◌, ◌&&◌, ◌||◌, drop, slice_get, if◌then◌else◌}
use Rattle.std.proofs.lemmas.Bool.Decides.{nat_tests}
use Rattle.conflicts.specs.declared.pair.Choice.{Choice}
use Rattle.conflicts.specs.declared.stored.Stored.{Stored}
use Rattle.stab_base.specs.declared.chunk_name.ChunkName.{ChunkName}
use Rattle.row_value.specs.declared.content.Content.{Content}
use Rattle.row_value.specs.declared.schema.Schema.{Schema}
use Rattle.row_edits.specs.declared.change.Edit.{Edit}
use Rattle.stab_base.specs.declared.node.Node.{Node}
use Rattle.stab_base.specs.declared.node.Node.TheVariants as nodes
use Rattle.table_model.specs.declared.line.RowPair.{RowPair}
use Rattle.table_model.specs.declared.event.Event.{Event}
use Rattle.table_model.specs.declared.event.Event.TheVariants as events
use Rattle.table_model.specs.declared.table_state.TableState.TheVariants as states
use Rattle.step_tables.specs.Facts as facts
use Rattle.step_tables.specs.Facts.{Answer, Shown, ShownSum}
use Rattle.step_tables.specs.Sums.{by_digests, sum_of, or_whole}
use Rattle.step_tables.specs.Store.{current_of}
use Rattle.step_tables.specs.Store as items
use Rattle.step_tables.specs.Messages.{Message, Luck, table_of, SyncRequest, SyncResponse, PullRequest, PullResponse, TornRowRequest, TornRowResponse}
use Rattle.step_tables.specs.Messages as messages
use Rattle.step_tables.specs.StoreMoves as store
use Rattle.step_tables.specs.StoreMoves.{StoreMove, StoreTask, StoreDisk, SidePut}
use Rattle.step_tables.specs.ClientMoves as client
use Rattle.step_tables.specs.ClientMoves.{Client, ClientDisk, ClientTask, ClientMove, TableChange, Shape, client_step, is_cut_off, kept_out}
use Rattle.world_tables.specs.World.{World, Packet, Hosted, Moved, WorldStep, hosted_at, client_at, owner_of, hosted_by, has_store, tables_of, has_node, is_down, still, and_then, and_unless}
use Rattle.world_tables.specs.World.{is_fault, failing}
use Rattle.world_tables.specs.World.{move_hosted, move_table, move_there, move_client, client_works, client_tasks, client_until_idle, client_follows, client_writes, client_starts}
use Rattle.world_tables.specs.World.{tables_fall, without_down, store_falls, table_falls}
use Rattle.world_tables.specs.World.{or_falls, is_at_work, busy_table, write_next, store_works, tasks_of, store_until_idle, store_follows, table_follows, table_starts, tables_start, store_starts}
use Rattle.world_tables.specs.World.{start_hosted, after_table, declared_late, answering, refused, unless_down, gets_tasks, client_follows_from, call_there, call, take_read, take_at}
use Rattle.world_tables.specs.World.{to_hosted, row_shown}
use Rattle.world_tables.specs.World.{to_there, carried, delivered, row_read, store_shows, started, worked, all_worked, table_step, step, schema_at, chunk_names, history_lines}
use Rattle.world_tables.specs.World.{Lucks, is_cut, is_resolving, unless_cut, unless_kept, table_of_move, is_closed, closed_answer, unless_closed, calls, linked, listed, client_falls, first_shape, other_shapes, chosen_of, client_pairs}
use Rattle.world_tables.specs.World.{resolve_by, plan_size, resolve_each, resolve_all, puts_beside, opens, created, dropped}
use Rattle.world_tables.specs.Faults.{fails_new, fails_joined, fails_cut, fails_write, fails_crash, is_fault_answer, is_device_fault, quiet_calls, quiet_lucks}
use Rattle.world_tables.specs.World as moves

abbrev IsWell : Moved → Type 0
IsWell m = m.failed ≡ false

abbrev IsFine : WorldStep → Type 0
IsFine s = is_fault_answer s.answer ≡ false

-- ---- orders of moves

then_well : (m : Moved) (f : World → Moved) → IsWell m → ((x : World) → IsWell (f x)) → IsWell (and_then m f)
then_well m f a b = ap (λ (x : Bool). x || (f m.world).failed) a ∙ b m.world

unless_well : (m : Moved) (f : World → Moved) → IsWell m → ((x : World) → IsWell (f x)) → IsWell (and_unless m f)
unless_well m f a b = ap (λ (x : Bool). (λ (y : Moved). y.failed) (if x then m else and_then m f)) a ∙ then_well m f a b

answering_fine : (a : Answer) (m : Moved) → is_fault a ≡ false → IsWell m → IsFine (answering a m)
answering_fine a m fine well = ap (λ (x : Bool). is_fault (if x then facts.Refuses facts.NoDevice else a)) well ∙ fine

up_fine : (w : World) (node : Node) (s : WorldStep) → IsFine s → IsFine (unless_down w node s)
up_fine w node s fine = go (is_down w node)
  where
    go : (b : Bool) → IsFine (if b then refused w (facts.NodeDown node) else s)
    go true = refl
    go false = fine

-- ---- a client's answers

write_fine : (c : ℕ) (shape : Shape) (d : ClientDisk) (agenda : Option (List ClientTask)) (table : ℕ) (row : List ℕ) (content : Content)
    → is_fault (client.write_step c shape d agenda table row content).answer ≡ false
write_fine c shape d agenda table row content = grind (arith, nat_tests)

edit_fine : (c : ℕ) (shape : Shape) (d : ClientDisk) (agenda : Option (List ClientTask)) (table : ℕ) (row : List ℕ) (edit : Edit)
    → is_fault (client.edit_step c shape d agenda table row edit).answer ≡ false
edit_fine c shape d agenda table row edit = grind (arith, nat_tests)

show_fine : (d : ClientDisk) (agenda : Option (List ClientTask)) (table : ℕ) (row : List ℕ) → is_fault (client.show_step d agenda table row).answer ≡ false
show_fine d agenda table row = grind (arith, nat_tests)

digests_fine : (a : Answer) → is_fault a ≡ false → is_fault (by_digests a) ≡ false
digests_fine facts.Done e = e
digests_fine (facts.Number n) e = e
digests_fine (facts.Shows what) e = go (sum_of what)
  where
    go : (o : Option ShownSum) → is_fault (or_whole what o) ≡ false
    go None = refl
    go (Some sum) = refl
digests_fine (facts.Sums sum) e = e
digests_fine (facts.Stores version content) e = e
digests_fine (facts.Did did) e = e
digests_fine (facts.Names names) e = e
digests_fine (facts.Pairs pairs) e = e
digests_fine (facts.Refuses refusal) e = e

sync_fine : (c : ℕ) (shape : Shape) (d : ClientDisk) (agenda : Option (List ClientTask)) (table : ℕ) → is_fault (client.sync_step c shape d agenda table).answer ≡ false
sync_fine c shape d agenda table = grind (arith, nat_tests)

next_fine : (c : ℕ) (shape : Shape) (d : ClientDisk) (agenda : Option (List ClientTask)) (table : ℕ) (tears asks : List (List ℕ))
    → is_fault (client.next_step c shape d agenda table tears asks).answer ≡ false
next_fine c shape d agenda table tears asks = grind (arith, nat_tests)

phase_fine : (d : ClientDisk) (agenda : Option (List ClientTask)) (table : ℕ) → is_fault (client.phase_step d agenda table).answer ≡ false
phase_fine d agenda table = grind (arith, nat_tests)

conflicts_fine : (d : ClientDisk) (agenda : Option (List ClientTask)) (table : ℕ) → is_fault (client.conflicts_step d agenda table).answer ≡ false
conflicts_fine d agenda table = grind (arith, nat_tests)

resolve_fine : (c : ℕ) (shape : Shape) (d : ClientDisk) (agenda : Option (List ClientTask)) (table : ℕ) (row : List ℕ) (version : ℕ) (choice : Choice)
    → is_fault (client.resolve_step c shape d agenda table row version choice).answer ≡ false
resolve_fine c shape d agenda table row version choice = grind (arith, nat_tests)

all_fine : (shape : Shape) (d : ClientDisk) (agenda : Option (List ClientTask)) (table : ℕ) (by : Stored) → is_fault (client.all_step shape d agenda table by).answer ≡ false
all_fine shape d agenda table by = grind (arith, nat_tests)

alter_fine : (c : ℕ) (shape : Shape) (d : ClientDisk) (agenda : Option (List ClientTask)) (table : ℕ) (change : TableChange)
    → is_fault (client.alter_step c shape d agenda table change).answer ≡ false
alter_fine c shape d agenda table change = grind (arith, nat_tests)

pub take_fine : (c : ℕ) (shape : Shape) (d : ClientDisk) (agenda : Option (List ClientTask)) (m : Message) → is_fault (client.take_step c shape d agenda m).answer ≡ false
take_fine c shape d agenda m = grind (arith, nat_tests)

client_done_fine : (d : ClientDisk) (agenda : Option (List ClientTask)) → is_fault (client.done d agenda).answer ≡ false
client_done_fine d None = refl
client_done_fine d (Some []) = refl
client_done_fine d (Some (task ∷ tasks)) = refl

-- ---- a client's moves

client_move_well : (c : ℕ) (move : ClientMove) (shape : Shape) (w : World) → ((node : Client) → is_fault (client_step c shape node move).answer ≡ false) → IsWell (move_client c move shape w)
client_move_well c move shape w fine = go (client_at w c)
  where
    go : (o : Option Client) → IsWell (move_there w c move shape o)
    go None = refl
    go (Some node) = fine node

client_works_well : (c : ℕ) (tasks : List ClientTask) (w : World) → IsWell (client_works c tasks [] w)
client_works_well c [] w = refl
client_works_well c (task ∷ tasks) w =
    then_well (move_client c (client.Work messages.Done) client.no_shape w) (client_works c tasks []) (client_move_well c (client.Work messages.Done) client.no_shape w (λ node. client_done_fine node.disk node.agenda))
    (client_works_well c tasks)

client_follows_well : (c : ℕ) (w : World) → IsWell (client_follows c [] w)
client_follows_well c w = go (has_node w.holds (nodes.Client c))
  where
    go : (b : Bool) → IsWell (if b then still w else client_until_idle c [] w)
    go true = refl
    go false = client_works_well c (client_tasks (client_at w c)) w

client_writes_well : (c : ℕ) (tasks : List ClientTask) (w : World) → IsWell (client_writes c messages.Done tasks w)
client_writes_well c [] w = refl
client_writes_well c (task ∷ tasks) w = client_move_well c (client.Work messages.Done) client.no_shape w (λ node. client_done_fine node.disk node.agenda)

client_start_fine : (c : ℕ) (shape : Shape) (d : ClientDisk) (agenda : Option (List ClientTask)) → is_fault (client.started c shape d agenda).answer ≡ false
client_start_fine c shape d None = refl
client_start_fine c shape d (Some tasks) = refl

client_starts_well : (c : ℕ) (shape : Shape) (w : World) → IsWell (client_starts c shape [] w)
client_starts_well c shape w =
    then_well (move_client c client.Start shape w) (client_follows c []) (client_move_well c client.Start shape w (λ node. client_start_fine c shape node.disk node.agenda)) (client_follows_well c)

follows_from_well : (agenda : Option (List ClientTask)) (c : ℕ) (w : World) → IsWell (client_follows_from agenda c [] w)
follows_from_well agenda c w = go (gets_tasks agenda w c)
  where
    go : (b : Bool) → IsWell (if b then client_follows c [] w else still w)
    go true = client_follows_well c w
    go false = refl

-- what the phases that are open keep a call from
module _ (w : World) (s : WorldStep) (fine : IsFine s) where
  if_open_fine : (before is_open : Bool) → IsFine (unless_kept w (client.if_open before is_open) s)
  if_open_fine before false = fine
  if_open_fine true true = fine
  if_open_fine false true = refl

  if_closed_fine : (before is_open : Bool) → IsFine (unless_kept w (client.if_closed before is_open) s)
  if_closed_fine before true = fine
  if_closed_fine true false = fine
  if_closed_fine false false = refl

  kept_fine : (phase : ℕ → Bool) (move : ClientMove) (answer : Answer) → IsFine (unless_kept w (kept_out phase move answer) s)
  kept_fine phase (client.Write table row content) answer = if_open_fine (client.is_before_write answer) (phase table)
  kept_fine phase (client.Change table row edit) answer = if_open_fine (client.is_before_write answer) (phase table)
  kept_fine phase (client.Show table row) answer = fine
  kept_fine phase (client.Sum table row) answer = fine
  kept_fine phase (client.Sync table) answer = fine
  kept_fine phase (client.Next table tears asks) answer = fine
  kept_fine phase (client.BeginCr table) answer = if_open_fine (client.is_before_phase (client.BeginCr table) answer) (phase table)
  kept_fine phase (client.Conflicts table) answer = if_closed_fine (client.is_before_phase (client.Conflicts table) answer) (phase table)
  kept_fine phase (client.EndCr table) answer = if_closed_fine (client.is_before_phase (client.EndCr table) answer) (phase table)
  kept_fine phase (client.Resolve table row seen choice) answer = if_closed_fine (client.is_before_phase (client.Resolve table row seen choice) answer) (phase table)
  kept_fine phase (client.ResolveAll table by) answer = if_closed_fine (client.is_before_phase (client.ResolveAll table by) answer) (phase table)
  kept_fine phase (client.Alter table change) answer = fine
  kept_fine phase (client.Take message) answer = fine
  kept_fine phase (client.Work luck) answer = fine
  kept_fine phase (client.Crash luck) answer = fine
  kept_fine phase client.Start answer = fine

-- what is answered where the table is closed
closed_fine : (shape : Shape) (cut : Bool) (agenda : Option (List ClientTask)) (move : ClientMove) → is_fault (closed_answer shape cut agenda move) ≡ false
closed_fine shape cut agenda move = grind (arith, nat_tests)

call_there_fine : (w : World) (c : ℕ) (move : ClientMove) (shape : Shape) (o : Option Client) → ((node : Client) → is_fault (client_step c shape node move).answer ≡ false)
    → IsFine (call_there w c move shape [] o)
call_there_fine w c move shape None fine = refl
call_there_fine w c move shape (Some node) fine = up_fine w (nodes.Client c) _ (if_closed (is_closed node (table_of_move move)))
  where
    by_link : (cut : Bool) → IsFine (unless_cut w cut (calls w c move shape [] node))
    by_link true = refl
    by_link false =
        answering_fine (client_step c shape node move).answer (and_then (move_client c move shape w) (client_follows_from node.agenda c [])) (fine node)
        (then_well (move_client c move shape w) (client_follows_from node.agenda c []) (client_move_well c move shape w fine) (follows_from_well node.agenda c))

    linked : WorldStep
    linked = unless_cut w (is_cut w c && is_cut_off c shape node move) (calls w c move shape [] node)

    if_closed : (closed : Bool)
        → IsFine (unless_closed w closed (closed_answer shape (is_cut w c) node.agenda move) (unless_kept w (kept_out (is_resolving w c) move (client_step c shape node move).answer) linked))
    if_closed true = answering_fine (closed_answer shape (is_cut w c) node.agenda move) (still w) (closed_fine shape (is_cut w c) node.agenda move) refl
    if_closed false = kept_fine w linked (by_link (is_cut w c && is_cut_off c shape node move)) (is_resolving w c) move (client_step c shape node move).answer

pub call_fine : (w : World) (c : ℕ) (move : ClientMove) (shape : Shape) → ((node : Client) → is_fault (client_step c shape node move).answer ≡ false) → IsFine (call w c move shape [])
call_fine w c move shape fine = call_there_fine w c move shape (client_at w c) fine

pub to_there_fine : (w : World) (c : ℕ) (m : Message) (shape : Shape) (o : Option Client) → IsFine (to_there w c m shape [] o)
to_there_fine w c m shape None = refl
to_there_fine w c m shape (Some node) = call_there_fine w c (client.Take m) shape (Some node) (λ it. take_fine c shape it.disk it.agenda m)

-- ---- conflicts

-- a step whose answer is another one
abbrev with_answer : WorldStep → Option Answer → WorldStep
with_answer s o = record s { answer = o }

listed_fine : (s : WorldStep) → IsFine s → IsFine (listed s)
listed_fine s fine = go s.answer fine
  where
    go : (o : Option Answer) → is_fault_answer o ≡ false → IsFine (listed (with_answer s o))
    go None fine = refl
    go (Some answer) fine = grind (arith, fine)

abbrev no_lucks : List Luck
no_lucks = []

drop_none : (n : ℕ) → drop n no_lucks ≡ no_lucks
drop_none zero = refl
drop_none (suc n) = refl

module _ (c table : ℕ) (by : Stored) where
  resolve_by_well : (shape : Shape) (pair : RowPair) (w : World) → IsWell (resolve_by c table by shape pair messages.Done w)
  resolve_by_well shape pair w =
      let choice : Choice = chosen_of by pair.row (client_at w c) table in
      client_move_well c (client.Resolve table pair.row pair.version choice) shape w (λ node. resolve_fine c shape node.disk node.agenda table pair.row pair.version choice)

  resolve_each_well : (shapes : List Shape) (pairs : List RowPair) (w : World) → IsWell (resolve_each c table by shapes [] pairs w)
  resolve_each_well shapes [] w = refl
  resolve_each_well shapes (pair ∷ pairs) w =
      let resolved : Moved = resolve_by c table by (first_shape shapes) pair messages.Done w in
      unless_well (and_unless resolved (client_until_idle c [])) (resolve_each c table by (other_shapes shapes) (drop (1 + plan_size c resolved.world) []) pairs)
      (unless_well resolved (client_until_idle c []) (resolve_by_well (first_shape shapes) pair w) (λ x. client_works_well c (client_tasks (client_at x c)) x))
      (λ x. ap (λ (some : List Luck). (resolve_each c table by (other_shapes shapes) some pairs x).failed) (drop_none (1 + plan_size c resolved.world))
      ∙ resolve_each_well (other_shapes shapes) pairs x)

  resolve_all_fine : (w : World) (shapes : List Shape) (s : WorldStep) → IsFine s → IsFine (resolve_all w c table by shapes [] s)
  resolve_all_fine w shapes s fine = go s.answer fine
    where
      go : (o : Option Answer) → is_fault_answer o ≡ false → IsFine (resolve_all w c table by shapes [] (with_answer s o))
      go None fine = refl
      go (Some facts.Done) fine = fine
      go (Some (facts.Number count)) fine =
          let pairs : List RowPair = client_pairs (client_at w c) table in
          answering_fine (facts.Number count) (resolve_each c table by shapes [] pairs w) refl (resolve_each_well shapes pairs w)
      go (Some (facts.Shows what)) fine = fine
      go (Some (facts.Sums sum)) fine = fine
      go (Some (facts.Stores version content)) fine = fine
      go (Some (facts.Did did)) fine = fine
      go (Some (facts.Names names)) fine = fine
      go (Some (facts.Pairs pairs)) fine = fine
      go (Some (facts.Refuses refusal)) fine = fine

-- ---- a table's moves

store_done_fine : (d : StoreDisk) (agenda : Option (List StoreTask)) → is_fault (store.done d agenda).answer ≡ false
store_done_fine d None = refl
store_done_fine d (Some []) = refl
store_done_fine d (Some (task ∷ tasks)) = refl

crash_fine : (d : StoreDisk) (agenda : Option (List StoreTask)) → is_fault (store.crashed d agenda messages.FailedBefore).answer ≡ false
crash_fine d None = refl
crash_fine d (Some []) = refl
crash_fine d (Some (task ∷ tasks)) = refl

started_fine : (number table : ℕ) (d : StoreDisk) (agenda : Option (List StoreTask)) → is_fault (store.started number table d agenda).answer ≡ false
started_fine number table d agenda = grind (arith, nat_tests)

taken_fine : (w : World) (table : ℕ) (hosted : Hosted) (from : Node) (m : Message) → is_fault (table_step w table hosted (store.Take from m)).answer ≡ false
taken_fine w table hosted from m = grind (arith, nat_tests)

table_work_well : (table : ℕ) (w : World) → IsWell (move_table table (store.Work messages.Done) w)
table_work_well table w = go (hosted_at w table)
  where
    go : (o : Option Hosted) → IsWell (move_hosted w table (store.Work messages.Done) o)
    go None = refl
    go (Some hosted) = store_done_fine hosted.store.disk hosted.store.agenda

placed_fine : (table : ℕ) (d : StoreDisk) (agenda : Option (List StoreTask)) (put : SidePut) → is_fault (store.placed table d agenda put).answer ≡ false
placed_fine table d None put = refl
placed_fine table d (Some []) put = refl
placed_fine table d (Some (task ∷ tasks)) put = refl

table_move_well : (table : ℕ) (move : StoreMove) (w : World) → ((hosted : Hosted) → is_fault (table_step w table hosted move).answer ≡ false) → IsWell (move_table table move w)
table_move_well table move w fine = go (hosted_at w table)
  where
    go : (o : Option Hosted) → IsWell (move_hosted w table move o)
    go None = refl
    go (Some hosted) = fine hosted

table_start_well : (table : ℕ) (w : World) → IsWell (move_table table store.Start w)
table_start_well table w = go (hosted_at w table)
  where
    go : (o : Option Hosted) → IsWell (move_hosted w table store.Start o)
    go None = refl
    go (Some hosted) = started_fine (owner_of w table) table hosted.store.disk hosted.store.agenda

write_next_well : (number : ℕ) (busy : Option ℕ) (w : World) → IsWell (write_next number messages.Done busy w)
write_next_well number None w = refl
write_next_well number (Some table) w =
    let k = table_work_well table w in
    ap (λ (b : Bool). (λ (x : Moved). x.failed) (if b then and_then (move_table table (store.Work messages.Done) w) (store_falls number) else move_table table (store.Work messages.Done) w)) k ∙ k

store_works_well : (number count : ℕ) (w : World) → IsWell (store_works number count [] w)
store_works_well number zero w = refl
store_works_well number (suc more) w =
    unless_well (write_next number messages.Done (busy_table w number) w) (store_works number more []) (write_next_well number (busy_table w number) w) (store_works_well number more)

store_follows_well : (number : ℕ) (w : World) → IsWell (store_follows number [] w)
store_follows_well number w = go (has_node w.holds (nodes.Store number))
  where
    go : (b : Bool) → IsWell (if b then still w else store_until_idle number [] w)
    go true = refl
    go false = store_works_well number (length (tasks_of w number)) w

table_follows_well : (table : ℕ) (w : World) → IsWell (table_follows table [] w)
table_follows_well table w = go (is_at_work w table)
  where
    go : (b : Bool) → IsWell (if b then store_follows (owner_of w table) [] w else still w)
    go true = store_follows_well (owner_of w table) w
    go false = refl

table_starts_well : (table : ℕ) (w : World) → IsWell (table_starts table messages.Done w)
table_starts_well table w = go (hosted_at w table)
  where
    made : (b : Bool) (late : Moved) → IsWell late → IsWell (if b then move_table table store.Start w else late)
    made true late well = table_start_well table w
    made false late well = well

    go : (o : Option Hosted) → IsWell (start_hosted w table o)
    go None = refl
    go (Some hosted) = made hosted.made (after_table w table (record hosted { made = true }) (declared_late (owner_of w table) table hosted.store.disk.state)) refl

tables_start_well : (tables : List ℕ) (w : World) → IsWell (tables_start tables [] w)
tables_start_well [] w = refl
tables_start_well (table ∷ tables) w = unless_well (table_starts table messages.Done w) (tables_start tables []) (table_starts_well table w) (tables_start_well tables)

tables_fall_well : (tables : List ℕ) (w : World) → IsWell (tables_fall tables w)
tables_fall_well [] w = refl
tables_fall_well (table ∷ tables) w = then_well (table_falls table w) (tables_fall tables) (go (hosted_at w table)) (tables_fall_well tables)
  where
    go : (o : Option Hosted) → IsWell (move_hosted w table (store.Crash messages.FailedBefore) o)
    go None = refl
    go (Some hosted) = crash_fine hosted.store.disk hosted.store.agenda

store_starts_well : (number : ℕ) (w : World) → IsWell (store_starts number [] w)
store_starts_well number w =
    let m : Moved = and_then (tables_fall (tables_of w number) w) (tables_start (tables_of w number) []) in
    let well : IsWell m =
    then_well (tables_fall (tables_of w number) w) (tables_start (tables_of w number) []) (tables_fall_well (tables_of w number) w) (tables_start_well (tables_of w number)) in
    ap (λ (b : Bool). (λ (x : Moved). x.failed) (if b then and_then m (store_falls number)
    else and_then m (λ x. store_follows number (drop (length (tables_of w number)) []) (without_down (nodes.Store number) x)))) well
    ∙ then_well m (λ x. store_follows number (drop (length (tables_of w number)) []) (without_down (nodes.Store number) x)) well
    (λ x. ap (λ (some : List Luck). (store_follows number some (without_down (nodes.Store number) x)).failed) (drop_none (length (tables_of w number)))
    ∙ store_follows_well number (without_down (nodes.Store number) x))

-- ---- packets and rows

to_hosted_fine : (w : World) (table : ℕ) (move : StoreMove) → ((hosted : Hosted) → is_fault (table_step w table hosted move).answer ≡ false) → (o : Option Hosted)
    → IsFine (to_hosted w table move [] o)
to_hosted_fine w table move fine None = refl
to_hosted_fine w table move fine (Some hosted) = go hosted.store.agenda
  where
    a : Answer
    a = (table_step w table hosted move).answer

    go : (agenda : Option (List StoreTask)) → IsFine (take_at w table hosted move [] agenda)
    go None = answering_fine a (move_table table move w) (fine hosted) (table_move_well table move w fine)
    go (Some []) =
        answering_fine a (and_then (move_table table move w) (table_follows table [])) (fine hosted)
        (then_well (move_table table move w) (table_follows table []) (table_move_well table move w fine) (table_follows_well table))
    go (Some (task ∷ tasks)) = answering_fine a (move_table table move w) (fine hosted) (table_move_well table move w fine)

carried_fine : (w : World) (packet : Packet) (shape : Shape) (to : Node) → IsFine (carried w packet shape [] to)
carried_fine w packet shape (nodes.Store number) =
    up_fine w (nodes.Store number) (to_hosted w (table_of packet.message) (store.Take packet.from packet.message) [] (hosted_by w number (table_of packet.message)))
    (to_hosted_fine w (table_of packet.message) (store.Take packet.from packet.message) (λ hosted. taken_fine w (table_of packet.message) hosted packet.from packet.message)
    (hosted_by w number (table_of packet.message)))
carried_fine w packet shape (nodes.Client c) = to_there_fine w c packet.message shape (client_at w c)
carried_fine w packet shape (nodes.Gate gate) = refl

delivered_fine : (w : World) (shape : Shape) (o : Option Packet) → IsFine (delivered w shape [] o)
delivered_fine w shape None = refl
delivered_fine w shape (Some packet) = carried_fine w packet shape packet.to

-- ---- tables that are made and dropped

puts_fine : (w : World) (number table : ℕ) (put : SidePut) → IsFine (puts_beside w number table put [])
puts_fine w number table put =
    up_fine w (nodes.Store number) (to_hosted w table (store.Place put) [] (hosted_by w number table))
    (to_hosted_fine w table (store.Place put) (λ hosted. placed_fine table hosted.store.disk hosted.store.agenda put) (hosted_by w number table))

alters_fine : (w : World) (c table : ℕ) (change : TableChange) (shape : Shape) → IsFine (call w c (client.Alter table change) shape [])
alters_fine w c table change shape = call_fine w c (client.Alter table change) shape (λ node. alter_fine c shape node.disk node.agenda table change)

opens_fine : (w : World) (c table : ℕ) (shape : Shape) (o : Option Schema) → IsFine (opens w c table shape [] o)
opens_fine w c table shape None = refl
opens_fine w c table shape (Some schema) = alters_fine w c table (client.Opens schema) shape

created_fine : (w : World) (table : ℕ) (shape : Shape) (node : Node) → IsFine (created w table shape [] node)
created_fine w table shape (nodes.Store number) = puts_fine w number table (store.PutState states.Live)
created_fine w table shape (nodes.Gate gate) = refl
created_fine w table shape (nodes.Client c) = opens_fine w c table shape (schema_at w table)

dropped_fine : (w : World) (table : ℕ) (shape : Shape) (node : Node) → IsFine (dropped w table shape [] node)
dropped_fine w table shape (nodes.Store number) = puts_fine w number table (store.PutState states.Dropped)
dropped_fine w table shape (nodes.Gate gate) = refl
dropped_fine w table shape (nodes.Client c) = alters_fine w c table client.Closes shape

shown_fine : (o : Option items.Stored) → is_fault (row_shown o) ≡ false
shown_fine None = refl
shown_fine (Some item) = refl

store_shows_fine : (w : World) (table : ℕ) (row : List ℕ) (o : Option Hosted) → IsFine (store_shows w table row [] o)
store_shows_fine w table row None = refl
store_shows_fine w table row (Some hosted) = up_fine w (nodes.Store (owner_of w table)) (row_read w table hosted row messages.Done) (shown_fine (current_of hosted.store.disk.items row))

names_fine : (names : List ChunkName) → is_fault (moves.names_answer names) ≡ false
names_fine [] = refl
names_fine (name ∷ names) = refl

-- ---- a step

new_fine : (o : Option Hosted) → fails_new o [] ≡ false
new_fine None = refl
new_fine (Some hosted) = refl

pub fine_step : (w : World) (event : Event) (lucks : Lucks) → is_device_fault w event (quiet_lucks event lucks) ≡ false
fine_step w (events.Store number) lucks = refl
fine_step w (events.Gate number) lucks = refl
fine_step w (events.Table table schema) lucks = new_fine (hosted_at w table)
fine_step w (events.Draft table schema) lucks = new_fine (hosted_at w table)
fine_step w (events.Client c gate tables) lucks = go (client_at w c)
  where
    go : (o : Option Client) → fails_joined o [] ≡ false
    go None = refl
    go (Some node) = refl
fine_step w (events.Write c table row content) lucks = call_fine w c (client.Write table row content) lucks.shape (λ node. write_fine c lucks.shape node.disk node.agenda table row content)
fine_step w (events.Edit c table row edit) lucks = call_fine w c (client.Change table row edit) lucks.shape (λ node. edit_fine c lucks.shape node.disk node.agenda table row edit)
fine_step w (events.Show c table row) lucks = call_fine w c (client.Show table row) lucks.shape (λ node. show_fine node.disk node.agenda table row)
fine_step w (events.Sum c table row) lucks =
    call_fine w c (client.Sum table row) lucks.shape (λ node. digests_fine (client.show_step node.disk node.agenda table row).answer (show_fine node.disk node.agenda table row))
fine_step w (events.Sync c table) lucks = call_fine w c (client.Sync table) lucks.shape (λ node. sync_fine c lucks.shape node.disk node.agenda table)
fine_step w (events.Pull c table) lucks =
    call_fine w c (client.Next table lucks.tears lucks.asks) lucks.shape (λ node. next_fine c lucks.shape node.disk node.agenda table lucks.tears lucks.asks)
fine_step w (events.BeginCr c table) lucks = call_fine w c (client.BeginCr table) lucks.shape (λ node. phase_fine node.disk node.agenda table)
fine_step w (events.Conflicts c table) lucks =
    listed_fine (call w c (client.Conflicts table) lucks.shape []) (call_fine w c (client.Conflicts table) lucks.shape (λ node. conflicts_fine node.disk node.agenda table))
fine_step w (events.EndCr c table) lucks = call_fine w c (client.EndCr table) lucks.shape (λ node. phase_fine node.disk node.agenda table)
fine_step w (events.Resolve c table row seen choice) lucks =
    call_fine w c (client.Resolve table row seen choice) lucks.shape (λ node. resolve_fine c lucks.shape node.disk node.agenda table row seen choice)
fine_step w (events.ResolveAll c table by) lucks =
    resolve_all_fine c table by w lucks.shapes (call w c (client.ResolveAll table by) lucks.shape [])
    (call_fine w c (client.ResolveAll table by) lucks.shape (λ node. all_fine lucks.shape node.disk node.agenda table by))
fine_step w (events.Link c up) lucks = go (client_at w c)
  where
    go : (o : Option Client) → IsFine (linked w c up o)
    go None = refl
    go (Some node) = up_fine w (nodes.Client c) _ refl
fine_step w (events.Create node table) lucks = created_fine w table lucks.shape node
fine_step w (events.Drop node table) lucks = dropped_fine w table lucks.shape node
fine_step w (events.Save number table d terms) lucks = puts_fine w number table (store.PutSub d terms)
fine_step w (events.Ask d table) lucks = call_fine w d (client.Next table [] []) lucks.shape (λ node. next_fine d lucks.shape node.disk node.agenda table [] [])
fine_step w (events.Net it) lucks = refl
fine_step w (events.Deliver packet) lucks = delivered_fine w lucks.shape (slice_get w.packets packet)
fine_step w (events.StoreShow table row) lucks = store_shows_fine w table row (hosted_at w table)
fine_step w (events.History table) lucks = go (hosted_at w table)
  where
    go : (o : Option Hosted) → IsFine (history_lines w table o)
    go None = refl
    go (Some hosted) = refl
fine_step w (events.Chunks table) lucks = go (hosted_at w table)
  where
    go : (o : Option Hosted) → IsFine (chunk_names w table o)
    go None = refl
    go (Some hosted) = up_fine w (nodes.Store (owner_of w table)) _ (names_fine (moves.names_on (moves.chunk_in (schema_at w table)) hosted.store.disk))
fine_step w (events.Hold node) lucks = up_fine w node _ refl
fine_step w (events.Free node) lucks = up_fine w node _ refl
fine_step w (events.Work node) lucks = up_fine w node (worked w [] node) (go node)
  where
    go : (n : Node) → IsFine (worked w [] n)
    go (nodes.Store number) = answering_fine _ (write_next number messages.Done (busy_table w number) w) refl (write_next_well number (busy_table w number) w)
    go (nodes.Gate gate) = refl
    go (nodes.Client c) = answering_fine _ (client_writes c messages.Done (client_tasks (client_at w c)) w) refl (client_writes_well c (client_tasks (client_at w c)) w)
fine_step w (events.WorkAll node) lucks = up_fine w node (all_worked w [] node) (go node)
  where
    go : (n : Node) → IsFine (all_worked w [] n)
    go (nodes.Store number) = answering_fine _ (store_until_idle number [] w) refl (store_works_well number (length (tasks_of w number)) w)
    go (nodes.Gate gate) = refl
    go (nodes.Client c) = answering_fine _ (client_until_idle c [] w) refl (client_works_well c (client_tasks (client_at w c)) w)
fine_step w (events.Crash node calls pick) lucks = go (is_down w node)
  where
    there : (n : Node) → fails_crash w (quiet_calls (events.Crash node calls pick) lucks.calls) n ≡ false
    there (nodes.Store number) = cut (busy_table w number)
      where
        cut : (busy : Option ℕ) → fails_cut busy (quiet_calls (events.Crash node calls pick) lucks.calls) ≡ false
        cut None = refl
        cut (Some table) = refl
    there (nodes.Gate gate) = refl
    there (nodes.Client c) = write (client_tasks (client_at w c))
      where
        write : (tasks : List ClientTask) → fails_write tasks (quiet_calls (events.Crash node calls pick) lucks.calls) ≡ false
        write [] = refl
        write (task ∷ tasks) = refl

    go : (b : Bool) → (if b then false else fails_crash w (quiet_calls (events.Crash node calls pick) lucks.calls) node) ≡ false
    go true = refl
    go false = there node
fine_step w (events.Start node) lucks = go node
  where
    up : (b : Bool) (m : Moved) → IsWell m → IsFine (if b then answering facts.Done m else answering facts.Done (still w))
    up true m well = answering_fine facts.Done m refl well
    up false m well = refl

    go : (n : Node) → IsFine (started w lucks.shape [] n)
    go (nodes.Store number) = up (has_store w number && is_down w (nodes.Store number)) (store_starts number [] w) (store_starts_well number w)
    go (nodes.Gate gate) = refl
    go (nodes.Client c) = up (is_down w (nodes.Client c)) (client_starts c lucks.shape [] w) (client_starts_well c lucks.shape w)
