-- The versions of a table are no more than the events of a run, and the numbers of a client's writes no more than the
-- writes that these may begin.
use Rattle.std.proofs.Common.{◌≡◌, ⊎_elim, ℕ, zero, suc, ◌+◌, ◌≤◌, Bool, true, false, List, [], ◌∷◌, ◌++◌, length, Option, Some, None, Result, Ok, Err, refl, sym, ◌∙◌, subst, arith, length-append}
use Rattle.std.proofs.Common.{append-nil}
use Rattle.std.specs.Prelude.{◌==◌, ◌&&◌, option_map, nat_le, nat_lt, drop, slice_get, if◌then◌else◌}
use Rattle.std.specs.Ordering.{nat_cmp}
use Rattle.std.specs.Map.{lookup}
use Rattle.std.specs.BTreeMap.{is_at, insert_entry}
use Rattle.stab_base.specs.declared.chunk_name.ChunkName.{ChunkName}
use Rattle.stab_base.specs.declared.node.Node.{Node}
use Rattle.stab_base.specs.declared.node.Node.TheVariants as nodes
use Rattle.stab_base.specs.declared.step.Step.{Step}
use Rattle.row_value.specs.declared.content.Content.{Content}
use Rattle.row_value.specs.declared.content.Content.TheVariants.{Gone, Row}
use Rattle.row_edits.specs.declared.change.Edit.{Edit}
use Rattle.row_edits.specs.Edit.{edited_to}
use Rattle.row_value.specs.declared.fit.FitFault.{FitFault}
use Rattle.row_value.specs.declared.schema.Schema.{Schema}
use Rattle.row_value.specs.declared.schema.Scheme.{Scheme}
use Rattle.row_value.specs.declared.schema.Scheme.TheVariants.{Strong, Causal, Eventual}
use Rattle.row_value.specs.Fit.{fit_of}
use Rattle.table_model.specs.declared.event.Event.{Event}
use Rattle.table_model.specs.declared.event.Event.TheVariants as events
use Rattle.table_model.specs.declared.table_state.TableState.{TableState}
use Rattle.table_model.specs.declared.table_state.TableState.TheVariants as states
use Rattle.table_model.specs.declared.line.RowPair.{RowPair}
use Rattle.conflicts.specs.declared.pair.Choice.{Choice}
use Rattle.conflicts.specs.declared.pair.Choice.TheVariants as choices
use Rattle.conflicts.specs.declared.stored.Stored as resolvers
use Rattle.step_tables.specs.Slots.{Main}
use Rattle.step_tables.specs.Slots.{InFlight}
use Rattle.step_tables.specs.Slots.{Shadow}
use Rattle.step_tables.specs.Store.{Stored, current_of}
use Rattle.step_tables.specs.Chunks.{rising, names_with, new_names, old_names, is_named, is_spelled}
use Rattle.step_tables.specs.Facts.{Fact, Answer}
use Rattle.step_tables.specs.Facts as facts
use Rattle.step_tables.specs.Messages.{Request, Response, Pulled, Header, Pair, Outcome, Message, Send, Luck, SyncRequest, SyncResponse, PullRequest, PullResponse}
use Rattle.step_tables.specs.Messages.{TornPulled, TornRowRequest, TornRowResponse, table_of}
use Rattle.step_tables.specs.Messages as messages
use Rattle.step_tables.specs.StoreMoves as store
use Rattle.step_tables.specs.StoreMoves.{StoreDisk, StoreChange, StoreTask, TableStore, StoreMove, SidePut, new_disk, store_step}
use Rattle.step_tables.specs.ClientMoves as client
use Rattle.step_tables.specs.ClientMoves.{Slots, TableDisk, TableChange, RowPut, Plan, ClientDisk, ClientChange, ClientTask, Client, ClientMove, Shape, RowOut, no_shape}
use Rattle.step_tables.specs.ClientMoves.{slots_at, table_at, seen, client_step}
use Rattle.world_tables.specs.World.{client_until_idle, client_writes, starts_by, client_starts, client_falls, Lucks, first_agenda, with_link, linked, listed, resolve_by}
use Rattle.world_tables.specs.World.{resolve_each, resolve_all, chosen_of, client_pairs, first_shape, other_shapes, plan_size, owner_of, has_store, hosted_by}
use Rattle.world_tables.specs.World.{World, Packet, Hosted, Moved, WorldStep, start, hosted_at, client_at, schema_at, scheme_in, chunk_in, is_down, has_node, tables_of}
use Rattle.world_tables.specs.World.{still, and_then, and_unless, tasks_in, after_table, move_hosted, move_table, move_there, move_client, first_luck, other_lucks, client_works}
use Rattle.world_tables.specs.World.{client_tasks, client_follows, tables_fall, without_down, store_falls, or_falls, is_at_work, busy_table, write_next, store_works, tasks_of}
use Rattle.world_tables.specs.World.{store_until_idle, store_follows, table_follows, declared_late, start_hosted, table_starts, tables_start, store_starts, crash_luck, table_crashes}
use Rattle.world_tables.specs.World.{store_crashes, answering, answered, refused, unless_down, agenda_of, with_table, declared, open_all, new_client, joined, gets_tasks, call_there, call}
use Rattle.world_tables.specs.World.{take_read, take_at, to_hosted, to_there, carried, delivered, row_read, store_shows, chunk_names, history_lines, worked, all_worked, crashed, started}
use Rattle.world_tables.specs.World.{puts_beside, opens, created, dropped, step}
use Rattle.world_tables.specs.Turns.{Happening, world_from}
use Rattle.client_laws.proofs.Disks.{altered_last, altered_plan}
use Rattle.world_laws.specs.Begun.{begun_by, begun_from, begun_in, IsSingle, AreSingle}
use Rattle.world_laws.proofs.Looks.{look_cases}
use Rattle.world_laws.proofs.Calls.{call_is}

-- ---- a table: the versions that it has, and those that it is about to put

abbrev puts_by : StoreChange → ℕ
puts_by (store.Put item named old) = 1
puts_by other = 0

abbrev puts_in : List StoreTask → ℕ
puts_in [] = 0
puts_in (task ∷ more) = puts_by task.change + puts_in more

abbrev versions_of : TableStore → ℕ
versions_of s = length s.disk.items + puts_in (tasks_in s.agenda)

puts_join : (xs ys : List StoreTask) → puts_in (xs ++ ys) ≡ puts_in xs + puts_in ys
puts_join [] ys = omega arith
puts_join (x ∷ xs) ys = let rest = puts_join xs ys in omega (arith, rest)

puts_drops : (names : List ChunkName) → puts_in (store.drops names) ≡ 0
puts_drops [] = refl
puts_drops (name ∷ names) = let rest = puts_drops names in omega (arith, rest)

puts_chunks : (names : List ChunkName) → puts_in (store.puts names) ≡ 0
puts_chunks [] = refl
puts_chunks (name ∷ names) = let rest = puts_chunks names in omega (arith, rest)

-- a request that is taken puts one version
accepting_puts : (size table : ℕ) (items : List Stored) (from : Node) (q : Request) (item : Stored) → puts_in (store.accepting size table items from q item) ≡ 1
accepting_puts size table items from q item =
    let close : StoreTask = record { change = store.Close; facts = []; sends = store.responded from q (messages.Accepted item.entry.version) ∷ [] } in
    let put : StoreTask = store.ends_with (store.Put item (names_with size item) (old_names size items item)) (facts.Accepted table item.entry) in
    let a = puts_join (store.puts (new_names size item)) (put ∷ (store.drops (old_names size items item) ++ close ∷ [])) in
    let b = puts_join (store.drops (old_names size items item)) (close ∷ []) in
    let c = puts_chunks (new_names size item) in
    let d = puts_drops (old_names size items item) in
    omega (arith, a, b, c, d)

recovering_puts : (node table : ℕ) (d : StoreDisk) → puts_in (store.recovering node table d) ≡ 0
recovering_puts node table d =
    let close : StoreTask = store.ends_with store.Close (facts.StoreRecovered node table) in
    let a = puts_join (store.drops (rising d.left)) (close ∷ []) in
    let b = puts_drops (rising d.left) in
    omega (arith, a, b)

changed_items : (d : StoreDisk) (change : StoreChange) → length (store.changed d change).items ≡ length d.items + puts_by change
changed_items d (store.Put item named old) = length-append d.items (item ∷ [])
changed_items d (store.PutBeside (store.PutState state)) = omega arith
changed_items d (store.PutBeside (store.PutSub c terms)) = omega arith
changed_items d other = omega arith

done_few : (d : StoreDisk) (agenda : Option (List StoreTask)) → versions_of (store.done d agenda).store ≤ length d.items + puts_in (tasks_in agenda)
done_few d None = omega arith
done_few d (Some []) = omega arith
done_few d (Some (task ∷ more)) = let e = changed_items d task.change in omega (arith, e)

crashed_few : (d : StoreDisk) (agenda : Option (List StoreTask)) (luck : Luck) → versions_of (store.crashed d agenda luck).store ≤ length d.items + puts_in (tasks_in agenda)
crashed_few d None luck = omega arith
crashed_few d (Some []) luck = omega arith
crashed_few d (Some (task ∷ more)) messages.FailedBefore = omega arith
crashed_few d (Some (task ∷ more)) messages.FailedAfter = let e = changed_items d task.change in omega (arith, e)
crashed_few d (Some (task ∷ more)) messages.Done = let e = changed_items d task.change in omega (arith, e)

worked_few : (d : StoreDisk) (agenda : Option (List StoreTask)) (luck : Luck) → versions_of (store.worked d agenda luck).store ≤ length d.items + puts_in (tasks_in agenda)
worked_few d agenda messages.Done = done_few d agenda
worked_few d agenda messages.FailedBefore = crashed_few d agenda messages.FailedBefore
worked_few d agenda messages.FailedAfter = crashed_few d agenda messages.FailedAfter

started_few : (node table : ℕ) (d : StoreDisk) (agenda : Option (List StoreTask)) → versions_of (store.started node table d agenda).store ≤ length d.items + puts_in (tasks_in agenda)
started_few node table d (Some agenda) = omega arith
started_few node table d None = recover d.pending
  where
    found : (pending : Stored) (i : Option Stored) → versions_of (store.recovered node table d pending i).store ≤ length d.items + 0
    found pending None = let e = recovering_puts node table d in omega (arith, e)
    found pending (Some i) = let e = recovering_puts node table d in omega (arith, e)

    recover : (o : Option Stored) → versions_of (store.recover node table d o).store ≤ length d.items + 0
    recover None = omega arith
    recover (Some pending) = found pending (store.item_at pending.entry.version d.items)

module _ (x : Scheme) (size table : ℕ) (d : StoreDisk) where
  judged_few : (from : Node) (q : Request) (current : ℕ) → versions_of (store.judged x size table d from q current).store ≤ length d.items + 1
  judged_few from q current = go (store.takes x q.base current && store.keeps_there size d.items q)
    where
      go : (b : Bool) → versions_of (if b then store.quiet d (Some (store.accepting size table d.items from q (store.item_for d.items q))) facts.Done
          else store.sending d (store.responded from q (store.unaccepted x q.base current) ∷ [])).store ≤ length d.items + 1
      go true = let e = accepting_puts size table d.items from q (store.item_for d.items q) in omega (arith, e)
      go false = omega arith

  decided_few : (from : Node) (q : Request) (yours : Pair) → versions_of (store.decided x size table d from q yours).store ≤ length d.items + 1
  decided_few from q yours = go (yours.number == q.number) (nat_lt q.number yours.number)
    where
      go : (a b : Bool) → versions_of (if a then store.sending d (store.responded from q (messages.Again yours.version) ∷ [])
          else (if b then store.sending d (store.responded from q (messages.Late yours.number) ∷ [])
          else store.judged x size table d from q (store.version_of (current_of d.items q.row)))).store ≤ length d.items + 1
      go true b = omega arith
      go false true = omega arith
      go false false = judged_few from q (store.version_of (current_of d.items q.row))

  asked_few : (from : Node) (q : Request) → versions_of (store.asked x size table d from q).store ≤ length d.items + 1
  asked_few from q = go (is_spelled size q.content q.pieces)
    where
      go : (b : Bool) → versions_of (if b then store.decided x size table d from q (store.yours_in d.items q.client q.row) else store.quiet d (Some []) facts.Done).store ≤ length d.items + 1
      go true = decided_few from q (store.yours_in d.items q.client q.row)
      go false = omega arith

  taken_few : (agenda : Option (List StoreTask)) (from : Node) (m : Message) → versions_of (store.taken x size table d agenda from m).store ≤ length d.items + puts_in (tasks_in agenda) + 1
  taken_few None from m = omega arith
  taken_few (Some (task ∷ more)) from m = omega arith
  taken_few (Some []) from (SyncRequest q) = let e = asked_few from q in omega (arith, e)
  taken_few (Some []) from (PullRequest q) = omega arith
  taken_few (Some []) from (SyncResponse q) = omega arith
  taken_few (Some []) from (PullResponse q) = omega arith
  taken_few (Some []) from (TornRowRequest q) = omega arith
  taken_few (Some []) from (TornRowResponse q) = omega arith

  placed_few : (agenda : Option (List StoreTask)) (put : SidePut) → versions_of (store.placed table d agenda put).store ≤ length d.items + puts_in (tasks_in agenda)
  placed_few None put = omega arith
  placed_few (Some (task ∷ more)) put = omega arith
  placed_few (Some []) put = omega arith

-- a message brings one version at most, and no other move brings any
abbrev brings : StoreMove → ℕ
brings (store.Take from message) = 1
brings other = 0

table_few : (node : ℕ) (x : Scheme) (size table : ℕ) (s : TableStore) (move : StoreMove) → versions_of (store_step node x size table s move).store ≤ versions_of s + brings move
table_few node x size table s (store.Take from m) = taken_few x size table s.disk s.agenda from m
table_few node x size table s (store.Place put) = let e = placed_few x size table s.disk s.agenda put in omega (arith, e)
table_few node x size table s (store.Work luck) = let e = worked_few s.disk s.agenda luck in omega (arith, e)
table_few node x size table s (store.Crash luck) = let e = crashed_few s.disk s.agenda luck in omega (arith, e)
table_few node x size table s store.Start = let e = started_few node table s.disk s.agenda in omega (arith, e)

-- ---- a client: no number is above this one, in what its devices stand for and in what it is about to write

abbrev ChangeUpTo : ℕ → ClientChange → Type 0
ChangeUpTo n (client.Commit p) = p.last ≤ n
ChangeUpTo n (client.PutRow p) = p.last ≤ n
ChangeUpTo n other = Unit {0}

abbrev TasksUpTo : ℕ → List ClientTask → Type 0
TasksUpTo n [] = Unit {0}
TasksUpTo n (task ∷ more) = ChangeUpTo n task.change × TasksUpTo n more

abbrev PlanUpTo : ℕ → Option Plan → Type 0
PlanUpTo n None = Unit {0}
PlanUpTo n (Some p) = p.last ≤ n

abbrev DiskUpTo : ℕ → ClientDisk → Type 0
DiskUpTo n d = (d.last ≤ n) × PlanUpTo n d.plan

abbrev IsUpTo : ℕ → Client → Type 0
IsUpTo n s = DiskUpTo n s.disk × TasksUpTo n (tasks_in s.agenda)

module _ (n m : ℕ) (less : n ≤ m) where
  change_more : (change : ClientChange) → ChangeUpTo n change → ChangeUpTo m change
  change_more (client.Commit p) few = omega (arith, few, less)
  change_more (client.PutRow p) few = omega (arith, few, less)
  change_more (client.PutTable p) few = tt
  change_more client.Finish few = tt
  change_more (client.Keep step) few = tt

  tasks_more : (tasks : List ClientTask) → TasksUpTo n tasks → TasksUpTo m tasks
  tasks_more [] few = tt
  tasks_more (task ∷ more) few = (change_more task.change few.0, tasks_more more few.1)

  plan_more : (o : Option Plan) → PlanUpTo n o → PlanUpTo m o
  plan_more None few = tt
  plan_more (Some p) few = omega (arith, few, less)

  disk_more : (d : ClientDisk) → DiskUpTo n d → DiskUpTo m d
  disk_more d few = (let last = few.0 in omega (arith, last, less), plan_more d.plan few.1)

  more_up_to : (s : Client) → IsUpTo n s → IsUpTo m s
  more_up_to s few = (disk_more s.disk few.0, tasks_more (tasks_in s.agenda) few.1)

module _ (n : ℕ) where
  changed_up_to : (d : ClientDisk) (change : ClientChange) → DiskUpTo n d → ChangeUpTo n change → DiskUpTo n (client.changed d change)
  changed_up_to d (client.Commit p) few here = (few.0, here)
  changed_up_to d (client.PutRow p) few here = go p.row
    where
      there : (x : RowPut) (o : Option TableDisk) → DiskUpTo n (client.with_table (record d { last = p.last }) p.table o (client.put_row x))
      there x None = (here, few.1)
      there x (Some opened) = (here, few.1)

      go : (o : Option RowPut) → DiskUpTo n (client.row_put d p.last p.table o)
      go None = few
      go (Some x) = there x (table_at d p.table)
  changed_up_to d (client.PutTable p) few here = puts p.alters
    where
      alters : (change : TableChange) → DiskUpTo n (client.altered d p.table change)
      alters change =
          (subst (λ (m : ℕ). m ≤ n) (sym (altered_last d p.table change)) few.0, subst (λ (o : Option Plan). PlanUpTo n o) (sym (altered_plan d p.table change)) few.1)

      there : (position : ℕ) (o : Option TableDisk) → DiskUpTo n (client.with_table d p.table o (client.put_position position))
      there position None = few
      there position (Some opened) = few

      go : (o : Option ℕ) → DiskUpTo n (client.table_put d p.table o)
      go None = few
      go (Some position) = there position (table_at d p.table)

      puts : (o : Option TableChange) → DiskUpTo n (client.put_of d p o)
      puts None = go p.position
      puts (Some change) = alters change
  changed_up_to d client.Finish few here = (few.0, tt)
  changed_up_to d (client.Keep step) few here = few

  done_up_to : (d : ClientDisk) (agenda : Option (List ClientTask)) → DiskUpTo n d → TasksUpTo n (tasks_in agenda) → IsUpTo n (client.done d agenda).client
  done_up_to d None few tasks = (few, tt)
  done_up_to d (Some []) few tasks = (few, tt)
  done_up_to d (Some (task ∷ more)) few tasks = (changed_up_to d task.change few tasks.0, tasks.1)

  crashed_up_to : (d : ClientDisk) (agenda : Option (List ClientTask)) (luck : Luck) → DiskUpTo n d → TasksUpTo n (tasks_in agenda) → IsUpTo n (client.crashed d agenda luck).client
  crashed_up_to d None luck few tasks = (few, tt)
  crashed_up_to d (Some []) luck few tasks = (few, tt)
  crashed_up_to d (Some (task ∷ more)) messages.FailedBefore few tasks = (few, tt)
  crashed_up_to d (Some (task ∷ more)) messages.FailedAfter few tasks = (changed_up_to d task.change few tasks.0, tt)
  crashed_up_to d (Some (task ∷ more)) messages.Done few tasks = (changed_up_to d task.change few tasks.0, tt)

  worked_up_to : (d : ClientDisk) (agenda : Option (List ClientTask)) (luck : Luck) → DiskUpTo n d → TasksUpTo n (tasks_in agenda) → IsUpTo n (client.worked d agenda luck).client
  worked_up_to d agenda messages.Done few tasks = done_up_to d agenda few tasks
  worked_up_to d agenda messages.FailedBefore few tasks = crashed_up_to d agenda messages.FailedBefore few tasks
  worked_up_to d agenda messages.FailedAfter few tasks = crashed_up_to d agenda messages.FailedAfter few tasks

  -- writes that change nothing
  keeps_up_to : (steps : List Step) (more : List ClientTask) → TasksUpTo n more → TasksUpTo n (client.keeps steps ++ more)
  keeps_up_to [] more few = few
  keeps_up_to (step ∷ steps) more few = (tt, keeps_up_to steps more few)

  rest_up_to : (shape : Shape) (p : Plan) (sends : List Send) → p.last ≤ n → TasksUpTo n (client.rest_of shape p sends)
  rest_up_to shape p sends few = puts p.alters
    where
      last : List ClientTask
      last = client.keeps shape.after ++ record { change = client.Finish; facts = []; sends = sends } ∷ []

      ends : TasksUpTo n last
      ends = keeps_up_to shape.after _ (tt, tt)

      table : (o : Option ℕ) → TasksUpTo n (client.table_task p o ++ last)
      table None = ends
      table (Some position) = (tt, ends)

      go : (r : Option RowPut) (o : Option ℕ) → TasksUpTo n (client.row_task p r ++ (client.table_task p o ++ last))
      go None o = table o
      go (Some x) o = (few, table o)

      puts : (o : Option TableChange) → TasksUpTo n (client.put_tasks p o last)
      puts None = go p.row p.position
      puts (Some change) = (tt, ends)

  begun_up_to : (shape : Shape) (d : ClientDisk) (answer : Answer) (p : Plan) (sends : List Send) → DiskUpTo n d → p.last ≤ n → IsUpTo n (client.begun shape d answer p sends).client
  begun_up_to shape d answer p sends few here = (few, keeps_up_to shape.before _ (here, rest_up_to shape p sends here))

-- a call draws one number at most, and nothing else draws any
module _ (n c : ℕ) (shape : Shape) (d : ClientDisk) (few : DiskUpTo n d) where
  later : DiskUpTo (n + 1) d
  later = disk_more n (n + 1) (omega arith) d few

  next : d.last + 1 ≤ n + 1
  next = let last = few.0 in omega (arith, last)

  same : d.last ≤ n + 1
  same = later.0

  strong_up_to : (size table : ℕ) (row : List ℕ) (slots : Slots) (x : Content) (o : Option InFlight) → IsUpTo (n + 1) (client.write_strong size c shape d table row slots x o).client
  strong_up_to size table row slots x (Some out) = (later, tt)
  strong_up_to size table row slots x None = begun_up_to (n + 1) shape d facts.Done _ _ later next

  by_up_to : (g : Scheme) (table : ℕ) (row : List ℕ) (opened : TableDisk) (slots : Slots) (x : Content) → IsUpTo (n + 1) (client.write_by g c shape d table row opened slots x).client
  by_up_to Strong table row opened slots x = strong_up_to opened.schema.chunk table row slots x (client.first_out opened.rows)
  by_up_to Causal table row opened slots x = begun_up_to (n + 1) shape d facts.Done _ _ later next
  by_up_to Eventual table row opened slots x = begun_up_to (n + 1) shape d facts.Done _ _ later next

  free_up_to : (g : Scheme) (table : ℕ) (row : List ℕ) (opened : TableDisk) (slots : Slots) (x : Content) (y : Option Shadow)
      → IsUpTo (n + 1) (client.write_free g c shape d table row opened slots x y).client
  free_up_to g table row opened slots x None = by_up_to g table row opened slots x
  free_up_to g table row opened slots x (Some y) = (later, tt)

  outcome_up_to : (table : ℕ) (row : List ℕ) (opened : TableDisk) (slots : Slots) (out : InFlight) (outcome : Outcome)
      → IsUpTo (n + 1) (client.outcome_taken c shape d table row opened slots out outcome).client
  outcome_up_to table row opened slots out (messages.Accepted version) = begun_up_to (n + 1) shape d facts.Done _ _ later same
  outcome_up_to table row opened slots out (messages.Again version) = begun_up_to (n + 1) shape d facts.Done _ _ later same
  outcome_up_to table row opened slots out (messages.Late last) = (later, tt)
  outcome_up_to table row opened slots out (messages.Stale latest) = begun_up_to (n + 1) shape d facts.Done _ _ later same
  outcome_up_to table row opened slots out (messages.Conflict latest) = (later, tt)
  outcome_up_to table row opened slots out messages.NeedWhole = by_whole out.whole
    where
      by_whole : (b : Bool) → IsUpTo (n + 1) (if b then client.ignored d
          else client.begun shape d facts.Done (client.whole_plan d table row slots out) (client.request_for c table row (client.whole_out out) ∷ [])).client
      by_whole true = (later, tt)
      by_whole false = begun_up_to (n + 1) shape d facts.Done (client.whole_plan d table row slots out) (client.request_for c table row (client.whole_out out) ∷ []) later same

  response_up_to : (r : Response) (o : Option TableDisk) → IsUpTo (n + 1) (client.response_in c shape d r o).client
  response_up_to r None = (later, tt)
  response_up_to r (Some opened) = taken (slots_at opened r.row).out
    where
      taken : (o : Option InFlight) → IsUpTo (n + 1) (client.response_taken c shape d r opened o).client
      taken None = (later, tt)
      taken (Some out) = go (out.number == r.number)
        where
          go : (b : Bool) → IsUpTo (n + 1) (if b then client.outcome_taken c shape d r.table r.row opened (slots_at opened r.row) out r.outcome else client.ignored d).client
          go true = outcome_up_to r.table r.row opened (slots_at opened r.row) out r.outcome
          go false = (later, tt)

  row_up_to : (q : Pulled) (opened : TableDisk) (header : Header) (slots : Slots) → IsUpTo (n + 1) (client.row_taken c shape d q opened header slots).client
  row_up_to q opened header slots = go (nat_le header.version (client.top slots.conflict slots.shadow))
    where
      go : (b : Bool) → IsUpTo (n + 1) (if b then client.begun shape d facts.Done (client.position_plan c d q.table q.to) (client.next_pull c q.table q)
          else client.begun shape d facts.Done (client.row_plan c d q.table header.row q.to (client.row_placed opened.schema.scheme c q.table header slots slots.out))
          (client.next_pull c q.table q)).client
      go true = begun_up_to (n + 1) shape d facts.Done (client.position_plan c d q.table q.to) (client.next_pull c q.table q) later same
      go false = begun_up_to (n + 1) shape d facts.Done (client.row_plan c d q.table header.row q.to (client.row_placed opened.schema.scheme c q.table header slots slots.out))
          (client.next_pull c q.table q) later same

  pulled_up_to : (q : Pulled) (o : Option TableDisk) → IsUpTo (n + 1) (client.pulled_in c shape d q o).client
  pulled_up_to q None = (later, tt)
  pulled_up_to q (Some opened) = taken q.header
    where
      taken : (o : Option Header) → IsUpTo (n + 1) (client.pulled_taken c shape d q opened o).client
      taken None = (later, tt)
      taken (Some header) = go (client.comes_next q opened header)
        where
          go : (b : Bool) → IsUpTo (n + 1) (if b then client.row_taken c shape d q opened header (slots_at opened header.row) else client.ignored d).client
          go true = row_up_to q opened header (slots_at opened header.row)
          go false = (later, tt)

  torn_row_up_to : (table : ℕ) (opened : TableDisk) (header : Header) (slots : Slots) → IsUpTo (n + 1) (client.torn_row_taken c shape d table opened header slots).client
  torn_row_up_to table opened header slots = go (nat_le header.version (client.top slots.conflict slots.shadow))
    where
      go : (b : Bool) → IsUpTo (n + 1) (if b then record (client.ignored d) { sends = client.pull_from c table opened.position ∷ [] }
          else client.begun shape d facts.Done (client.torn_plan d table header.row (client.row_placed opened.schema.scheme c table header slots slots.out))
          (client.pull_from c table opened.position ∷ [])).client
      go true = (later, tt)
      go false = begun_up_to (n + 1) shape d facts.Done (client.torn_plan d table header.row (client.row_placed opened.schema.scheme c table header slots slots.out))
          (client.pull_from c table opened.position ∷ []) later same

  torn_up_to : (q : TornPulled) (o : Option TableDisk) → IsUpTo (n + 1) (client.torn_in c shape d q o).client
  torn_up_to q None = (later, tt)
  torn_up_to q (Some opened) = taken q.header
    where
      taken : (o : Option Header) → IsUpTo (n + 1) (client.torn_taken c shape d q.table opened o).client
      taken None = (later, tt)
      taken (Some header) = go (is_named opened.schema.chunk header.content header.names)
        where
          go : (b : Bool) → IsUpTo (n + 1) (if b then client.torn_row_taken c shape d q.table opened header (slots_at opened header.row) else client.ignored d).client
          go true = torn_row_up_to q.table opened header (slots_at opened header.row)
          go false = (later, tt)

  first_up_to : (table : ℕ) (again : List Send) (o : Option RowOut) → IsUpTo (n + 1) (client.sync_first c shape d table again o).client
  first_up_to table again None = (later, tt)
  first_up_to table again (Some x) = begun_up_to (n + 1) shape d facts.Done _ _ later same

  later_tasks : (agenda : List ClientTask) → TasksUpTo n agenda → TasksUpTo (n + 1) agenda
  later_tasks agenda tasks = tasks_more n (n + 1) (omega arith) agenda tasks

  idle_up_to : (g : Scheme) (agenda : List ClientTask) → TasksUpTo n agenda → (table : ℕ) (row : List ℕ) (opened : TableDisk) (x : Content)
      → IsUpTo (n + 1) (client.write_idle g c shape d agenda table row opened x).client
  idle_up_to g (task ∷ more) tasks table row opened x = (later, later_tasks (task ∷ more) tasks)
  idle_up_to g [] tasks table row opened x = free_up_to g table row opened (slots_at opened row) x (slots_at opened row).conflict

  to_up_to : (agenda : List ClientTask) → TasksUpTo n agenda → (table : ℕ) (row : List ℕ) (x : Content) (o : Option TableDisk)
      → IsUpTo (n + 1) (client.write_to c shape d agenda table row x o).client
  to_up_to agenda tasks table row x None = (later, later_tasks agenda tasks)
  to_up_to agenda tasks table row x (Some opened) = fitting opened.schema.scheme opened (fit_of opened.schema x)
    where
      fitting : (g : Scheme) (opened : TableDisk) (fit : Result (Unit {0}) FitFault) → IsUpTo (n + 1) (client.write_fitting g c shape d agenda table row opened x fit).client
      fitting g opened (Ok fits) = idle_up_to g agenda tasks table row opened x
      fitting g opened (Err fault) = (later, later_tasks agenda tasks)

  write_up_to : (agenda : Option (List ClientTask)) → TasksUpTo n (tasks_in agenda) → (table : ℕ) (row : List ℕ) (x : Content) → IsUpTo (n + 1) (client.write_step c shape d agenda table row x).client
  write_up_to None tasks table row x = (later, tt)
  write_up_to (Some agenda) tasks table row x = to_up_to agenda tasks table row x (table_at (seen d) table)

  edit_up_to : (agenda : Option (List ClientTask)) → TasksUpTo n (tasks_in agenda) → (table : ℕ) (row : List ℕ) (edit : Edit) → IsUpTo (n + 1) (client.edit_step c shape d agenda table row edit).client
  edit_up_to None tasks table row edit = (later, tt)
  edit_up_to (Some agenda) tasks table row edit = there (table_at (seen d) table)
    where
      made : (opened : TableDisk) (result : Result Content FitFault) → IsUpTo (n + 1) (client.edit_made c shape d agenda table row opened result).client
      made opened (Ok x) = to_up_to agenda tasks table row x (Some opened)
      made opened (Err fault) = (later, later_tasks agenda tasks)

      over : (opened : TableDisk) (shown : Option Content) → IsUpTo (n + 1) (client.edit_over c shape d agenda table row opened edit shown).client
      over opened None = (later, later_tasks agenda tasks)
      over opened (Some Gone) = (later, later_tasks agenda tasks)
      over opened (Some (Row some objects)) = made opened (edited_to opened.schema some objects edit)

      there : (o : Option TableDisk) → IsUpTo (n + 1) (client.edit_in c shape d agenda table row edit o).client
      there None = (later, later_tasks agenda tasks)
      there (Some opened) =
          let slots : Slots = slots_at opened row in over opened (option_map client.content_of (client.shown_in slots.main slots.conflict slots.shadow))

  show_up_to : (agenda : Option (List ClientTask)) → TasksUpTo n (tasks_in agenda) → (table : ℕ) (row : List ℕ) → IsUpTo (n + 1) (client.show_step d agenda table row).client
  show_up_to None tasks table row = (later, tt)
  show_up_to (Some agenda) tasks table row = (later, later_tasks agenda tasks)

  sync_in_up_to : (agenda : List ClientTask) → TasksUpTo n agenda → (table : ℕ) (o : Option TableDisk) → IsUpTo (n + 1) (client.sync_in c shape d agenda table o).client
  sync_in_up_to agenda tasks table None = (later, later_tasks agenda tasks)
  sync_in_up_to (task ∷ more) tasks table (Some opened) = (later, later_tasks (task ∷ more) tasks)
  sync_in_up_to [] tasks table (Some opened) = first_up_to table (client.resent c table opened.rows) (option_map (client.row_out opened.schema.chunk) (client.first_to_send opened.rows))

  sync_up_to : (agenda : Option (List ClientTask)) → TasksUpTo n (tasks_in agenda) → (table : ℕ) → IsUpTo (n + 1) (client.sync_step c shape d agenda table).client
  sync_up_to None tasks table = (later, tt)
  sync_up_to (Some agenda) tasks table = sync_in_up_to agenda tasks table (table_at (seen d) table)

  next_in_up_to : (agenda : List ClientTask) → TasksUpTo n agenda → (table : ℕ) (tears asks : List (List ℕ)) (o : Option TableDisk)
      → IsUpTo (n + 1) (client.next_in c shape d agenda table tears asks o).client
  next_in_up_to agenda tasks table tears asks None = (later, later_tasks agenda tasks)
  next_in_up_to (task ∷ more) tasks table tears asks (Some opened) = (later, later_tasks (task ∷ more) tasks)
  next_in_up_to [] tasks table tears asks (Some opened) = (later, tt)

  next_up_to : (agenda : Option (List ClientTask)) → TasksUpTo n (tasks_in agenda) → (table : ℕ) (tears asks : List (List ℕ))
      → IsUpTo (n + 1) (client.next_step c shape d agenda table tears asks).client
  next_up_to None tasks table tears asks = (later, tt)
  next_up_to (Some agenda) tasks table tears asks = next_in_up_to agenda tasks table tears asks (table_at (seen d) table)

  take_up_to : (agenda : Option (List ClientTask)) → TasksUpTo n (tasks_in agenda) → (m : Message) → IsUpTo (n + 1) (client.take_step c shape d agenda m).client
  take_up_to None tasks m = (later, tt)
  take_up_to (Some (task ∷ more)) tasks m = (later, later_tasks (task ∷ more) tasks)
  take_up_to (Some []) tasks (SyncRequest q) = (later, tt)
  take_up_to (Some []) tasks (PullRequest q) = (later, tt)
  take_up_to (Some []) tasks (SyncResponse r) = response_up_to r (table_at (seen d) r.table)
  take_up_to (Some []) tasks (PullResponse q) = pulled_up_to q (table_at (seen d) q.table)
  take_up_to (Some []) tasks (TornRowRequest q) = (later, tt)
  take_up_to (Some []) tasks (TornRowResponse q) = torn_up_to q (table_at (seen d) q.table)

  -- a conflict that is resolved

  over_up_to : (table : ℕ) (row : List ℕ) (slots : Slots) (main : Main) (x : Shadow) (content : Content) (fit : Result (Unit {0}) FitFault)
      → IsUpTo (n + 1) (client.over_fitting c shape d table row slots main x content fit).client
  over_up_to table row slots main x content (Ok fits) = begun_up_to (n + 1) shape d facts.Done _ _ later next
  over_up_to table row slots main x content (Err fault) = (later, tt)

  choose_up_to : (table : ℕ) (row : List ℕ) (schema : Schema) (slots : Slots) (main : Main) (x : Shadow) (choice : Choice)
      → IsUpTo (n + 1) (client.choose c shape d table row schema slots main x choice).client
  choose_up_to table row schema slots main x choices.Mine = begun_up_to (n + 1) shape d facts.Done _ _ later next
  choose_up_to table row schema slots main x choices.Theirs = begun_up_to (n + 1) shape d facts.Done _ _ later same
  choose_up_to table row schema slots main x (choices.New content) = over_up_to table row slots main x content (fit_of schema content)

  resolve_over_up_to : (table : ℕ) (row : List ℕ) (schema : Schema) (slots : Slots) (version : ℕ) (choice : Choice) (m : Option Main) (x : Option Shadow)
      → IsUpTo (n + 1) (client.resolve_over c shape d table row schema slots version choice m x).client
  resolve_over_up_to table row schema slots version choice None x = (later, tt)
  resolve_over_up_to table row schema slots version choice (Some main) None = (later, tt)
  resolve_over_up_to table row schema slots version choice (Some main) (Some x) = go (x.version == version)
    where
      go : (b : Bool) → IsUpTo (n + 1) (if b then client.choose c shape d table row schema slots main x choice else client.refused d (facts.Moved version x.version)).client
      go true = choose_up_to table row schema slots main x choice
      go false = (later, tt)

  resolve_in_up_to : (agenda : List ClientTask) → TasksUpTo n agenda → (table : ℕ) (row : List ℕ) (version : ℕ) (choice : Choice) (o : Option TableDisk)
      → IsUpTo (n + 1) (client.resolve_in c shape d agenda table row version choice o).client
  resolve_in_up_to agenda tasks table row version choice None = (later, later_tasks agenda tasks)
  resolve_in_up_to (task ∷ more) tasks table row version choice (Some opened) = (later, later_tasks (task ∷ more) tasks)
  resolve_in_up_to [] tasks table row version choice (Some opened) =
      let slots : Slots = slots_at opened row in resolve_over_up_to table row opened.schema slots version choice slots.main slots.conflict

  resolve_up_to : (agenda : Option (List ClientTask)) → TasksUpTo n (tasks_in agenda) → (table : ℕ) (row : List ℕ) (version : ℕ) (choice : Choice)
      → IsUpTo (n + 1) (client.resolve_step c shape d agenda table row version choice).client
  resolve_up_to None tasks table row version choice = (later, tt)
  resolve_up_to (Some agenda) tasks table row version choice = resolve_in_up_to agenda tasks table row version choice (table_at (seen d) table)

-- what a client is asked of its conflicts alone draws no number
module _ (n c : ℕ) (shape : Shape) (d : ClientDisk) (few : DiskUpTo n d) where
  phase_up_to : (agenda : Option (List ClientTask)) → TasksUpTo n (tasks_in agenda) → (table : ℕ) → IsUpTo n (client.phase_step d agenda table).client
  phase_up_to None tasks table = (few, tt)
  phase_up_to (Some agenda) tasks table = there (table_at (seen d) table)
    where
      there : (o : Option TableDisk) → IsUpTo n (client.phase_in d agenda o).client
      there None = (few, tasks)
      there (Some opened) = (few, tasks)

  conflicts_up_to : (agenda : Option (List ClientTask)) → TasksUpTo n (tasks_in agenda) → (table : ℕ) → IsUpTo n (client.conflicts_step d agenda table).client
  conflicts_up_to None tasks table = (few, tt)
  conflicts_up_to (Some agenda) tasks table = there (table_at (seen d) table)
    where
      there : (o : Option TableDisk) → IsUpTo n (client.conflicts_in d agenda o).client
      there None = (few, tasks)
      there (Some opened) = (few, tasks)

  all_up_to : (agenda : Option (List ClientTask)) → TasksUpTo n (tasks_in agenda) → (table : ℕ) (by : resolvers.Stored) → IsUpTo n (client.all_step shape d agenda table by).client
  all_up_to None tasks table by = (few, tt)
  all_up_to (Some agenda) tasks table by = there (table_at (seen d) table)
    where
      idle : (agenda : List ClientTask) → TasksUpTo n agenda → (opened : TableDisk) → IsUpTo n (client.all_idle shape d agenda opened).client
      idle (task ∷ more) tasks opened = (few, tasks)
      idle [] tasks opened = (few, tt)

      fitting : (opened : TableDisk) (fit : Result (Unit {0}) FitFault) → IsUpTo n (client.all_fitting shape d agenda opened fit).client
      fitting opened (Ok fits) = idle agenda tasks opened
      fitting opened (Err fault) = (few, tasks)

      there : (o : Option TableDisk) → IsUpTo n (client.all_in shape d agenda by o).client
      there None = (few, tasks)
      there (Some opened) = fitting opened (client.can_resolve opened.schema by)

  -- nor does a table that is opened or closed
  alter_up_to : (agenda : Option (List ClientTask)) → TasksUpTo n (tasks_in agenda) → (table : ℕ) (change : TableChange) → IsUpTo n (client.alter_step c shape d agenda table change).client
  alter_up_to None tasks table change = (few, tt)
  alter_up_to (Some (task ∷ more)) tasks table change = (few, tasks)
  alter_up_to (Some []) tasks table change = go (client.may_alter change (table_at (seen d) table))
    where
      go : (b : Bool) → IsUpTo n (if b then client.begun shape d facts.Done (client.alter_plan c d table change) [] else client.ignored d).client
      go true = begun_up_to n shape d facts.Done (client.alter_plan c d table change) [] few few.0
      go false = (few, tt)

-- a device write, a crash and a start draw no number
abbrev IsNoCall : ClientMove → Type 0
IsNoCall (client.Work luck) = Unit {0}
IsNoCall (client.Crash luck) = Unit {0}
IsNoCall client.Start = Unit {0}
IsNoCall other = ⊥

module _ (n c : ℕ) (shape : Shape) where
  ending_up_to : (some : List Fact) (tasks : List ClientTask) → TasksUpTo n tasks → TasksUpTo n (client.ending some tasks)
  ending_up_to some [] few = tt
  ending_up_to some (task ∷ []) few = few
  ending_up_to some (task ∷ next ∷ more) few = (few.0, ending_up_to some (next ∷ more) few.1)

  opening_up_to : (o : Option Plan) → PlanUpTo n o → TasksUpTo n (client.opening shape o)
  opening_up_to None few = keeps_up_to n shape.before _ (subst (λ (tasks : List ClientTask). TasksUpTo n tasks) (append-nil (client.keeps shape.after)) (keeps_up_to n shape.after [] tt))
  opening_up_to (Some p) few = keeps_up_to n shape.before _ (rest_up_to n shape p [] few)

  started_up_to : (d : ClientDisk) (agenda : Option (List ClientTask)) → DiskUpTo n d → TasksUpTo n (tasks_in agenda) → IsUpTo n (client.started c shape d agenda).client
  started_up_to d (Some agenda) few tasks = (few, tasks)
  started_up_to d None few tasks = (few, ending_up_to (facts.ClientRecovered c ∷ []) (client.opening shape d.plan) (opening_up_to d.plan few.1))

  no_call_up_to : (s : Client) (move : ClientMove) → IsNoCall move → IsUpTo n s → IsUpTo n (client_step c shape s move).client
  no_call_up_to s (client.Work luck) none few = worked_up_to n s.disk s.agenda luck few.0 few.1
  no_call_up_to s (client.Crash luck) none few = crashed_up_to n s.disk s.agenda luck few.0 few.1
  no_call_up_to s client.Start none few = started_up_to s.disk s.agenda few.0 few.1
  no_call_up_to s (client.Write table row content) none few = absurd none
  no_call_up_to s (client.Change table row edit) none few = absurd none
  no_call_up_to s (client.Show table row) none few = absurd none
  no_call_up_to s (client.Sum table row) none few = absurd none
  no_call_up_to s (client.Sync table) none few = absurd none
  no_call_up_to s (client.Next table tears asks) none few = absurd none
  no_call_up_to s (client.BeginCr table) none few = absurd none
  no_call_up_to s (client.Conflicts table) none few = absurd none
  no_call_up_to s (client.EndCr table) none few = absurd none
  no_call_up_to s (client.Resolve table row seen choice) none few = absurd none
  no_call_up_to s (client.ResolveAll table by) none few = absurd none
  no_call_up_to s (client.Alter table change) none few = absurd none
  no_call_up_to s (client.Take message) none few = absurd none

-- ---- a world whose tables have at most so many versions, and whose clients have drawn numbers up to this one

abbrev TablesFew : ℕ → List (ℕ × Hosted) → Type 0
TablesFew n tables = (q : ℕ) (hosted : Hosted) → lookup (is_at (nat_cmp q)) tables ≡ Some hosted → versions_of hosted.store ≤ n

abbrev ClientsFew : ℕ → List (ℕ × Client) → Type 0
ClientsFew n clients = (q : ℕ) (node : Client) → lookup (is_at (nat_cmp q)) clients ≡ Some node → IsUpTo n node

abbrev AreFew : ℕ → ℕ → World → Type 0
AreFew n m w = TablesFew n w.tables × ClientsFew m w.clients

tables_few : (n k : ℕ) → n ≤ k → (w : World) → TablesFew n w.tables → TablesFew k w.tables
tables_few n k less w few q hosted at = let here = few q hosted at in omega (arith, here, less)

clients_few : (m k : ℕ) → m ≤ k → (w : World) → ClientsFew m w.clients → ClientsFew k w.clients
clients_few m k less w few q node at = more_up_to m k less node (few q node at)

put_table : (n : ℕ) (tables : List (ℕ × Hosted)) (t : ℕ) (x : Hosted) → TablesFew n tables → versions_of x.store ≤ n → TablesFew n (insert_entry nat_cmp tables t x)
put_table n tables t x few here q found at = ⊎_elim
    (λ e. let both : Some x ≡ Some found = sym e.1 ∙ at in let same : x ≡ found = cc in subst (λ (y : Hosted). versions_of y.store ≤ n) same here)
    (λ e. few q found (sym e.1 ∙ at)) (look_cases tables t x q)

put_client : (n : ℕ) (clients : List (ℕ × Client)) (c : ℕ) (x : Client) → ClientsFew n clients → IsUpTo n x → ClientsFew n (insert_entry nat_cmp clients c x)
put_client n clients c x few here q found at = ⊎_elim
    (λ e. let both : Some x ≡ Some found = sym e.1 ∙ at in let same : x ≡ found = cc in subst (λ (y : Client). IsUpTo n y) same here)
    (λ e. few q found (sym e.1 ∙ at)) (look_cases clients c x q)

-- ---- moves

move_few : (n k m : ℕ) (w : World) (table : ℕ) (move : StoreMove) → n + brings move ≤ k → AreFew n m w → AreFew k m (move_table table move w).world
move_few n k m w table move less few = go (hosted_at w table) refl
  where
    all : AreFew k m w
    all = (tables_few n k (omega (arith, less)) w few.0, few.1)

    go : (o : Option Hosted) → hosted_at w table ≡ o → AreFew k m (move_hosted w table move o).world
    go None at = all
    go (Some hosted) at = (
      put_table k w.tables table _ all.0
          (let old = few.0 table hosted at in
          let now = table_few (owner_of w table) (scheme_in (schema_at w table)) (chunk_in (schema_at w table)) table hosted.store move in
          omega (arith, less, old, now)),
      all.1,
    )

module _ (n m : ℕ) where
  work_few : (w : World) (table : ℕ) (luck : Luck) → AreFew n m w → AreFew n m (move_table table (store.Work luck) w).world
  work_few w table luck few = move_few n n m w table (store.Work luck) (omega arith) few

  crash_few : (w : World) (table : ℕ) (luck : Luck) → AreFew n m w → AreFew n m (move_table table (store.Crash luck) w).world
  crash_few w table luck few = move_few n n m w table (store.Crash luck) (omega arith) few

  -- a move of a client that draws no number
  client_few : (w : World) (c : ℕ) (move : ClientMove) (shape : Shape) → IsNoCall move → AreFew n m w → AreFew n m (move_client c move shape w).world
  client_few w c move shape none few = go (client_at w c) refl
    where
      go : (o : Option Client) → client_at w c ≡ o → AreFew n m (move_there w c move shape o).world
      go None at = few
      go (Some node) at = (few.0, put_client m w.clients c _ few.1 (no_call_up_to m c shape node move none (few.1 c node at)))

  client_works_few : (c : ℕ) (tasks : List ClientTask) (lucks : List Luck) (w : World) → AreFew n m w → AreFew n m (client_works c tasks lucks w).world
  client_works_few c [] lucks w few = few
  client_works_few c (task ∷ tasks) lucks w few =
      client_works_few c tasks (other_lucks lucks) (move_client c (client.Work (first_luck lucks)) no_shape w).world (client_few w c (client.Work (first_luck lucks)) no_shape tt few)

  client_follows_few : (c : ℕ) (lucks : List Luck) (w : World) → AreFew n m w → AreFew n m (client_follows c lucks w).world
  client_follows_few c lucks w few = go (has_node w.holds (nodes.Client c))
    where
      go : (held : Bool) → AreFew n m (if held then still w else client_until_idle c lucks w).world
      go true = few
      go false = client_works_few c (client_tasks (client_at w c)) lucks w few

  client_writes_few : (c : ℕ) (luck : Luck) (tasks : List ClientTask) (w : World) → AreFew n m w → AreFew n m (client_writes c luck tasks w).world
  client_writes_few c luck [] w few = few
  client_writes_few c luck (task ∷ tasks) w few = client_few w c (client.Work luck) no_shape tt few

  -- ---- a Store's tables

  unless_few : (x : Moved) (f : World → Moved) → AreFew n m x.world → (AreFew n m x.world → AreFew n m (f x.world).world) → AreFew n m (and_unless x f).world
  unless_few x f a b = go x.failed
    where
      go : (failed : Bool) → AreFew n m (if failed then x else and_then x f).world
      go true = a
      go false = b a

  falls_few : (tables : List ℕ) (w : World) → AreFew n m w → AreFew n m (tables_fall tables w).world
  falls_few [] w few = few
  falls_few (table ∷ tables) w few = falls_few tables (move_table table (store.Crash messages.FailedBefore) w).world (crash_few w table messages.FailedBefore few)

  store_falls_few : (node : ℕ) (w : World) → AreFew n m w → AreFew n m (store_falls node w).world
  store_falls_few node w few = falls_few (tables_of w node) w few

  or_falls_few : (node : ℕ) (x : Moved) → AreFew n m x.world → AreFew n m (or_falls node x).world
  or_falls_few node x a = go x.failed
    where
      go : (failed : Bool) → AreFew n m (if failed then and_then x (store_falls node) else x).world
      go true = store_falls_few node x.world a
      go false = a

  write_few : (node : ℕ) (luck : Luck) (o : Option ℕ) (w : World) → AreFew n m w → AreFew n m (write_next node luck o w).world
  write_few node luck None w few = few
  write_few node luck (Some table) w few = or_falls_few node (move_table table (store.Work luck) w) (work_few w table luck few)

  works_few : (node count : ℕ) (lucks : List Luck) (w : World) → AreFew n m w → AreFew n m (store_works node count lucks w).world
  works_few node zero lucks w few = few
  works_few node (suc more) lucks w few =
      let x : Moved = write_next node (first_luck lucks) (busy_table w node) w in
      unless_few x (store_works node more (other_lucks lucks)) (write_few node (first_luck lucks) (busy_table w node) w few)
      (λ there. works_few node more (other_lucks lucks) x.world there)

  follows_few : (node : ℕ) (lucks : List Luck) (w : World) → AreFew n m w → AreFew n m (store_follows node lucks w).world
  follows_few node lucks w few = go (has_node w.holds (nodes.Store node))
    where
      go : (held : Bool) → AreFew n m (if held then still w else store_until_idle node lucks w).world
      go true = few
      go false = works_few node (length (tasks_of w node)) lucks w few

  table_follows_few : (table : ℕ) (lucks : List Luck) (w : World) → AreFew n m w → AreFew n m (table_follows table lucks w).world
  table_follows_few table lucks w few = go (is_at_work w table)
    where
      go : (busy : Bool) → AreFew n m (if busy then store_follows (owner_of w table) lucks w else still w).world
      go true = follows_few (owner_of w table) lucks w few
      go false = few

  start_few : (w : World) (table : ℕ) → AreFew n m w → AreFew n m (start_hosted w table (hosted_at w table)).world
  start_few w table few = go (hosted_at w table)
    where
      go : (o : Option Hosted) → AreFew n m (start_hosted w table o).world
      go None = few
      go (Some hosted) = made hosted.made
        where
          made : (b : Bool) → AreFew n m (if b then move_table table store.Start w
              else after_table w table (record hosted { made = true }) (declared_late (owner_of w table) table hosted.store.disk.state)).world
          made true = move_few n n m w table store.Start (omega arith) few
          made false = (put_table n w.tables table _ few.0 (omega arith), few.1)

  starts_few : (tables : List ℕ) (lucks : List Luck) (w : World) → AreFew n m w → AreFew n m (tables_start tables lucks w).world
  starts_few [] lucks w few = few
  starts_few (table ∷ tables) lucks w few =
      unless_few (table_starts table (first_luck lucks) w) (tables_start tables (other_lucks lucks)) (one (first_luck lucks))
      (λ there. starts_few tables (other_lucks lucks) (table_starts table (first_luck lucks) w).world there)
    where
      one : (luck : Luck) → AreFew n m (table_starts table luck w).world
      one messages.Done = start_few w table few
      one messages.FailedBefore = few
      one messages.FailedAfter = few

  store_starts_few : (node : ℕ) (lucks : List Luck) (w : World) → AreFew n m w → AreFew n m (store_starts node lucks w).world
  store_starts_few node lucks w few = go x.failed
    where
      tables : List ℕ
      tables = tables_of w node

      x : Moved
      x = and_then (tables_fall tables w) (tables_start tables lucks)

      there : AreFew n m x.world
      there = starts_few tables lucks (tables_fall tables w).world (falls_few tables w few)

      go : (failed : Bool) → AreFew n m (if failed then and_then x (store_falls node) else and_then x (λ v. store_follows node (drop (length tables) lucks) (without_down (nodes.Store node) v))).world
      go true = store_falls_few node x.world there
      go false = follows_few node (drop (length tables) lucks) (without_down (nodes.Store node) x.world) there

  crashes_few : (node calls : ℕ) (lucks : List Luck) (w : World) → AreFew n m w → AreFew n m (store_crashes node calls lucks w).world
  crashes_few node calls lucks w few = store_falls_few node (table_crashes luck (busy_table w node) w).world (one (busy_table w node))
    where
      luck : Luck
      luck = crash_luck calls (other_lucks lucks) (first_luck lucks)

      one : (o : Option ℕ) → AreFew n m (table_crashes luck o w).world
      one None = few
      one (Some table) = crash_few w table luck few

-- ---- calls of a client

module _ (n m : ℕ) (w : World) (few : AreFew n m w) where
  fallen_few : (c : ℕ) → AreFew n m (client_falls c w).world
  fallen_few c = client_few n m w c (client.Crash messages.FailedBefore) no_shape tt few

  -- a move of a client that draws numbers up to this one, and the work that follows
  moved_few : (c : ℕ) (move : ClientMove) (shape : Shape) → ((node : Client) → client_at w c ≡ Some node → IsUpTo m (client_step c shape node move).client)
      → AreFew n m (move_client c move shape w).world
  moved_few c move shape most = go (client_at w c) refl
    where
      go : (o : Option Client) → client_at w c ≡ o → AreFew n m (move_there w c move shape o).world
      go None at = few
      go (Some node) at = (few.0, put_client m w.clients c _ few.1 (most node at))

  call_few : (c : ℕ) (move : ClientMove) (shape : Shape) (lucks : List Luck) → ((node : Client) → client_at w c ≡ Some node → IsUpTo m (client_step c shape node move).client)
      → (o : Option Client) → client_at w c ≡ o → AreFew n m (call_there w c move shape lucks o).world
  call_few c move shape lucks most o at =
      call_is (λ (x : WorldStep). AreFew n m x.world) w c move shape lucks (λ r before. few) (fallen_few c) (λ take. few)
      (λ node is. follows (gets_tasks node.agenda (move_client c move shape w).world c)) o at
    where
      follows : (b : Bool) → AreFew n m (if b then client_follows c (other_lucks lucks) (move_client c move shape w).world else still (move_client c move shape w).world).world
      follows true = client_follows_few n m c (other_lucks lucks) (move_client c move shape w).world (moved_few c move shape most)
      follows false = moved_few c move shape most

  listed_few : (s : WorldStep) → AreFew n m s.world → AreFew n m (listed s).world
  listed_few s there = go s.answer
    where
      go : (o : Option Answer) → AreFew n m (listed (record s { answer = o })).world
      go None = there
      go (Some facts.Done) = there
      go (Some (facts.Number number)) = there
      go (Some (facts.Shows y)) = there
      go (Some (facts.Sums y)) = there
      go (Some (facts.Stores v y)) = there
      go (Some (facts.Did y)) = there
      go (Some (facts.Names y)) = there
      go (Some (facts.Pairs pairs)) = there
      go (Some (facts.Refuses r)) = there

-- ---- all conflicts of a table: each may draw a number

resolve_by_few : (n m c table : ℕ) (by : resolvers.Stored) (shape : Shape) (pair : RowPair) (luck : Luck) (w : World) → AreFew n m w
    → AreFew n (m + 1) (resolve_by c table by shape pair luck w).world
resolve_by_few n m c table by shape pair messages.Done w few =
    moved_few n (m + 1) w (few.0, clients_few m (m + 1) (omega arith) w few.1) c
    (client.Resolve table pair.row pair.version (chosen_of by pair.row (client_at w c) table)) shape
    (λ node at. let old : IsUpTo m node = few.1 c node at in
    resolve_up_to m c shape node.disk old.0 node.agenda old.1 table pair.row pair.version (chosen_of by pair.row (client_at w c) table))
resolve_by_few n m c table by shape pair messages.FailedBefore w few = fallen_few n (m + 1) w (few.0, clients_few m (m + 1) (omega arith) w few.1) c
resolve_by_few n m c table by shape pair messages.FailedAfter w few = fallen_few n (m + 1) w (few.0, clients_few m (m + 1) (omega arith) w few.1) c

resolve_each_few : (n m c table : ℕ) (by : resolvers.Stored) (shapes : List Shape) (lucks : List Luck) (pairs : List RowPair) (w : World) → AreFew n m w
    → AreFew n (m + length pairs) (resolve_each c table by shapes lucks pairs w).world
resolve_each_few n m c table by shapes lucks [] w few = (few.0, clients_few m (m + 0) (omega arith) w few.1)
resolve_each_few n m c table by shapes lucks (pair ∷ pairs) w few =
    let all : ℕ = m + length (pair ∷ pairs) in
    let first : Moved = resolve_by c table by (first_shape shapes) pair (first_luck lucks) w in
    let more : List Luck = drop (1 + plan_size c first.world) lucks in
    let worked : Moved = and_unless first (client_until_idle c (other_lucks lucks)) in
    let there : AreFew n (m + 1) worked.world =
    unless_few n (m + 1) first (client_until_idle c (other_lucks lucks)) (resolve_by_few n m c table by (first_shape shapes) pair (first_luck lucks) w few)
    (λ now. client_works_few n (m + 1) c (client_tasks (client_at first.world c)) (other_lucks lucks) first.world now) in
    let rest : AreFew n (m + 1 + length pairs) (resolve_each c table by (other_shapes shapes) more pairs worked.world).world =
    resolve_each_few n (m + 1) c table by (other_shapes shapes) more pairs worked.world there in
    unless_few n all worked (resolve_each c table by (other_shapes shapes) more pairs)
    (there.0, clients_few (m + 1) all (omega arith) worked.world there.1)
    (λ now. subst (λ (k : ℕ). AreFew n k (resolve_each c table by (other_shapes shapes) more pairs worked.world).world) (omega arith) rest)

resolve_all_few : (n m : ℕ) (w : World) → AreFew n m w → (c table : ℕ) (by : resolvers.Stored) (shapes : List Shape) (lucks : List Luck) (s : WorldStep) → AreFew n m s.world
    → AreFew n (m + length (client_pairs (client_at w c) table)) (resolve_all w c table by shapes lucks s).world
resolve_all_few n m w few c table by shapes lucks s there = go s.answer
  where
    pairs : List RowPair
    pairs = client_pairs (client_at w c) table

    none : AreFew n (m + length pairs) s.world
    none = (there.0, clients_few m (m + length pairs) (omega arith) s.world there.1)

    go : (o : Option Answer) → AreFew n (m + length pairs) (resolve_all w c table by shapes lucks (record s { answer = o })).world
    go None = none
    go (Some facts.Done) = none
    go (Some (facts.Number number)) = resolve_each_few n m c table by shapes lucks pairs w few
    go (Some (facts.Shows y)) = none
    go (Some (facts.Sums y)) = none
    go (Some (facts.Stores v y)) = none
    go (Some (facts.Did y)) = none
    go (Some (facts.Names y)) = none
    go (Some (facts.Pairs some)) = none
    go (Some (facts.Refuses r)) = none

-- ---- events

module _ (n m : ℕ) (w : World) (few : AreFew n m w) where
  later_tables : AreFew (n + 1) m w
  later_tables = (tables_few n (n + 1) (omega arith) w few.0, few.1)

  after : AreFew (n + 1) (m + 1) w
  after = (later_tables.0, clients_few m (m + 1) (omega arith) w few.1)

  down_few : (node : Node) (s : WorldStep) → AreFew (n + 1) (m + 1) s.world → AreFew (n + 1) (m + 1) (unless_down w node s).world
  down_few node s there = go (is_down w node)
    where
      go : (b : Bool) → AreFew (n + 1) (m + 1) (if b then refused w (facts.NodeDown node) else s).world
      go true = after
      go false = there

  -- a call draws one number at most
  write_event : (c table : ℕ) (row : List ℕ) (x : Content) (shape : Shape) (lucks : List Luck) → AreFew (n + 1) (m + 1) (call w c (client.Write table row x) shape lucks).world
  write_event c table row x shape lucks = call_few (n + 1) (m + 1) w after c (client.Write table row x) shape lucks
      (λ node at. let old : IsUpTo m node = few.1 c node at in write_up_to m c shape node.disk old.0 node.agenda old.1 table row x) (client_at w c) refl

  edit_event : (c table : ℕ) (row : List ℕ) (x : Edit) (shape : Shape) (lucks : List Luck) → AreFew (n + 1) (m + 1) (call w c (client.Change table row x) shape lucks).world
  edit_event c table row x shape lucks = call_few (n + 1) (m + 1) w after c (client.Change table row x) shape lucks
      (λ node at. let old : IsUpTo m node = few.1 c node at in edit_up_to m c shape node.disk old.0 node.agenda old.1 table row x) (client_at w c) refl

  show_event : (c table : ℕ) (row : List ℕ) (shape : Shape) (lucks : List Luck) → AreFew (n + 1) (m + 1) (call w c (client.Show table row) shape lucks).world
  show_event c table row shape lucks = call_few (n + 1) (m + 1) w after c (client.Show table row) shape lucks
      (λ node at. let old : IsUpTo m node = few.1 c node at in show_up_to m c shape node.disk old.0 node.agenda old.1 table row) (client_at w c) refl

  sum_event : (c table : ℕ) (row : List ℕ) (shape : Shape) (lucks : List Luck) → AreFew (n + 1) (m + 1) (call w c (client.Sum table row) shape lucks).world
  sum_event c table row shape lucks = call_few (n + 1) (m + 1) w after c (client.Sum table row) shape lucks
      (λ node at. let old : IsUpTo m node = few.1 c node at in show_up_to m c shape node.disk old.0 node.agenda old.1 table row) (client_at w c) refl

  sync_event : (c table : ℕ) (shape : Shape) (lucks : List Luck) → AreFew (n + 1) (m + 1) (call w c (client.Sync table) shape lucks).world
  sync_event c table shape lucks = call_few (n + 1) (m + 1) w after c (client.Sync table) shape lucks
      (λ node at. let old : IsUpTo m node = few.1 c node at in sync_up_to m c shape node.disk old.0 node.agenda old.1 table) (client_at w c) refl

  next_event : (c table : ℕ) (tears asks : List (List ℕ)) (shape : Shape) (lucks : List Luck) → AreFew (n + 1) (m + 1) (call w c (client.Next table tears asks) shape lucks).world
  next_event c table tears asks shape lucks = call_few (n + 1) (m + 1) w after c (client.Next table tears asks) shape lucks
      (λ node at. let old : IsUpTo m node = few.1 c node at in next_up_to m c shape node.disk old.0 node.agenda old.1 table tears asks) (client_at w c) refl

  begin_event : (c table : ℕ) (shape : Shape) (lucks : List Luck) → AreFew (n + 1) (m + 1) (call w c (client.BeginCr table) shape lucks).world
  begin_event c table shape lucks = call_few (n + 1) (m + 1) w after c (client.BeginCr table) shape lucks
      (λ node at. let old : IsUpTo (m + 1) node = after.1 c node at in phase_up_to (m + 1) c shape node.disk old.0 node.agenda old.1 table) (client_at w c) refl

  conflicts_event : (c table : ℕ) (shape : Shape) (lucks : List Luck) → AreFew (n + 1) (m + 1) (listed (call w c (client.Conflicts table) shape lucks)).world
  conflicts_event c table shape lucks = listed_few (n + 1) (m + 1) w after (call w c (client.Conflicts table) shape lucks)
      (call_few (n + 1) (m + 1) w after c (client.Conflicts table) shape lucks
      (λ node at. let old : IsUpTo (m + 1) node = after.1 c node at in conflicts_up_to (m + 1) c shape node.disk old.0 node.agenda old.1 table) (client_at w c) refl)

  end_event : (c table : ℕ) (shape : Shape) (lucks : List Luck) → AreFew (n + 1) (m + 1) (call w c (client.EndCr table) shape lucks).world
  end_event c table shape lucks = call_few (n + 1) (m + 1) w after c (client.EndCr table) shape lucks
      (λ node at. let old : IsUpTo (m + 1) node = after.1 c node at in phase_up_to (m + 1) c shape node.disk old.0 node.agenda old.1 table) (client_at w c) refl

  resolve_event : (c table : ℕ) (row : List ℕ) (version : ℕ) (choice : Choice) (shape : Shape) (lucks : List Luck)
      → AreFew (n + 1) (m + 1) (call w c (client.Resolve table row version choice) shape lucks).world
  resolve_event c table row version choice shape lucks = call_few (n + 1) (m + 1) w after c (client.Resolve table row version choice) shape lucks
      (λ node at. let old : IsUpTo m node = few.1 c node at in resolve_up_to m c shape node.disk old.0 node.agenda old.1 table row version choice) (client_at w c) refl

  -- all conflicts of a table draw a number each
  resolve_all_event : (c table : ℕ) (by : resolvers.Stored) (shape : Shape) (shapes : List Shape) (lucks more : List Luck)
      → AreFew (n + 1) (m + length (client_pairs (client_at w c) table)) (resolve_all w c table by shapes more (call w c (client.ResolveAll table by) shape lucks)).world
  resolve_all_event c table by shape shapes lucks more =
      resolve_all_few (n + 1) m w later_tables c table by shapes more (call w c (client.ResolveAll table by) shape lucks)
      (call_few (n + 1) m w later_tables c (client.ResolveAll table by) shape lucks
      (λ node at. let old : IsUpTo m node = few.1 c node at in all_up_to m c shape node.disk old.0 node.agenda old.1 table by) (client_at w c) refl)

  -- ---- deliveries

  hosted_few : (table : ℕ) (move : StoreMove) (lucks : List Luck) → brings move ≤ 1 → (o : Option Hosted) → AreFew (n + 1) (m + 1) (to_hosted w table move lucks o).world
  hosted_few table move lucks less None = after
  hosted_few table move lucks less (Some hosted) = go hosted.store.agenda
    where
      first : AreFew (n + 1) (m + 1) (move_table table move w).world
      first = move_few n (n + 1) (m + 1) w table move (omega (arith, less)) (few.0, after.1)

      reads : (luck : Luck) → AreFew (n + 1) (m + 1) (take_read w table hosted move (other_lucks lucks) luck).world
      reads messages.FailedBefore = store_falls_few (n + 1) (m + 1) (owner_of w table) w after
      reads messages.FailedAfter = store_falls_few (n + 1) (m + 1) (owner_of w table) w after
      reads messages.Done = table_follows_few (n + 1) (m + 1) table (other_lucks lucks) (move_table table move w).world first

      go : (o : Option (List StoreTask)) → AreFew (n + 1) (m + 1) (take_at w table hosted move lucks o).world
      go None = first
      go (Some (task ∷ more)) = first
      go (Some []) = reads (first_luck lucks)

  carried_few : (p : Packet) (shape : Shape) (lucks : List Luck) (to : Node) → AreFew (n + 1) (m + 1) (carried w p shape lucks to).world
  carried_few p shape lucks (nodes.Store number) =
      down_few (nodes.Store number) _ (hosted_few (table_of p.message) (store.Take p.from p.message) lucks (omega arith) (hosted_by w number (table_of p.message)))
  carried_few p shape lucks (nodes.Gate gate) = after
  carried_few p shape lucks (nodes.Client c) = go (client_at w c) refl
    where
      go : (o : Option Client) → client_at w c ≡ o → AreFew (n + 1) (m + 1) (to_there w c p.message shape lucks o).world
      go None at = after
      go (Some node) at = call_few (n + 1) (m + 1) w after c (client.Take p.message) shape lucks
          (λ x is. let old : IsUpTo m x = few.1 c x is in take_up_to m c shape x.disk old.0 x.agenda old.1 p.message) (Some node) at

  delivered_few : (shape : Shape) (lucks : List Luck) (o : Option Packet) → AreFew (n + 1) (m + 1) (delivered w shape lucks o).world
  delivered_few shape lucks None = after
  delivered_few shape lucks (Some p) = carried_few p shape lucks p.to

  -- ---- declarations, and what the Store has

  declared_few : (table : ℕ) (schema : Schema) (state : TableState) (luck : Luck) (o : Option Hosted) → AreFew (n + 1) (m + 1) (declared w table schema state luck o)
  declared_few table schema state luck (Some hosted) = after
  declared_few table schema state luck None = go luck
    where
      with_new : (made : Bool) → AreFew (n + 1) (m + 1) (with_table w table schema state made)
      with_new made = (put_table (n + 1) w.tables table _ after.0 (none made), after.1)
        where
          none : (b : Bool) → versions_of (record { disk = new_disk state; agenda = agenda_of b }) ≤ n + 1
          none true = omega arith
          none false = omega arith

      go : (x : Luck) → AreFew (n + 1) (m + 1) (declared w table schema state x None)
      go messages.Done = with_new true
      go messages.FailedBefore = with_new false
      go messages.FailedAfter = with_new false

  joined_few : (c : ℕ) (tables : List ℕ) (luck : Luck) (o : Option Client) → AreFew (n + 1) (m + 1) (joined w c tables luck o)
  joined_few c tables luck (Some node) = after
  joined_few c tables luck None = (after.0, put_client (m + 1) w.clients c (new_client (open_all w [] tables) (first_agenda luck)) after.1 (fresh luck))
    where
      fresh : (x : Luck) → IsUpTo (m + 1) (new_client (open_all w [] tables) (first_agenda x))
      fresh messages.Done = ((omega arith, tt), tt)
      fresh messages.FailedBefore = ((omega arith, tt), tt)
      fresh messages.FailedAfter = ((omega arith, tt), tt)

  linked_few : (c : ℕ) (up : Bool) (o : Option Client) → AreFew (n + 1) (m + 1) (linked w c up o).world
  linked_few c up None = after
  linked_few c up (Some node) = down_few (nodes.Client c) _ (moved up)
    where
      moved : (b : Bool) → AreFew (n + 1) (m + 1) (with_link c b w)
      moved true = after
      moved false = after

  shows_few : (table : ℕ) (row : List ℕ) (lucks : List Luck) (o : Option Hosted) → AreFew (n + 1) (m + 1) (store_shows w table row lucks o).world
  shows_few table row lucks None = after
  shows_few table row lucks (Some hosted) = down_few (nodes.Store (owner_of w table)) _ (read (first_luck lucks))
    where
      read : (luck : Luck) → AreFew (n + 1) (m + 1) (row_read w table hosted row luck).world
      read messages.Done = after
      read messages.FailedBefore = store_falls_few (n + 1) (m + 1) (owner_of w table) w after
      read messages.FailedAfter = store_falls_few (n + 1) (m + 1) (owner_of w table) w after

  history_few : (table : ℕ) (o : Option Hosted) → AreFew (n + 1) (m + 1) (history_lines w table o).world
  history_few table None = after
  history_few table (Some hosted) = after

  chunks_few : (table : ℕ) (o : Option Hosted) → AreFew (n + 1) (m + 1) (chunk_names w table o).world
  chunks_few table None = after
  chunks_few table (Some hosted) = down_few (nodes.Store (owner_of w table)) _ after

  -- ---- what is done to a node

  worked_node_few : (lucks : List Luck) (node : Node) → AreFew (n + 1) (m + 1) (worked w lucks node).world
  worked_node_few lucks (nodes.Store number) = write_few (n + 1) (m + 1) number (first_luck lucks) (busy_table w number) w after
  worked_node_few lucks (nodes.Client c) = client_writes_few (n + 1) (m + 1) c (first_luck lucks) (client_tasks (client_at w c)) w after
  worked_node_few lucks (nodes.Gate gate) = after

  all_worked_few : (lucks : List Luck) (node : Node) → AreFew (n + 1) (m + 1) (all_worked w lucks node).world
  all_worked_few lucks (nodes.Store number) = works_few (n + 1) (m + 1) number (length (tasks_of w number)) lucks w after
  all_worked_few lucks (nodes.Client c) = client_works_few (n + 1) (m + 1) c (client_tasks (client_at w c)) lucks w after
  all_worked_few lucks (nodes.Gate gate) = after

  crashed_node_few : (calls : ℕ) (lucks : List Luck) (node : Node) → AreFew (n + 1) (m + 1) (crashed w calls lucks node).world
  crashed_node_few calls lucks (nodes.Store number) = crashes_few (n + 1) (m + 1) number calls lucks w after
  crashed_node_few calls lucks (nodes.Client c) = client_few (n + 1) (m + 1) w c (client.Crash (crash_luck calls (other_lucks lucks) (first_luck lucks))) no_shape tt after
  crashed_node_few calls lucks (nodes.Gate gate) = after

  started_node_few : (shape : Shape) (lucks : List Luck) (node : Node) → AreFew (n + 1) (m + 1) (started w shape lucks node).world
  started_node_few shape lucks (nodes.Client c) = go (is_down w (nodes.Client c))
    where
      started_by : (luck : Luck) (more : List Luck) → AreFew (n + 1) (m + 1) (starts_by c shape luck more w).world
      started_by messages.Done more = client_follows_few (n + 1) (m + 1) c more (move_client c client.Start shape w).world (client_few (n + 1) (m + 1) w c client.Start shape tt after)
      started_by messages.FailedBefore more = after
      started_by messages.FailedAfter more = after

      go : (b : Bool) → AreFew (n + 1) (m + 1) (if b then answering facts.Done (client_starts c shape lucks w) else answered w facts.Done).world
      go true = started_by (first_luck lucks) (other_lucks lucks)
      go false = after
  started_node_few shape lucks (nodes.Gate gate) = after
  started_node_few shape lucks (nodes.Store number) = go (has_store w number && is_down w (nodes.Store number))
    where
      go : (b : Bool) → AreFew (n + 1) (m + 1) (if b then answering facts.Done (store_starts number lucks w) else answered w facts.Done).world
      go true = store_starts_few (n + 1) (m + 1) number lucks w after
      go false = after

  -- ---- a table is made, or dropped

  puts_few : (number table : ℕ) (put : SidePut) (lucks : List Luck) → AreFew (n + 1) (m + 1) (puts_beside w number table put lucks).world
  puts_few number table put lucks = down_few (nodes.Store number) _ (hosted_few table (store.Place put) lucks (omega arith) (hosted_by w number table))

  alter_event : (c table : ℕ) (change : TableChange) (shape : Shape) (lucks : List Luck) → AreFew (n + 1) (m + 1) (call w c (client.Alter table change) shape lucks).world
  alter_event c table change shape lucks = call_few (n + 1) (m + 1) w after c (client.Alter table change) shape lucks
      (λ node at. let old : IsUpTo (m + 1) node = after.1 c node at in alter_up_to (m + 1) c shape node.disk old.0 node.agenda old.1 table change) (client_at w c) refl

  created_few : (table : ℕ) (shape : Shape) (lucks : List Luck) (node : Node) → AreFew (n + 1) (m + 1) (created w table shape lucks node).world
  created_few table shape lucks (nodes.Store number) = puts_few number table (store.PutState states.Live) lucks
  created_few table shape lucks (nodes.Gate gate) = after
  created_few table shape lucks (nodes.Client c) = opened (schema_at w table)
    where
      opened : (o : Option Schema) → AreFew (n + 1) (m + 1) (opens w c table shape lucks o).world
      opened None = after
      opened (Some schema) = alter_event c table (client.Opens schema) shape lucks

  dropped_few : (table : ℕ) (shape : Shape) (lucks : List Luck) (node : Node) → AreFew (n + 1) (m + 1) (dropped w table shape lucks node).world
  dropped_few table shape lucks (nodes.Store number) = puts_few number table (store.PutState states.Dropped) lucks
  dropped_few table shape lucks (nodes.Gate gate) = after
  dropped_few table shape lucks (nodes.Client c) = alter_event c table client.Closes shape lucks

  step_few : (event : Event) (lucks : Lucks) → AreFew (n + 1) (m + begun_by w event) (step w event lucks).world
  step_few (events.Store number) lucks = after
  step_few (events.Gate number) lucks = after
  step_few (events.Table table schema) lucks = declared_few table schema states.Live (first_luck lucks.calls) (hosted_at w table)
  step_few (events.Draft table schema) lucks = declared_few table schema states.Draft (first_luck lucks.calls) (hosted_at w table)
  step_few (events.Client c gate tables) lucks = joined_few c tables (first_luck lucks.calls) (client_at w c)
  step_few (events.Write c table row x) lucks = write_event c table row x lucks.shape lucks.calls
  step_few (events.Edit c table row x) lucks = edit_event c table row x lucks.shape lucks.calls
  step_few (events.Link c up) lucks = linked_few c up (client_at w c)
  step_few (events.Show c table row) lucks = show_event c table row lucks.shape lucks.calls
  step_few (events.Sum c table row) lucks = sum_event c table row lucks.shape lucks.calls
  step_few (events.Sync c table) lucks = sync_event c table lucks.shape lucks.calls
  step_few (events.Pull c table) lucks = next_event c table lucks.tears lucks.asks lucks.shape lucks.calls
  step_few (events.BeginCr c table) lucks = begin_event c table lucks.shape lucks.calls
  step_few (events.Conflicts c table) lucks = conflicts_event c table lucks.shape lucks.calls
  step_few (events.EndCr c table) lucks = end_event c table lucks.shape lucks.calls
  step_few (events.Resolve c table row version choice) lucks = resolve_event c table row version choice lucks.shape lucks.calls
  step_few (events.ResolveAll c table by) lucks = resolve_all_event c table by lucks.shape lucks.shapes lucks.calls (other_lucks lucks.calls)
  step_few (events.Create node table) lucks = created_few table lucks.shape lucks.calls node
  step_few (events.Drop node table) lucks = dropped_few table lucks.shape lucks.calls node
  step_few (events.Save number table d terms) lucks = puts_few number table (store.PutSub d terms) lucks.calls
  step_few (events.Ask d table) lucks = next_event d table [] [] lucks.shape lucks.calls
  step_few (events.Net it) lucks = after
  step_few (events.Deliver packet) lucks = delivered_few lucks.shape lucks.calls (slice_get w.packets packet)
  step_few (events.StoreShow table row) lucks = shows_few table row lucks.calls (hosted_at w table)
  step_few (events.History table) lucks = history_few table (hosted_at w table)
  step_few (events.Chunks table) lucks = chunks_few table (hosted_at w table)
  step_few (events.Hold node) lucks = down_few node _ after
  step_few (events.Free node) lucks = down_few node _ after
  step_few (events.Work node) lucks = down_few node _ (worked_node_few lucks.calls node)
  step_few (events.WorkAll node) lucks = down_few node _ (all_worked_few lucks.calls node)
  step_few (events.Crash node calls pick) lucks = down_few node _ (crashed_node_few calls lucks.calls node)
  step_few (events.Start node) lucks = started_node_few lucks.shape lucks.calls node

-- ---- runs

run_few : (n m : ℕ) (w : World) (run : List Happening) → AreFew n m w → AreFew (n + length run) (m + begun_from w run) (world_from w run)
run_few n m w [] few = subst (λ (k : ℕ). AreFew (n + 0) k w) (omega arith) (subst (λ (k : ℕ). AreFew k m w) (omega arith) few)
run_few n m w (h ∷ more) few =
    let next : World = (step w h.event h.lucks).world in
    let rest : AreFew (n + 1 + length more) (m + begun_by w h.event + begun_from next more) (world_from next more) =
    run_few (n + 1) (m + begun_by w h.event) next more (step_few n m w few h.event h.lucks) in
    subst (λ (k : ℕ). AreFew (n + length (h ∷ more)) k (world_from next more)) (omega arith)
    (subst (λ (k : ℕ). AreFew k (m + begun_by w h.event + begun_from next more) (world_from next more)) (omega arith) rest)

start_all_few : AreFew 0 0 start
start_all_few = (λ q hosted at. absurd cc, λ q node at. absurd cc)

behind_few : (run : List Happening) → AreFew (length run) (begun_in run) (world_from start run)
behind_few run = subst (λ (k : ℕ). AreFew (length run) k (world_from start run)) (omega arith)
    (subst (λ (k : ℕ). AreFew k (0 + begun_from start run) (world_from start run)) (omega arith) (run_few 0 0 start run start_all_few))

pub items_few : (run : List Happening) (table : ℕ) (hosted : Hosted) → hosted_at (world_from start run) table ≡ Some hosted → length hosted.store.disk.items ≤ length run
items_few run table hosted at = let few = (behind_few run).0 table hosted at in omega (arith, few)

pub last_begun : (run : List Happening) (c : ℕ) (node : Client) → client_at (world_from start run) c ≡ Some node → node.disk.last ≤ begun_in run
last_begun run c node at = ((behind_few run).1 c node at).0.0

pub plan_begun : (run : List Happening) (c : ℕ) (node : Client) (p : Plan) → client_at (world_from start run) c ≡ Some node → node.disk.plan ≡ Some p → p.last ≤ begun_in run
plan_begun run c node p at is = subst (PlanUpTo (begun_in run)) is ((behind_few run).1 c node at).0.1

-- ---- a run in which no event resolves all conflicts of a table begins no more writes than it has events

begun_single : (w : World) (event : Event) → IsSingle event → begun_by w event ≡ 1
begun_single w (events.ResolveAll c table by) single = absurd single
begun_single w other single = refl

begun_singles : (w : World) (run : List Happening) → AreSingle run → begun_from w run ≡ length run
begun_singles w [] single = refl
begun_singles w (h ∷ more) single =
    let first = begun_single w h.event single.0 in
    let rest = begun_singles (step w h.event h.lucks).world more single.1 in
    omega (arith, first, rest)

pub singles_begin : (run : List Happening) → AreSingle run → begun_in run ≡ length run
singles_begin run single = begun_singles start run single

-- ---- the last number as it is read, with a plan's change

with_last : (d : ClientDisk) (table : ℕ) (o : Option TableDisk) (f : TableDisk → TableDisk) → (client.with_table d table o f).last ≡ d.last
with_last d table None f = refl
with_last d table (Some there) f = refl

row_last : (n : ℕ) (d : ClientDisk) (last table : ℕ) (row : Option RowPut) → d.last ≤ n → last ≤ n → (client.row_put d last table row).last ≤ n
row_last n d last table None few new = few
row_last n d last table (Some x) few new = subst (λ (m : ℕ). m ≤ n) (sym (with_last (record d { last = last }) table (table_at d table) (client.put_row x))) new

put_last : (n : ℕ) (d : ClientDisk) (table : ℕ) (position : Option ℕ) → d.last ≤ n → (client.table_put d table position).last ≤ n
put_last n d table None few = few
put_last n d table (Some position) few = subst (λ (m : ℕ). m ≤ n) (sym (with_last d table (table_at d table) (client.put_position position))) few

planned_last : (n : ℕ) (d : ClientDisk) (plan : Option Plan) → d.last ≤ n → PlanUpTo n plan → (client.planned_in d plan).last ≤ n
planned_last n d None few new = few
planned_last n d (Some p) few new = behind p.alters
  where
    behind : (o : Option TableChange) → (client.applied_by p d o).last ≤ n
    behind None = put_last n (client.row_put d p.last p.table p.row) p.table p.position (row_last n d p.last p.table p.row few new)
    behind (Some change) = subst (λ (m : ℕ). m ≤ n) (sym (altered_last d p.table change)) few

pub seen_begun : (run : List Happening) (c : ℕ) (node : Client) → client_at (world_from start run) c ≡ Some node → (seen node.disk).last ≤ begun_in run
seen_begun run c node at = let few = ((behind_few run).1 c node at).0 in planned_last (begun_in run) node.disk node.disk.plan few.0 few.1

pub seen_few : (run : List Happening) → AreSingle run → (c : ℕ) (node : Client) → client_at (world_from start run) c ≡ Some node → (seen node.disk).last ≤ length run
seen_few run single c node at = subst (λ (k : ℕ). (seen node.disk).last ≤ k) (singles_begin run single) (seen_begun run c node at)
