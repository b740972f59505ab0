-- What is kept of every table along the moves of each event.
use Rattle.std.proofs.Common.{◌≡◌, ⊎_elim, ℕ, Bool, true, false, List, [], ◌∷◌, length, Option, Some, None, refl, sym, ◌∙◌, subst}
use Rattle.std.specs.Prelude.{◌+◌, ◌==◌, ◌&&◌, drop, slice_get, if◌then◌else◌}
use Rattle.conflicts.specs.declared.stored.Stored.{Stored}
use Rattle.stab_base.specs.declared.node.Node.{Node}
use Rattle.stab_base.specs.declared.node.Node.TheVariants as nodes
use Rattle.row_value.specs.declared.schema.Schema.{Schema}
use Rattle.table_model.specs.declared.line.RowPair.{RowPair}
use Rattle.table_model.specs.declared.event.Event.{Event}
use Rattle.table_model.specs.declared.event.Event.TheVariants as events
use Rattle.table_model.specs.declared.table_state.TableState.{TableState}
use Rattle.table_model.specs.declared.table_state.TableState.TheVariants as states
use Rattle.step_tables.specs.Facts as facts
use Rattle.step_tables.specs.Facts.{Answer, Refusal}
use Rattle.step_tables.specs.Messages.{Luck, Message, table_of}
use Rattle.step_tables.specs.Messages as messages
use Rattle.step_tables.specs.StoreMoves as store
use Rattle.step_tables.specs.StoreMoves.{SidePut, StoreTask, StoreMove, StoreStep}
use Rattle.step_tables.specs.ClientMoves as client
use Rattle.step_tables.specs.ClientMoves.{Client, ClientTask, ClientMove, Shape, client_step, is_cut_off, kept_out}
use Rattle.world_tables.specs.World.{World, Packet, Hosted, WorldStep, owner_of, has_store, hosted_at, client_at, has_node, is_down, still}
use Rattle.world_tables.specs.World.{table_step, move_table, move_there, move_client, first_luck, other_lucks, client_works, client_tasks, client_until_idle, client_follows, client_writes, client_starts, store_falls, busy_table, tasks_of}
use Rattle.world_tables.specs.World.{crash_luck, declared_late, store_starts}
use Rattle.world_tables.specs.World.{answering, answered, refused, unless_down, new_hosted, with_table, declared, joined, gets_tasks, schema_at, hosted_by}
use Rattle.world_tables.specs.World.{call_there, take_read, take_at, to_hosted, to_there, carried, delivered, row_read, store_shows, chunk_names, history_lines, worked, all_worked, crashed}
use Rattle.world_tables.specs.World.{started, table_of_move, is_closed, closed_answer, unless_closed, puts_beside, opens, created, dropped, step}
use Rattle.world_tables.specs.World.{Lucks, starts_by, client_falls, is_cut, with_link, unless_cut, unless_kept, is_resolving, calls, call, linked}
use Rattle.world_tables.specs.World.{Moved, and_then, and_unless, listed, first_shape, other_shapes, chosen_of, client_pairs, resolve_by, plan_size, resolve_each, resolve_all}
use Rattle.world_tables.specs.World as world
use Rattle.world_tables.specs.Passed.{taken_by, taken_from, taken_part, started_at, first_part}
use Rattle.world_laws.proofs.Looks.{look_cases}
use Rattle.moment_laws.proofs.Along as along
use Rattle.moment_laws.proofs.Along.{behind_step, All}

-- what a table is that this event declares
abbrev pub Fresh : (ℕ → Hosted → Type 0) → World → Type 0
Fresh P w = (table : ℕ) → hosted_at w table ≡ None → (state : TableState) (made : Bool) → P table (new_hosted state made)

-- a step whose answer is another one
abbrev with_answer : WorldStep → Option Answer → WorldStep
with_answer s o = record s { answer = o }

module _ (P : ℕ → Hosted → Type 0)
    (works : (w : World) (table : ℕ) (hosted : Hosted) (luck : Luck) → P table hosted → P table (behind_step hosted (table_step w table hosted (store.Work luck))))
    (crashes : (w : World) (table : ℕ) (hosted : Hosted) (luck : Luck) → P table hosted → P table (behind_step hosted (table_step w table hosted (store.Crash luck))))
    (starts : (w : World) (table : ℕ) (hosted : Hosted) → hosted.made ≡ true → P table hosted → P table (behind_step hosted (table_step w table hosted store.Start)))
    (late : (w : World) (table : ℕ) (hosted : Hosted) → hosted.made ≡ false → P table hosted → P table (behind_step (record hosted { made = true })
    (declared_late (owner_of w table) table hosted.store.disk.state)))
    (places : (w : World) (table : ℕ) (hosted : Hosted) (put : SidePut) → P table hosted → P table (behind_step hosted (table_step w table hosted (store.Place put)))) where
  falls : (number : ℕ) (w : World) → All P w → All P (store_falls number w).world
  falls number w all = along.falls_all P works crashes starts late number w all

  unless_down_all : (w : World) (node : Node) (s : WorldStep) → All P w → All P s.world → All P (unless_down w node s).world
  unless_down_all w node s all then_all = go (is_down w node)
    where
      go : (b : Bool) → All P (if b then refused w (facts.NodeDown node) else s).world
      go true = all
      go false = then_all

  -- ---- clients

  client_all : (w : World) (c : ℕ) (move : ClientMove) (shape : Shape) → All P w → All P (move_client c move shape w).world
  client_all w c move shape all = go (client_at w c)
    where
      go : (o : Option Client) → All P (move_there w c move shape o).world
      go None = all
      go (Some node) = all

  client_works_all : (c : ℕ) (tasks : List ClientTask) (lucks : List Luck) (w : World) → All P w → All P (client_works c tasks lucks w).world
  client_works_all c [] lucks w all = all
  client_works_all c (task ∷ tasks) lucks w all =
      client_works_all c tasks (other_lucks lucks) (move_client c (client.Work (first_luck lucks)) client.no_shape w).world
      (client_all w c (client.Work (first_luck lucks)) client.no_shape all)

  client_follows_all : (c : ℕ) (lucks : List Luck) (w : World) → All P w → All P (client_follows c lucks w).world
  client_follows_all c lucks w all = go (has_node w.holds (nodes.Client c))
    where
      go : (b : Bool) → All P (if b then still w else client_until_idle c lucks w).world
      go true = all
      go false = client_works_all c (client_tasks (client_at w c)) lucks w all

  client_writes_all : (c : ℕ) (luck : Luck) (tasks : List ClientTask) (w : World) → All P w → All P (client_writes c luck tasks w).world
  client_writes_all c luck [] w all = all
  client_writes_all c luck (task ∷ tasks) w all = client_all w c (client.Work luck) client.no_shape all

  call_all : (w : World) (c : ℕ) (move : ClientMove) (shape : Shape) (lucks : List Luck) → All P w → (o : Option Client) → All P (call_there w c move shape lucks o).world
  call_all w c move shape lucks all None = all
  call_all w c move shape lucks all (Some node) = unless_down_all w (nodes.Client c) _ all (reads (first_luck lucks))
    where
      v : World
      v = (move_client c move shape w).world

      first : All P v
      first = client_all w c move shape all

      follows : (b : Bool) → All P (if b then client_follows c (other_lucks lucks) v else still v).world
      follows true = client_follows_all c (other_lucks lucks) v first
      follows false = first

      by_link : (cut : Bool) → All P (unless_cut w cut (calls w c move shape (other_lucks lucks) node)).world
      by_link true = all
      by_link false = follows (gets_tasks node.agenda v c)

      fallen : All P (client_falls c w).world
      fallen = client_all w c (client.Crash messages.FailedBefore) client.no_shape all

      linked : WorldStep
      linked = unless_cut w (is_cut w c && is_cut_off c shape node move) (calls w c move shape (other_lucks lucks) node)

      by_phase : (out : Option Refusal) → All P (unless_kept w out linked).world
      by_phase None = by_link (is_cut w c && is_cut_off c shape node move)
      by_phase (Some refusal) = all

      kept : WorldStep
      kept = unless_kept w (kept_out (is_resolving w c) move (client_step c shape node move).answer) linked

      answer : Answer
      answer = closed_answer shape (is_cut w c) node.agenda move

      if_closed : (closed : Bool) → All P (unless_closed w closed answer kept).world
      if_closed true = all
      if_closed false = by_phase (kept_out (is_resolving w c) move (client_step c shape node move).answer)

      reads : (luck : Luck) → All P (world.reads w c luck (unless_closed w (is_closed node (table_of_move move)) answer kept)).world
      reads messages.Done = if_closed (is_closed node (table_of_move move))
      reads messages.FailedBefore = fallen
      reads messages.FailedAfter = fallen

  -- ---- conflicts

  listed_all : (s : WorldStep) → All P s.world → All P (listed s).world
  listed_all s all = go s.answer
    where
      go : (o : Option Answer) → All P (listed (with_answer s o)).world
      go None = all
      go (Some facts.Done) = all
      go (Some (facts.Number count)) = all
      go (Some (facts.Shows what)) = all
      go (Some (facts.Sums sum)) = all
      go (Some (facts.Stores version content)) = all
      go (Some (facts.Did did)) = all
      go (Some (facts.Names names)) = all
      go (Some (facts.Pairs pairs)) = all
      go (Some (facts.Refuses refusal)) = all

  unless_all : (m : Moved) (next : World → Moved) → All P m.world → ((x : World) → All P x → All P (next x).world) → All P (and_unless m next).world
  unless_all m next all goes = by_failure m.failed
    where
      by_failure : (failed : Bool) → All P (if failed then m else and_then m next).world
      by_failure true = all
      by_failure false = goes m.world all

  module _ (c table : ℕ) (by : Stored) where
    resolve_by_all : (shape : Shape) (pair : RowPair) (luck : Luck) (w : World) → All P w → All P (resolve_by c table by shape pair luck w).world
    resolve_by_all shape pair messages.Done w all = client_all w c (client.Resolve table pair.row pair.version (chosen_of by pair.row (client_at w c) table)) shape all
    resolve_by_all shape pair messages.FailedBefore w all = client_all w c (client.Crash messages.FailedBefore) client.no_shape all
    resolve_by_all shape pair messages.FailedAfter w all = client_all w c (client.Crash messages.FailedBefore) client.no_shape all

    resolve_each_all : (shapes : List Shape) (lucks : List Luck) (pairs : List RowPair) (w : World) → All P w → All P (resolve_each c table by shapes lucks pairs w).world
    resolve_each_all shapes lucks [] w all = all
    resolve_each_all shapes lucks (pair ∷ pairs) w all =
        unless_all (and_unless resolved (client_until_idle c (other_lucks lucks))) (resolve_each c table by (other_shapes shapes) (drop (1 + plan_size c resolved.world) lucks) pairs)
        (unless_all resolved (client_until_idle c (other_lucks lucks)) (resolve_by_all (first_shape shapes) pair (first_luck lucks) w all)
        (λ x k. client_works_all c (client_tasks (client_at x c)) (other_lucks lucks) x k))
        (resolve_each_all (other_shapes shapes) (drop (1 + plan_size c resolved.world) lucks) pairs)
      where
        resolved : Moved
        resolved = resolve_by c table by (first_shape shapes) pair (first_luck lucks) w

    resolve_all_all : (w : World) → All P w → (shapes : List Shape) (lucks : List Luck) (s : WorldStep) → All P s.world → All P (resolve_all w c table by shapes lucks s).world
    resolve_all_all w all shapes lucks s k = go s.answer
      where
        go : (o : Option Answer) → All P (resolve_all w c table by shapes lucks (with_answer s o)).world
        go None = k
        go (Some facts.Done) = k
        go (Some (facts.Number count)) = resolve_each_all shapes lucks (client_pairs (client_at w c) table) w all
        go (Some (facts.Shows what)) = k
        go (Some (facts.Sums sum)) = k
        go (Some (facts.Stores version content)) = k
        go (Some (facts.Did did)) = k
        go (Some (facts.Names names)) = k
        go (Some (facts.Pairs pairs)) = k
        go (Some (facts.Refuses refusal)) = k

  -- ---- messages

  hosted_all : (w : World) (table : ℕ) (move : StoreMove) (lucks : List Luck) → All P w → All P (move_table table move w).world → (o : Option Hosted) → All P (to_hosted w table move lucks o).world
  hosted_all w table move lucks all first None = all
  hosted_all w table move lucks all first (Some hosted) = go hosted.store.agenda
    where
      reads : (luck : Luck) → All P (take_read w table hosted move (other_lucks lucks) luck).world
      reads messages.FailedBefore = falls (owner_of w table) w all
      reads messages.FailedAfter = falls (owner_of w table) w all
      reads messages.Done = along.table_follows_all P works crashes starts late table (other_lucks lucks) (move_table table move w).world first

      go : (o : Option (List StoreTask)) → All P (take_at w table hosted move lucks o).world
      go None = first
      go (Some (task ∷ more)) = first
      go (Some []) = reads (first_luck lucks)

  carried_all : (w : World) (p : Packet) (shape : Shape) (lucks : List Luck) → All P w → (to : Node) → All P (taken_by w p to) → All P (carried w p shape lucks to).world
  carried_all w p shape lucks all (nodes.Store number) first =
      unless_down_all w (nodes.Store number) _ all (by_owner (owner_of w table == number) first)
    where
      table : ℕ
      table = table_of p.message

      move : StoreMove
      move = store.Take p.from p.message

      by_owner : (b : Bool) → All P (if b then (move_table table move w).world else w) → All P (to_hosted w table move lucks (if b then hosted_at w table else None)).world
      by_owner true moved = hosted_all w table move lucks all moved (hosted_at w table)
      by_owner false still_all = all
  carried_all w p shape lucks all (nodes.Gate gate) first = all
  carried_all w p shape lucks all (nodes.Client c) first = go (client_at w c)
    where
      go : (o : Option Client) → All P (to_there w c p.message shape lucks o).world
      go None = all
      go (Some node) = call_all w c (client.Take p.message) shape lucks all (Some node)

  delivered_all : (w : World) (shape : Shape) (lucks : List Luck) → All P w → (o : Option Packet) → All P (taken_from w o) → All P (delivered w shape lucks o).world
  delivered_all w shape lucks all None first = all
  delivered_all w shape lucks all (Some p) first = carried_all w p shape lucks all p.to first

  -- ---- tables that are made and dropped

  puts_all : (w : World) (number table : ℕ) (put : SidePut) (lucks : List Luck) → All P w → All P (puts_beside w number table put lucks).world
  puts_all w number table put lucks all =
      unless_down_all w (nodes.Store number) _ all
      (hosted_all w table (store.Place put) lucks all (along.move_all P works crashes starts late w table (store.Place put) (λ hosted at p. places w table hosted put p) all)
      (hosted_by w number table))

  opens_all : (w : World) (c table : ℕ) (shape : Shape) (lucks : List Luck) → All P w → (o : Option Schema) → All P (opens w c table shape lucks o).world
  opens_all w c table shape lucks all None = all
  opens_all w c table shape lucks all (Some schema) = call_all w c (client.Alter table (client.Opens schema)) shape lucks all (client_at w c)

  created_all : (w : World) (table : ℕ) (shape : Shape) (lucks : List Luck) → All P w → (node : Node) → All P (created w table shape lucks node).world
  created_all w table shape lucks all (nodes.Store number) = puts_all w number table (store.PutState states.Live) lucks all
  created_all w table shape lucks all (nodes.Client c) = opens_all w c table shape lucks all (schema_at w table)
  created_all w table shape lucks all (nodes.Gate gate) = all

  dropped_all : (w : World) (table : ℕ) (shape : Shape) (lucks : List Luck) → All P w → (node : Node) → All P (dropped w table shape lucks node).world
  dropped_all w table shape lucks all (nodes.Store number) = puts_all w number table (store.PutState states.Dropped) lucks all
  dropped_all w table shape lucks all (nodes.Client c) = call_all w c (client.Alter table client.Closes) shape lucks all (client_at w c)
  dropped_all w table shape lucks all (nodes.Gate gate) = all

  -- ---- questions and declarations

  shows_all : (w : World) (table : ℕ) (row : List ℕ) (lucks : List Luck) → All P w → (o : Option Hosted) → All P (store_shows w table row lucks o).world
  shows_all w table row lucks all None = all
  shows_all w table row lucks all (Some hosted) = unless_down_all w (nodes.Store (owner_of w table)) _ all (read (first_luck lucks))
    where
      read : (luck : Luck) → All P (row_read w table hosted row luck).world
      read messages.Done = all
      read messages.FailedBefore = falls (owner_of w table) w all
      read messages.FailedAfter = falls (owner_of w table) w all

  history_all : (w : World) (table : ℕ) → All P w → (o : Option Hosted) → All P (history_lines w table o).world
  history_all w table all None = all
  history_all w table all (Some hosted) = all

  chunks_all : (w : World) (table : ℕ) → All P w → (o : Option Hosted) → All P (chunk_names w table o).world
  chunks_all w table all None = all
  chunks_all w table all (Some hosted) = unless_down_all w (nodes.Store (owner_of w table)) _ all all

  with_all : (w : World) (table : ℕ) (schema : Schema) (state : TableState) (made : Bool) → All P w → P table (new_hosted state made) → All P (with_table w table schema state made)
  with_all w table schema state made all p q found at = ⊎_elim
      (λ e. let both : Some new ≡ Some found = sym e.1 ∙ at in let same : new ≡ found = cc in
      subst (P q) same (subst (λ (n : ℕ). P n new) (sym e.0) p))
      (λ e. all q found (sym e.1 ∙ at)) (look_cases w.tables table new q)
    where
      new : Hosted
      new = new_hosted state made

  declared_all : (w : World) (table : ℕ) (schema : Schema) (state : TableState) (luck : Luck) → All P w → Fresh P w → (o : Option Hosted) → hosted_at w table ≡ o
      → All P (declared w table schema state luck o)
  declared_all w table schema state luck all f (Some hosted) at = all
  declared_all w table schema state messages.Done all f None at = with_all w table schema state true all (f table at state true)
  declared_all w table schema state messages.FailedBefore all f None at = with_all w table schema state false all (f table at state false)
  declared_all w table schema state messages.FailedAfter all f None at = with_all w table schema state false all (f table at state false)

  joined_all : (w : World) (c : ℕ) (tables : List ℕ) (luck : Luck) → All P w → (o : Option Client) → All P (joined w c tables luck o)
  joined_all w c tables luck all None = all
  joined_all w c tables luck all (Some node) = all

  linked_all : (w : World) (c : ℕ) (up : Bool) → All P w → (o : Option Client) → All P (linked w c up o).world
  linked_all w c up all None = all
  linked_all w c up all (Some node) = unless_down_all w (nodes.Client c) _ all (moved up)
    where
      moved : (b : Bool) → All P (with_link c b w)
      moved true = all
      moved false = all

  -- ---- what is done to a node

  worked_all : (w : World) (lucks : List Luck) → All P w → (node : Node) → All P (worked w lucks node).world
  worked_all w lucks all (nodes.Store number) = along.write_all P works crashes starts late number (first_luck lucks) (busy_table w number) w all
  worked_all w lucks all (nodes.Client c) = client_writes_all c (first_luck lucks) (client_tasks (client_at w c)) w all
  worked_all w lucks all (nodes.Gate gate) = all

  all_worked_all : (w : World) (lucks : List Luck) → All P w → (node : Node) → All P (all_worked w lucks node).world
  all_worked_all w lucks all (nodes.Store number) = along.works_all P works crashes starts late number (length (tasks_of w number)) lucks w all
  all_worked_all w lucks all (nodes.Client c) = client_works_all c (client_tasks (client_at w c)) lucks w all
  all_worked_all w lucks all (nodes.Gate gate) = all

  crashed_all : (w : World) (calls : ℕ) (lucks : List Luck) → All P w → (node : Node) → All P (crashed w calls lucks node).world
  crashed_all w calls lucks all (nodes.Store number) = along.crashes_all P works crashes starts late number calls lucks w all
  crashed_all w calls lucks all (nodes.Client c) = client_all w c (client.Crash (crash_luck calls (other_lucks lucks) (first_luck lucks))) client.no_shape all
  crashed_all w calls lucks all (nodes.Gate gate) = all

  started_all : (w : World) (shape : Shape) (lucks : List Luck) → All P w → (node : Node) → All P (started w shape lucks node).world
  started_all w shape lucks all (nodes.Store number) = go (has_store w number && is_down w (nodes.Store number))
    where
      go : (b : Bool) → All P (if b then answering facts.Done (store_starts number lucks w) else answered w facts.Done).world
      go true = along.starts_all P works crashes starts late number lucks w all
      go false = all
  started_all w shape lucks all (nodes.Client c) = go (is_down w (nodes.Client c))
    where
      started_by : (luck : Luck) (more : List Luck) → All P (starts_by c shape luck more w).world
      started_by messages.Done more = client_follows_all c more (move_client c client.Start shape w).world (client_all w c client.Start shape all)
      started_by messages.FailedBefore more = all
      started_by messages.FailedAfter more = all

      go : (b : Bool) → All P (if b then answering facts.Done (client_starts c shape lucks w) else answered w facts.Done).world
      go true = started_by (first_luck lucks) (other_lucks lucks)
      go false = all
  started_all w shape lucks all (nodes.Gate gate) = all

  -- ---- an event

  pub step_all : (w : World) (event : Event) (lucks : Lucks) → All P w → All P (taken_part w event) → Fresh P w → All P (step w event lucks).world
  step_all w (events.Store number) lucks all first f = all
  step_all w (events.Gate number) lucks all first f = all
  step_all w (events.Table table schema) lucks all first f = declared_all w table schema states.Live (first_luck lucks.calls) all f (hosted_at w table) refl
  step_all w (events.Draft table schema) lucks all first f = declared_all w table schema states.Draft (first_luck lucks.calls) all f (hosted_at w table) refl
  step_all w (events.Client c gate tables) lucks all first f = joined_all w c tables (first_luck lucks.calls) all (client_at w c)
  step_all w (events.Write c table row x) lucks all first f = call_all w c (client.Write table row x) lucks.shape lucks.calls all (client_at w c)
  step_all w (events.Edit c table row x) lucks all first f = call_all w c (client.Change table row x) lucks.shape lucks.calls all (client_at w c)
  step_all w (events.Link c up) lucks all first f = linked_all w c up all (client_at w c)
  step_all w (events.Create node table) lucks all first f = created_all w table lucks.shape lucks.calls all node
  step_all w (events.Drop node table) lucks all first f = dropped_all w table lucks.shape lucks.calls all node
  step_all w (events.Save number table d terms) lucks all first f = puts_all w number table (store.PutSub d terms) lucks.calls all
  step_all w (events.Ask d table) lucks all first f = call_all w d (client.Next table [] []) lucks.shape lucks.calls all (client_at w d)
  step_all w (events.Net it) lucks all first f = all
  step_all w (events.Show c table row) lucks all first f = call_all w c (client.Show table row) lucks.shape lucks.calls all (client_at w c)
  step_all w (events.Sum c table row) lucks all first f = call_all w c (client.Sum table row) lucks.shape lucks.calls all (client_at w c)
  step_all w (events.Sync c table) lucks all first f = call_all w c (client.Sync table) lucks.shape lucks.calls all (client_at w c)
  step_all w (events.Pull c table) lucks all first f = call_all w c (client.Next table lucks.tears lucks.asks) lucks.shape lucks.calls all (client_at w c)
  step_all w (events.BeginCr c table) lucks all first f = call_all w c (client.BeginCr table) lucks.shape lucks.calls all (client_at w c)
  step_all w (events.Conflicts c table) lucks all first f =
      listed_all (call w c (client.Conflicts table) lucks.shape lucks.calls) (call_all w c (client.Conflicts table) lucks.shape lucks.calls all (client_at w c))
  step_all w (events.EndCr c table) lucks all first f = call_all w c (client.EndCr table) lucks.shape lucks.calls all (client_at w c)
  step_all w (events.Resolve c table row seen choice) lucks all first f =
      call_all w c (client.Resolve table row seen choice) lucks.shape lucks.calls all (client_at w c)
  step_all w (events.ResolveAll c table by) lucks all first f =
      resolve_all_all c table by w all lucks.shapes (other_lucks lucks.calls) (call w c (client.ResolveAll table by) lucks.shape lucks.calls)
      (call_all w c (client.ResolveAll table by) lucks.shape lucks.calls all (client_at w c))
  step_all w (events.Deliver n) lucks all first f = delivered_all w lucks.shape lucks.calls all (slice_get w.packets n) first
  step_all w (events.StoreShow table row) lucks all first f = shows_all w table row lucks.calls all (hosted_at w table)
  step_all w (events.History table) lucks all first f = history_all w table all (hosted_at w table)
  step_all w (events.Chunks table) lucks all first f = chunks_all w table all (hosted_at w table)
  step_all w (events.Hold node) lucks all first f = unless_down_all w node _ all all
  step_all w (events.Free node) lucks all first f = unless_down_all w node _ all all
  step_all w (events.Work node) lucks all first f = unless_down_all w node _ all (worked_all w lucks.calls all node)
  step_all w (events.WorkAll node) lucks all first f = unless_down_all w node _ all (all_worked_all w lucks.calls all node)
  step_all w (events.Crash node calls pick) lucks all first f = unless_down_all w node _ all (crashed_all w calls lucks.calls all node)
  step_all w (events.Start node) lucks all first f = started_all w lucks.shape lucks.calls all node

  started_at_all : (w : World) (lucks : List Luck) (node : Node) → All P w → All P (started_at w lucks node)
  started_at_all w lucks (nodes.Store number) all = along.begins_all P works crashes starts late number lucks w all
  started_at_all w lucks (nodes.Client c) all = all
  started_at_all w lucks (nodes.Gate gate) all = all

  pub first_all : (w : World) (event : Event) (lucks : Lucks) → All P w → All P (taken_part w event) → All P (first_part w event lucks)
  first_all w (events.Deliver n) lucks all first = first
  first_all w (events.Start node) lucks all first = started_at_all w lucks.calls node all
  first_all w other lucks all first = all
