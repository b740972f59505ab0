-- Where nothing failed, all lucks that were used were Done: so it is what it is without lucks.
use Rattle.std.proofs.Common.{arith, ◌≡◌, ℕ, zero, suc, Bool, true, false, List, [], ◌∷◌, ◌++◌, length, Option, Some, None, refl, sym, ◌∙◌, ap}
use Rattle.std.specs.Prelude.{◌+◌, ◌&&◌, ◌||◌, drop, slice_get, if◌then◌else◌}
use Rattle.conflicts.specs.declared.stored.Stored.{Stored}
use Rattle.row_value.specs.declared.schema.Schema.{Schema}
use Rattle.stab_base.specs.declared.node.Node.{Node}
use Rattle.stab_base.specs.declared.node.Node.TheVariants as nodes
use Rattle.table_model.specs.declared.line.RowPair.{RowPair}
use Rattle.table_model.specs.declared.event.Event.{Event}
use Rattle.table_model.specs.declared.event.Event.TheVariants as events
use Rattle.table_model.specs.declared.table_state.TableState.{TableState}
use Rattle.table_model.specs.declared.table_state.TableState.TheVariants as states
use Rattle.step_tables.specs.Facts as facts
use Rattle.step_tables.specs.Facts.{Answer, Refusal}
use Rattle.step_tables.specs.Messages.{Message, Luck, table_of}
use Rattle.step_tables.specs.Messages as messages
use Rattle.step_tables.specs.StoreMoves as store
use Rattle.step_tables.specs.StoreMoves.{StoreMove, StoreTask, SidePut}
use Rattle.step_tables.specs.ClientMoves as client
use Rattle.step_tables.specs.ClientMoves.{Client, ClientTask, ClientMove, ClientStep, Shape, client_step, is_cut_off, kept_out}
use Rattle.world_tables.specs.World.{World, Packet, Hosted, Moved, WorldStep, hosted_at, client_at, owner_of, hosted_by, has_store, tables_of, has_node, is_down, still, and_then, and_unless, is_fault}
use Rattle.world_tables.specs.World.{move_hosted, move_table, move_there, move_client, moved_client, tasks_in, first_luck, other_lucks, client_works, client_tasks, client_until_idle}
use Rattle.world_tables.specs.World.{client_follows, client_writes, client_starts, tables_fall, without_down, store_falls}
use Rattle.world_tables.specs.World.{or_falls, is_at_work, busy_table, write_next, store_works, tasks_of, store_until_idle, store_follows, table_follows, table_starts, tables_start, store_starts}
use Rattle.world_tables.specs.World.{luck_of, crash_luck, table_crashes, client_crashes, answering, refused, silent, unless_down, gets_tasks, client_follows_from, call_there, take_read}
use Rattle.world_tables.specs.World.{take_at, to_hosted}
use Rattle.world_tables.specs.World.{to_there, carried, delivered, row_read, store_shows, crashed, started, worked, all_worked, declared, made_with, table_step, step}
use Rattle.world_tables.specs.World.{Lucks, starts_by, is_cut, is_resolving, unless_cut, unless_kept, calls, call, joined, listed, first_shape, other_shapes, resolve_by, plan_size}
use Rattle.world_tables.specs.World.{table_of_move, is_closed, closed_answer, unless_closed}
use Rattle.world_tables.specs.World.{resolve_each, resolve_all, client_pairs, schema_at, puts_beside, opens, created, dropped}
use Rattle.world_tables.specs.World as world
use Rattle.world_tables.specs.Faults.{is_failure, fails_new, fails_joined, fails_cut, fails_write, fails_crash, is_fault_answer, is_device_fault, quiet_lucks}

both_false : (a b : Bool) → a || b ≡ false → (a ≡ false) × (b ≡ false)
both_false true b e = absurd cc
both_false false true e = absurd cc
both_false false false e = (refl, refl)

-- ---- orders of moves

then_same : (m n : Moved) (f g : World → Moved) → (and_then m f).failed ≡ false → (m.failed ≡ false → m ≡ n) → ((x : World) → (f x).failed ≡ false → f x ≡ g x) → and_then m f ≡ and_then n g
then_same m n f g e first rest =
    let k = both_false m.failed (f m.world).failed e in
    ap (λ (r : Moved). record { world = r.world; outs = m.outs ++ r.outs; failed = m.failed || r.failed }) (rest m.world k.1) ∙ ap (λ (x : Moved). and_then x g) (first k.0)

unless_same : (m n : Moved) (f g : World → Moved) → (and_unless m f).failed ≡ false → (m.failed ≡ false → m ≡ n) → ((x : World) → (f x).failed ≡ false → f x ≡ g x) → and_unless m f ≡ and_unless n g
unless_same m n f g e first rest = go m.failed refl e
  where
    go : (b : Bool) → m.failed ≡ b → (λ (x : Moved). x.failed ≡ false) (if b then m else and_then m f) → (if b then m else and_then m f) ≡ and_unless n g
    go true is e = absurd cc
    go false is e =
        then_same m n f g e first rest ∙ sym (ap (λ (b : Bool). if b then n else and_then n g) (ap (λ (x : Moved). x.failed) (sym (first is)) ∙ is))

answering_same : (a : Answer) (m n : Moved) → is_fault (if m.failed then facts.Refuses facts.NoDevice else a) ≡ false → (m.failed ≡ false → m ≡ n) → answering a m ≡ answering a n
answering_same a m n e first = go m.failed refl e
  where
    go : (b : Bool) → m.failed ≡ b → is_fault (if b then facts.Refuses facts.NoDevice else a) ≡ false → answering a m ≡ answering a n
    go true is e = absurd cc
    go false is e = ap (λ (x : Moved). answering a x) (first is)

up_same : (w : World) (node : Node) (s t : WorldStep) → is_fault_answer (unless_down w node s).answer ≡ false → (is_fault_answer s.answer ≡ false → s ≡ t) → unless_down w node s ≡ unless_down w node t
up_same w node s t e same = go (is_down w node) e
  where
    go : (b : Bool) → (λ (x : WorldStep). is_fault_answer x.answer ≡ false) (if b then refused w (facts.NodeDown node) else s)
        → (if b then refused w (facts.NodeDown node) else s) ≡ (if b then refused w (facts.NodeDown node) else t)
    go true e = refl
    go false e = same e

-- ---- a client

client_write_same : (c : ℕ) (luck : Luck) (w : World) → (move_client c (client.Work luck) client.no_shape w).failed ≡ false → move_client c (client.Work luck) client.no_shape w ≡ move_client c (client.Work messages.Done) client.no_shape w
client_write_same c messages.Done w e = refl
client_write_same c messages.FailedBefore w e = go (client_at w c) e
  where
    go : (o : Option Client) → (move_there w c (client.Work messages.FailedBefore) client.no_shape o).failed ≡ false → move_there w c (client.Work messages.FailedBefore) client.no_shape o ≡ move_there w c (client.Work messages.Done) client.no_shape o
    go None e = refl
    go (Some node) e = absurd cc
client_write_same c messages.FailedAfter w e = go (client_at w c) e
  where
    go : (o : Option Client) → (move_there w c (client.Work messages.FailedAfter) client.no_shape o).failed ≡ false → move_there w c (client.Work messages.FailedAfter) client.no_shape o ≡ move_there w c (client.Work messages.Done) client.no_shape o
    go None e = refl
    go (Some node) e = absurd cc

client_works_same : (c : ℕ) (tasks : List ClientTask) (lucks : List Luck) (w : World) → (client_works c tasks lucks w).failed ≡ false → client_works c tasks lucks w ≡ client_works c tasks [] w
client_works_same c [] lucks w e = refl
client_works_same c (task ∷ tasks) lucks w e =
    then_same (move_client c (client.Work (first_luck lucks)) client.no_shape w) (move_client c (client.Work messages.Done) client.no_shape w) (client_works c tasks (other_lucks lucks)) (client_works c tasks []) e
    (client_write_same c (first_luck lucks) w) (λ x. client_works_same c tasks (other_lucks lucks) x)

client_follows_same : (c : ℕ) (lucks : List Luck) (w : World) → (client_follows c lucks w).failed ≡ false → client_follows c lucks w ≡ client_follows c [] w
client_follows_same c lucks w e = go (has_node w.holds (nodes.Client c)) e
  where
    go : (b : Bool) → (λ (x : Moved). x.failed ≡ false) (if b then still w else client_until_idle c lucks w)
        → (if b then still w else client_until_idle c lucks w) ≡ (if b then still w else client_until_idle c [] w)
    go true e = refl
    go false e = client_works_same c (client_tasks (client_at w c)) lucks w e

client_writes_same : (c : ℕ) (luck : Luck) (tasks : List ClientTask) (w : World) → (client_writes c luck tasks w).failed ≡ false → client_writes c luck tasks w ≡ client_writes c messages.Done tasks w
client_writes_same c luck [] w e = refl
client_writes_same c luck (task ∷ tasks) w e = client_write_same c luck w e

client_starts_same : (c : ℕ) (shape : Shape) (lucks : List Luck) (w : World) → (client_starts c shape lucks w).failed ≡ false → client_starts c shape lucks w ≡ client_starts c shape [] w
client_starts_same c shape lucks w e = go (first_luck lucks) (other_lucks lucks) e
  where
    go : (luck : Luck) (more : List Luck) → (starts_by c shape luck more w).failed ≡ false → starts_by c shape luck more w ≡ starts_by c shape messages.Done [] w
    go messages.Done more e =
        then_same (move_client c client.Start shape w) (move_client c client.Start shape w) (client_follows c more) (client_follows c []) e (λ is. refl)
        (λ x. client_follows_same c more x)
    go messages.FailedBefore more e = absurd cc
    go messages.FailedAfter more e = absurd cc

follows_from_same : (agenda : Option (List ClientTask)) (c : ℕ) (lucks : List Luck) (w : World) → (client_follows_from agenda c lucks w).failed ≡ false
    → client_follows_from agenda c lucks w ≡ client_follows_from agenda c [] w
follows_from_same agenda c lucks w e = go (gets_tasks agenda w c) e
  where
    go : (b : Bool) → (λ (x : Moved). x.failed ≡ false) (if b then client_follows c lucks w else still w) → (if b then client_follows c lucks w else still w) ≡ (if b then client_follows c [] w else still w)
    go true e = client_follows_same c lucks w e
    go false e = refl

call_there_same : (w : World) (c : ℕ) (move : ClientMove) (shape : Shape) (lucks : List Luck) (o : Option Client) → is_fault_answer (call_there w c move shape lucks o).answer ≡ false
    → call_there w c move shape lucks o ≡ call_there w c move shape [] o
call_there_same w c move shape lucks None e = refl
call_there_same w c move shape lucks (Some node) e =
    up_same w (nodes.Client c) (read (first_luck lucks) (other_lucks lucks)) (read messages.Done []) e (λ k. reads_same (first_luck lucks) (other_lucks lucks) k)
  where
    cut : Bool
    cut = is_cut w c && is_cut_off c shape node move

    kept : Option Refusal
    kept = kept_out (is_resolving w c) move (client_step c shape node move).answer

    linked : List Luck → WorldStep
    linked more = unless_cut w cut (calls w c move shape more node)

    closed : Bool
    closed = is_closed node (table_of_move move)

    answer : Answer
    answer = closed_answer shape (is_cut w c) node.agenda move

    read : Luck → List Luck → WorldStep
    read luck more = world.reads w c luck (unless_closed w closed answer (unless_kept w kept (linked more)))

    by_link : (b : Bool) (more : List Luck) → is_fault_answer (unless_cut w b (calls w c move shape more node)).answer ≡ false
        → unless_cut w b (calls w c move shape more node) ≡ unless_cut w b (calls w c move shape [] node)
    by_link true more k = refl
    by_link false more k =
        answering_same (client_step c shape node move).answer (and_then (move_client c move shape w) (client_follows_from node.agenda c more))
        (and_then (move_client c move shape w) (client_follows_from node.agenda c [])) k
        (λ none. then_same (move_client c move shape w) (move_client c move shape w) (client_follows_from node.agenda c more) (client_follows_from node.agenda c []) none (λ is. refl)
        (λ x. follows_from_same node.agenda c more x))

    by_phase : (o : Option Refusal) (more : List Luck) → is_fault_answer (unless_kept w o (linked more)).answer ≡ false → unless_kept w o (linked more) ≡ unless_kept w o (linked [])
    by_phase None more k = by_link cut more k
    by_phase (Some refusal) more k = refl

    if_closed : (b : Bool) (more : List Luck) → is_fault_answer (unless_closed w b answer (unless_kept w kept (linked more))).answer ≡ false
        → unless_closed w b answer (unless_kept w kept (linked more)) ≡ unless_closed w b answer (unless_kept w kept (linked []))
    if_closed true more k = refl
    if_closed false more k = by_phase kept more k

    reads_same : (luck : Luck) (more : List Luck) → is_fault_answer (read luck more).answer ≡ false → read luck more ≡ read messages.Done []
    reads_same messages.Done more k = if_closed closed more k
    reads_same messages.FailedBefore more k = absurd cc
    reads_same messages.FailedAfter more k = absurd cc

to_there_same : (w : World) (c : ℕ) (m : Message) (shape : Shape) (lucks : List Luck) (o : Option Client) → is_fault_answer (to_there w c m shape lucks o).answer ≡ false
    → to_there w c m shape lucks o ≡ to_there w c m shape [] o
to_there_same w c m shape lucks None e = refl
to_there_same w c m shape lucks (Some node) e = call_there_same w c (client.Take m) shape lucks (Some node) e

-- ---- conflicts

abbrev no_lucks : List Luck
no_lucks = []

drop_none : (n : ℕ) → drop n no_lucks ≡ no_lucks
drop_none zero = refl
drop_none (suc n) = refl

-- a step whose answer is another one
abbrev with_answer : WorldStep → Option Answer → WorldStep
with_answer s o = record s { answer = o }

listed_same : (s t : WorldStep) → is_fault_answer (listed s).answer ≡ false → (is_fault_answer s.answer ≡ false → s ≡ t) → listed s ≡ listed t
listed_same s t e same = ap listed (same (fine s.answer e))
  where
    fine : (o : Option Answer) → is_fault_answer (listed (with_answer s o)).answer ≡ false → is_fault_answer o ≡ false
    fine None e = refl
    fine (Some answer) e = grind (arith, e)

module _ (c table : ℕ) (by : Stored) where
  resolve_by_same : (shape : Shape) (pair : RowPair) (luck : Luck) (w : World) → (resolve_by c table by shape pair luck w).failed ≡ false
      → resolve_by c table by shape pair luck w ≡ resolve_by c table by shape pair messages.Done w
  resolve_by_same shape pair messages.Done w e = refl
  resolve_by_same shape pair messages.FailedBefore w e = absurd cc
  resolve_by_same shape pair messages.FailedAfter w e = absurd cc

  resolve_each_same : (shapes : List Shape) (lucks : List Luck) (pairs : List RowPair) (w : World) → (resolve_each c table by shapes lucks pairs w).failed ≡ false
      → resolve_each c table by shapes lucks pairs w ≡ resolve_each c table by shapes [] pairs w
  resolve_each_same shapes lucks [] w e = refl
  resolve_each_same shapes lucks (pair ∷ pairs) w e =
      unless_same (and_unless resolved (client_until_idle c (other_lucks lucks))) worked (rest (drop (1 + plan_size c resolved.world) lucks)) (rest []) e
      (λ k. unless_same resolved quiet (client_until_idle c (other_lucks lucks)) (client_until_idle c []) k (resolve_by_same (first_shape shapes) pair (first_luck lucks) w)
      (λ x. client_works_same c (client_tasks (client_at x c)) (other_lucks lucks) x))
      (λ x. resolve_each_same (other_shapes shapes) (drop (1 + plan_size c resolved.world) lucks) pairs x)
      ∙ ap (λ (some : List Luck). and_unless worked (rest some)) (sym (drop_none (1 + plan_size c quiet.world)))
    where
      resolved : Moved
      resolved = resolve_by c table by (first_shape shapes) pair (first_luck lucks) w

      quiet : Moved
      quiet = resolve_by c table by (first_shape shapes) pair messages.Done w

      worked : Moved
      worked = and_unless quiet (client_until_idle c [])

      rest : List Luck → World → Moved
      rest some = resolve_each c table by (other_shapes shapes) some pairs

  module _ (w : World) (shapes : List Shape) (lucks : List Luck) (s : WorldStep) where
    all_fine : (o : Option Answer) → is_fault_answer (resolve_all w c table by shapes lucks (with_answer s o)).answer ≡ false → is_fault_answer o ≡ false
    all_fine None e = refl
    all_fine (Some answer) e = grind (arith, e)

    all_lucks : (o : Option Answer) → is_fault_answer (resolve_all w c table by shapes lucks (with_answer s o)).answer ≡ false
        → resolve_all w c table by shapes lucks (with_answer s o) ≡ resolve_all w c table by shapes [] (with_answer s o)
    all_lucks None e = refl
    all_lucks (Some facts.Done) e = refl
    all_lucks (Some (facts.Number count)) e =
        let pairs : List RowPair = client_pairs (client_at w c) table in
        answering_same (facts.Number count) (resolve_each c table by shapes lucks pairs w) (resolve_each c table by shapes [] pairs w) e (resolve_each_same shapes lucks pairs w)
    all_lucks (Some (facts.Shows what)) e = refl
    all_lucks (Some (facts.Sums sum)) e = refl
    all_lucks (Some (facts.Stores version content)) e = refl
    all_lucks (Some (facts.Did did)) e = refl
    all_lucks (Some (facts.Names names)) e = refl
    all_lucks (Some (facts.Pairs pairs)) e = refl
    all_lucks (Some (facts.Refuses refusal)) e = refl

    all_same : (t : WorldStep) → is_fault_answer (resolve_all w c table by shapes lucks s).answer ≡ false → (is_fault_answer s.answer ≡ false → s ≡ t)
        → resolve_all w c table by shapes lucks s ≡ resolve_all w c table by shapes [] t
    all_same t e same = all_lucks s.answer e ∙ ap (resolve_all w c table by shapes []) (same (all_fine s.answer e))

-- ---- the work of a Store

table_write_same : (number table : ℕ) (luck : Luck) (w : World) → (or_falls number (move_table table (store.Work luck) w)).failed ≡ false
    → or_falls number (move_table table (store.Work luck) w) ≡ or_falls number (move_table table (store.Work messages.Done) w)
table_write_same number table messages.Done w e = refl
table_write_same number table messages.FailedBefore w e = go (hosted_at w table) e
  where
    go : (o : Option Hosted) → (or_falls number (move_hosted w table (store.Work messages.FailedBefore) o)).failed ≡ false
        → or_falls number (move_hosted w table (store.Work messages.FailedBefore) o) ≡ or_falls number (move_hosted w table (store.Work messages.Done) o)
    go None e = refl
    go (Some hosted) e = absurd cc
table_write_same number table messages.FailedAfter w e = go (hosted_at w table) e
  where
    go : (o : Option Hosted) → (or_falls number (move_hosted w table (store.Work messages.FailedAfter) o)).failed ≡ false
        → or_falls number (move_hosted w table (store.Work messages.FailedAfter) o) ≡ or_falls number (move_hosted w table (store.Work messages.Done) o)
    go None e = refl
    go (Some hosted) e = absurd cc

write_next_same : (number : ℕ) (luck : Luck) (busy : Option ℕ) (w : World) → (write_next number luck busy w).failed ≡ false → write_next number luck busy w ≡ write_next number messages.Done busy w
write_next_same number luck None w e = refl
write_next_same number luck (Some table) w e = table_write_same number table luck w e

store_works_same : (number count : ℕ) (lucks : List Luck) (w : World) → (store_works number count lucks w).failed ≡ false → store_works number count lucks w ≡ store_works number count [] w
store_works_same number zero lucks w e = refl
store_works_same number (suc more) lucks w e =
    unless_same (write_next number (first_luck lucks) (busy_table w number) w) (write_next number messages.Done (busy_table w number) w) (store_works number more (other_lucks lucks))
    (store_works number more []) e
    (write_next_same number (first_luck lucks) (busy_table w number) w) (λ x. store_works_same number more (other_lucks lucks) x)

until_idle_same : (number : ℕ) (lucks : List Luck) (w : World) → (store_until_idle number lucks w).failed ≡ false → store_until_idle number lucks w ≡ store_until_idle number [] w
until_idle_same number lucks w e = store_works_same number (length (tasks_of w number)) lucks w e

store_follows_same : (number : ℕ) (lucks : List Luck) (w : World) → (store_follows number lucks w).failed ≡ false → store_follows number lucks w ≡ store_follows number [] w
store_follows_same number lucks w e = go (has_node w.holds (nodes.Store number)) e
  where
    go : (b : Bool) → (λ (x : Moved). x.failed ≡ false) (if b then still w else store_until_idle number lucks w)
        → (if b then still w else store_until_idle number lucks w) ≡ (if b then still w else store_until_idle number [] w)
    go true e = refl
    go false e = until_idle_same number lucks w e

table_follows_same : (table : ℕ) (lucks : List Luck) (w : World) → (table_follows table lucks w).failed ≡ false → table_follows table lucks w ≡ table_follows table [] w
table_follows_same table lucks w e = go (is_at_work w table) e
  where
    go : (b : Bool) → (λ (x : Moved). x.failed ≡ false) (if b then store_follows (owner_of w table) lucks w else still w)
        → (if b then store_follows (owner_of w table) lucks w else still w) ≡ (if b then store_follows (owner_of w table) [] w else still w)
    go true e = store_follows_same (owner_of w table) lucks w e
    go false e = refl

-- ---- starts

table_starts_same : (table : ℕ) (luck : Luck) (w : World) → (table_starts table luck w).failed ≡ false → table_starts table luck w ≡ table_starts table messages.Done w
table_starts_same table messages.Done w e = refl
table_starts_same table messages.FailedBefore w e = absurd cc
table_starts_same table messages.FailedAfter w e = absurd cc

tables_start_same : (tables : List ℕ) (lucks : List Luck) (w : World) → (tables_start tables lucks w).failed ≡ false → tables_start tables lucks w ≡ tables_start tables [] w
tables_start_same [] lucks w e = refl
tables_start_same (table ∷ tables) lucks w e =
    unless_same (table_starts table (first_luck lucks) w) (table_starts table messages.Done w) (tables_start tables (other_lucks lucks)) (tables_start tables []) e
    (table_starts_same table (first_luck lucks) w) (λ x. tables_start_same tables (other_lucks lucks) x)

module _ (number : ℕ) (lucks : List Luck) (w : World) where
  abbrev goes : List Luck → World → Moved
  goes some x = store_follows number some (without_down (nodes.Store number) x)

  abbrev or_back : Moved → List Luck → Bool → Moved
  or_back m some b = if b then and_then m (store_falls number) else and_then m (goes some)

  store_starts_same : (store_starts number lucks w).failed ≡ false → store_starts number lucks w ≡ store_starts number [] w
  store_starts_same e = go m.failed refl e
    where
      m : Moved
      m = and_then (tables_fall (tables_of w number) w) (tables_start (tables_of w number) lucks)

      n : Moved
      n = and_then (tables_fall (tables_of w number) w) (tables_start (tables_of w number) [])

      all_same : m.failed ≡ false → m ≡ n
      all_same e =
          let fallen : Moved = tables_fall (tables_of w number) w in
          then_same fallen fallen (tables_start (tables_of w number) lucks) (tables_start (tables_of w number) []) e (λ is. refl) (tables_start_same (tables_of w number) lucks)

      go : (b : Bool) → m.failed ≡ b → (λ (x : Moved). x.failed ≡ false) (or_back m (drop (length (tables_of w number)) lucks) b)
          → or_back m (drop (length (tables_of w number)) lucks) b ≡ or_back n (drop (length (tables_of w number)) []) n.failed
      go true is e = let k = both_false m.failed (store_falls number m.world).failed e in absurd cc
      go false is e =
          let same : m ≡ n = all_same is in
          then_same m n (goes (drop (length (tables_of w number)) lucks)) (goes []) e (λ k. same)
          (λ x. store_follows_same number (drop (length (tables_of w number)) lucks) (without_down (nodes.Store number) x))
          ∙ (ap (λ (some : List Luck). and_then n (goes some)) (sym (drop_none (length (tables_of w number))))
          ∙ sym (ap (λ (b : Bool). or_back n (drop (length (tables_of w number)) []) b) (ap (λ (x : Moved). x.failed) (sym same) ∙ is)))

-- ---- packets

take_read_same : (w : World) (table : ℕ) (hosted : Hosted) (move : StoreMove) (lucks : List Luck) (luck : Luck) → is_fault_answer (take_read w table hosted move lucks luck).answer ≡ false
    → take_read w table hosted move lucks luck ≡ take_read w table hosted move [] messages.Done
take_read_same w table hosted move lucks messages.Done e =
    answering_same (table_step w table hosted move).answer (and_then (move_table table move w) (table_follows table lucks)) (and_then (move_table table move w) (table_follows table [])) e
    (λ none. then_same (move_table table move w) (move_table table move w) (table_follows table lucks) (table_follows table []) none (λ is. refl) (λ x. table_follows_same table lucks x))
take_read_same w table hosted move lucks messages.FailedBefore e = absurd cc
take_read_same w table hosted move lucks messages.FailedAfter e = absurd cc

to_hosted_same : (w : World) (table : ℕ) (move : StoreMove) (lucks : List Luck) (o : Option Hosted) → is_fault_answer (to_hosted w table move lucks o).answer ≡ false
    → to_hosted w table move lucks o ≡ to_hosted w table move [] o
to_hosted_same w table move lucks None e = refl
to_hosted_same w table move lucks (Some hosted) e = go hosted.store.agenda e
  where
    go : (agenda : Option (List StoreTask)) → is_fault_answer (take_at w table hosted move lucks agenda).answer ≡ false
        → take_at w table hosted move lucks agenda ≡ take_at w table hosted move [] agenda
    go None e = refl
    go (Some []) e = take_read_same w table hosted move (other_lucks lucks) (first_luck lucks) e
    go (Some (task ∷ tasks)) e = refl

carried_same : (w : World) (packet : Packet) (shape : Shape) (lucks : List Luck) (to : Node) → is_fault_answer (carried w packet shape lucks to).answer ≡ false
    → carried w packet shape lucks to ≡ carried w packet shape [] to
carried_same w packet shape lucks (nodes.Store number) e =
    up_same w (nodes.Store number) (to_hosted w (table_of packet.message) (store.Take packet.from packet.message) lucks (hosted_by w number (table_of packet.message)))
    (to_hosted w (table_of packet.message) (store.Take packet.from packet.message) [] (hosted_by w number (table_of packet.message))) e
    (λ k. to_hosted_same w (table_of packet.message) (store.Take packet.from packet.message) lucks (hosted_by w number (table_of packet.message)) k)
carried_same w packet shape lucks (nodes.Client c) e = to_there_same w c packet.message shape lucks (client_at w c) e
carried_same w packet shape lucks (nodes.Gate gate) e = refl

delivered_same : (w : World) (shape : Shape) (lucks : List Luck) (o : Option Packet) → is_fault_answer (delivered w shape lucks o).answer ≡ false → delivered w shape lucks o ≡ delivered w shape [] o
delivered_same w shape lucks None e = refl
delivered_same w shape lucks (Some packet) e = carried_same w packet shape lucks packet.to e

-- ---- tables that are made and dropped

puts_same : (w : World) (number table : ℕ) (put : SidePut) (lucks : List Luck) → is_fault_answer (puts_beside w number table put lucks).answer ≡ false
    → puts_beside w number table put lucks ≡ puts_beside w number table put []
puts_same w number table put lucks e =
    up_same w (nodes.Store number) (to_hosted w table (store.Place put) lucks (hosted_by w number table)) (to_hosted w table (store.Place put) [] (hosted_by w number table)) e
    (λ k. to_hosted_same w table (store.Place put) lucks (hosted_by w number table) k)

opens_same : (w : World) (c table : ℕ) (shape : Shape) (lucks : List Luck) (o : Option Schema) → is_fault_answer (opens w c table shape lucks o).answer ≡ false
    → opens w c table shape lucks o ≡ opens w c table shape [] o
opens_same w c table shape lucks None e = refl
opens_same w c table shape lucks (Some schema) e = call_there_same w c (client.Alter table (client.Opens schema)) shape lucks (client_at w c) e

created_same : (w : World) (table : ℕ) (shape : Shape) (lucks : List Luck) (node : Node) → is_fault_answer (created w table shape lucks node).answer ≡ false
    → created w table shape lucks node ≡ created w table shape [] node
created_same w table shape lucks (nodes.Store number) e = puts_same w number table (store.PutState states.Live) lucks e
created_same w table shape lucks (nodes.Gate gate) e = refl
created_same w table shape lucks (nodes.Client c) e = opens_same w c table shape lucks (schema_at w table) e

dropped_same : (w : World) (table : ℕ) (shape : Shape) (lucks : List Luck) (node : Node) → is_fault_answer (dropped w table shape lucks node).answer ≡ false
    → dropped w table shape lucks node ≡ dropped w table shape [] node
dropped_same w table shape lucks (nodes.Store number) e = puts_same w number table (store.PutState states.Dropped) lucks e
dropped_same w table shape lucks (nodes.Gate gate) e = refl
dropped_same w table shape lucks (nodes.Client c) e = call_there_same w c (client.Alter table client.Closes) shape lucks (client_at w c) e

-- ---- rows

row_read_same : (w : World) (table : ℕ) (hosted : Hosted) (row : List ℕ) (luck : Luck) → is_fault_answer (row_read w table hosted row luck).answer ≡ false
    → row_read w table hosted row luck ≡ row_read w table hosted row messages.Done
row_read_same w table hosted row messages.Done e = refl
row_read_same w table hosted row messages.FailedBefore e = absurd cc
row_read_same w table hosted row messages.FailedAfter e = absurd cc

store_shows_same : (w : World) (table : ℕ) (row : List ℕ) (lucks : List Luck) (o : Option Hosted)
    → is_fault_answer (store_shows w table row lucks o).answer ≡ false → store_shows w table row lucks o ≡ store_shows w table row [] o
store_shows_same w table row lucks None e = refl
store_shows_same w table row lucks (Some hosted) e =
    up_same w (nodes.Store (owner_of w table)) (row_read w table hosted row (first_luck lucks)) (row_read w table hosted row messages.Done) e
    (λ k. row_read_same w table hosted row (first_luck lucks) k)

-- ---- what is done to a node

worked_same : (w : World) (lucks : List Luck) (node : Node) → is_fault_answer (worked w lucks node).answer ≡ false → worked w lucks node ≡ worked w [] node
worked_same w lucks (nodes.Store number) e =
    answering_same _ (write_next number (first_luck lucks) (busy_table w number) w) (write_next number messages.Done (busy_table w number) w) e
    (write_next_same number (first_luck lucks) (busy_table w number) w)
worked_same w lucks (nodes.Gate gate) e = refl
worked_same w lucks (nodes.Client c) e =
    let tasks : List ClientTask = client_tasks (client_at w c) in
    answering_same _ (client_writes c (first_luck lucks) tasks w) (client_writes c messages.Done tasks w) e (client_writes_same c (first_luck lucks) tasks w)

all_worked_same : (w : World) (lucks : List Luck) (node : Node) → is_fault_answer (all_worked w lucks node).answer ≡ false → all_worked w lucks node ≡ all_worked w [] node
all_worked_same w lucks (nodes.Store number) e = answering_same _ (store_until_idle number lucks w) (store_until_idle number [] w) e (until_idle_same number lucks w)
all_worked_same w lucks (nodes.Gate gate) e = refl
all_worked_same w lucks (nodes.Client c) e =
    answering_same _ (client_until_idle c lucks w) (client_until_idle c [] w) e (client_works_same c (client_tasks (client_at w c)) lucks w)

started_or_up_same : (b : Bool) (w : World) (m n : Moved) → (m.failed ≡ false → m ≡ n) → (λ (x : WorldStep). is_fault_answer x.answer ≡ false) (if b then answering facts.Done m else answering facts.Done (still w))
    → (if b then answering facts.Done m else answering facts.Done (still w)) ≡ (if b then answering facts.Done n else answering facts.Done (still w))
started_or_up_same true w m n same e = answering_same facts.Done m n e same
started_or_up_same false w m n same e = refl

started_same : (w : World) (shape : Shape) (lucks : List Luck) (node : Node) → is_fault_answer (started w shape lucks node).answer ≡ false → started w shape lucks node ≡ started w shape [] node
started_same w shape lucks (nodes.Store number) e =
    started_or_up_same (has_store w number && is_down w (nodes.Store number)) w (store_starts number lucks w) (store_starts number [] w) (store_starts_same number lucks w) e
started_same w shape lucks (nodes.Gate gate) e = refl
started_same w shape lucks (nodes.Client c) e =
    started_or_up_same (is_down w (nodes.Client c)) w (client_starts c shape lucks w) (client_starts c shape [] w) (client_starts_same c shape lucks w) e

-- ---- declarations and crashes

pub done_alone : (luck : Luck) → is_failure luck ≡ false → luck ≡ messages.Done
done_alone messages.Done e = refl
done_alone messages.FailedBefore e = absurd cc
done_alone messages.FailedAfter e = absurd cc

cut_same : (calls : ℕ) (lucks : List Luck) (busy : Option ℕ) (w : World) → fails_cut busy lucks ≡ false
    → table_crashes (crash_luck calls (other_lucks lucks) (first_luck lucks)) busy w ≡ table_crashes (luck_of calls (first_luck (other_lucks lucks))) busy w
cut_same calls lucks None w e = refl
cut_same calls lucks (Some table) w e = ap (λ (luck : Luck). table_crashes (crash_luck calls (other_lucks lucks) luck) (Some table) w) (done_alone (first_luck lucks) e)

abbrev with_agenda : ClientStep → Option (List ClientTask) → ClientStep
with_agenda s agenda = record s { client = record s.client { agenda = agenda } }

-- beside a write the luck of a crash says nothing
crash_move_same : (c : ℕ) (a b : Luck) (node : Client) → client_tasks (Some node) ≡ [] → client_step c client.no_shape node (client.Crash a) ≡ client_step c client.no_shape node (client.Crash b)
crash_move_same c a b node none = go node.agenda none
  where
    go : (agenda : Option (List ClientTask)) → tasks_in agenda ≡ [] → client.crashed node.disk agenda a ≡ client.crashed node.disk agenda b
    go None none = refl
    go (Some []) none = refl
    go (Some (task ∷ tasks)) none = absurd cc

client_crashes_same : (calls c : ℕ) (lucks : List Luck) (w : World) → fails_write (client_tasks (client_at w c)) lucks ≡ false
    → client_crashes c calls lucks w ≡ client_crashes c calls (messages.Done ∷ first_luck (other_lucks lucks) ∷ []) w
client_crashes_same calls c lucks w e = at (client_at w c) e
  where
    luck : Luck
    luck = crash_luck calls (other_lucks lucks) (first_luck lucks)

    quiet : Luck
    quiet = luck_of calls (first_luck (other_lucks lucks))

    at : (o : Option Client) → fails_write (client_tasks o) lucks ≡ false → move_there w c (client.Crash luck) client.no_shape o ≡ move_there w c (client.Crash quiet) client.no_shape o
    at None e = refl
    at (Some node) e = go (client_tasks (Some node)) refl e
      where
        -- the luck of a crash says nothing of the phases that it leaves
        same_phases : (s : ClientStep) → moved_client w c (client.Crash luck) s ≡ moved_client w c (client.Crash quiet) s
        same_phases s = by_agenda s.client.agenda
          where
            by_agenda : (agenda : Option (List ClientTask)) → moved_client w c (client.Crash luck) (with_agenda s agenda) ≡ moved_client w c (client.Crash quiet) (with_agenda s agenda)
            by_agenda None = refl
            by_agenda (Some tasks) = refl

        go : (tasks : List ClientTask) → client_tasks (Some node) ≡ tasks → fails_write tasks lucks ≡ false
            → move_there w c (client.Crash luck) client.no_shape (Some node) ≡ move_there w c (client.Crash quiet) client.no_shape (Some node)
        go [] none e = same_phases (client_step c client.no_shape node (client.Crash luck)) ∙ ap (moved_client w c (client.Crash quiet)) (crash_move_same c luck quiet node none)
        go (task ∷ tasks) is e = ap (λ (it : Luck). move_there w c (client.Crash (crash_luck calls (other_lucks lucks) it)) client.no_shape (Some node)) (done_alone (first_luck lucks) e)

crashed_same : (w : World) (calls : ℕ) (lucks : List Luck) (node : Node) → fails_crash w lucks node ≡ false
    → crashed w calls lucks node ≡ crashed w calls (messages.Done ∷ first_luck (other_lucks lucks) ∷ []) node
crashed_same w calls lucks (nodes.Store number) e =
    ap (λ (m : Moved). answering facts.Done (and_then m (store_falls number))) (cut_same calls lucks (busy_table w number) w e)
crashed_same w calls lucks (nodes.Gate gate) e = refl
crashed_same w calls lucks (nodes.Client c) e = ap (answering facts.Done) (client_crashes_same calls c lucks w e)

abbrev crashed_at : World → Node → ℕ → List Luck → Bool → WorldStep
crashed_at w node calls some b = if b then refused w (facts.NodeDown node) else crashed w calls some node

crash_same : (w : World) (node : Node) (calls pick : ℕ) (lucks : Lucks) → is_device_fault w (events.Crash node calls pick) lucks ≡ false
    → step w (events.Crash node calls pick) lucks ≡ step w (events.Crash node calls pick) (quiet_lucks (events.Crash node calls pick) lucks)
crash_same w node calls pick lucks e = go (is_down w node) e
  where
    go : (b : Bool) → (if b then false else fails_crash w lucks.calls node) ≡ false
        → crashed_at w node calls lucks.calls b ≡ crashed_at w node calls (messages.Done ∷ first_luck (other_lucks lucks.calls) ∷ []) b
    go true e = refl
    go false e = crashed_same w calls lucks.calls node e

-- ---- a step

declared_same : (w : World) (table : ℕ) (schema : Schema) (state : TableState) (lucks : List Luck) (o : Option Hosted) → fails_new o lucks ≡ false
    → silent (declared w table schema state (first_luck lucks) o) ≡ silent (declared w table schema state messages.Done o)
declared_same w table schema state lucks None e = ap (λ (luck : Luck). silent (made_with w table schema state luck)) (done_alone (first_luck lucks) e)
declared_same w table schema state lucks (Some hosted) e = refl

pub step_same : (w : World) (event : Event) (lucks : Lucks) → is_device_fault w event lucks ≡ false → step w event lucks ≡ step w event (quiet_lucks event lucks)
step_same w (events.Store number) lucks e = refl
step_same w (events.Gate number) lucks e = refl
step_same w (events.Table table schema) lucks e = declared_same w table schema states.Live lucks.calls (hosted_at w table) e
step_same w (events.Draft table schema) lucks e = declared_same w table schema states.Draft lucks.calls (hosted_at w table) e
step_same w (events.Client c gate tables) lucks e = go (client_at w c) e
  where
    go : (o : Option Client) → fails_joined o lucks.calls ≡ false → silent (joined w c tables (first_luck lucks.calls) o) ≡ silent (joined w c tables messages.Done o)
    go None e = ap (λ (luck : Luck). silent (joined w c tables luck None)) (done_alone (first_luck lucks.calls) e)
    go (Some node) e = refl
step_same w (events.Write c table row content) lucks e = call_there_same w c (client.Write table row content) lucks.shape lucks.calls (client_at w c) e
step_same w (events.Edit c table row edit) lucks e = call_there_same w c (client.Change table row edit) lucks.shape lucks.calls (client_at w c) e
step_same w (events.Show c table row) lucks e = call_there_same w c (client.Show table row) lucks.shape lucks.calls (client_at w c) e
step_same w (events.Sum c table row) lucks e = call_there_same w c (client.Sum table row) lucks.shape lucks.calls (client_at w c) e
step_same w (events.Sync c table) lucks e = call_there_same w c (client.Sync table) lucks.shape lucks.calls (client_at w c) e
step_same w (events.Pull c table) lucks e = call_there_same w c (client.Next table lucks.tears lucks.asks) lucks.shape lucks.calls (client_at w c) e
step_same w (events.BeginCr c table) lucks e = call_there_same w c (client.BeginCr table) lucks.shape lucks.calls (client_at w c) e
step_same w (events.Conflicts c table) lucks e =
    listed_same (call w c (client.Conflicts table) lucks.shape lucks.calls) (call w c (client.Conflicts table) lucks.shape []) e
    (λ k. call_there_same w c (client.Conflicts table) lucks.shape lucks.calls (client_at w c) k)
step_same w (events.EndCr c table) lucks e = call_there_same w c (client.EndCr table) lucks.shape lucks.calls (client_at w c) e
step_same w (events.Resolve c table row seen choice) lucks e = call_there_same w c (client.Resolve table row seen choice) lucks.shape lucks.calls (client_at w c) e
step_same w (events.ResolveAll c table by) lucks e =
    all_same c table by w lucks.shapes (other_lucks lucks.calls) (call w c (client.ResolveAll table by) lucks.shape lucks.calls) (call w c (client.ResolveAll table by) lucks.shape []) e
    (λ k. call_there_same w c (client.ResolveAll table by) lucks.shape lucks.calls (client_at w c) k)
step_same w (events.Link c up) lucks e = refl
step_same w (events.Create node table) lucks e = created_same w table lucks.shape lucks.calls node e
step_same w (events.Drop node table) lucks e = dropped_same w table lucks.shape lucks.calls node e
step_same w (events.Save number table d terms) lucks e = puts_same w number table (store.PutSub d terms) lucks.calls e
step_same w (events.Ask d table) lucks e = call_there_same w d (client.Next table [] []) lucks.shape lucks.calls (client_at w d) e
step_same w (events.Net it) lucks e = refl
step_same w (events.Deliver packet) lucks e = delivered_same w lucks.shape lucks.calls (slice_get w.packets packet) e
step_same w (events.StoreShow table row) lucks e = store_shows_same w table row lucks.calls (hosted_at w table) e
step_same w (events.History table) lucks e = refl
step_same w (events.Chunks table) lucks e = refl
step_same w (events.Hold node) lucks e = refl
step_same w (events.Free node) lucks e = refl
step_same w (events.Work node) lucks e = up_same w node (worked w lucks.calls node) (worked w [] node) e (λ k. worked_same w lucks.calls node k)
step_same w (events.WorkAll node) lucks e = up_same w node (all_worked w lucks.calls node) (all_worked w [] node) e (λ k. all_worked_same w lucks.calls node k)
step_same w (events.Crash node calls pick) lucks e = crash_same w node calls pick lucks e
step_same w (events.Start node) lucks e = started_same w lucks.shape lucks.calls node e
