-- What a client's event keeps of a world: all but the clients, the packets, which links are down, and which phases are
-- open.
use Rattle.std.proofs.Common.{◌≡◌, ℕ, Bool, true, false, List, [], ◌∷◌, Option, Some, None, refl, sym, ◌∙◌, ap}
use Rattle.std.specs.Prelude.{if◌then◌else◌, is_some, ◌&&◌, map}
use Rattle.stab_base.specs.declared.node.Node.TheVariants as nodes
use Rattle.step_tables.specs.ClientMoves.{Client, ClientDisk, ClientTask, ClientMove, Shape, ResolveAll, Work, Start, Crash, Take, no_shape, client_step, is_cut_off, kept_out}
use Rattle.conflicts.specs.declared.stored.Stored.{Stored}
use Rattle.table_model.specs.declared.event.Event.TheVariants as events
use Rattle.table_model.specs.declared.line.RowPair.{RowPair}
use Rattle.step_tables.specs.Facts.{PairLine}
use Rattle.step_tables.specs.Facts as facts
use Rattle.step_tables.specs.Messages.{Luck, Message}
use Rattle.step_tables.specs.Messages as messages
use Rattle.world_tables.specs.World.{World, WorldStep, Moved, client_at, is_down, is_cut, has_node, still, and_then, failing, answering, answered, refused, unless_down, reads, unless_kept, unless_cut, unless_closed, is_closed, table_of_move, closed_answer, is_resolving}
use Rattle.world_tables.specs.World.{move_client, move_there, client_tasks, client_until_idle, client_follows, client_follows_from, gets_tasks, client_writes, client_falls, client_crashes, client_starts}
use Rattle.world_tables.specs.World.{starts_by, listed, first_luck, other_lucks, crash_luck, next_write, calls, call, call_there, to_there, worked, all_worked, crashed, started, linked, with_link}
use Rattle.world_tables.specs.World.{Lucks, client_pairs, resolve_all, resolve_each, step}
use Rattle.journal_host.proofs.Keeping.{SameClients, changed, KeepsMoved, still_keeps, failing_keeps, then_keeps, move_keeps, until_idle_keeps}
use Rattle.client_events.proofs.Rows.{each_keeps}

-- ---- moves

follows_keeps : (c : ℕ) (lucks : List Luck) (w : World) → KeepsMoved w (client_follows c lucks w)
follows_keeps c lucks w = go (has_node w.holds (nodes.Client c))
  where
    go : (held : Bool) → KeepsMoved w (if held then still w else client_until_idle c lucks w)
    go true = still_keeps w
    go false = until_idle_keeps c lucks w

follows_from_keeps : (agenda : Option (List ClientTask)) (c : ℕ) (lucks : List Luck) (w : World) → KeepsMoved w (client_follows_from agenda c lucks w)
follows_from_keeps agenda c lucks w = go (gets_tasks agenda w c)
  where
    go : (b : Bool) → KeepsMoved w (if b then client_follows c lucks w else still w)
    go true = follows_keeps c lucks w
    go false = still_keeps w

writes_keeps : (c : ℕ) (luck : Luck) (tasks : List ClientTask) (w : World) → KeepsMoved w (client_writes c luck tasks w)
writes_keeps c luck [] w = still_keeps w
writes_keeps c luck (task ∷ tasks) w = move_keeps w c (Work luck) no_shape

starts_keeps : (c : ℕ) (shape : Shape) (luck : Luck) (lucks : List Luck) (w : World) → KeepsMoved w (starts_by c shape luck lucks w)
starts_keeps c shape messages.Done lucks w =
    let m : Moved = move_client c Start shape w in then_keeps w m (client_follows c lucks) (move_keeps w c Start shape) (follows_keeps c lucks m.world)
starts_keeps c shape messages.FailedBefore lucks w = failing_keeps w (still w) (still_keeps w)
starts_keeps c shape messages.FailedAfter lucks w = failing_keeps w (still w) (still_keeps w)

-- ---- events

-- beside the rows in conflict that its answer counts
pub record KeepsBeside (w : World) (s : WorldStep) (pairs : List RowPair) : Type 0 where
  pub same : s.world ≡ changed w s.world
  pub clients : SameClients w s.world
  pub counted : s.counted ≡ map PairLine pairs

abbrev pub Keeps : World → WorldStep → Type 0
Keeps w s = KeepsBeside w s []

answering_keeps : (w : World) (a : facts.Answer) (m : Moved) → KeepsMoved w m → Keeps w (answering a m)
answering_keeps w a m k = record { same = k.same; clients = k.clients; counted = refl }

answered_keeps : (w : World) (a : facts.Answer) → Keeps w (answered w a)
answered_keeps w a = answering_keeps w a (still w) (still_keeps w)

unless_keeps : (w : World) (c : ℕ) (s : WorldStep) → Keeps w s → Keeps w (unless_down w (nodes.Client c) s)
unless_keeps w c s k = go (is_down w (nodes.Client c))
  where
    go : (b : Bool) → Keeps w (if b then refused w (facts.NodeDown (nodes.Client c)) else s)
    go true = answered_keeps w (facts.Refuses (facts.NodeDown (nodes.Client c)))
    go false = k

calls_keeps : (w : World) (c : ℕ) (move : ClientMove) (shape : Shape) (lucks : List Luck) (node : Client) → Keeps w (calls w c move shape lucks node)
calls_keeps w c move shape lucks node =
    let m : Moved = move_client c move shape w in
    answering_keeps w (client_step c shape node move).answer (and_then m (client_follows_from node.agenda c lucks))
    (then_keeps w m (client_follows_from node.agenda c lucks) (move_keeps w c move shape) (follows_from_keeps node.agenda c lucks m.world))

cut_keeps : (w : World) (cut : Bool) (s : WorldStep) → Keeps w s → Keeps w (unless_cut w cut s)
cut_keeps w true s k = answered_keeps w (facts.Refuses facts.Offline)
cut_keeps w false s k = k

kept_keeps : (w : World) (o : Option facts.Refusal) (s : WorldStep) → Keeps w s → Keeps w (unless_kept w o s)
kept_keeps w (Some r) s k = answered_keeps w (facts.Refuses r)
kept_keeps w None s k = k

closed_keeps : (w : World) (closed : Bool) (a : facts.Answer) (s : WorldStep) → Keeps w s → Keeps w (unless_closed w closed a s)
closed_keeps w true a s k = answered_keeps w a
closed_keeps w false a s k = k

pub falls_keeps : (w : World) (c : ℕ) → Keeps w (answering facts.Done (failing (client_falls c w)))
falls_keeps w c = answering_keeps w facts.Done (failing (client_falls c w)) (failing_keeps w (client_falls c w) (move_keeps w c (Crash messages.FailedBefore) no_shape))

reads_keeps : (w : World) (c : ℕ) (luck : Luck) (s : WorldStep) → Keeps w s → Keeps w (reads w c luck s)
reads_keeps w c messages.Done s k = k
reads_keeps w c messages.FailedBefore s k = falls_keeps w c
reads_keeps w c messages.FailedAfter s k = falls_keeps w c

call_at_keeps : (w : World) (c : ℕ) (move : ClientMove) (shape : Shape) (lucks : List Luck) (o : Option Client) → Keeps w (call_there w c move shape lucks o)
call_at_keeps w c move shape lucks None = answered_keeps w (facts.Refuses facts.NoTable)
call_at_keeps w c move shape lucks (Some node) =
    let cut : Bool = is_cut w c && is_cut_off c shape node move in
    let kept : Option facts.Refusal = kept_out (is_resolving w c) move (client_step c shape node move).answer in
    let closed : Bool = is_closed node (table_of_move move) in
    let says : facts.Answer = closed_answer shape (is_cut w c) node.agenda move in
    let s : WorldStep = calls w c move shape (other_lucks lucks) node in
    let open_step : WorldStep = unless_kept w kept (unless_cut w cut s) in
    unless_keeps w c (reads w c (first_luck lucks) (unless_closed w closed says open_step))
    (reads_keeps w c (first_luck lucks) (unless_closed w closed says open_step)
    (closed_keeps w closed says open_step
    (kept_keeps w kept (unless_cut w cut s) (cut_keeps w cut s (calls_keeps w c move shape (other_lucks lucks) node)))))

pub call_keeps : (w : World) (c : ℕ) (move : ClientMove) (shape : Shape) (lucks : List Luck) → Keeps w (call w c move shape lucks)
call_keeps w c move shape lucks = call_at_keeps w c move shape lucks (client_at w c)

pub take_keeps : (w : World) (c : ℕ) (m : Message) (shape : Shape) (lucks : List Luck) → Keeps w (to_there w c m shape lucks (client_at w c))
take_keeps w c m shape lucks = go (client_at w c)
  where
    go : (o : Option Client) → Keeps w (to_there w c m shape lucks o)
    go None = answered_keeps w facts.Done
    go (Some node) = call_at_keeps w c (Take m) shape lucks (Some node)

pub worked_keeps : (w : World) (c : ℕ) (lucks : List Luck) → Keeps w (worked w lucks (nodes.Client c))
worked_keeps w c lucks =
    let tasks : List ClientTask = client_tasks (client_at w c) in
    answering_keeps w (facts.Did (next_write tasks)) (client_writes c (first_luck lucks) tasks w) (writes_keeps c (first_luck lucks) tasks w)

pub all_worked_keeps : (w : World) (c : ℕ) (lucks : List Luck) → Keeps w (all_worked w lucks (nodes.Client c))
all_worked_keeps w c lucks = let k = until_idle_keeps c lucks w in record { same = k.same; clients = k.clients; counted = refl }

pub crashed_keeps : (w : World) (c n : ℕ) (lucks : List Luck) → Keeps w (crashed w n lucks (nodes.Client c))
crashed_keeps w c n lucks =
    answering_keeps w facts.Done (client_crashes c n lucks w) (move_keeps w c (Crash (crash_luck n (other_lucks lucks) (first_luck lucks))) no_shape)

pub started_keeps : (w : World) (c : ℕ) (shape : Shape) (lucks : List Luck) → Keeps w (started w shape lucks (nodes.Client c))
started_keeps w c shape lucks = go (is_down w (nodes.Client c))
  where
    go : (b : Bool) → Keeps w (if b then answering facts.Done (client_starts c shape lucks w) else answered w facts.Done)
    go true = answering_keeps w facts.Done (client_starts c shape lucks w) (starts_keeps c shape (first_luck lucks) (other_lucks lucks) w)
    go false = answered_keeps w facts.Done

pub linked_keeps : (w : World) (c : ℕ) (up : Bool) → Keeps w (linked w c up (client_at w c))
linked_keeps w c up = go (client_at w c)
  where
    behind : (up : Bool) → Keeps w (answered (with_link c up w) facts.Done)
    behind true = record { same = refl; clients = λ q. refl; counted = refl }
    behind false = record { same = refl; clients = λ q. refl; counted = refl }

    go : (o : Option Client) → Keeps w (linked w c up o)
    go None = answered_keeps w facts.Done
    go (Some node) = unless_keeps w c (answered (with_link c up w) facts.Done) (behind up)

-- ---- a list of the rows in conflict

listed_as : (s : WorldStep) (o : Option facts.Answer) → s.answer ≡ o → (listed s).world ≡ s.world
listed_as s None is = rw is refl
listed_as s (Some facts.Done) is = rw is refl
listed_as s (Some (facts.Number number)) is = rw is refl
listed_as s (Some (facts.Shows what)) is = rw is refl
listed_as s (Some (facts.Sums sum)) is = rw is refl
listed_as s (Some (facts.Stores version content)) is = rw is refl
listed_as s (Some (facts.Did step)) is = rw is refl
listed_as s (Some (facts.Names names)) is = rw is refl
listed_as s (Some (facts.Pairs pairs)) is = rw is refl
listed_as s (Some (facts.Refuses refusal)) is = rw is refl

pub listed_keeps : (w : World) (s : WorldStep) (pairs : List RowPair) → Keeps w s → (listed s).counted ≡ map PairLine pairs → KeepsBeside w (listed s) pairs
listed_keeps w s pairs k counted = let same = listed_as s s.answer refl in record {
  same = same ∙ (k.same ∙ ap (λ (x : World). changed w x) (sym same));
  clients = λ q. ap (λ (x : World). is_some (client_at x q)) same ∙ k.clients q;
  counted = counted;
}

-- ---- all conflicts of a table

pub resolve_all_keeps : (w : World) (c table : ℕ) (way : Stored) (lucks : Lucks) → Keeps w (step w (events.ResolveAll c table way) lucks)
resolve_all_keeps w c table way lucks = go s.answer refl
  where
    s : WorldStep
    s = call w c (ResolveAll table way) lucks.shape lucks.calls

    more : List Luck
    more = other_lucks lucks.calls

    k : Keeps w s
    k = call_keeps w c (ResolveAll table way) lucks.shape lucks.calls

    go : (o : Option facts.Answer) → s.answer ≡ o → Keeps w (resolve_all w c table way lucks.shapes more s)
    go None is = rw is k
    go (Some facts.Done) is = rw is k
    go (Some (facts.Number number)) is = rw is
        (answering_keeps w (facts.Number number) (resolve_each c table way lucks.shapes more (client_pairs (client_at w c) table) w)
        (each_keeps c table way lucks.shapes more (client_pairs (client_at w c) table) w))
    go (Some (facts.Shows what)) is = rw is k
    go (Some (facts.Sums sum)) is = rw is k
    go (Some (facts.Stores version content)) is = rw is k
    go (Some (facts.Did step)) is = rw is k
    go (Some (facts.Names names)) is = rw is k
    go (Some (facts.Pairs pairs)) is = rw is k
    go (Some (facts.Refuses refusal)) is = rw is k

-- ---- a crash is answered as done

pub crash_quiet : (w : World) (c n : ℕ) (lucks : List Luck) → (client_crashes c n lucks w).failed ≡ false
crash_quiet w c n lucks = go (client_at w c)
  where
    luck : Luck
    luck = crash_luck n (other_lucks lucks) (first_luck lucks)

    busy : (disk : ClientDisk) (task : ClientTask) (more : List ClientTask) (l : Luck)
        → (move_there w c (Crash l) no_shape (Some (record { disk = disk; agenda = Some (task ∷ more) }))).failed ≡ false
    busy disk task more messages.Done = refl
    busy disk task more messages.FailedBefore = refl
    busy disk task more messages.FailedAfter = refl

    at : (disk : ClientDisk) (agenda : Option (List ClientTask)) → (move_there w c (Crash luck) no_shape (Some (record { disk = disk; agenda = agenda }))).failed ≡ false
    at disk None = refl
    at disk (Some []) = refl
    at disk (Some (task ∷ more)) = busy disk task more luck

    go : (o : Option Client) → (move_there w c (Crash luck) no_shape o).failed ≡ false
    go None = refl
    go (Some node) = at node.disk node.agenda
