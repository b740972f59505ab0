-- A client's event is its move, and then the work that follows.
use Rattle.std.proofs.Common.{◌≡◌, ℕ, ◌++◌, Bool, true, false, cond, List, [], ◌∷◌, Option, Some, None, refl, sym, ap, ◌∙◌, append-nil}
use Rattle.std.specs.Prelude.{◌||◌, ◌&&◌, if◌then◌else◌}
use Rattle.std.specs.Ordering.{nat_cmp}
use Rattle.std.specs.BTreeMap.{is_at, insert_entry}
use Rattle.std.specs.Map.{lookup}
use Rattle.std.proofs.lemmas.Bool.{eq-eqb}
use Rattle.stab_base.specs.declared.node.Node.{Node}
use Rattle.stab_base.specs.declared.node.Node.TheVariants as nodes
use Rattle.step_tables.specs.Facts.{Answer}
use Rattle.step_tables.specs.Facts as facts
use Rattle.step_tables.specs.Messages.{Message, Luck}
use Rattle.step_tables.specs.Messages as messages
use Rattle.step_tables.specs.ClientMoves.{ClientTask, Client, ClientMove, ClientStep, Shape, Take, Start, Crash, client_step, is_cut_off, kept_out, no_shape}
use Rattle.step_tables.proofs.Lists.{lookup-insert_nat}
use Rattle.world_tables.specs.World.{World, WorldStep, Moved, Outbox, client_at, client_tasks, move_client, still, failing, answering, answered, refused, reads, unless_kept, unless_cut, is_resolving, calls, call, call_there, to_there, started, starts_by}
use Rattle.world_tables.specs.World.{unless_closed, is_closed, table_of_move, closed_answer, and_then, client_falls, move_there, tasks_in, client_follows, client_follows_from, client_until_idle, gets_tasks, first_luck, other_lucks, is_down, is_client_down, is_cut, has_node, client_works}
use Rattle.journal_host.specs.Moves.{then_moves, agenda_in, move_alone, alone_there, call_alone, take_there, take_alone, starts_alone, start_alone, has_work}

-- ---- moves behind others

same_answer : (p q : Bool) (a : Answer) → Some (if p || q then facts.Refuses facts.NoDevice else a)
    ≡ (if q then Some (facts.Refuses facts.NoDevice) else Some (if p then facts.Refuses facts.NoDevice else a))
same_answer true true a = refl
same_answer true false a = refl
same_answer false true a = refl
same_answer false false a = refl

answering_then : (a : Answer) (m : Moved) (f : World → Moved) → answering a (and_then m f) ≡ then_moves (answering a m) f
answering_then a m f =
    ap (λ (o : Option Answer). record { world = (f m.world).world; answer = o; counted = []; outs = m.outs ++ (f m.world).outs })
    (same_answer m.failed (f m.world).failed a)

then_none : (s : WorldStep) (f : World → Moved) → f s.world ≡ still s.world → then_moves s f ≡ s
then_none s f none =
    ap (λ (m : Moved). record { world = m.world; answer = if m.failed then Some (facts.Refuses facts.NoDevice) else s.answer; counted = s.counted; outs = s.outs ++ m.outs }) none
    ∙ ap (λ (outs : List Outbox). record s { outs = outs }) (append-nil s.outs)

then_same : (s : WorldStep) (f g : World → Moved) → f s.world ≡ g s.world → then_moves s f ≡ then_moves s g
then_same s f g same = ap (λ (m : Moved). record { world = m.world; answer = if m.failed then Some (facts.Refuses facts.NoDevice) else s.answer; counted = s.counted; outs = s.outs ++ m.outs }) same

-- ---- where nothing follows

none_follows : (agenda : Option (List ClientTask)) (c : ℕ) (lucks : List Luck) (w : World) → gets_tasks agenda w c ≡ false → client_follows_from agenda c lucks w ≡ still w
none_follows agenda c lucks w none = ap (λ (b : Bool). if b then client_follows c lucks w else still w) none

-- a client that is as it was has got no tasks
none_new : (w : World) (c : ℕ) (agenda : Option (List ClientTask)) → client_tasks (client_at w c) ≡ [] → gets_tasks agenda w c ≡ false
none_new w c None tasks = refl
none_new w c (Some []) tasks = rw tasks refl
none_new w c (Some (task ∷ more)) tasks = refl

as_it_was : (w : World) (c : ℕ) (node : Client) → client_at w c ≡ Some node → gets_tasks node.agenda w c ≡ false
as_it_was w c node is = go node.agenda refl
  where
    go : (agenda : Option (List ClientTask)) → node.agenda ≡ agenda → gets_tasks agenda w c ≡ false
    go None a = refl
    go (Some []) a = none_new w c (Some []) (ap client_tasks is ∙ ap (λ (o : Option (List ClientTask)). client_tasks (Some (record node { agenda = o }))) a)
    go (Some (task ∷ more)) a = refl

put_at : (w : World) (c : ℕ) (node : Client) → lookup (is_at (nat_cmp c)) (insert_entry nat_cmp w.clients c node) ≡ Some node
put_at w c node = lookup-insert_nat w.clients c node c ∙ ap (λ (b : Bool). cond b (Some node) (client_at w c)) (eq-eqb c c refl)

crash_down : (c : ℕ) (node : Client) → (client_step c no_shape node (Crash messages.FailedBefore)).client.agenda ≡ None
crash_down c node = go node.agenda
  where
    go : (agenda : Option (List ClientTask)) → (client_step c no_shape (record node { agenda = agenda }) (Crash messages.FailedBefore)).client.agenda ≡ None
    go None = refl
    go (Some []) = refl
    go (Some (task ∷ more)) = refl

-- nor has one that fell
fell : (w : World) (c : ℕ) (node : Client) (agenda : Option (List ClientTask)) → client_at w c ≡ Some node → gets_tasks agenda (client_falls c w).world c ≡ false
fell w c node agenda is =
    let step : ClientStep = client_step c no_shape node (Crash messages.FailedBefore) in
    none_new (client_falls c w).world c agenda
    (rw is (ap client_tasks (put_at w c step.client) ∙ ap (λ (o : Option (List ClientTask)). client_tasks (Some (record step.client { agenda = o }))) (crash_down c node)))

-- ---- where all follows, or nothing does

tasks_are : (o : Option Client) → client_tasks o ≡ tasks_in (agenda_in o)
tasks_are None = refl
tasks_are (Some node) = refl

down_tasks : (o : Option Client) → is_client_down o ≡ true → client_tasks o ≡ []
down_tasks None down = refl
down_tasks (Some node) down = go node.agenda down
  where
    go : (agenda : Option (List ClientTask)) → is_client_down (Some (record node { agenda = agenda })) ≡ true → tasks_in agenda ≡ []
    go None is = refl
    go (Some tasks) is = absurd cc

-- a client that had tasks gets none that are waited for
busy_before : (w : World) (c : ℕ) (o : Option Client) → has_work (client_tasks o) ≡ true → gets_tasks (agenda_in o) w c ≡ false
busy_before w c None busy = refl
busy_before w c (Some node) busy = go node.agenda busy
  where
    go : (agenda : Option (List ClientTask)) → has_work (tasks_in agenda) ≡ true → gets_tasks agenda w c ≡ false
    go None is = refl
    go (Some []) is = absurd cc
    go (Some (task ∷ more)) is = refl

held_follows : (agenda : Option (List ClientTask)) (c : ℕ) (lucks : List Luck) (w : World) → has_node w.holds (nodes.Client c) ≡ true → client_follows_from agenda c lucks w ≡ still w
held_follows agenda c lucks w on_hold = either (gets_tasks agenda w c)
  where
    either : (b : Bool) → (if b then client_follows c lucks w else still w) ≡ still w
    either true = ap (λ (h : Bool). if h then still w else client_until_idle c lucks w) on_hold
    either false = refl

idle_follows : (c : ℕ) (lucks : List Luck) (w : World) → has_node w.holds (nodes.Client c) ≡ false → client_follows_from (Some []) c lucks w ≡ client_until_idle c lucks w
idle_follows c lucks w free = go (client_tasks (client_at w c)) refl
  where
    go : (tasks : List ClientTask) → client_tasks (client_at w c) ≡ tasks → client_follows_from (Some []) c lucks w ≡ client_until_idle c lucks w
    go [] is = none_follows (Some []) c lucks w (none_new w c (Some []) is) ∙ sym (ap (λ (ts : List ClientTask). client_works c ts lucks w) is)
    go (task ∷ more) is =
        ap (λ (b : Bool). if b then client_follows c lucks w else still w) (some_new is)
        ∙ ap (λ (h : Bool). if h then still w else client_until_idle c lucks w) free
      where
        some_new : client_tasks (client_at w c) ≡ task ∷ more → gets_tasks (Some []) w c ≡ true
        some_new e = rw e refl

-- ---- calls

module _ (w : World) (c : ℕ) (move : ClientMove) (shape : Shape) (lucks : List Luck) where
  abbrev behind : Client → World → Moved
  behind node = client_follows_from node.agenda c (other_lucks lucks)

  module _ (node : Client) (is : client_at w c ≡ Some node) where
    -- what the phases keep it from, and whether its link does
    abbrev kept : Option facts.Refusal
    kept = kept_out (is_resolving w c) move (client_step c shape node move).answer

    abbrev is_off : Bool
    is_off = is_cut w c && is_cut_off c shape node move

    by_cut : (b : Bool) → unless_cut w b (calls w c move shape (other_lucks lucks) node) ≡ then_moves (unless_cut w b (move_alone w c move shape node)) (behind node)
    by_cut true = sym (then_none (refused w facts.Offline) (behind node) (none_follows node.agenda c (other_lucks lucks) w (as_it_was w c node is)))
    by_cut false = answering_then (client_step c shape node move).answer (move_client c move shape w) (behind node)

    by_kept : (o : Option facts.Refusal) → unless_kept w o (unless_cut w is_off (calls w c move shape (other_lucks lucks) node))
        ≡ then_moves (unless_kept w o (unless_cut w is_off (move_alone w c move shape node))) (behind node)
    by_kept (Some r) = sym (then_none (refused w r) (behind node) (none_follows node.agenda c (other_lucks lucks) w (as_it_was w c node is)))
    by_kept None = by_cut is_off

    -- whether the table is closed, and what is answered then
    abbrev shut : Bool
    shut = is_closed node (table_of_move move)

    abbrev says_shut : facts.Answer
    says_shut = closed_answer shape (is_cut w c) node.agenda move

    by_shut : (b : Bool) → unless_closed w b says_shut (unless_kept w kept (unless_cut w is_off (calls w c move shape (other_lucks lucks) node)))
        ≡ then_moves (unless_closed w b says_shut (unless_kept w kept (unless_cut w is_off (move_alone w c move shape node)))) (behind node)
    by_shut true = sym (then_none (answered w says_shut) (behind node) (none_follows node.agenda c (other_lucks lucks) w (as_it_was w c node is)))
    by_shut false = by_kept kept

    failed_read : answering facts.Done (failing (client_falls c w)) ≡ then_moves (answering facts.Done (failing (client_falls c w))) (behind node)
    failed_read = sym (then_none (answering facts.Done (failing (client_falls c w))) (behind node)
        (none_follows node.agenda c (other_lucks lucks) (client_falls c w).world (fell w c node node.agenda is)))

    by_luck : (luck : Luck) → reads w c luck (unless_closed w shut says_shut (unless_kept w kept (unless_cut w is_off (calls w c move shape (other_lucks lucks) node))))
        ≡ then_moves (reads w c luck (unless_closed w shut says_shut (unless_kept w kept (unless_cut w is_off (move_alone w c move shape node))))) (behind node)
    by_luck messages.Done = by_shut shut
    by_luck messages.FailedBefore = failed_read
    by_luck messages.FailedAfter = failed_read

    by_down : (b : Bool) → (if b then refused w (facts.NodeDown (nodes.Client c)) else reads w c (first_luck lucks)
        (unless_closed w shut says_shut (unless_kept w kept (unless_cut w is_off (calls w c move shape (other_lucks lucks) node)))))
        ≡ then_moves (if b then refused w (facts.NodeDown (nodes.Client c)) else reads w c (first_luck lucks)
        (unless_closed w shut says_shut (unless_kept w kept (unless_cut w is_off (move_alone w c move shape node))))) (behind node)
    by_down true = sym (then_none (refused w (facts.NodeDown (nodes.Client c))) (behind node) (none_follows node.agenda c (other_lucks lucks) w (as_it_was w c node is)))
    by_down false = by_luck (first_luck lucks)

  pub there_follows : (o : Option Client) → client_at w c ≡ o → call_there w c move shape lucks o
      ≡ then_moves (alone_there w c move shape lucks o) (client_follows_from (agenda_in o) c (other_lucks lucks))
  there_follows None is = refl
  there_follows (Some node) is = by_down node is (is_down w (nodes.Client c))

  -- ---- what holds behind the move

  module _ (P : WorldStep → Type 0) (stays : (a : facts.Answer) → P (answered w a)) (falls : P (answering facts.Done (failing (client_falls c w))))
      (moves : (node : Client) → client_at w c ≡ Some node → P (move_alone w c move shape node)) where
    pub alone_cases : (o : Option Client) → client_at w c ≡ o → P (alone_there w c move shape lucks o)
    alone_cases None is = stays (facts.Refuses facts.NoTable)
    alone_cases (Some node) is = down (is_down w (nodes.Client c))
      where
        cut : (b : Bool) → P (unless_cut w b (move_alone w c move shape node))
        cut true = stays (facts.Refuses facts.Offline)
        cut false = moves node is

        keep : (o : Option facts.Refusal) → P (unless_kept w o (unless_cut w (is_off node is) (move_alone w c move shape node)))
        keep (Some r) = stays (facts.Refuses r)
        keep None = cut (is_off node is)

        close : (b : Bool) → P (unless_closed w b (says_shut node is) (unless_kept w (kept node is) (unless_cut w (is_off node is) (move_alone w c move shape node))))
        close true = stays (says_shut node is)
        close false = keep (kept node is)

        read : (luck : Luck) → P (reads w c luck (unless_closed w (shut node is) (says_shut node is) (unless_kept w (kept node is) (unless_cut w (is_off node is) (move_alone w c move shape node)))))
        read messages.Done = close (shut node is)
        read messages.FailedBefore = falls
        read messages.FailedAfter = falls

        down : (b : Bool) → P (if b then refused w (facts.NodeDown (nodes.Client c)) else reads w c (first_luck lucks)
            (unless_closed w (shut node is) (says_shut node is) (unless_kept w (kept node is) (unless_cut w (is_off node is) (move_alone w c move shape node)))))
        down true = stays (facts.Refuses (facts.NodeDown (nodes.Client c)))
        down false = read (first_luck lucks)

  pub alone_holds : (call_alone w c move shape lucks).world.holds ≡ w.holds
  alone_holds = alone_cases (λ s. s.world.holds ≡ w.holds) (λ r. refl) (falls_hold (client_at w c)) (λ node is. moves_hold (client_at w c)) (client_at w c) refl
    where
      falls_hold : (o : Option Client) → (move_there w c (Crash messages.FailedBefore) no_shape o).world.holds ≡ w.holds
      falls_hold None = refl
      falls_hold (Some node) = refl

      moves_hold : (o : Option Client) → (move_there w c move shape o).world.holds ≡ w.holds
      moves_hold None = refl
      moves_hold (Some node) = refl

  abbrev after : World
  after = (call_alone w c move shape lucks).world

  pub call_follows : call w c move shape lucks ≡ then_moves (call_alone w c move shape lucks) (client_follows_from (agenda_in (client_at w c)) c (other_lucks lucks))
  call_follows = there_follows (client_at w c) refl

  pub call_held : has_node w.holds (nodes.Client c) ≡ true → call w c move shape lucks ≡ call_alone w c move shape lucks
  call_held on_hold = call_follows ∙ then_none (call_alone w c move shape lucks) (client_follows_from (agenda_in (client_at w c)) c (other_lucks lucks))
      (held_follows (agenda_in (client_at w c)) c (other_lucks lucks) after (ap (λ (hs : List Node). has_node hs (nodes.Client c)) alone_holds ∙ on_hold))

  pub call_busy : has_work (client_tasks (client_at w c)) ≡ true → call w c move shape lucks ≡ call_alone w c move shape lucks
  call_busy busy = call_follows ∙ then_none (call_alone w c move shape lucks) (client_follows_from (agenda_in (client_at w c)) c (other_lucks lucks))
      (none_follows (agenda_in (client_at w c)) c (other_lucks lucks) after (busy_before after c (client_at w c) busy))

  pub call_idle : has_work (client_tasks (client_at w c)) ≡ false → has_node w.holds (nodes.Client c) ≡ false
      → call w c move shape lucks ≡ then_moves (call_alone w c move shape lucks) (client_until_idle c (other_lucks lucks))
  call_idle idle free = call_follows ∙ then_same (call_alone w c move shape lucks) (client_follows_from (agenda_in (client_at w c)) c (other_lucks lucks)) (client_until_idle c (other_lucks lucks))
      all
    where
      off : has_node after.holds (nodes.Client c) ≡ false
      off = ap (λ (hs : List Node). has_node hs (nodes.Client c)) alone_holds ∙ free

      out : (o : Option Client) → client_at w c ≡ o → agenda_in o ≡ None → (alone_there w c move shape lucks o).world ≡ w
      out None is none = refl
      out (Some node) is none =
          ap (λ (b : Bool). (if b then refused w (facts.NodeDown (nodes.Client c)) else reads w c (first_luck lucks)
          (unless_closed w (shut node is) (says_shut node is) (unless_kept w (kept node is) (unless_cut w (is_off node is) (move_alone w c move shape node))))).world)
          (ap is_client_down is ∙ ap (λ (a : Option (List ClientTask)). is_client_down (Some (record node { agenda = a }))) none)

      go : (agenda : Option (List ClientTask)) → agenda_in (client_at w c) ≡ agenda → client_follows_from agenda c (other_lucks lucks) after ≡ client_until_idle c (other_lucks lucks) after
      go None a = sym (ap (λ (ts : List ClientTask). client_works c ts (other_lucks lucks) after)
          (ap (λ (x : World). client_tasks (client_at x c)) (out (client_at w c) refl a) ∙ (tasks_are (client_at w c) ∙ ap tasks_in a)))
      go (Some []) a = idle_follows c (other_lucks lucks) after off
      go (Some (task ∷ more)) a = let some = ap has_work (tasks_are (client_at w c) ∙ ap tasks_in a) in absurd cc

      all : client_follows_from (agenda_in (client_at w c)) c (other_lucks lucks) after ≡ client_until_idle c (other_lucks lucks) after
      all = go (agenda_in (client_at w c)) refl

-- ---- messages

module _ (w : World) (c : ℕ) (message : Message) (shape : Shape) (lucks : List Luck) where
  abbrev taken : World
  taken = (take_alone w c message shape lucks).world

  take_cases : (P : WorldStep → WorldStep → Type 0) → P (answered w facts.Done) (answered w facts.Done)
      → P (call w c (Take message) shape lucks) (call_alone w c (Take message) shape lucks)
      → P (to_there w c message shape lucks (client_at w c)) (take_alone w c message shape lucks)
  take_cases P lost there = go (client_at w c) there
    where
      go : (o : Option Client) → P (call_there w c (Take message) shape lucks o) (alone_there w c (Take message) shape lucks o)
          → P (to_there w c message shape lucks o) (take_there w c message shape lucks o)
      go None k = lost
      go (Some node) k = k

  pub take_follows : to_there w c message shape lucks (client_at w c)
      ≡ then_moves (take_alone w c message shape lucks) (client_follows_from (agenda_in (client_at w c)) c (other_lucks lucks))
  take_follows = go (client_at w c) refl
    where
      go : (o : Option Client) → client_at w c ≡ o
          → to_there w c message shape lucks o ≡ then_moves (take_there w c message shape lucks o) (client_follows_from (agenda_in o) c (other_lucks lucks))
      go None is = refl
      go (Some node) is = there_follows w c (Take message) shape lucks (Some node) is

  pub take_held : has_node w.holds (nodes.Client c) ≡ true → to_there w c message shape lucks (client_at w c) ≡ take_alone w c message shape lucks
  take_held on_hold = take_cases (λ a b. a ≡ b) refl (call_held w c (Take message) shape lucks on_hold)

  pub take_busy : has_work (client_tasks (client_at w c)) ≡ true → to_there w c message shape lucks (client_at w c) ≡ take_alone w c message shape lucks
  take_busy busy = take_cases (λ a b. a ≡ b) refl (call_busy w c (Take message) shape lucks busy)

  pub take_idle : has_work (client_tasks (client_at w c)) ≡ false → has_node w.holds (nodes.Client c) ≡ false
      → to_there w c message shape lucks (client_at w c) ≡ then_moves (take_alone w c message shape lucks) (client_until_idle c (other_lucks lucks))
  take_idle idle free = go (client_at w c) refl (call_idle w c (Take message) shape lucks idle free)
    where
      go : (o : Option Client) → client_at w c ≡ o
          → call_there w c (Take message) shape lucks o ≡ then_moves (alone_there w c (Take message) shape lucks o) (client_until_idle c (other_lucks lucks))
          → to_there w c message shape lucks o ≡ then_moves (take_there w c message shape lucks o) (client_until_idle c (other_lucks lucks))
      go None is k = sym (then_none (answered w facts.Done) (client_until_idle c (other_lucks lucks)) (ap (λ (ts : List ClientTask). client_works c ts (other_lucks lucks) w) (ap client_tasks is)))
      go (Some node) is k = k

-- ---- starts

module _ (w : World) (c : ℕ) (shape : Shape) (lucks : List Luck) where
  pub start_follows : is_down w (nodes.Client c) ≡ true → started w shape lucks (nodes.Client c) ≡ then_moves (start_alone w c shape lucks) (client_follows c (other_lucks lucks))
  start_follows down = rw down (by_luck (first_luck lucks))
    where
      none : client_until_idle c (other_lucks lucks) w ≡ still w
      none = ap (λ (ts : List ClientTask). client_works c ts (other_lucks lucks) w) (down_tasks (client_at w c) down)

      not_started : answering facts.Done (failing (still w)) ≡ then_moves (answering facts.Done (failing (still w))) (client_follows c (other_lucks lucks))
      not_started = sym (then_none (answering facts.Done (failing (still w))) (client_follows c (other_lucks lucks)) (either (has_node w.holds (nodes.Client c))))
        where
          either : (b : Bool) → (if b then still w else client_until_idle c (other_lucks lucks) w) ≡ still w
          either true = refl
          either false = none

      by_luck : (luck : Luck) → answering facts.Done (starts_by c shape luck (other_lucks lucks) w)
          ≡ then_moves (answering facts.Done (starts_alone c shape luck w)) (client_follows c (other_lucks lucks))
      by_luck messages.Done = answering_then facts.Done (move_client c Start shape w) (client_follows c (other_lucks lucks))
      by_luck messages.FailedBefore = not_started
      by_luck messages.FailedAfter = not_started

  pub start_up : is_down w (nodes.Client c) ≡ false → started w shape lucks (nodes.Client c) ≡ start_alone w c shape lucks
  start_up up = rw up refl
