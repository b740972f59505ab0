-- The lines tell when a client goes down, and so they tell its phases.
use Rattle.std.proofs.lemmas.Bool.Decides.{nat_tests}
use Rattle.stab_base.specs.declared.node.Node.{Node}
use Rattle.stab_base.specs.declared.node.Node.TheVariants as nodes
use Rattle.row_value.specs.declared.schema.Schema.{Schema}
use Rattle.table_model.specs.declared.event.Event.{Event}
use Rattle.table_model.specs.declared.event.Event.TheVariants as events
use Rattle.table_model.specs.declared.table_state.TableState.{TableState}
use Rattle.table_model.specs.declared.table_state.TableState.TheVariants as states
use Rattle.conflicts.specs.declared.stored.Stored as resolvers
use Rattle.step_tables.specs.Facts.{Answer, Refusal}
use Rattle.step_tables.specs.Facts as facts
use Rattle.step_tables.specs.Messages.{Luck, table_of}
use Rattle.step_tables.specs.Messages as messages
use Rattle.step_tables.specs.StoreMoves as store
use Rattle.step_tables.specs.StoreMoves.{SidePut, StoreTask, StoreMove}
use Rattle.step_tables.specs.ClientMoves as client
use Rattle.step_tables.specs.ClientMoves.{TableDisk, ClientDisk, Client, ClientTask, ClientMove, ClientStep, Shape, no_shape, table_at, seen, client_step, phases_by}
use Rattle.world_tables.specs.World.{World, Packet, Hosted, WorldStep, Lucks, start, owner_of, has_store, hosted_at, hosted_by, client_at, is_client_down, is_down, is_resolving, and_then, with_store}
use Rattle.world_tables.specs.World.{move_table, move_there, move_client, first_luck, other_lucks, client_tasks, client_follows, client_follows_from, starts_by, client_starts, client_falls}
use Rattle.world_tables.specs.World.{busy_table, crash_luck, answering, answered, refused, unless_down, made_with, declared, open_all, new_client, first_agenda, joined, call_there, call, listed}
use Rattle.world_tables.specs.World.{client_pairs, resolve_all, take_read, take_at, to_hosted, to_there, carried, delivered, row_read, store_shows, chunk_names, history_lines, worked, all_worked, crashed, started, with_link, linked, step, table_follows}
use Rattle.world_tables.specs.World.{store_starts, without_node, schema_at, puts_beside, opens, created, dropped}
use Rattle.world_tables.specs.Turns.{Happening, world_from}
use Rattle.world_laws.proofs.Looks.{look_cases}
use Rattle.std.proofs.Common.{◌≡◌, ◌≢◌, ⊎_elim, ℕ, Bool, true, false, List, [], ◌∷◌, ◌++◌, Option, Some, None, refl, sym, ◌∙◌, ap, subst, arith, true≢false}
use Rattle.std.specs.Prelude.{◌==◌, ◌&&◌, ◌||◌, not, map, option_map, slice_get, if◌then◌else◌}
use Rattle.std.proofs.lemmas.Option.{slice_get-map}
use Rattle.step_tables.specs.ClientMoves.{is_cut_off, is_before_write, is_before_phase, kept_out}
use Rattle.std.specs.Ordering.{nat_cmp}
use Rattle.std.specs.Map.{lookup}
use Rattle.std.specs.BTreeMap.{is_at}
use Rattle.world_tables.specs.World.{failing, without_node, Moved, client_writes, resolve_each, is_fault, is_cut, reads, calls, unless_cut, unless_kept, and_then, client_until_idle, lines_of}
use Rattle.world_tables.specs.World.{table_of_move, is_closed, idle_answer, closed_answer, unless_closed}
use Rattle.world_tables.specs.Turns.{turns, turns_from}
use Rattle.world_tables.specs.Quiet.{sent_in}
use Rattle.world_laws.proofs.Calls.{call_is}
use Rattle.asked_laws.specs.Asked.{Asked, nothing_asked, lines_asked}
use Rattle.asked_laws.specs.Phases.{is_away, is_client, goes_to, has_fault, goes_down, phase_by, phase_from, has_phase}
use Rattle.asked_laws.proofs.Tellings.{packets_in, to_join}
use Rattle.asked_laws.proofs.Worlds.{AreFine}
use Rattle.asked_laws.proofs.Events.{StepGoes}
use Rattle.asked_laws.proofs.Runs.{step_goes}
use Rattle.asked_laws.proofs.Phases.{SameSide, then_same, table_same, store_falls_same, write_same, until_idle_same, table_follows_same, store_starts_same, store_crashes_same, IsClosed, moved_down}
use Rattle.asked_laws.proofs.Falls.{away, Tracks, then_tracks, move_tracks, falls_tracks, crash_apart, crash_falls, works_track, client_follows_tracks, follows_from_tracks, client_writes_track, each_tracks, IsCallOrWork}
use Rattle.asked_laws.proofs.PhaseRuns.{one_or_other, step_is, step_closed}

-- ---- a call of a client that is refused isn't at fault

in_phase : (b : Bool) (x r : Refusal) → is_fault (facts.Refuses x) ≡ false → (if b then Some x else None) ≡ Some r → is_fault (facts.Refuses r) ≡ false
in_phase true x r none is = let same : x ≡ r = cc in subst (λ (y : Refusal). is_fault (facts.Refuses y) ≡ false) same none
in_phase false x r none is = absurd cc

kept_no_fault : (phase : ℕ → Bool) (move : ClientMove) (answer : Answer) (r : Refusal) → kept_out phase move answer ≡ Some r → is_fault (facts.Refuses r) ≡ false
kept_no_fault phase (client.Write table row content) answer r is = in_phase (phase table && not (is_before_write answer)) facts.InResolution r refl is
kept_no_fault phase (client.Change table row edit) answer r is = in_phase (phase table && not (is_before_write answer)) facts.InResolution r refl is
kept_no_fault phase (client.BeginCr table) answer r is = in_phase (phase table && not (is_before_phase (client.BeginCr table) answer)) facts.InResolution r refl is
kept_no_fault phase (client.Conflicts table) answer r is = in_phase (not (phase table || is_before_phase (client.Conflicts table) answer)) facts.NotInResolution r refl is
kept_no_fault phase (client.EndCr table) answer r is = in_phase (not (phase table || is_before_phase (client.EndCr table) answer)) facts.NotInResolution r refl is
kept_no_fault phase (client.Resolve table row seen choice) answer r is =
    in_phase (not (phase table || is_before_phase (client.Resolve table row seen choice) answer)) facts.NotInResolution r refl is
kept_no_fault phase (client.ResolveAll table by) answer r is = in_phase (not (phase table || is_before_phase (client.ResolveAll table by) answer)) facts.NotInResolution r refl is
kept_no_fault phase other answer r is = absurd cc

module _ (P : WorldStep → Type 0) (w : World) (c : ℕ) (move : ClientMove) (shape : Shape) (lucks : List Luck)
    (refuses : (r : Refusal) → is_fault (facts.Refuses r) ≡ false → P (refused w r)) (ignores : P (answered w facts.Done)) (unread : P (answering facts.Done (failing (client_falls c w))))
    (does : (node : Client) → client_at w c ≡ Some node → P (calls w c move shape (other_lucks lucks) node)) where
  call_cases : (o : Option Client) → client_at w c ≡ o → P (call_there w c move shape lucks o)
  call_cases None at = refuses facts.NoTable refl
  call_cases (Some node) at = by_down (is_down w (nodes.Client c))
    where
      kept : Option Refusal
      kept = kept_out (is_resolving w c) move (client_step c shape node move).answer

      by_link : (cut : Bool) → P (unless_cut w cut (calls w c move shape (other_lucks lucks) node))
      by_link true = refuses facts.Offline refl
      by_link false = does node at

      by_phase : (o : Option Refusal) → kept_out (is_resolving w c) move (client_step c shape node move).answer ≡ o
          → P (unless_kept w o (unless_cut w (is_cut w c && is_cut_off c shape node move) (calls w c move shape (other_lucks lucks) node)))
      by_phase None is = by_link (is_cut w c && is_cut_off c shape node move)
      by_phase (Some r) is = refuses r (kept_no_fault (is_resolving w c) move (client_step c shape node move).answer r is)

      idle : (agenda : Option (List ClientTask)) → P (answered w (idle_answer shape agenda))
      idle None = ignores
      idle (Some []) = ignores
      idle (Some (task ∷ more)) = refuses (facts.Busy shape.plan) refl

      -- at a closed table
      closed : (x : ClientMove) (cut : Bool) → P (answered w (closed_answer shape cut node.agenda x))
      closed (client.Take message) true = refuses facts.Offline refl
      closed (client.Take message) false = idle node.agenda
      closed other cut = refuses facts.NoTable refl

      rest : WorldStep
      rest = unless_kept w kept (unless_cut w (is_cut w c && is_cut_off c shape node move) (calls w c move shape (other_lucks lucks) node))

      by_table : (b : Bool) → P (unless_closed w b (closed_answer shape (is_cut w c) node.agenda move) rest)
      by_table true = closed move (is_cut w c)
      by_table false = by_phase kept refl

      by_read : (luck : Luck) → P (reads w c luck (unless_closed w (is_closed node (table_of_move move)) (closed_answer shape (is_cut w c) node.agenda move) rest))
      by_read messages.Done = by_table (is_closed node (table_of_move move))
      by_read messages.FailedBefore = unread
      by_read messages.FailedAfter = unread

      by_down : (down : Bool) → P (if down then refused w (facts.NodeDown (nodes.Client c)) else reads w c (first_luck lucks)
          (unless_closed w (is_closed node (table_of_move move)) (closed_answer shape (is_cut w c) node.agenda move) rest))
      by_down true = refuses (facts.NodeDown (nodes.Client c)) refl
      by_down false = by_read (first_luck lucks)

module _ (c : ℕ) (w : World) where
  -- whether a client goes down is told
  pub record Tells (v : World) (b : Bool) : Type 0 where
    pub fell : b ≡ true → away c v ≡ true
    pub stood : b ≡ false → away c v ≡ true → away c w ≡ true

  -- where it is as it was
  same_tells : (v : World) → away c v ≡ away c w → Tells v false
  same_tells v same = record { fell = λ e. absurd (true≢false (sym e)); stood = λ e there. sym same ∙ there }

  none_tells : (v : World) (b : Bool) → b ≡ false → away c v ≡ away c w → Tells v b
  none_tells v b none same = subst (λ (x : Bool). Tells v x) (sym none) (same_tells v same)

  side_away : (v : World) → SameSide w v → away c v ≡ away c w
  side_away v p = ap (λ (clients : List (ℕ × Client)). is_away (lookup (is_at (nat_cmp c)) clients)) p.0

  and_false : (x : Bool) → (x && false) ≡ false
  and_false true = refl
  and_false false = refl

  -- the Store's events, and others that are no client's
  side_tells : (v : World) (x : Bool) → SameSide w v → Tells v (x && false)
  side_tells v x p = none_tells v (x && false) (and_false x) (side_away v p)

  -- ---- an answer to moves of a client

  answering_tells : (d : ℕ) (a : Answer) (m : Moved) → Tracks c d w m → (m.failed ≡ false → is_fault a ≡ false)
      → Tells m.world (has_fault (answering a m).answer && d == c)
  answering_tells d a m tracks only = by_fault m.failed refl
    where
      by_fault : (b : Bool) → m.failed ≡ b → Tells m.world (is_fault (if b then facts.Refuses facts.NoDevice else a) && d == c)
      by_fault true e = ⊎_elim
          (λ same. record { fell = λ x. tracks.fell same e; stood = λ x. absurd (true≢false (grind (arith, nat_tests, x, same))) })
          (λ other. none_tells m.world (d == c) (grind (arith, nat_tests, other)) (tracks.apart other)) (one_or_other c d)
      by_fault false e =
          none_tells m.world (is_fault a && d == c) (ap (λ (x : Bool). x && d == c) (only e))
          (⊎_elim (λ same. tracks.stood same e) (λ other. tracks.apart other) (one_or_other c d))

  left_false : (x y : Bool) → (x || y) ≡ false → x ≡ false
  left_false true y e = e
  left_false false y e = refl

  call_tells : (d : ℕ) (move : ClientMove) (shape : Shape) (lucks : List Luck) → IsCallOrWork move → (o : Option Client) → client_at w d ≡ o
      → Tells (call_there w d move shape lucks o).world (has_fault (call_there w d move shape lucks o).answer && d == c)
  call_tells d move shape lucks is o at =
      call_cases (λ (x : WorldStep). Tells x.world (has_fault x.answer && d == c)) w d move shape lucks
      (λ r none. none_tells w (is_fault (facts.Refuses r) && d == c) (ap (λ (x : Bool). x && d == c) none) refl) (same_tells w refl)
      (answering_tells d facts.Done (failing (client_falls d w)) (falls_tracks c d w) (λ e. absurd (true≢false e)))
      (λ node there. answering_tells d (client_step d shape node move).answer (and_then (move_client d move shape w) (client_follows_from node.agenda d (other_lucks lucks)))
      (then_tracks c d w (move_client d move shape w) (client_follows_from node.agenda d (other_lucks lucks)) (move_tracks c d w move shape is)
      (follows_from_tracks c node.agenda d (other_lucks lucks) (move_client d move shape w).world))
      (λ e. sym (ap (λ (o : Option Client). (move_there w d move shape o).failed) there) ∙ left_false (move_client d move shape w).failed _ e))
      o at

  listed_tells : (d : ℕ) (s : WorldStep) → Tells s.world (has_fault s.answer && d == c) → Tells (listed s).world (has_fault (listed s).answer && d == c)
  listed_tells d s there = go s.answer there
    where
      go : (o : Option Answer) → Tells s.world (has_fault o && d == c) → Tells (listed (record s { answer = o })).world (has_fault (listed (record s { answer = o })).answer && d == c)
      go None f = f
      go (Some facts.Done) f = f
      go (Some (facts.Number number)) f = f
      go (Some (facts.Shows y)) f = f
      go (Some (facts.Sums y)) f = f
      go (Some (facts.Stores v y)) f = f
      go (Some (facts.Did y)) f = f
      go (Some (facts.Names y)) f = f
      go (Some (facts.Pairs pairs)) f = f
      go (Some (facts.Refuses r)) f = f

  all_tells : (d table : ℕ) (by : resolvers.Stored) (shapes : List Shape) (lucks : List Luck) (s : WorldStep) → Tells s.world (has_fault s.answer && d == c)
      → Tells (resolve_all w d table by shapes lucks s).world (has_fault (resolve_all w d table by shapes lucks s).answer && d == c)
  all_tells d table by shapes lucks s there = go s.answer there
    where
      each : Moved
      each = resolve_each d table by shapes lucks (client_pairs (client_at w d) table) w

      go : (o : Option Answer) → Tells s.world (has_fault o && d == c)
          → Tells (resolve_all w d table by shapes lucks (record s { answer = o })).world (has_fault (resolve_all w d table by shapes lucks (record s { answer = o })).answer && d == c)
      go None f = f
      go (Some facts.Done) f = f
      go (Some (facts.Number number)) f =
          answering_tells d (facts.Number number) each (each_tracks c d table by shapes lucks (client_pairs (client_at w d) table) w) (λ e. refl)
      go (Some (facts.Shows y)) f = f
      go (Some (facts.Sums y)) f = f
      go (Some (facts.Stores v y)) f = f
      go (Some (facts.Did y)) f = f
      go (Some (facts.Names y)) f = f
      go (Some (facts.Pairs some)) f = f
      go (Some (facts.Refuses r)) f = f

  -- ---- deliveries

  down_same : (node : Node) (s : WorldStep) → SameSide w s.world → SameSide w (unless_down w node s).world
  down_same node s p = go (is_down w node)
    where
      go : (b : Bool) → SameSide w (if b then refused w (facts.NodeDown node) else s).world
      go true = (refl, refl)
      go false = p

  hosted_same : (table : ℕ) (move : StoreMove) (lucks : List Luck) (o : Option Hosted) → SameSide w (to_hosted w table move lucks o).world
  hosted_same table move lucks None = (refl, refl)
  hosted_same table move lucks (Some hosted) = go hosted.store.agenda
    where
      v : World
      v = (move_table table move w).world

      reads_same : (luck : Luck) → SameSide w (take_read w table hosted move (other_lucks lucks) luck).world
      reads_same messages.FailedBefore = store_falls_same (owner_of w table) w
      reads_same messages.FailedAfter = store_falls_same (owner_of w table) w
      reads_same messages.Done =
          then_same w v (table_follows table (other_lucks lucks) v).world (table_same table move w) (table_follows_same table (other_lucks lucks) v)

      go : (o : Option (List StoreTask)) → SameSide w (take_at w table hosted move lucks o).world
      go None = table_same table move w
      go (Some (task ∷ more)) = table_same table move w
      go (Some []) = reads_same (first_luck lucks)

  carried_tells : (p : Packet) (shape : Shape) (lucks : List Luck) (to : Node)
      → Tells (carried w p shape lucks to).world (has_fault (carried w p shape lucks to).answer && is_client c to)
  carried_tells p shape lucks (nodes.Store number) =
      side_tells (carried w p shape lucks (nodes.Store number)).world _
      (down_same (nodes.Store number) _ (hosted_same (table_of p.message) (store.Take p.from p.message) lucks (hosted_by w number (table_of p.message))))
  carried_tells p shape lucks (nodes.Gate gate) = side_tells w false (refl, refl)
  carried_tells p shape lucks (nodes.Client d) = go (client_at w d) refl
    where
      go : (o : Option Client) → client_at w d ≡ o → Tells (to_there w d p.message shape lucks o).world (has_fault (to_there w d p.message shape lucks o).answer && d == c)
      go None at = same_tells w refl
      go (Some node) at = call_tells d (client.Take p.message) shape lucks tt (Some node) at

  delivered_tells : (shape : Shape) (lucks : List Luck) (o : Option Packet)
      → Tells (delivered w shape lucks o).world (has_fault (delivered w shape lucks o).answer && goes_to c (option_map (λ (p : Packet). p.to) o))
  delivered_tells shape lucks None = side_tells w false (refl, refl)
  delivered_tells shape lucks (Some p) = carried_tells p shape lucks p.to

  -- ---- what is no client's

  shows_same : (table : ℕ) (row : List ℕ) (lucks : List Luck) (o : Option Hosted) → SameSide w (store_shows w table row lucks o).world
  shows_same table row lucks None = (refl, refl)
  shows_same table row lucks (Some hosted) = down_same (nodes.Store (owner_of w table)) _ (read (first_luck lucks))
    where
      read : (luck : Luck) → SameSide w (row_read w table hosted row luck).world
      read messages.Done = (refl, refl)
      read messages.FailedBefore = store_falls_same (owner_of w table) w
      read messages.FailedAfter = store_falls_same (owner_of w table) w

  chunks_same : (table : ℕ) (o : Option Hosted) → SameSide w (chunk_names w table o).world
  chunks_same table None = (refl, refl)
  chunks_same table (Some hosted) = down_same (nodes.Store (owner_of w table)) _ (refl, refl)

  history_same : (table : ℕ) (o : Option Hosted) → SameSide w (history_lines w table o).world
  history_same table None = (refl, refl)
  history_same table (Some hosted) = (refl, refl)

  linked_same : (d : ℕ) (up : Bool) (o : Option Client) → SameSide w (linked w d up o).world
  linked_same d up None = (refl, refl)
  linked_same d up (Some node) = down_same (nodes.Client d) _ (moved up)
    where
      moved : (b : Bool) → SameSide w (with_link d b w)
      moved true = (refl, refl)
      moved false = (refl, refl)

  declared_same : (table : ℕ) (schema : Schema) (state : TableState) (luck : Luck) (o : Option Hosted) → SameSide w (declared w table schema state luck o)
  declared_same table schema state luck (Some hosted) = (refl, refl)
  declared_same table schema state luck None = go luck
    where
      go : (x : Luck) → SameSide w (made_with w table schema state x)
      go messages.Done = (refl, refl)
      go messages.FailedBefore = (refl, refl)
      go messages.FailedAfter = (refl, refl)

  declared_tells : (table : ℕ) (schema : Schema) (state : TableState) (luck : Luck) (o : Option Hosted) → Tells (declared w table schema state luck o) false
  declared_tells table schema state luck o = let v : World = declared w table schema state luck o in same_tells v (side_away v (declared_same table schema state luck o))

  -- ---- tables that are made and dropped

  puts_tell : (number table : ℕ) (put : SidePut) (lucks : List Luck) (x : Bool) → Tells (puts_beside w number table put lucks).world (x && false)
  puts_tell number table put lucks x =
      side_tells (puts_beside w number table put lucks).world x (down_same (nodes.Store number) _ (hosted_same table (store.Place put) lucks (hosted_by w number table)))

  opens_tell : (d table : ℕ) (shape : Shape) (lucks : List Luck) (o : Option Schema)
      → Tells (opens w d table shape lucks o).world (has_fault (opens w d table shape lucks o).answer && d == c)
  opens_tell d table shape lucks None = same_tells w refl
  opens_tell d table shape lucks (Some schema) = call_tells d (client.Alter table (client.Opens schema)) shape lucks tt (client_at w d) refl

  created_tells : (table : ℕ) (shape : Shape) (lucks : List Luck) (node : Node)
      → Tells (created w table shape lucks node).world (has_fault (created w table shape lucks node).answer && is_client c node)
  created_tells table shape lucks (nodes.Store number) = puts_tell number table (store.PutState states.Live) lucks _
  created_tells table shape lucks (nodes.Client d) = opens_tell d table shape lucks (schema_at w table)
  created_tells table shape lucks (nodes.Gate gate) = same_tells w refl

  dropped_tells : (table : ℕ) (shape : Shape) (lucks : List Luck) (node : Node)
      → Tells (dropped w table shape lucks node).world (has_fault (dropped w table shape lucks node).answer && is_client c node)
  dropped_tells table shape lucks (nodes.Store number) = puts_tell number table (store.PutState states.Dropped) lucks _
  dropped_tells table shape lucks (nodes.Client d) = call_tells d (client.Alter table client.Closes) shape lucks tt (client_at w d) refl
  dropped_tells table shape lucks (nodes.Gate gate) = same_tells w refl

  -- ---- what is done to a node

  -- a node that is down refuses
  down_tells : (node : Node) (s : WorldStep) (x : Bool) → Tells s.world (has_fault s.answer && x) → Tells (unless_down w node s).world (has_fault (unless_down w node s).answer && x)
  down_tells node s x there = go (is_down w node)
    where
      go : (b : Bool) → Tells (if b then refused w (facts.NodeDown node) else s).world (has_fault (if b then refused w (facts.NodeDown node) else s).answer && x)
      go true = same_tells w refl
      go false = there

  worked_tells : (lucks : List Luck) (node : Node) → Tells (worked w lucks node).world (has_fault (worked w lucks node).answer && is_client c node)
  worked_tells lucks (nodes.Store number) = side_tells (worked w lucks (nodes.Store number)).world _ (write_same number (first_luck lucks) (busy_table w number) w)
  worked_tells lucks (nodes.Client d) = answering_tells d _ (client_writes d (first_luck lucks) (client_tasks (client_at w d)) w) (client_writes_track c d (first_luck lucks) (client_tasks (client_at w d)) w) (λ e. refl)
  worked_tells lucks (nodes.Gate gate) = side_tells w false (refl, refl)

  all_worked_tells : (lucks : List Luck) (node : Node) → Tells (all_worked w lucks node).world (has_fault (all_worked w lucks node).answer && is_client c node)
  all_worked_tells lucks (nodes.Store number) = side_tells (all_worked w lucks (nodes.Store number)).world _ (until_idle_same number lucks w)
  all_worked_tells lucks (nodes.Client d) = answering_tells d _ (client_until_idle d lucks w) (works_track c d (client_tasks (client_at w d)) lucks w) (λ e. refl)
  all_worked_tells lucks (nodes.Gate gate) = side_tells w false (refl, refl)

  was_away : (d : ℕ) → c ≡ d → is_down w (nodes.Client d) ≡ true → away c w ≡ true
  was_away d same was = go (client_at w c) (subst (λ (q : ℕ). is_client_down (client_at w q) ≡ true) (sym same) was)
    where
      go : (o : Option Client) → is_client_down o ≡ true → is_away o ≡ true
      go None e = refl
      go (Some node) e = e

  crashed_tells : (calls : ℕ) (lucks : List Luck) (node : Node) → Tells (unless_down w node (crashed w calls lucks node)).world (is_client c node)
  crashed_tells calls lucks (nodes.Store number) =
      let v : World = (unless_down w (nodes.Store number) (crashed w calls lucks (nodes.Store number))).world in
      none_tells v false refl (side_away v (down_same (nodes.Store number) (crashed w calls lucks (nodes.Store number)) (store_crashes_same number calls lucks w)))
  crashed_tells calls lucks (nodes.Gate gate) =
      let v : World = (unless_down w (nodes.Gate gate) (crashed w calls lucks (nodes.Gate gate))).world in
      none_tells v false refl (side_away v (down_same (nodes.Gate gate) (crashed w calls lucks (nodes.Gate gate)) (refl, refl)))
  crashed_tells calls lucks (nodes.Client d) = go (is_down w (nodes.Client d)) refl
    where
      luck : Luck
      luck = crash_luck calls (other_lucks lucks) (first_luck lucks)

      go : (b : Bool) → is_down w (nodes.Client d) ≡ b → Tells (if b then refused w (facts.NodeDown (nodes.Client d)) else crashed w calls lucks (nodes.Client d)).world (d == c)
      go true was = ⊎_elim
          (λ same. record {
            fell = λ x. was_away d same was;
            stood = λ x. absurd (true≢false (grind (arith, nat_tests, x, same)));
          })
          (λ other. none_tells w (d == c) (grind (arith, nat_tests, other)) refl) (one_or_other c d)
      go false was = ⊎_elim
          (λ same. record { fell = λ x. crash_falls c d w luck same; stood = λ x. absurd (true≢false (grind (arith, nat_tests, x, same))) })
          (λ other. none_tells (crashed w calls lucks (nodes.Client d)).world (d == c) (grind (arith, nat_tests, other)) (crash_apart c d w luck other)) (one_or_other c d)

  -- one that is started was down, or goes on
  started_tells : (shape : Shape) (lucks : List Luck) (node : Node) → Tells (started w shape lucks node).world false
  started_tells shape lucks (nodes.Gate gate) = same_tells w refl
  started_tells shape lucks (nodes.Store number) = go (has_store w number && is_down w (nodes.Store number))
    where
      go : (b : Bool) → Tells (if b then answering facts.Done (store_starts number lucks w) else answered w facts.Done).world false
      go true = same_tells (store_starts number lucks w).world (side_away (store_starts number lucks w).world (store_starts_same number lucks w))
      go false = same_tells w refl
  started_tells shape lucks (nodes.Client d) = go (is_down w (nodes.Client d)) refl
    where
      v : World
      v = (move_client d client.Start shape w).world

      other_starts : c ≢ d → away c v ≡ away c w
      other_starts other = by_client (client_at w d)
        where
          by_client : (o : Option Client) → away c (move_there w d client.Start shape o).world ≡ away c w
          by_client None = refl
          by_client (Some node) = ⊎_elim (λ e. absurd (other e.0)) (λ e. e.1) (moved_down c 0 w d client.Start (client_step d shape node client.Start))

      by_luck : is_down w (nodes.Client d) ≡ true → (luck : Luck) (more : List Luck) → Tells (starts_by d shape luck more w).world false
      by_luck was messages.Done more = ⊎_elim
          (λ same. record { fell = λ e. absurd (true≢false (sym e)); stood = λ e there. was_away d same was })
          (λ other. same_tells (client_follows d more v).world ((client_follows_tracks c d more v).apart other ∙ other_starts other)) (one_or_other c d)
      by_luck was messages.FailedBefore more = same_tells w refl
      by_luck was messages.FailedAfter more = same_tells w refl

      go : (b : Bool) → is_down w (nodes.Client d) ≡ b → Tells (if b then answering facts.Done (client_starts d shape lucks w) else answered w facts.Done).world false
      go true was = by_luck was (first_luck lucks) (other_lucks lucks)
      go false was = same_tells w refl

  joined_tells : (d : ℕ) (tables : List ℕ) (luck : Luck) (o : Option Client) → client_at w d ≡ o → Tells (joined w d tables luck o) false
  joined_tells d tables luck (Some node) at = same_tells w refl
  joined_tells d tables luck None at = ⊎_elim
      (λ e. record { fell = λ x. absurd (true≢false (sym x)); stood = λ x there. ap is_away (subst (λ (q : ℕ). client_at w q ≡ None) (sym e.0) at) })
      (λ e. same_tells (joined w d tables luck None) (ap is_away e.1))
      (look_cases w.clients d (new_client (open_all w [] tables) (first_agenda luck)) c)

  -- ---- every event

  module _ (sent : List Node) (sent_is : sent ≡ map (λ (p : Packet). p.to) w.packets) where
    delivers : (packet : ℕ) → option_map (λ (p : Packet). p.to) (slice_get w.packets packet) ≡ slice_get sent packet
    delivers packet = sym (slice_get-map (λ (p : Packet). p.to) w.packets packet) ∙ ap (λ (ns : List Node). slice_get ns packet) (sym sent_is)

    step_tells : (event : Event) (lucks : Lucks) → Tells (step w event lucks).world (goes_down c sent event (step w event lucks).answer)
    step_tells (events.Store number) lucks = same_tells (with_store number w) refl
    step_tells (events.Gate number) lucks = same_tells w refl
    step_tells (events.Table table schema) lucks = declared_tells table schema states.Live (first_luck lucks.calls) (hosted_at w table)
    step_tells (events.Draft table schema) lucks = declared_tells table schema states.Draft (first_luck lucks.calls) (hosted_at w table)
    step_tells (events.Client d gate tables) lucks = joined_tells d tables (first_luck lucks.calls) (client_at w d) refl
    step_tells (events.Write d table row x) lucks = call_tells d (client.Write table row x) lucks.shape lucks.calls tt (client_at w d) refl
    step_tells (events.Edit d table row x) lucks = call_tells d (client.Change table row x) lucks.shape lucks.calls tt (client_at w d) refl
    step_tells (events.Link d up) lucks = side_tells (linked w d up (client_at w d)).world _ (linked_same d up (client_at w d))
    step_tells (events.Create node table) lucks = created_tells table lucks.shape lucks.calls node
    step_tells (events.Drop node table) lucks = dropped_tells table lucks.shape lucks.calls node
    step_tells (events.Save number table d terms) lucks = puts_tell number table (store.PutSub d terms) lucks.calls _
    step_tells (events.Ask d table) lucks = call_tells d (client.Next table [] []) lucks.shape lucks.calls tt (client_at w d) refl
    step_tells (events.Net it) lucks = same_tells w refl
    step_tells (events.Show d table row) lucks = call_tells d (client.Show table row) lucks.shape lucks.calls tt (client_at w d) refl
    step_tells (events.Sum d table row) lucks = call_tells d (client.Sum table row) lucks.shape lucks.calls tt (client_at w d) refl
    step_tells (events.Sync d table) lucks = call_tells d (client.Sync table) lucks.shape lucks.calls tt (client_at w d) refl
    step_tells (events.Pull d table) lucks = call_tells d (client.Next table lucks.tears lucks.asks) lucks.shape lucks.calls tt (client_at w d) refl
    step_tells (events.BeginCr d table) lucks = call_tells d (client.BeginCr table) lucks.shape lucks.calls tt (client_at w d) refl
    step_tells (events.Conflicts d table) lucks =
        listed_tells d (call w d (client.Conflicts table) lucks.shape lucks.calls) (call_tells d (client.Conflicts table) lucks.shape lucks.calls tt (client_at w d) refl)
    step_tells (events.EndCr d table) lucks = call_tells d (client.EndCr table) lucks.shape lucks.calls tt (client_at w d) refl
    step_tells (events.Resolve d table row version choice) lucks = call_tells d (client.Resolve table row version choice) lucks.shape lucks.calls tt (client_at w d) refl
    step_tells (events.ResolveAll d table by) lucks =
        all_tells d table by lucks.shapes (other_lucks lucks.calls) (call w d (client.ResolveAll table by) lucks.shape lucks.calls)
        (call_tells d (client.ResolveAll table by) lucks.shape lucks.calls tt (client_at w d) refl)
    step_tells (events.Deliver packet) lucks =
        let s : WorldStep = delivered w lucks.shape lucks.calls (slice_get w.packets packet) in
        subst (λ (to : Option Node). Tells s.world (has_fault s.answer && goes_to c to)) (delivers packet) (delivered_tells lucks.shape lucks.calls (slice_get w.packets packet))
    step_tells (events.StoreShow table row) lucks = side_tells (store_shows w table row lucks.calls (hosted_at w table)).world _ (shows_same table row lucks.calls (hosted_at w table))
    step_tells (events.History table) lucks = side_tells (history_lines w table (hosted_at w table)).world _ (history_same table (hosted_at w table))
    step_tells (events.Chunks table) lucks = side_tells (chunk_names w table (hosted_at w table)).world _ (chunks_same table (hosted_at w table))
    step_tells (events.Hold node) lucks =
        let s : WorldStep = answered (record w { holds = node ∷ w.holds }) facts.Done in side_tells (unless_down w node s).world _ (down_same node s (refl, refl))
    step_tells (events.Free node) lucks =
        let s : WorldStep = answered (record w { holds = without_node w.holds node }) facts.Done in side_tells (unless_down w node s).world _ (down_same node s (refl, refl))
    step_tells (events.Work node) lucks = down_tells node (worked w lucks.calls node) (is_client c node) (worked_tells lucks.calls node)
    step_tells (events.WorkAll node) lucks = down_tells node (all_worked w lucks.calls node) (is_client c node) (all_worked_tells lucks.calls node)
    step_tells (events.Crash node calls pick) lucks = crashed_tells calls lucks.calls node
    step_tells (events.Start node) lucks =
        let x : WorldStep = started w lucks.shape lucks.calls node in
        subst (λ (b : Bool). Tells x.world b) (sym (and_false (has_fault x.answer))) (started_tells lucks.shape lucks.calls node)

-- ---- a client that is away begins no phase

module _ (c t : ℕ) (w : World) where
  -- whatever the answer, an event of another client leaves none where there was none
  begin_apart : (d table : ℕ) (answer : Option Answer) → c ≢ d → phase_by c t (events.BeginCr d table) answer false ≡ false
  begin_apart d table None other = refl
  begin_apart d table (Some facts.Done) other = grind (arith, nat_tests, other)
  begin_apart d table (Some rest) other = refl

  end_none : (d table : ℕ) (answer : Option Answer) → phase_by c t (events.EndCr d table) answer false ≡ false
  end_none d table None = refl
  end_none d table (Some facts.Done) = and_false c w (not (d == c && table == t))
  end_none d table (Some rest) = refl

  -- this one refuses
  begin_refused : (d table : ℕ) (shape : Shape) (lucks : List Luck) → away c w ≡ true → c ≡ d
      → phase_by c t (events.BeginCr d table) (call w d (client.BeginCr table) shape lucks).answer false ≡ false
  begin_refused d table shape lucks gone same =
      call_is (λ (x : WorldStep). phase_by c t (events.BeginCr d table) x.answer false ≡ false) w d (client.BeginCr table) shape lucks (λ r before. refl) refl (λ take. absurd take) does (client_at w d) refl
    where
      does : (node : Client) → client_at w d ≡ Some node → phase_by c t (events.BeginCr d table) (calls w d (client.BeginCr table) shape (other_lucks lucks) node).answer false ≡ false
      does node at = go node.disk node.agenda (sym (ap is_away (subst (λ (q : ℕ). client_at w q ≡ Some node) (sym same) at)) ∙ gone) (and_then (move_client d (client.BeginCr table) shape w) (client_follows_from node.agenda d (other_lucks lucks))).failed
        where
          go : (disk : ClientDisk) (o : Option (List ClientTask)) → is_client_down (Some (record { disk = disk; agenda = o })) ≡ true → (failed : Bool)
              → phase_by c t (events.BeginCr d table) (Some (if failed then facts.Refuses facts.NoDevice else (client.phase_step disk o table).answer)) false ≡ false
          go disk None e true = refl
          go disk None e false = refl
          go disk (Some agenda) e failed = absurd (true≢false (sym e))

  none_begun : IsClosed c t w → away c w ≡ true → (event : Event) (lucks : Lucks) → phase_by c t event (step w event lucks).answer (is_resolving w c t) ≡ false
  none_begun is gone (events.BeginCr d table) lucks =
      ap (phase_by c t (events.BeginCr d table) (call w d (client.BeginCr table) lucks.shape lucks.calls).answer) (is gone)
      ∙ ⊎_elim (λ same. begin_refused d table lucks.shape lucks.calls gone same)
      (λ other. begin_apart d table (call w d (client.BeginCr table) lucks.shape lucks.calls).answer other) (one_or_other c d)
  none_begun is gone (events.EndCr d table) lucks =
      ap (phase_by c t (events.EndCr d table) (call w d (client.EndCr table) lucks.shape lucks.calls).answer) (is gone)
      ∙ end_none d table (call w d (client.EndCr table) lucks.shape lucks.calls).answer
  none_begun is gone other lucks = is gone

  -- so what the lines tell of the phase is what it is
  told_is : (v : World) (x g : Bool) → is_resolving v c t ≡ (not (away c v) && x) → Tells c w v g → (away c w ≡ true → x ≡ false) → is_resolving v c t ≡ (not g && x)
  told_is v x g old told none = go (away c v) refl g refl
    where
      by_away : (b : Bool) → away c v ≡ b → is_resolving v c t ≡ (not b && x)
      by_away b e = old ∙ ap (λ (y : Bool). not y && x) e

      go : (b : Bool) → away c v ≡ b → (h : Bool) → g ≡ h → is_resolving v c t ≡ (not h && x)
      go true e true is = by_away true e
      go true e false is = by_away true e ∙ sym (none (told.stood is e))
      go false e true is = absurd (true≢false (sym (told.fell is) ∙ e))
      go false e false is = by_away false e

-- ---- runs

run_told : (c t : ℕ) (happenings : List Happening) (w : World) (a : Asked) (sent : List Node) → AreFine a w → sent ≡ map (λ (p : Packet). p.to) w.packets → IsClosed c t w
    → is_resolving (world_from w happenings) c t ≡ phase_from c t sent (is_resolving w c t) (turns_from w happenings)
run_told c t [] w a sent fine same is = refl
run_told c t (h ∷ more) w a sent fine same is =
    let s : WorldStep = step w h.event h.lucks in
    let g : StepGoes a w h.event s = step_goes a w fine h.event h.lucks in
    let x : Bool = phase_by c t h.event s.answer (is_resolving w c t) in
    let now : is_resolving s.world c t ≡ (not (goes_down c sent h.event s.answer) && x) =
    told_is c t w s.world x (goes_down c sent h.event s.answer) (step_is c t w is h.event h.lucks) (step_tells c w sent same h.event h.lucks)
    (λ gone. none_begun c t w is gone h.event h.lucks) in
    let lines_sent : sent ++ sent_in (lines_of w s) ≡ map (λ (p : Packet). p.to) s.world.packets =
    ap (λ (ns : List Node). ns ++ sent_in (lines_of w s)) same
    ∙ (ap (λ (ns : List Node). map (λ (p : Packet). p.to) w.packets ++ ns) g.sent
    ∙ (sym (to_join w.packets (packets_in s.outs)) ∙ ap (λ (ps : List Packet). map (λ (p : Packet). p.to) ps) (sym g.packets))) in
    run_told c t more s.world (lines_asked h.event (lines_of w s) a) (sent ++ sent_in (lines_of w s)) g.fine lines_sent (step_closed c t w is h.event h.lucks)
    ∙ ap (λ (b : Bool). phase_from c t (sent ++ sent_in (lines_of w s)) b (turns_from s.world more))
    (now ∙ ap (λ (answer : Option Answer). not (goes_down c sent h.event answer) && phase_by c t h.event answer (is_resolving w c t)) (sym g.answer))

run_closed : (c t : ℕ) (happenings : List Happening) (w : World) → IsClosed c t w → IsClosed c t (world_from w happenings)
run_closed c t [] w is = is
run_closed c t (h ∷ more) w is = run_closed c t more (step w h.event h.lucks).world (step_closed c t w is h.event h.lucks)

pub phase_is : (happenings : List Happening) (c t : ℕ) → is_resolving (world_from start happenings) c t ≡ has_phase (turns happenings) c t
phase_is happenings c t = run_told c t happenings start nothing_asked [] (λ table hosted at. absurd cc, λ q node at. absurd cc) refl (λ gone. refl)

-- a phase is one of a client that is up
pub phase_up : (happenings : List Happening) (c t : ℕ) → has_phase (turns happenings) c t ≡ true → is_away (client_at (world_from start happenings) c) ≡ false
phase_up happenings c t open_there = go (is_away (client_at (world_from start happenings) c)) refl
  where
    go : (b : Bool) → is_away (client_at (world_from start happenings) c) ≡ b → b ≡ false
    go false gone = refl
    go true gone = absurd (true≢false (sym open_there ∙ (sym (phase_is happenings c t) ∙ run_closed c t happenings start (λ x. refl) gone)))
