-- What the moves of a world keep of a client's phase: it ends where the client goes down, and otherwise by `begin_cr` and
-- `end_cr` alone.
use Rattle.std.proofs.Common.{◌≡◌, ◌≢◌, ◌⊎◌, inl, inr, ⊎_elim, ℕ, zero, suc, Bool, true, false, List, [], ◌∷◌, length, Option, Some, None, refl, sym, ◌∙◌, ap, subst, arith, true≢false}
use Rattle.std.specs.Prelude.{◌+◌, ◌==◌, ◌&&◌, not, filter, drop, if◌then◌else◌}
use Rattle.std.specs.List.{list_any}
use Rattle.std.proofs.lemmas.Bool.Decides.{nat_tests}
use Rattle.std.proofs.lemmas.Map.Views.{any-filter_same}
use Rattle.std.specs.Ordering.{nat_cmp}
use Rattle.std.specs.Map.{lookup}
use Rattle.std.specs.BTreeMap.{is_at}
use Rattle.stab_base.specs.declared.node.Node.TheVariants as nodes
use Rattle.table_model.specs.declared.line.RowPair.{RowPair}
use Rattle.conflicts.specs.declared.stored.Stored as resolvers
use Rattle.step_tables.specs.Facts.{Answer}
use Rattle.step_tables.specs.Messages.{Luck}
use Rattle.step_tables.specs.Messages as messages
use Rattle.step_tables.specs.StoreMoves as store
use Rattle.step_tables.specs.StoreMoves.{StoreMove}
use Rattle.step_tables.specs.ClientMoves as client
use Rattle.step_tables.specs.ClientMoves.{TableDisk, ClientDisk, Client, ClientTask, ClientMove, ClientStep, Shape, no_shape, table_at, seen, client_step, phases_by}
use Rattle.world_tables.specs.World.{World, Hosted, Moved, owner_of, hosted_at, client_at, is_client_down, is_resolving, has_node, tables_of, still, and_then, and_unless}
use Rattle.world_tables.specs.World.{after_table, move_hosted, move_table, moved_client, move_there, move_client, first_luck, other_lucks, client_works, client_tasks, client_until_idle, client_follows, client_follows_from}
use Rattle.world_tables.specs.World.{client_writes, gets_tasks, table_falls, tables_fall, without_down, store_falls, or_falls, is_at_work, busy_table, write_next, store_works, tasks_of, store_until_idle}
use Rattle.world_tables.specs.World.{store_follows, table_follows, declared_late, start_hosted, table_starts, tables_start, store_starts, crash_luck, table_crashes, store_crashes}
use Rattle.world_tables.specs.World.{chosen_of, first_shape, other_shapes, plan_size, resolve_by, resolve_each}
use Rattle.world_laws.proofs.Looks.{look_cases}
use Rattle.asked_laws.specs.Phases.{is_away}

-- ---- the Store's moves touch neither clients nor phases

abbrev pub SameSide : World → World → Type 0
SameSide w v = (v.clients ≡ w.clients) × (v.phases ≡ w.phases)

pub then_same : (w v x : World) → SameSide w v → SameSide v x → SameSide w x
then_same w v x p q = (q.0 ∙ p.0, q.1 ∙ p.1)

pub table_same : (table : ℕ) (move : StoreMove) (w : World) → SameSide w (move_table table move w).world
table_same table move w = go (hosted_at w table)
  where
    go : (o : Option Hosted) → SameSide w (move_hosted w table move o).world
    go None = (refl, refl)
    go (Some hosted) = (refl, refl)

unless_same : (w : World) (m : Moved) (f : World → Moved) → SameSide w m.world → SameSide m.world (f m.world).world → SameSide w (and_unless m f).world
unless_same w m f p q = go m.failed
  where
    go : (failed : Bool) → SameSide w (if failed then m else and_then m f).world
    go true = p
    go false = then_same w m.world (f m.world).world p q

falls_same : (tables : List ℕ) (w : World) → SameSide w (tables_fall tables w).world
falls_same [] w = (refl, refl)
falls_same (table ∷ tables) w =
    then_same w (table_falls table w).world (tables_fall tables (table_falls table w).world).world (table_same table (store.Crash messages.FailedBefore) w) (falls_same tables (table_falls table w).world)

pub store_falls_same : (node : ℕ) (w : World) → SameSide w (store_falls node w).world
store_falls_same node w = let p = falls_same (tables_of w node) w in (p.0, p.1)

or_falls_same : (node : ℕ) (w : World) (m : Moved) → SameSide w m.world → SameSide w (or_falls node m).world
or_falls_same node w m p = go m.failed
  where
    go : (failed : Bool) → SameSide w (if failed then and_then m (store_falls node) else m).world
    go true = then_same w m.world (store_falls node m.world).world p (store_falls_same node m.world)
    go false = p

pub write_same : (node : ℕ) (luck : Luck) (o : Option ℕ) (w : World) → SameSide w (write_next node luck o w).world
write_same node luck None w = (refl, refl)
write_same node luck (Some table) w = or_falls_same node w (move_table table (store.Work luck) w) (table_same table (store.Work luck) w)

works_same : (node count : ℕ) (lucks : List Luck) (w : World) → SameSide w (store_works node count lucks w).world
works_same node zero lucks w = (refl, refl)
works_same node (suc more) lucks w =
    let m : Moved = write_next node (first_luck lucks) (busy_table w node) w in
    unless_same w m (store_works node more (other_lucks lucks)) (write_same node (first_luck lucks) (busy_table w node) w) (works_same node more (other_lucks lucks) m.world)

pub until_idle_same : (node : ℕ) (lucks : List Luck) (w : World) → SameSide w (store_until_idle node lucks w).world
until_idle_same node lucks w = works_same node (length (tasks_of w node)) lucks w

follows_same : (node : ℕ) (lucks : List Luck) (w : World) → SameSide w (store_follows node lucks w).world
follows_same node lucks w = go (has_node w.holds (nodes.Store node))
  where
    go : (held : Bool) → SameSide w (if held then still w else store_until_idle node lucks w).world
    go true = (refl, refl)
    go false = until_idle_same node lucks w

pub table_follows_same : (table : ℕ) (lucks : List Luck) (w : World) → SameSide w (table_follows table lucks w).world
table_follows_same table lucks w = go (is_at_work w table)
  where
    go : (busy : Bool) → SameSide w (if busy then store_follows (owner_of w table) lucks w else still w).world
    go true = follows_same (owner_of w table) lucks w
    go false = (refl, refl)

start_same : (table : ℕ) (w : World) → SameSide w (start_hosted w table (hosted_at w table)).world
start_same table w = go (hosted_at w table)
  where
    go : (o : Option Hosted) → SameSide w (start_hosted w table o).world
    go None = (refl, refl)
    go (Some hosted) = made hosted.made
      where
        made : (b : Bool) → SameSide w (if b then move_table table store.Start w else after_table w table (record hosted { made = true }) (declared_late (owner_of w table) table hosted.store.disk.state)).world
        made true = table_same table store.Start w
        made false = (refl, refl)

starts_same : (tables : List ℕ) (lucks : List Luck) (w : World) → SameSide w (tables_start tables lucks w).world
starts_same [] lucks w = (refl, refl)
starts_same (table ∷ tables) lucks w =
    let m : Moved = table_starts table (first_luck lucks) w in
    unless_same w m (tables_start tables (other_lucks lucks)) (one (first_luck lucks)) (starts_same tables (other_lucks lucks) m.world)
  where
    one : (luck : Luck) → SameSide w (table_starts table luck w).world
    one messages.Done = start_same table w
    one messages.FailedBefore = (refl, refl)
    one messages.FailedAfter = (refl, refl)

pub store_starts_same : (node : ℕ) (lucks : List Luck) (w : World) → SameSide w (store_starts node lucks w).world
store_starts_same node lucks w = go m.failed
  where
    tables : List ℕ
    tables = tables_of w node

    m : Moved
    m = and_then (tables_fall tables w) (tables_start tables lucks)

    fallen : World
    fallen = (tables_fall tables w).world

    first : SameSide w m.world
    first = then_same w fallen m.world (falls_same tables w) (starts_same tables lucks fallen)

    go : (failed : Bool)
        → SameSide w (if failed then and_then m (store_falls node) else and_then m (λ x. store_follows node (drop (length tables) lucks) (without_down (nodes.Store node) x))).world
    go true = then_same w m.world (store_falls node m.world).world first (store_falls_same node m.world)
    go false =
        let up : World = without_down (nodes.Store node) m.world in
        let p = follows_same node (drop (length tables) lucks) up in
        then_same w m.world (store_follows node (drop (length tables) lucks) up).world first (p.0, p.1)

pub store_crashes_same : (node calls : ℕ) (lucks : List Luck) (w : World) → SameSide w (store_crashes node calls lucks w).world
store_crashes_same node calls lucks w =
    let m : Moved = table_crashes luck (busy_table w node) w in then_same w m.world (store_falls node m.world).world (one (busy_table w node)) (store_falls_same node m.world)
  where
    luck : Luck
    luck = crash_luck calls (other_lucks lucks) (first_luck lucks)

    one : (o : Option ℕ) → SameSide w (table_crashes luck o w).world
    one None = (refl, refl)
    one (Some table) = table_same table (store.Crash luck) w

-- ---- lists of phases

abbrev pub has_open : ℕ → ℕ → List (ℕ × ℕ) → Bool
has_open c t phases = list_any (λ (phase : ℕ × ℕ). phase.0 == c && phase.1 == t) phases

pub open_without : (c t d : ℕ) (phases : List (ℕ × ℕ)) → has_open c t (filter (λ (phase : ℕ × ℕ). not (phase.0 == d)) phases) ≡ (not (d == c) && has_open c t phases)
open_without c t d phases =
    any-filter_same (λ (phase : ℕ × ℕ). phase.0 == c && phase.1 == t) (λ (phase : ℕ × ℕ). not (phase.0 == d)) (not (d == c)) (λ phase is. grind (arith, nat_tests, is)) phases

pub open_ended : (c t d table : ℕ) (phases : List (ℕ × ℕ))
    → has_open c t (filter (λ (phase : ℕ × ℕ). not (phase.0 == d && phase.1 == table)) phases) ≡ (not (d == c && table == t) && has_open c t phases)
open_ended c t d table phases =
    any-filter_same (λ (phase : ℕ × ℕ). phase.0 == c && phase.1 == t) (λ (phase : ℕ × ℕ). not (phase.0 == d && phase.1 == table)) (not (d == c && table == t))
    (λ phase is. grind (arith, nat_tests, is)) phases

-- ---- a client and a table

module _ (c t : ℕ) where
  abbrev pub down : World → Bool
  down w = is_away (client_at w c)

  abbrev pub IsClosed : World → Type 0
  IsClosed w = down w ≡ true → is_resolving w c t ≡ false

  -- moves that neither start the client nor begin or end a phase
  pub record Keeps (w v : World) : Type 0 where
    pub stays : down w ≡ true → down v ≡ true
    pub closed : IsClosed v
    pub same : down v ≡ false → is_resolving v c t ≡ is_resolving w c t

  pub keeps_self : (w : World) → IsClosed w → Keeps w w
  keeps_self w is = record { stays = λ e. e; closed = is; same = λ e. refl }

  pub keeps_then : (w v x : World) → Keeps w v → Keeps v x → Keeps w x
  keeps_then w v x p q = record { stays = λ e. q.stays (p.stays e); closed = q.closed; same = λ up. go up (down v) refl }
    where
      go : down x ≡ false → (b : Bool) → down v ≡ b → is_resolving x c t ≡ is_resolving w c t
      go up true e = absurd (true≢false (sym (q.stays e) ∙ up))
      go up false e = q.same up ∙ p.same e

  pub keeps_unless : (w : World) (m : Moved) (f : World → Moved) → Keeps w m.world → (IsClosed m.world → Keeps m.world (f m.world).world) → Keeps w (and_unless m f).world
  keeps_unless w m f p q = go m.failed
    where
      go : (failed : Bool) → Keeps w (if failed then m else and_then m f).world
      go true = p
      go false = keeps_then w m.world (f m.world).world p (q p.closed)

  -- where clients and phases are the same
  pub same_keeps : (w v : World) → IsClosed w → SameSide w v → Keeps w v
  same_keeps w v is p =
      let downs : down v ≡ down w = ap (λ (clients : List (ℕ × Client)). is_away (lookup (is_at (nat_cmp c)) clients)) p.0 in
      let opens : is_resolving v c t ≡ is_resolving w c t = ap (λ (phases : List (ℕ × ℕ)). has_open c t phases) p.1 in
      record { stays = λ e. downs ∙ e; closed = λ e. opens ∙ is (sym downs ∙ e); same = λ e. opens }

  -- ---- one move of a client

  -- what a step makes of its client's phases
  abbrev pub opens_by : ℕ → ClientMove → ClientStep → World → Bool
  opens_by d move s w = has_open c t (phases_by d move s.answer s.client.agenda w.phases)

  -- the client behind it, or another one
  pub moved_down : (w : World) (d : ℕ) (move : ClientMove) (s : ClientStep)
      → ((c ≡ d) × (down (moved_client w d move s).world ≡ is_client_down (Some s.client))) ⊎ ((c ≢ d) × (down (moved_client w d move s).world ≡ down w))
  moved_down w d move s = ⊎_elim (λ e. inl (e.0, ap is_away e.1)) (λ e. inr (e.0, ap is_away e.1)) (look_cases w.clients d s.client c)

  down_agenda : (d : ℕ) (move : ClientMove) (s : ClientStep) (w : World) → c ≡ d → (o : Option (List ClientTask)) → s.client.agenda ≡ o → is_client_down (Some s.client) ≡ true
      → opens_by d move s w ≡ false
  down_agenda d move s w same None at e =
      ap (λ (o : Option (List ClientTask)). has_open c t (phases_by d move s.answer o w.phases)) at ∙ (open_without c t d w.phases ∙ grind (arith, nat_tests, same))
  down_agenda d move s w same (Some agenda) at e = absurd (true≢false (sym e ∙ up s.client at))
    where
      up : (x : Client) → x.agenda ≡ Some agenda → is_client_down (Some x) ≡ false
      up x at = rw at refl

  -- one that doesn't start it, and changes no phase while it is up
  pub step_keeps : (w : World) (d : ℕ) (move : ClientMove) (node : Client) (s : ClientStep) → IsClosed w → client_at w d ≡ Some node
      → (c ≡ d → is_client_down (Some node) ≡ true → is_client_down (Some s.client) ≡ true)
      → (is_client_down (Some s.client) ≡ false → phases_by d move s.answer s.client.agenda w.phases ≡ w.phases)
      → (c ≢ d → opens_by d move s w ≡ is_resolving w c t)
      → Keeps w (moved_client w d move s).world
  step_keeps w d move node s is at stays same apart = ⊎_elim
      (λ e. record {
        stays = λ was. e.1 ∙ stays e.0 (sym (ap is_away (subst (λ (q : ℕ). client_at w q ≡ Some node) (sym e.0) at)) ∙ was);
        closed = λ now. down_agenda d move s w e.0 s.client.agenda refl (sym e.1 ∙ now);
        same = λ now. ap (has_open c t) (same (sym e.1 ∙ now));
      })
      (λ e. record {
        stays = λ was. e.1 ∙ was;
        closed = λ now. apart e.0 ∙ is (sym e.1 ∙ now);
        same = λ now. apart e.0;
      })
      (moved_down w d move s)

-- ---- a client that is down stays so, but for a start

abbrev pub IsPlainMove : ClientMove → Type 0
IsPlainMove client.Start = ⊥
IsPlainMove (client.BeginCr table) = ⊥
IsPlainMove (client.EndCr table) = ⊥
IsPlainMove other = Unit {0}

down_step : (d : ℕ) (shape : Shape) (disk : ClientDisk) (move : ClientMove) → IsPlainMove move
    → is_client_down (Some (client_step d shape (record { disk = disk; agenda = None }) move).client) ≡ true
down_step d shape disk (client.Write table row x) plain = refl
down_step d shape disk (client.Change table row x) plain = refl
down_step d shape disk (client.Show table row) plain = refl
down_step d shape disk (client.Sum table row) plain = refl
down_step d shape disk (client.Sync table) plain = refl
down_step d shape disk (client.Next table tears asks) plain = refl
down_step d shape disk (client.BeginCr table) plain = absurd plain
down_step d shape disk (client.Conflicts table) plain = refl
down_step d shape disk (client.EndCr table) plain = absurd plain
down_step d shape disk (client.Resolve table row version choice) plain = refl
down_step d shape disk (client.ResolveAll table by) plain = refl
down_step d shape disk (client.Alter table change) plain = refl
down_step d shape disk (client.Take message) plain = refl
down_step d shape disk (client.Work messages.Done) plain = refl
down_step d shape disk (client.Work messages.FailedBefore) plain = refl
down_step d shape disk (client.Work messages.FailedAfter) plain = refl
down_step d shape disk (client.Crash luck) plain = refl
down_step d shape disk client.Start plain = absurd plain

plain_phases : (d : ℕ) (move : ClientMove) (answer : Answer) (agenda : List ClientTask) (phases : List (ℕ × ℕ)) → IsPlainMove move → phases_by d move answer (Some agenda) phases ≡ phases
plain_phases d (client.BeginCr table) answer agenda phases plain = absurd plain
plain_phases d (client.EndCr table) answer agenda phases plain = absurd plain
plain_phases d other answer agenda phases plain = refl

start_phases : (d : ℕ) (answer : Answer) (agenda : List ClientTask) (phases : List (ℕ × ℕ)) → phases_by d client.Start answer (Some agenda) phases ≡ phases
start_phases d answer agenda phases = refl

module _ (c t : ℕ) where
  -- phases of one client that stay where it is up, beside those of another
  phases_apart : (d : ℕ) (move : ClientMove) (answer : Answer) (o : Option (List ClientTask)) (phases : List (ℕ × ℕ))
      → ((agenda : List ClientTask) → phases_by d move answer (Some agenda) phases ≡ phases) → c ≢ d → has_open c t (phases_by d move answer o phases) ≡ has_open c t phases
  phases_apart d move answer None phases same apart = open_without c t d phases ∙ grind (arith, nat_tests, apart)
  phases_apart d move answer (Some agenda) phases same apart = ap (has_open c t) (same agenda)

  phases_up : (d : ℕ) (move : ClientMove) (s : ClientStep) (phases : List (ℕ × ℕ)) → ((agenda : List ClientTask) → phases_by d move s.answer (Some agenda) phases ≡ phases)
      → is_client_down (Some s.client) ≡ false → phases_by d move s.answer s.client.agenda phases ≡ phases
  phases_up d move s phases same up = go s.client.disk s.client.agenda up
    where
      go : (disk : ClientDisk) (o : Option (List ClientTask)) → is_client_down (Some (record { disk = disk; agenda = o })) ≡ false → phases_by d move s.answer o phases ≡ phases
      go disk None e = absurd (true≢false e)
      go disk (Some agenda) e = same agenda

  pub client_keeps : (w : World) (d : ℕ) (move : ClientMove) (shape : Shape) → IsPlainMove move → IsClosed c t w → Keeps c t w (move_client d move shape w).world
  client_keeps w d move shape plain is = go (client_at w d) refl
    where
      stays : (disk : ClientDisk) (o : Option (List ClientTask)) → is_client_down (Some (record { disk = disk; agenda = o })) ≡ true
          → is_client_down (Some (client_step d shape (record { disk = disk; agenda = o }) move).client) ≡ true
      stays disk None e = down_step d shape disk move plain
      stays disk (Some agenda) e = absurd (true≢false (sym e))

      go : (o : Option Client) → client_at w d ≡ o → Keeps c t w (move_there w d move shape o).world
      go None at = keeps_self c t w is
      go (Some node) at =
          let s : ClientStep = client_step d shape node move in
          step_keeps c t w d move node s is at (λ same e. stays node.disk node.agenda e)
          (λ up. phases_up d move s w.phases (λ agenda. plain_phases d move s.answer agenda w.phases plain) up)
          (λ apart. phases_apart d move s.answer s.client.agenda w.phases (λ agenda. plain_phases d move s.answer agenda w.phases plain) apart)

  -- a start of another client; one of this client, where it has no phase, begins none
  pub start_keeps : (w : World) (d : ℕ) (shape : Shape) → c ≢ d → IsClosed c t w → Keeps c t w (move_client d client.Start shape w).world
  start_keeps w d shape apart is = go (client_at w d) refl
    where
      go : (o : Option Client) → client_at w d ≡ o → Keeps c t w (move_there w d client.Start shape o).world
      go None at = keeps_self c t w is
      go (Some node) at =
          let s : ClientStep = client_step d shape node client.Start in
          step_keeps c t w d client.Start node s is at (λ same e. absurd (apart same))
          (λ up. phases_up d client.Start s w.phases (λ agenda. start_phases d s.answer agenda w.phases) up)
          (λ other. phases_apart d client.Start s.answer s.client.agenda w.phases (λ agenda. start_phases d s.answer agenda w.phases) other)

  pub start_opens_none : (w : World) (d : ℕ) (shape : Shape) → is_resolving w c t ≡ false → is_resolving (move_client d client.Start shape w).world c t ≡ false
  start_opens_none w d shape none = go (client_at w d)
    where
      by_agenda : (answer : Answer) (o : Option (List ClientTask)) → has_open c t (phases_by d client.Start answer o w.phases) ≡ false
      by_agenda answer None = open_without c t d w.phases ∙ grind (arith, none)
      by_agenda answer (Some agenda) = none

      go : (o : Option Client) → is_resolving (move_there w d client.Start shape o).world c t ≡ false
      go None = none
      go (Some node) = let s : ClientStep = client_step d shape node client.Start in by_agenda s.answer s.client.agenda

  -- ---- a client's work

  pub works_keep : (d : ℕ) (tasks : List ClientTask) (lucks : List Luck) (w : World) → IsClosed c t w → Keeps c t w (client_works d tasks lucks w).world
  works_keep d [] lucks w is = keeps_self c t w is
  works_keep d (task ∷ tasks) lucks w is =
      let v : World = (move_client d (client.Work (first_luck lucks)) no_shape w).world in
      let first : Keeps c t w v = client_keeps w d (client.Work (first_luck lucks)) no_shape tt is in
      keeps_then c t w v (client_works d tasks (other_lucks lucks) v).world first (works_keep d tasks (other_lucks lucks) v first.closed)

  pub client_follows_keeps : (d : ℕ) (lucks : List Luck) (w : World) → IsClosed c t w → Keeps c t w (client_follows d lucks w).world
  client_follows_keeps d lucks w is = go (has_node w.holds (nodes.Client d))
    where
      go : (held : Bool) → Keeps c t w (if held then still w else client_until_idle d lucks w).world
      go true = keeps_self c t w is
      go false = works_keep d (client_tasks (client_at w d)) lucks w is

  pub follows_from_keeps : (agenda : Option (List ClientTask)) (d : ℕ) (lucks : List Luck) (w : World) → IsClosed c t w → Keeps c t w (client_follows_from agenda d lucks w).world
  follows_from_keeps agenda d lucks w is = go (gets_tasks agenda w d)
    where
      go : (b : Bool) → Keeps c t w (if b then client_follows d lucks w else still w).world
      go true = client_follows_keeps d lucks w is
      go false = keeps_self c t w is

  pub client_writes_keep : (d : ℕ) (luck : Luck) (tasks : List ClientTask) (w : World) → IsClosed c t w → Keeps c t w (client_writes d luck tasks w).world
  client_writes_keep d luck [] w is = keeps_self c t w is
  client_writes_keep d luck (task ∷ tasks) w is = client_keeps w d (client.Work luck) no_shape tt is

  resolve_by_keeps : (d table : ℕ) (by : resolvers.Stored) (shape : Shape) (pair : RowPair) (luck : Luck) (w : World) → IsClosed c t w → Keeps c t w (resolve_by d table by shape pair luck w).world
  resolve_by_keeps d table by shape pair messages.Done w is =
      client_keeps w d (client.Resolve table pair.row pair.version (chosen_of by pair.row (client_at w d) table)) shape tt is
  resolve_by_keeps d table by shape pair messages.FailedBefore w is = client_keeps w d (client.Crash messages.FailedBefore) no_shape tt is
  resolve_by_keeps d table by shape pair messages.FailedAfter w is = client_keeps w d (client.Crash messages.FailedBefore) no_shape tt is

  pub each_keeps : (d table : ℕ) (by : resolvers.Stored) (shapes : List Shape) (lucks : List Luck) (pairs : List RowPair) (w : World) → IsClosed c t w
      → Keeps c t w (resolve_each d table by shapes lucks pairs w).world
  each_keeps d table by shapes lucks [] w is = keeps_self c t w is
  each_keeps d table by shapes lucks (pair ∷ pairs) w is =
      let first : Moved = resolve_by d table by (first_shape shapes) pair (first_luck lucks) w in
      let more : List Luck = drop (1 + plan_size d first.world) lucks in
      let worked : Moved = and_unless first (client_until_idle d (other_lucks lucks)) in
      keeps_unless c t w worked (resolve_each d table by (other_shapes shapes) more pairs)
      (keeps_unless c t w first (client_until_idle d (other_lucks lucks)) (resolve_by_keeps d table by (first_shape shapes) pair (first_luck lucks) w is)
      (λ now. works_keep d (client_tasks (client_at first.world d)) (other_lucks lucks) first.world now))
      (λ now. each_keeps d table by (other_shapes shapes) more pairs worked.world now)
