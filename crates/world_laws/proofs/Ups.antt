-- Where a Store isn't down, each of its tables is up.
use Rattle.std.proofs.Common.{◌≡◌, ◌≢◌, ◌⊎◌, inl, inr, ℕ, zero, suc, Bool, true, false, List, [], ◌∷◌, length, Option, Some, None, refl, sym, ap, ◌∙◌, subst, arith, ⊎_elim, true≢false}
use Rattle.std.specs.Prelude.{◌+◌, ◌==◌, ◌&&◌, ◌||◌, nat_lt, drop, slice_get, if◌then◌else◌}
use Rattle.std.proofs.lemmas.Bool.Decides.{nat_tests}
use Rattle.stab_base.specs.declared.node.Node.{Node}
use Rattle.stab_base.specs.declared.node.Node.TheVariants as nodes
use Rattle.row_value.specs.declared.schema.Schema.{Schema}
use Rattle.row_value.specs.declared.schema.Scheme.{Scheme}
use Rattle.table_model.specs.declared.event.Event.{Event}
use Rattle.table_model.specs.declared.event.Event.TheVariants as events
use Rattle.table_model.specs.declared.table_state.TableState.{TableState}
use Rattle.table_model.specs.declared.table_state.TableState.TheVariants as states
use Rattle.conflicts.specs.declared.stored.Stored.{Stored}
use Rattle.table_model.specs.declared.line.RowPair.{RowPair}
use Rattle.step_tables.specs.Store as items
use Rattle.step_tables.specs.Store.{current_of}
use Rattle.step_tables.specs.Facts.{Answer}
use Rattle.step_tables.specs.Facts as facts
use Rattle.step_tables.specs.Members.{Among}
use Rattle.step_tables.specs.Messages.{Request, Pair, Message, Luck, SyncRequest, SyncResponse, PullRequest, PullResponse, TornRowRequest, TornRowResponse, table_of}
use Rattle.step_tables.specs.Messages as messages
use Rattle.step_tables.specs.Chunks.{is_spelled}
use Rattle.step_tables.specs.StoreMoves as store
use Rattle.step_tables.specs.StoreMoves.{StoreDisk, StoreTask, StoreMove, StoreStep, SidePut}
use Rattle.step_tables.specs.ClientMoves as client
use Rattle.step_tables.specs.ClientMoves.{Client, ClientTask, ClientMove, Shape, no_shape}
use Rattle.step_tables.proofs.Lists.{among_none, among_cons}
use Rattle.world_tables.specs.World.{client_until_idle, client_writes, starts_by, client_starts, client_falls, Lucks, with_link, linked, call, listed, resolve_by, resolve_each}
use Rattle.world_tables.specs.World.{resolve_all, chosen_of, client_pairs, first_shape, other_shapes, plan_size, has_store, hosted_by, joining, owner_by, owner_of, with_store}
use Rattle.world_tables.specs.World.{World, Packet, Hosted, Moved, WorldStep, start, schema_at, hosted_at, client_at, scheme_in, chunk_in, tables_of, has_node}
use Rattle.world_tables.specs.World.{is_down, still, and_then, and_unless, is_fault}
use Rattle.world_tables.specs.World.{history_on, after_table, table_step, move_hosted, move_table, move_client, first_luck, other_lucks, client_tasks, client_follows}
use Rattle.world_tables.specs.World.{tables_fall, without_down, store_falls, is_at_work, busy_table, write_next, store_works, tasks_of, store_until_idle, store_follows}
use Rattle.world_tables.specs.World.{table_follows}
use Rattle.world_tables.specs.World.{declared_late, start_hosted, table_starts, tables_start, store_starts, crash_luck, table_crashes, store_crashes}
use Rattle.world_tables.specs.World.{answering, answered, refused, unless_down, agenda_of, new_hosted, with_table, declared, joined, gets_tasks, puts_beside, opens, created, dropped}
use Rattle.world_tables.specs.World.{call_there, take_read, take_at, to_hosted, to_there, carried, delivered, row_read, store_shows, chunk_names, history_lines, worked, all_worked, crashed}
use Rattle.world_tables.specs.World.{started, step}
use Rattle.world_laws.proofs.Looks.{look_cases}
use Rattle.world_laws.proofs.Calls.{call_is}
use Rattle.world_laws.proofs.Owners.{IsBeside, owners_stay, beside_same, beside_then, up_beside, move_beside, store_falls_beside, begins_beside, busy_owned}
use Rattle.world_laws.proofs.Owners.{IsSameStores, client_stores, client_works_stores, client_follows_stores, client_writes_stores, same_or_other, joined_owner, among_tables, up_store, owner_made}

abbrev pub IsUpAt : Option (List StoreTask) → Type 0
IsUpAt o = (agenda : List StoreTask) × (o ≡ Some agenda)

-- where neither a crash nor a disk has taken its owner down, a table that is made is up
abbrev pub IsUp : World → Type 0
IsUp w = (table : ℕ) (hosted : Hosted) → hosted_at w table ≡ Some hosted → hosted.made ≡ true → has_node w.downs (nodes.Store (owner_of w table)) ≡ false → IsUpAt hosted.store.agenda

-- a table whose owner isn't down is made, and is up
pub up_there : (w : World) → IsUp w → (table : ℕ) (hosted : Hosted) → hosted_at w table ≡ Some hosted → is_down w (nodes.Store (owner_of w table)) ≡ false
    → (hosted.made ≡ true) × IsUpAt hosted.store.agenda
up_there w up table hosted at is =
    let made : hosted.made ≡ true = owner_made w table hosted at is in
    (made, up table hosted at made (up_store w (owner_of w table) is).1)

pub start_up : IsUp start
start_up table hosted at made is = absurd cc

-- ---- a table's moves

module _ (x : Scheme) (size table : ℕ) (d : StoreDisk) where
  judged_up : (from : Node) (q : Request) (current : ℕ) → IsUpAt (store.judged x size table d from q current).store.agenda
  judged_up from q current = go (store.takes x q.base current && store.keeps_there size d.items q)
    where
      go : (b : Bool) → IsUpAt (if b then store.quiet d (Some (store.accepting size table d.items from q (store.item_for d.items q))) facts.Done
          else store.sending d (store.responded from q (store.unaccepted x q.base current) ∷ [])).store.agenda
      go true = (_, refl)
      go false = ([], refl)

  decided_up : (from : Node) (q : Request) (yours : Pair) → IsUpAt (store.decided x size table d from q yours).store.agenda
  decided_up from q yours = go (yours.number == q.number) (nat_lt q.number yours.number)
    where
      go : (a b : Bool) → IsUpAt (if a then store.sending d (store.responded from q (messages.Again yours.version) ∷ [])
          else (if b then store.sending d (store.responded from q (messages.Late yours.number) ∷ [])
          else store.judged x size table d from q (store.version_of (current_of d.items q.row)))).store.agenda
      go true b = ([], refl)
      go false true = ([], refl)
      go false false = judged_up from q (store.version_of (current_of d.items q.row))

  asked_up : (from : Node) (q : Request) → IsUpAt (store.asked x size table d from q).store.agenda
  asked_up from q = go (is_spelled size q.content q.pieces)
    where
      go : (b : Bool) → IsUpAt (if b then store.decided x size table d from q (store.yours_in d.items q.client q.row) else store.quiet d (Some []) facts.Done).store.agenda
      go true = decided_up from q (store.yours_in d.items q.client q.row)
      go false = ([], refl)

  taken_up : (agenda : List StoreTask) (from : Node) (m : Message) → IsUpAt (store.taken x size table d (Some agenda) from m).store.agenda
  taken_up (task ∷ more) from m = (task ∷ more, refl)
  taken_up [] from (SyncRequest q) = asked_up from q
  taken_up [] from (PullRequest q) = ([], refl)
  taken_up [] from (SyncResponse q) = ([], refl)
  taken_up [] from (PullResponse q) = ([], refl)
  taken_up [] from (TornRowRequest q) = ([], refl)
  taken_up [] from (TornRowResponse q) = ([], refl)

  placed_at : (o : Option (List StoreTask)) → IsUpAt o → (put : SidePut) → IsUpAt (store.placed table d o put).store.agenda
  placed_at None up put = absurd (let e = up.1 in cc)
  placed_at (Some (task ∷ more)) up put = (task ∷ more, refl)
  placed_at (Some []) up put = (_, refl)

  worked_up : (agenda : List StoreTask) (luck : Luck) → is_fault (store.worked d (Some agenda) luck).answer ≡ false → IsUpAt (store.worked d (Some agenda) luck).store.agenda
  worked_up [] messages.Done fine = ([], refl)
  worked_up (task ∷ more) messages.Done fine = (more, refl)
  worked_up agenda messages.FailedBefore fine = absurd cc
  worked_up agenda messages.FailedAfter fine = absurd cc

  taken_at : (o : Option (List StoreTask)) → IsUpAt o → (from : Node) (m : Message) → IsUpAt (store.taken x size table d o from m).store.agenda
  taken_at None up from m = absurd (let e = up.1 in cc)
  taken_at (Some agenda) up from m = taken_up agenda from m

  worked_at : (o : Option (List StoreTask)) → IsUpAt o → (luck : Luck) → is_fault (store.worked d o luck).answer ≡ false → IsUpAt (store.worked d o luck).store.agenda
  worked_at None up luck fine = absurd (let e = up.1 in cc)
  worked_at (Some agenda) up luck fine = worked_up agenda luck fine

  -- a table that is started is up
  started_at : (node : ℕ) (o : Option (List StoreTask)) → IsUpAt (store.started node table d o).store.agenda
  started_at node (Some agenda) = (agenda, refl)
  started_at node None = recover d.pending
    where
      found : (pending : items.Stored) (i : Option items.Stored) → IsUpAt (store.recovered node table d pending i).store.agenda
      found pending None = (_, refl)
      found pending (Some i) = (_, refl)

      recover : (o : Option items.Stored) → IsUpAt (store.recover node table d o).store.agenda
      recover None = (_, refl)
      recover (Some pending) = found pending (store.item_at pending.entry.version d.items)

-- behind a step of a table
after_up : (w : World) (table : ℕ) (hosted : Hosted) (s : StoreStep) → (hosted.made ≡ true → has_node w.downs (nodes.Store (owner_of w table)) ≡ false → IsUpAt s.store.agenda)
    → (q : ℕ) (found : Hosted) → hosted_at (after_table w table hosted s).world q ≡ Some found
    → (found.made ≡ true → has_node w.downs (nodes.Store (owner_of w q)) ≡ false → IsUpAt found.store.agenda) ⊎ ((q ≢ table) × (hosted_at w q ≡ Some found))
after_up w table hosted s up q found at = ⊎_elim
    (λ e.
    let both : Some new ≡ Some found = sym e.1 ∙ at in
    let same : new ≡ found = cc in
    inl (subst (λ (y : Hosted). y.made ≡ true → has_node w.downs (nodes.Store (owner_of w q)) ≡ false → IsUpAt y.store.agenda) same
    (λ made is. up made (ap (λ (n : ℕ). has_node w.downs (nodes.Store (owner_of w n))) (sym e.0) ∙ is))))
    (λ e. inr (e.0, sym e.1 ∙ at)) (look_cases w.tables table new q)
  where
    new : Hosted
    new = record { store = s.store; history = history_on hosted.history s.facts; made = hosted.made }

move_up : (w : World) (table : ℕ) (move : StoreMove)
    → ((hosted : Hosted) → hosted_at w table ≡ Some hosted → IsUpAt hosted.store.agenda → IsUpAt (table_step w table hosted move).store.agenda) → IsUp w → IsUp (move_table table move w).world
move_up w table move f up = go (hosted_at w table) refl
  where
    go : (o : Option Hosted) → hosted_at w table ≡ o → IsUp (move_hosted w table move o).world
    go None at = up
    go (Some hosted) at = λ q found there made is. ⊎_elim (λ e. e made is) (λ e. up q found e.1 made is)
        (after_up w table hosted (table_step w table hosted move) (λ m i. f hosted at (up table hosted at m i)) q found there)

take_up : (w : World) (table : ℕ) (from : Node) (m : Message) → IsUp w → IsUp (move_table table (store.Take from m) w).world
take_up w table from m up = move_up w table (store.Take from m)
    (λ hosted at is. taken_at (scheme_in (schema_at w table)) (chunk_in (schema_at w table)) table hosted.store.disk hosted.store.agenda is from m) up

place_up : (w : World) (table : ℕ) (put : SidePut) → IsUp w → IsUp (move_table table (store.Place put) w).world
place_up w table put up = move_up w table (store.Place put)
    (λ hosted at is. placed_at (scheme_in (schema_at w table)) (chunk_in (schema_at w table)) table hosted.store.disk hosted.store.agenda is put) up

work_up : (w : World) (table : ℕ) (luck : Luck) → (move_table table (store.Work luck) w).failed ≡ false → IsUp w → IsUp (move_table table (store.Work luck) w).world
work_up w table luck fine up = move_up w table (store.Work luck)
    (λ hosted at is. worked_at (scheme_in (schema_at w table)) (chunk_in (schema_at w table)) table hosted.store.disk hosted.store.agenda is luck
    (subst (λ (o : Option Hosted). (move_hosted w table (store.Work luck) o).failed ≡ false) at fine)) up

-- ---- a Store's work

-- behind moves of a Store the tables of the others are up where they were, and its own are known
beside_up : (node : ℕ) (w v : World) → IsBeside node w v → IsUp w
    → ((q : ℕ) (hosted : Hosted) → hosted_at v q ≡ Some hosted → owner_of v q ≡ node → hosted.made ≡ true → has_node v.downs (nodes.Store node) ≡ false → IsUpAt hosted.store.agenda) → IsUp v
beside_up node w v b up own q hosted at made is = ⊎_elim
    (λ e. own q hosted at e made (ap (λ (n : ℕ). has_node v.downs (nodes.Store n)) (sym e) ∙ is))
    (λ apart.
    let same : owner_of v q ≡ owner_of w q = owners_stay node w v b q in
    up q hosted (sym (b.others q (λ e. apart (same ∙ e))) ∙ at) made
    (ap (λ (n : ℕ). has_node w.downs (nodes.Store n)) (sym same) ∙ (sym (b.downs (owner_of v q) apart) ∙ is)))
    (same_or_other (owner_of v q) node)

-- a Store that has fallen is down
fallen_up : (node : ℕ) (w v : World) → IsBeside node w v → IsUp w → IsUp (store_falls node v).world
fallen_up node w v b up = beside_up node w (store_falls node v).world (beside_then node w v (store_falls node v).world b (store_falls_beside node v)) up
    (λ q hosted at own made is. absurd (grind (arith, nat_tests, is)))

store_fallen_up : (node : ℕ) (w : World) → IsUp w → IsUp (store_falls node w).world
store_fallen_up node w up = fallen_up node w w (beside_same node w) up

either_false : (a b : Bool) → (a || b) ≡ false → (a ≡ false) × (b ≡ false)
either_false true b e = absurd cc
either_false false b e = (refl, e)

unless_up : (m : Moved) (f : World → Moved) → IsUp m.world → (m.failed ≡ false → IsUp (f m.world).world) → IsUp (and_unless m f).world
unless_up m f a b = go m.failed refl
  where
    go : (failed : Bool) → m.failed ≡ failed → IsUp (if failed then m else and_then m f).world
    go true is = a
    go false is = b is

next_up : (node : ℕ) (luck : Luck) (w : World) → IsUp w → IsUp (write_next node luck (busy_table w node) w).world
next_up node luck w up = go (busy_table w node) refl
  where
    go : (o : Option ℕ) → busy_table w node ≡ o → IsUp (write_next node luck o w).world
    go None is = up
    go (Some table) is = by_fault m.failed refl
      where
        m : Moved
        m = move_table table (store.Work luck) w

        beside : IsBeside node w m.world
        beside = subst (λ (n : ℕ). IsBeside n w m.world) (busy_owned node w table is) (move_beside w table (store.Work luck))

        by_fault : (failed : Bool) → m.failed ≡ failed → IsUp (if failed then and_then m (store_falls node) else m).world
        by_fault true bad = fallen_up node w m.world beside up
        by_fault false fine = work_up w table luck fine up

works_up : (node count : ℕ) (lucks : List Luck) (w : World) → IsUp w → IsUp (store_works node count lucks w).world
works_up node zero lucks w up = up
works_up node (suc more) lucks w up =
    let m : Moved = write_next node (first_luck lucks) (busy_table w node) w in
    let first : IsUp m.world = next_up node (first_luck lucks) w up in
    unless_up m (store_works node more (other_lucks lucks)) first (λ fine. works_up node more (other_lucks lucks) m.world first)

follows_up : (node : ℕ) (lucks : List Luck) (w : World) → IsUp w → IsUp (store_follows node lucks w).world
follows_up node lucks w up = go (has_node w.holds (nodes.Store node))
  where
    go : (held : Bool) → IsUp (if held then still w else store_until_idle node lucks w).world
    go true = up
    go false = works_up node (length (tasks_of w node)) lucks w up

table_follows_up : (table : ℕ) (lucks : List Luck) (w : World) → IsUp w → IsUp (table_follows table lucks w).world
table_follows_up table lucks w up = go (is_at_work w table)
  where
    go : (busy : Bool) → IsUp (if busy then store_follows (owner_of w table) lucks w else still w).world
    go true = follows_up (owner_of w table) lucks w up
    go false = up

-- ---- crashes and starts

crash_up : (node calls : ℕ) (lucks : List Luck) (w : World) → IsUp w → IsUp (store_crashes node calls lucks w).world
crash_up node calls lucks w up = go (busy_table w node) refl
  where
    luck : Luck
    luck = crash_luck calls (other_lucks lucks) (first_luck lucks)

    go : (o : Option ℕ) → busy_table w node ≡ o → IsUp (and_then (table_crashes luck o w) (store_falls node)).world
    go None is = store_fallen_up node w up
    go (Some table) is = fallen_up node w (move_table table (store.Crash luck) w).world
        (subst (λ (n : ℕ). IsBeside n w (move_table table (store.Crash luck) w).world) (busy_owned node w table is) (move_beside w table (store.Crash luck))) up

module _ (P : ℕ → Type 0) where
  -- each table of these is among those to be started
  abbrev AreAll : World → List ℕ → Type 0
  AreAll w tables = (q : ℕ) (hosted : Hosted) → hosted_at w q ≡ Some hosted → P q → Among tables q

  move_all : (w : World) (table : ℕ) (move : StoreMove) (tables : List ℕ) → AreAll w tables → AreAll (move_table table move w).world tables
  move_all w table move tables all = go (hosted_at w table) refl
    where
      go : (o : Option Hosted) → hosted_at w table ≡ o → AreAll (move_hosted w table move o).world tables
      go None at = all
      go (Some hosted) at = λ q found there p. ⊎_elim (λ e. all q hosted (ap (hosted_at w) e.0 ∙ at) p) (λ e. all q found (sym e.1 ∙ there) p)
          (look_cases w.tables table (new (table_step w table hosted move)) q)
        where
          new : StoreStep → Hosted
          new s = record { store = s.store; history = history_on hosted.history s.facts; made = hosted.made }

  falls_all : (some : List ℕ) (w : World) (tables : List ℕ) → AreAll w tables → AreAll (tables_fall some w).world tables
  falls_all [] w tables all = all
  falls_all (table ∷ some) w tables all = falls_all some (move_table table (store.Crash messages.FailedBefore) w).world tables (move_all w table (store.Crash messages.FailedBefore) tables all)

  -- each of them is up, or is still to be started
  abbrev Awaits : World → List ℕ → Type 0
  Awaits w tables = (q : ℕ) (hosted : Hosted) → hosted_at w q ≡ Some hosted → P q → IsUpAt hosted.store.agenda ⊎ Among tables q

  start_awaits : (w : World) (table : ℕ) (tables : List ℕ) → Awaits w (table ∷ tables) → Awaits (start_hosted w table (hosted_at w table)).world tables
  start_awaits w table tables a = go (hosted_at w table) refl
    where
      later : (q : ℕ) (hosted : Hosted) → (q ≢ table) → hosted_at w q ≡ Some hosted → P q → IsUpAt hosted.store.agenda ⊎ Among tables q
      later q hosted apart at p = ⊎_elim (λ up. inl up) (λ b. ⊎_elim (λ e. absurd (apart (sym e))) (λ d. inr d) (among_cons table tables q b)) (a q hosted at p)

      behind : (hosted : Hosted) (s : StoreStep) → IsUpAt s.store.agenda → Awaits (after_table w table hosted s).world tables
      behind hosted s up q found at p = ⊎_elim
          (λ e. let both : Some new ≡ Some found = sym e.1 ∙ at in let same : new ≡ found = cc in inl (subst (λ (y : Hosted). IsUpAt y.store.agenda) same up))
          (λ e. later q found e.0 (sym e.1 ∙ at) p) (look_cases w.tables table new q)
        where
          new : Hosted
          new = record { store = s.store; history = history_on hosted.history s.facts; made = hosted.made }

      go : (o : Option Hosted) → hosted_at w table ≡ o → Awaits (start_hosted w table o).world tables
      go None is = λ q hosted at p. ⊎_elim (λ up. inl up)
          (λ b. ⊎_elim (λ e. absurd (let both : None ≡ Some hosted = sym is ∙ (ap (hosted_at w) e ∙ at) in cc)) (λ d. inr d) (among_cons table tables q b)) (a q hosted at p)
      go (Some hosted) is = made hosted.made
        where
          started : Awaits (move_hosted w table store.Start (Some hosted)).world tables
          started = behind hosted (table_step w table hosted store.Start)
              (started_at (scheme_in (schema_at w table)) (chunk_in (schema_at w table)) table hosted.store.disk (owner_of w table) hosted.store.agenda)

          made : (b : Bool) → Awaits (if b then move_table table store.Start w
              else after_table w table (record hosted { made = true }) (declared_late (owner_of w table) table hosted.store.disk.state)).world tables
          made true = subst (λ (o : Option Hosted). Awaits (move_hosted w table store.Start o).world tables) (sym is) started
          made false = behind (record hosted { made = true }) (declared_late (owner_of w table) table hosted.store.disk.state) ([], refl)

  tables_up : (tables : List ℕ) (lucks : List Luck) (w : World) → Awaits w tables → (tables_start tables lucks w).failed ≡ false
      → (q : ℕ) (hosted : Hosted) → hosted_at (tables_start tables lucks w).world q ≡ Some hosted → P q → IsUpAt hosted.store.agenda
  tables_up [] lucks w a fine = λ q hosted at p. ⊎_elim (λ up. up) (λ b. absurd (among_none q b)) (a q hosted at p)
  tables_up (table ∷ tables) lucks w a fine = go (λ v b safe. tables_up tables (other_lucks lucks) v b safe) (first_luck lucks) fine
    where
      rest : Moved → Moved
      rest m = and_unless m (tables_start tables (other_lucks lucks))

      AllUp : World → Type 0
      AllUp v = (q : ℕ) (hosted : Hosted) → hosted_at v q ≡ Some hosted → P q → IsUpAt hosted.store.agenda

      go : ((v : World) → Awaits v tables → (tables_start tables (other_lucks lucks) v).failed ≡ false → AllUp (tables_start tables (other_lucks lucks) v).world)
          → (luck : Luck) → (rest (table_starts table luck w)).failed ≡ false → AllUp (rest (table_starts table luck w)).world
      go on_from messages.FailedBefore safe = absurd cc
      go on_from messages.FailedAfter safe = absurd cc
      go on_from messages.Done safe = on (start_hosted w table (hosted_at w table)).failed refl safe
        where
          m : Moved
          m = start_hosted w table (hosted_at w table)

          on : (b : Bool) → m.failed ≡ b → (if b then m else and_then m (tables_start tables (other_lucks lucks))).failed ≡ false
              → AllUp (if b then m else and_then m (tables_start tables (other_lucks lucks))).world
          on true is safe_here = absurd (true≢false (sym is ∙ safe_here))
          on false is safe_here = on_from m.world (start_awaits w table tables a)
              (sym (ap (λ (b : Bool). b || (tables_start tables (other_lucks lucks) m.world).failed) is) ∙ safe_here)

starts_up : (node : ℕ) (lucks : List Luck) (w : World) → has_store w node ≡ true → IsUp w → IsUp (store_starts node lucks w).world
starts_up node lucks w has up = go m.failed refl
  where
    tables : List ℕ
    tables = tables_of w node

    fallen : World
    fallen = (tables_fall tables w).world

    m : Moved
    m = and_then (tables_fall tables w) (tables_start tables lucks)

    beside : IsBeside node w m.world
    beside = begins_beside node lucks w

    Own : ℕ → Type 0
    Own q = owner_of w q ≡ node

    started : (tables_start tables lucks fallen).failed ≡ false → (q : ℕ) (hosted : Hosted) → hosted_at m.world q ≡ Some hosted → Own q → IsUpAt hosted.store.agenda
    started fine = tables_up Own tables lucks fallen (λ q hosted at own. inr (falls_all Own tables w tables (λ t x there mine. among_tables w node t x has mine there) q hosted at own)) fine

    go : (b : Bool) → m.failed ≡ b
        → IsUp (if b then and_then m (store_falls node) else and_then m (λ x. store_follows node (drop (length tables) lucks) (without_down (nodes.Store node) x))).world
    go true is = fallen_up node w m.world beside up
    go false is =
        let v : World = without_down (nodes.Store node) m.world in
        follows_up node (drop (length tables) lucks) v (beside_up node w v (beside_then node w m.world v beside (up_beside node m.world)) up
        (λ q hosted at own made up_now. started (either_false (tables_fall tables w).failed (tables_start tables lucks fallen).failed is).1
        q hosted at (sym (owners_stay node w m.world beside q) ∙ own)))

-- ---- clients

same_up : (w v : World) → IsSameStores w v → IsUp w → IsUp v
same_up w v e up = subst (λ (stores : List ℕ). IsUp (record v { stores = stores })) (sym e.stores)
    (subst (λ (some : List (ℕ × Schema)). IsUp (record v { stores = w.stores; schemas = some })) (sym e.schemas)
    (subst (λ (some : List (ℕ × Hosted)). IsUp (record v { stores = w.stores; schemas = w.schemas; tables = some })) (sym e.tables)
    (subst (λ (downs : List Node). IsUp (record v { stores = w.stores; schemas = w.schemas; tables = w.tables; downs = downs })) (sym e.downs) up)))

-- ---- events

unless_down_up : (w : World) (node : Node) (s : WorldStep) → IsUp w → IsUp s.world → IsUp (unless_down w node s).world
unless_down_up w node s up then_up = go (is_down w node)
  where
    go : (b : Bool) → IsUp (if b then refused w (facts.NodeDown node) else s).world
    go true = up
    go false = then_up

call_up : (w : World) (c : ℕ) (move : ClientMove) (shape : Shape) (lucks : List Luck) → IsUp w → (o : Option Client) → client_at w c ≡ o
    → IsUp (call_there w c move shape lucks o).world
call_up w c move shape lucks up o at =
    call_is (λ (x : WorldStep). IsUp x.world) w c move shape lucks (λ r before. up)
    (same_up w (client_falls c w).world (client_stores w c (client.Crash messages.FailedBefore) no_shape) up) (λ take. up)
    (λ node is. follows (gets_tasks node.agenda (move_client c move shape w).world c)) o at
  where
    first : IsUp (move_client c move shape w).world
    first = same_up w (move_client c move shape w).world (client_stores w c move shape) up

    follows : (b : Bool) → IsUp (if b then client_follows c (other_lucks lucks) (move_client c move shape w).world else still (move_client c move shape w).world).world
    follows true =
        let v : World = (move_client c move shape w).world in
        same_up v (client_follows c (other_lucks lucks) v).world (client_follows_stores c (other_lucks lucks) v) first
    follows false = first

-- a client's event
event_up : (w : World) (c : ℕ) (move : ClientMove) (shape : Shape) (lucks : List Luck) → IsUp w → IsUp (call w c move shape lucks).world
event_up w c move shape lucks up = call_up w c move shape lucks up (client_at w c) refl

-- the rows in conflict that are listed change nothing
listed_up : (s : WorldStep) → IsUp s.world → IsUp (listed s).world
listed_up s up = go s.answer
  where
    go : (o : Option Answer) → IsUp (listed (record s { answer = o })).world
    go None = up
    go (Some facts.Done) = up
    go (Some (facts.Number n)) = up
    go (Some (facts.Shows y)) = up
    go (Some (facts.Sums y)) = up
    go (Some (facts.Stores v y)) = up
    go (Some (facts.Did y)) = up
    go (Some (facts.Names y)) = up
    go (Some (facts.Pairs pairs)) = up
    go (Some (facts.Refuses r)) = up

client_unless_up : (m : Moved) (f : World → Moved) → IsUp m.world → (IsUp m.world → IsUp (f m.world).world) → IsUp (and_unless m f).world
client_unless_up m f a b = unless_up m f a (λ is. b a)

-- each row in conflict is resolved
resolve_by_up : (c table : ℕ) (by : Stored) (shape : Shape) (pair : RowPair) (luck : Luck) (w : World) → IsUp w → IsUp (resolve_by c table by shape pair luck w).world
resolve_by_up c table by shape pair messages.Done w up =
    let move : ClientMove = client.Resolve table pair.row pair.version (chosen_of by pair.row (client_at w c) table) in
    same_up w (move_client c move shape w).world (client_stores w c move shape) up
resolve_by_up c table by shape pair messages.FailedBefore w up = same_up w (client_falls c w).world (client_stores w c (client.Crash messages.FailedBefore) no_shape) up
resolve_by_up c table by shape pair messages.FailedAfter w up = same_up w (client_falls c w).world (client_stores w c (client.Crash messages.FailedBefore) no_shape) up

resolve_each_up : (c table : ℕ) (by : Stored) (shapes : List Shape) (lucks : List Luck) (pairs : List RowPair) (w : World) → IsUp w
    → IsUp (resolve_each c table by shapes lucks pairs w).world
resolve_each_up c table by shapes lucks [] w up = up
resolve_each_up c table by shapes lucks (pair ∷ pairs) w up =
    let first : Moved = resolve_by c table by (first_shape shapes) pair (first_luck lucks) w in
    let more : List Luck = drop (1 + plan_size c first.world) lucks in
    client_unless_up (and_unless first (client_until_idle c (other_lucks lucks))) (resolve_each c table by (other_shapes shapes) more pairs)
    (client_unless_up first (client_until_idle c (other_lucks lucks)) (resolve_by_up c table by (first_shape shapes) pair (first_luck lucks) w up)
    (λ there. same_up first.world (client_until_idle c (other_lucks lucks) first.world).world (client_works_stores c (client_tasks (client_at first.world c)) (other_lucks lucks) first.world) there))
    (λ there. resolve_each_up c table by (other_shapes shapes) more pairs (and_unless first (client_until_idle c (other_lucks lucks))).world there)

resolve_all_up : (w : World) (c table : ℕ) (by : Stored) (shapes : List Shape) (lucks : List Luck) → IsUp w → (s : WorldStep) → IsUp s.world
    → IsUp (resolve_all w c table by shapes lucks s).world
resolve_all_up w c table by shapes lucks up s there = go s.answer
  where
    go : (o : Option Answer) → IsUp (resolve_all w c table by shapes lucks (record s { answer = o })).world
    go None = there
    go (Some facts.Done) = there
    go (Some (facts.Number n)) = resolve_each_up c table by shapes lucks (client_pairs (client_at w c) table) w up
    go (Some (facts.Shows y)) = there
    go (Some (facts.Sums y)) = there
    go (Some (facts.Stores v y)) = there
    go (Some (facts.Did y)) = there
    go (Some (facts.Names y)) = there
    go (Some (facts.Pairs pairs)) = there
    go (Some (facts.Refuses r)) = there

hosted_up : (w : World) (table : ℕ) (move : StoreMove) (lucks : List Luck) → IsUp w → IsUp (move_table table move w).world → (o : Option Hosted)
    → IsUp (to_hosted w table move lucks o).world
hosted_up w table move lucks up first None = up
hosted_up w table move lucks up first (Some hosted) = go hosted.store.agenda
  where
    reads : (luck : Luck) → IsUp (take_read w table hosted move (other_lucks lucks) luck).world
    reads messages.FailedBefore = store_fallen_up (owner_of w table) w up
    reads messages.FailedAfter = store_fallen_up (owner_of w table) w up
    reads messages.Done = table_follows_up table (other_lucks lucks) (move_table table move w).world first

    go : (o : Option (List StoreTask)) → IsUp (take_at w table hosted move lucks o).world
    go None = first
    go (Some (task ∷ more)) = first
    go (Some []) = reads (first_luck lucks)

carried_up : (w : World) (p : Packet) (shape : Shape) (lucks : List Luck) → IsUp w → (to : Node) → IsUp (carried w p shape lucks to).world
carried_up w p shape lucks up (nodes.Store number) = unless_down_up w (nodes.Store number) _ up
    (hosted_up w (table_of p.message) (store.Take p.from p.message) lucks up (take_up w (table_of p.message) p.from p.message up) (hosted_by w number (table_of p.message)))
carried_up w p shape lucks up (nodes.Gate gate) = up
carried_up w p shape lucks up (nodes.Client c) = go (client_at w c) refl
  where
    go : (o : Option Client) → client_at w c ≡ o → IsUp (to_there w c p.message shape lucks o).world
    go None at = up
    go (Some node) at = call_up w c (client.Take p.message) shape lucks up (Some node) at

delivered_up : (w : World) (shape : Shape) (lucks : List Luck) → IsUp w → (o : Option Packet) → IsUp (delivered w shape lucks o).world
delivered_up w shape lucks up None = up
delivered_up w shape lucks up (Some p) = carried_up w p shape lucks up p.to

shows_up : (w : World) (table : ℕ) (row : List ℕ) (lucks : List Luck) → IsUp w → (o : Option Hosted) → IsUp (store_shows w table row lucks o).world
shows_up w table row lucks up None = up
shows_up w table row lucks up (Some hosted) = unless_down_up w (nodes.Store (owner_of w table)) _ up (read (first_luck lucks))
  where
    read : (luck : Luck) → IsUp (row_read w table hosted row luck).world
    read messages.Done = up
    read messages.FailedBefore = store_fallen_up (owner_of w table) w up
    read messages.FailedAfter = store_fallen_up (owner_of w table) w up

history_up : (w : World) (table : ℕ) → IsUp w → (o : Option Hosted) → IsUp (history_lines w table o).world
history_up w table up None = up
history_up w table up (Some hosted) = up

chunks_up : (w : World) (table : ℕ) → IsUp w → (o : Option Hosted) → IsUp (chunk_names w table o).world
chunks_up w table up None = up
chunks_up w table up (Some hosted) = unless_down_up w (nodes.Store (owner_of w table)) _ up up

-- a new table that is made is up
with_table_up : (w : World) (table : ℕ) (schema : Schema) (state : TableState) (made : Bool) → IsUp w → hosted_at w table ≡ None → IsUp (with_table w table schema state made)
with_table_up w table schema state made up none q found at is_made is = ⊎_elim
    (λ e.
    let both : Some new ≡ Some found = sym e.1 ∙ at in
    let same : new ≡ found = cc in
    subst (λ (y : Hosted). IsUpAt y.store.agenda) same ([], ap agenda_of (ap (λ (y : Hosted). y.made) same ∙ is_made)))
    (λ e. up q found (sym e.1 ∙ at) is_made (ap (λ (o : Option Schema). has_node w.downs (nodes.Store (owner_by w.stores o))) (sym (schema_stays q e.0)) ∙ is))
    (look_cases w.tables table new q)
  where
    new : Hosted
    new = new_hosted state made

    schema_stays : (other : ℕ) → other ≢ table → schema_at (with_table w table schema state made) other ≡ schema_at w other
    schema_stays other apart = ⊎_elim (λ e. absurd (apart e.0)) (λ e. e.1) (look_cases w.schemas table schema other)

declared_up : (w : World) (table : ℕ) (schema : Schema) (state : TableState) (luck : Luck) → IsUp w → (o : Option Hosted) → hosted_at w table ≡ o
    → IsUp (declared w table schema state luck o)
declared_up w table schema state luck up (Some hosted) at = up
declared_up w table schema state messages.Done up None at = with_table_up w table schema state true up at
declared_up w table schema state messages.FailedBefore up None at = with_table_up w table schema state false up at
declared_up w table schema state messages.FailedAfter up None at = with_table_up w table schema state false up at

-- a Store that joins takes tables only where it isn't down, and then no Store is
with_store_up : (number : ℕ) (w : World) → IsUp w → IsUp (with_store number w)
with_store_up number w up q found at made is = go w.downs refl (joined_owner number w.stores (schema_at w q))
  where
    new : ℕ
    new = owner_of (with_store number w) q

    go : (downs : List Node) → w.downs ≡ downs → (new ≡ number) ⊎ (new ≡ owner_of w q) → IsUpAt found.store.agenda
    go [] none h = up q found at made (ap (λ (some : List Node). has_node some (nodes.Store (owner_of w q))) none)
    go (first ∷ more) some (inl mine) = absurd (grind (arith, nat_tests, mine, down))
      where
        down : (new == number) ≡ false
        down = let here : ((new == number) || has_node (first ∷ more) (nodes.Store new)) ≡ false = ap (λ (downs : List Node). has_node (joining number downs) (nodes.Store new)) (sym some) ∙ is in
            (either_false (new == number) (has_node (first ∷ more) (nodes.Store new)) here).0
    go (first ∷ more) some (inr kept) = up q found at made (ap (λ (n : ℕ). has_node w.downs (nodes.Store n)) (sym kept) ∙ (ap (λ (downs : List Node). has_node downs (nodes.Store new)) some ∙ apart))
      where
        apart : has_node (first ∷ more) (nodes.Store new) ≡ false
        apart = let here : ((new == number) || has_node (first ∷ more) (nodes.Store new)) ≡ false = ap (λ (downs : List Node). has_node (joining number downs) (nodes.Store new)) (sym some) ∙ is in
            (either_false (new == number) (has_node (first ∷ more) (nodes.Store new)) here).1

joined_up : (w : World) (c : ℕ) (tables : List ℕ) (luck : Luck) → IsUp w → (o : Option Client) → IsUp (joined w c tables luck o)
joined_up w c tables luck up None = up
joined_up w c tables luck up (Some node) = up

linked_up : (w : World) (c : ℕ) (link : Bool) → IsUp w → (o : Option Client) → IsUp (linked w c link o).world
linked_up w c link up None = up
linked_up w c link up (Some node) = unless_down_up w (nodes.Client c) _ up (moved link)
  where
    moved : (b : Bool) → IsUp (with_link c b w)
    moved true = up
    moved false = up

worked_node_up : (w : World) (lucks : List Luck) → IsUp w → (node : Node) → IsUp (worked w lucks node).world
worked_node_up w lucks up (nodes.Store number) = next_up number (first_luck lucks) w up
worked_node_up w lucks up (nodes.Client c) =
    let tasks : List ClientTask = client_tasks (client_at w c) in same_up w (client_writes c (first_luck lucks) tasks w).world (client_writes_stores c (first_luck lucks) tasks w) up
worked_node_up w lucks up (nodes.Gate gate) = up

all_worked_up : (w : World) (lucks : List Luck) → IsUp w → (node : Node) → IsUp (all_worked w lucks node).world
all_worked_up w lucks up (nodes.Store number) = works_up number (length (tasks_of w number)) lucks w up
all_worked_up w lucks up (nodes.Client c) = same_up w (client_until_idle c lucks w).world (client_works_stores c (client_tasks (client_at w c)) lucks w) up
all_worked_up w lucks up (nodes.Gate gate) = up

crashed_up : (w : World) (calls : ℕ) (lucks : List Luck) → IsUp w → (node : Node) → IsUp (crashed w calls lucks node).world
crashed_up w calls lucks up (nodes.Store number) = crash_up number calls lucks w up
crashed_up w calls lucks up (nodes.Client c) =
    let move : ClientMove = client.Crash (crash_luck calls (other_lucks lucks) (first_luck lucks)) in same_up w (move_client c move no_shape w).world (client_stores w c move no_shape) up
crashed_up w calls lucks up (nodes.Gate gate) = up

started_up : (w : World) (shape : Shape) (lucks : List Luck) → IsUp w → (node : Node) → IsUp (started w shape lucks node).world
started_up w shape lucks up (nodes.Store number) = go (has_store w number) refl (is_down w (nodes.Store number))
  where
    go : (a : Bool) → has_store w number ≡ a → (b : Bool) → IsUp (if a && b then answering facts.Done (store_starts number lucks w) else answered w facts.Done).world
    go true has true = starts_up number lucks w has up
    go true has false = up
    go false has b = up
started_up w shape lucks up (nodes.Client c) = go (is_down w (nodes.Client c))
  where
    started_by : (luck : Luck) (more : List Luck) → IsUp (starts_by c shape luck more w).world
    started_by messages.Done more =
        let v : World = (move_client c client.Start shape w).world in
        same_up v (client_follows c more v).world (client_follows_stores c more v) (same_up w (move_client c client.Start shape w).world (client_stores w c client.Start shape) up)
    started_by messages.FailedBefore more = up
    started_by messages.FailedAfter more = up

    go : (b : Bool) → IsUp (if b then answering facts.Done (client_starts c shape lucks w) else answered w facts.Done).world
    go true = started_by (first_luck lucks) (other_lucks lucks)
    go false = up
started_up w shape lucks up (nodes.Gate gate) = up

-- ---- a table is made, or dropped

puts_up : (w : World) (number table : ℕ) (put : SidePut) (lucks : List Luck) → IsUp w → IsUp (puts_beside w number table put lucks).world
puts_up w number table put lucks up = unless_down_up w (nodes.Store number) _ up (hosted_up w table (store.Place put) lucks up (place_up w table put up) (hosted_by w number table))

created_up : (w : World) (table : ℕ) (shape : Shape) (lucks : List Luck) → IsUp w → (node : Node) → IsUp (created w table shape lucks node).world
created_up w table shape lucks up (nodes.Store number) = puts_up w number table (store.PutState states.Live) lucks up
created_up w table shape lucks up (nodes.Gate gate) = up
created_up w table shape lucks up (nodes.Client c) = opened (schema_at w table)
  where
    opened : (o : Option Schema) → IsUp (opens w c table shape lucks o).world
    opened None = up
    opened (Some schema) = event_up w c (client.Alter table (client.Opens schema)) shape lucks up

dropped_up : (w : World) (table : ℕ) (shape : Shape) (lucks : List Luck) → IsUp w → (node : Node) → IsUp (dropped w table shape lucks node).world
dropped_up w table shape lucks up (nodes.Store number) = puts_up w number table (store.PutState states.Dropped) lucks up
dropped_up w table shape lucks up (nodes.Gate gate) = up
dropped_up w table shape lucks up (nodes.Client c) = event_up w c (client.Alter table client.Closes) shape lucks up

pub step_up : (w : World) (event : Event) (lucks : Lucks) → IsUp w → IsUp (step w event lucks).world
step_up w (events.Store number) lucks up = with_store_up number w up
step_up w (events.Gate number) lucks up = up
step_up w (events.Table table schema) lucks up = declared_up w table schema states.Live (first_luck lucks.calls) up (hosted_at w table) refl
step_up w (events.Draft table schema) lucks up = declared_up w table schema states.Draft (first_luck lucks.calls) up (hosted_at w table) refl
step_up w (events.Client c gate tables) lucks up = joined_up w c tables (first_luck lucks.calls) up (client_at w c)
step_up w (events.Write c table row x) lucks up = event_up w c (client.Write table row x) lucks.shape lucks.calls up
step_up w (events.Edit c table row x) lucks up = event_up w c (client.Change table row x) lucks.shape lucks.calls up
step_up w (events.Link c link) lucks up = linked_up w c link up (client_at w c)
step_up w (events.Show c table row) lucks up = event_up w c (client.Show table row) lucks.shape lucks.calls up
step_up w (events.Sum c table row) lucks up = event_up w c (client.Sum table row) lucks.shape lucks.calls up
step_up w (events.Sync c table) lucks up = event_up w c (client.Sync table) lucks.shape lucks.calls up
step_up w (events.Pull c table) lucks up = event_up w c (client.Next table lucks.tears lucks.asks) lucks.shape lucks.calls up
step_up w (events.BeginCr c table) lucks up = event_up w c (client.BeginCr table) lucks.shape lucks.calls up
step_up w (events.Conflicts c table) lucks up =
    listed_up (call w c (client.Conflicts table) lucks.shape lucks.calls) (event_up w c (client.Conflicts table) lucks.shape lucks.calls up)
step_up w (events.EndCr c table) lucks up = event_up w c (client.EndCr table) lucks.shape lucks.calls up
step_up w (events.Resolve c table row seen choice) lucks up = event_up w c (client.Resolve table row seen choice) lucks.shape lucks.calls up
step_up w (events.ResolveAll c table by) lucks up =
    resolve_all_up w c table by lucks.shapes (other_lucks lucks.calls) up (call w c (client.ResolveAll table by) lucks.shape lucks.calls)
    (event_up w c (client.ResolveAll table by) lucks.shape lucks.calls up)
step_up w (events.Create node table) lucks up = created_up w table lucks.shape lucks.calls up node
step_up w (events.Drop node table) lucks up = dropped_up w table lucks.shape lucks.calls up node
step_up w (events.Save number table d terms) lucks up = puts_up w number table (store.PutSub d terms) lucks.calls up
step_up w (events.Ask d table) lucks up = event_up w d (client.Next table [] []) lucks.shape lucks.calls up
step_up w (events.Net it) lucks up = up
step_up w (events.Deliver n) lucks up = delivered_up w lucks.shape lucks.calls up (slice_get w.packets n)
step_up w (events.StoreShow table row) lucks up = shows_up w table row lucks.calls up (hosted_at w table)
step_up w (events.History table) lucks up = history_up w table up (hosted_at w table)
step_up w (events.Hold node) lucks up = unless_down_up w node _ up up
step_up w (events.Free node) lucks up = unless_down_up w node _ up up
step_up w (events.Work node) lucks up = unless_down_up w node _ up (worked_node_up w lucks.calls up node)
step_up w (events.WorkAll node) lucks up = unless_down_up w node _ up (all_worked_up w lucks.calls up node)
step_up w (events.Crash node calls pick) lucks up = unless_down_up w node _ up (crashed_up w calls lucks.calls up node)
step_up w (events.Start node) lucks up = started_up w lucks.shape lucks.calls up node
step_up w (events.Chunks table) lucks up = chunks_up w table up (hosted_at w table)
