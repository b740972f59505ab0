-- What a Store's moves keep of a world: all but the tables, the packets, and which Stores are down.
use Rattle.std.proofs.Common.{◌≡◌, ℕ, zero, suc, Bool, true, false, List, [], ◌∷◌, length, Option, Some, None, refl, ◌∙◌, ap, arith}
use Rattle.std.specs.Prelude.{if◌then◌else◌, is_some, drop}
use Rattle.std.specs.Ordering.{nat_cmp}
use Rattle.std.specs.Map.{lookup}
use Rattle.std.specs.BTreeMap.{is_at, insert_entry}
use Rattle.std.proofs.lemmas.Bool.Decides.{nat_tests}
use Rattle.stab_base.specs.declared.node.Node.TheVariants as nodes
use Rattle.row_value.specs.declared.schema.Schema.{Schema}
use Rattle.step_tables.specs.Messages.{Luck}
use Rattle.step_tables.specs.Messages as messages
use Rattle.step_tables.specs.StoreMoves as store
use Rattle.step_tables.specs.StoreMoves.{StoreMove, StoreStep}
use Rattle.step_tables.proofs.Lists.{lookup-insert_nat}
use Rattle.world_tables.specs.World.{World, Hosted, Moved, owner_of, has_node, hosted_at, still, and_then}
use Rattle.world_tables.specs.World.{and_unless, failing}
use Rattle.world_tables.specs.World.{history_on, after_table, table_step, move_hosted, move_table, first_luck, other_lucks, tables_of, table_falls, tables_fall, with_down, without_down}
use Rattle.world_tables.specs.World.{store_falls, or_falls}
use Rattle.world_tables.specs.World.{busy_table, write_next, store_works, tasks_of, store_until_idle, store_follows, table_follows, is_at_work, declared_late, start_hosted, table_starts}
use Rattle.world_tables.specs.World.{tables_start, store_starts}
use Rattle.world_tables.specs.World.{crash_luck, table_crashes, store_crashes}
use Rattle.store_host.specs.Calls.{restart_moves}
use Rattle.node_steps.specs.Outs.{Goes}

-- ---- one after the other

pub still_goes : (w : World) → Goes w (still w)
still_goes w = record {
  stores = refl;
  schemas = refl;
  clients = refl;
  holds = refl;
  cuts = refl;
  phases = refl;
  tables = λ table. refl;
}

pub then_goes : (w : World) (m : Moved) (f : World → Moved) → Goes w m → Goes m.world (f m.world) → Goes w (and_then m f)
then_goes w m f a b = record {
  stores = b.stores ∙ a.stores;
  schemas = b.schemas ∙ a.schemas;
  clients = b.clients ∙ a.clients;
  holds = b.holds ∙ a.holds;
  cuts = b.cuts ∙ a.cuts;
  phases = b.phases ∙ a.phases;
  tables = λ table. b.tables table ∙ a.tables table;
}

pub unless_goes : (w : World) (m : Moved) (f : World → Moved) → Goes w m → Goes m.world (f m.world) → Goes w (and_unless m f)
unless_goes w m f a b = go m.failed
  where
    go : (b : Bool) → Goes w (if b then m else and_then m f)
    go true = a
    go false = then_goes w m f a b

pub failing_goes : (w : World) (m : Moved) → Goes w m → Goes w (failing m)
failing_goes w m a = record {
  stores = a.stores;
  schemas = a.schemas;
  clients = a.clients;
  holds = a.holds;
  cuts = a.cuts;
  phases = a.phases;
  tables = a.tables;
}

-- whoever keeps a table keeps it still
pub owners_stay : (w : World) (m : Moved) → Goes w m → owner_of m.world ≡ owner_of w
owners_stay w m g =
    ap (λ (ss : List ℕ). owner_of (record m.world { stores = ss })) g.stores ∙ ap (λ (ss : List (ℕ × Schema)). owner_of (record w { schemas = ss })) g.schemas

-- ---- one move

some_after : (tables : List (ℕ × Hosted)) (table : ℕ) (old new : Hosted) (q : ℕ) → lookup (is_at (nat_cmp table)) tables ≡ Some old
    → is_some (lookup (is_at (nat_cmp q)) (insert_entry nat_cmp tables table new)) ≡ is_some (lookup (is_at (nat_cmp q)) tables)
some_after tables table old new q at = grind (arith, nat_tests, at, lookup-insert_nat tables table new q)

pub after_goes : (w : World) (table : ℕ) (there hosted : Hosted) (s : StoreStep) → hosted_at w table ≡ Some there → Goes w (after_table w table hosted s)
after_goes w table there hosted s at = record {
  stores = refl;
  schemas = refl;
  clients = refl;
  holds = refl;
  cuts = refl;
  phases = refl;
  tables = λ q. some_after w.tables table there new q at;
}
  where
    new : Hosted
    new = record { store = s.store; history = history_on hosted.history s.facts; made = hosted.made }

pub table_goes : (w : World) (table : ℕ) (move : StoreMove) → Goes w (move_table table move w)
table_goes w table move = go (hosted_at w table) refl
  where
    go : (o : Option Hosted) → hosted_at w table ≡ o → Goes w (move_hosted w table move o)
    go None at = still_goes w
    go (Some hosted) at = after_goes w table hosted hosted (table_step w table hosted move) at

-- ---- falls

down_goes : (number : ℕ) (w : World) → Goes w (still (with_down (nodes.Store number) w))
down_goes number w = record {
  stores = refl;
  schemas = refl;
  clients = refl;
  holds = refl;
  cuts = refl;
  phases = refl;
  tables = λ table. refl;
}

up_goes : (number : ℕ) (w : World) → Goes w (still (without_down (nodes.Store number) w))
up_goes number w = record {
  stores = refl;
  schemas = refl;
  clients = refl;
  holds = refl;
  cuts = refl;
  phases = refl;
  tables = λ table. refl;
}

pub falls_goes : (tables : List ℕ) (w : World) → Goes w (tables_fall tables w)
falls_goes [] w = still_goes w
falls_goes (table ∷ tables) w =
    let m : Moved = table_falls table w in then_goes w m (tables_fall tables) (table_goes w table (store.Crash messages.FailedBefore)) (falls_goes tables m.world)

pub store_falls_goes : (number : ℕ) (w : World) → Goes w (store_falls number w)
store_falls_goes number w =
    let m : Moved = tables_fall (tables_of w number) w in
    then_goes w m (λ x. still (with_down (nodes.Store number) x)) (falls_goes (tables_of w number) w) (down_goes number m.world)

or_falls_goes : (number : ℕ) (w : World) (m : Moved) → Goes w m → Goes w (or_falls number m)
or_falls_goes number w m a = go m.failed
  where
    go : (b : Bool) → Goes w (if b then and_then m (store_falls number) else m)
    go true = then_goes w m (store_falls number) a (store_falls_goes number m.world)
    go false = a

-- ---- writes

pub write_goes : (number : ℕ) (luck : Luck) (o : Option ℕ) (w : World) → Goes w (write_next number luck o w)
write_goes number luck None w = still_goes w
write_goes number luck (Some table) w = or_falls_goes number w (move_table table (store.Work luck) w) (table_goes w table (store.Work luck))

works_goes : (number count : ℕ) (lucks : List Luck) (w : World) → Goes w (store_works number count lucks w)
works_goes number zero lucks w = still_goes w
works_goes number (suc more) lucks w =
    let m : Moved = write_next number (first_luck lucks) (busy_table w number) w in
    unless_goes w m (store_works number more (other_lucks lucks)) (write_goes number (first_luck lucks) (busy_table w number) w) (works_goes number more (other_lucks lucks) m.world)

pub until_idle_goes : (number : ℕ) (lucks : List Luck) (w : World) → Goes w (store_until_idle number lucks w)
until_idle_goes number lucks w = works_goes number (length (tasks_of w number)) lucks w

pub follows_goes : (number : ℕ) (lucks : List Luck) (w : World) → Goes w (store_follows number lucks w)
follows_goes number lucks w = go (has_node w.holds (nodes.Store number))
  where
    go : (b : Bool) → Goes w (if b then still w else store_until_idle number lucks w)
    go true = still_goes w
    go false = until_idle_goes number lucks w

pub table_follows_goes : (table : ℕ) (lucks : List Luck) (w : World) → Goes w (table_follows table lucks w)
table_follows_goes table lucks w = go (is_at_work w table)
  where
    go : (b : Bool) → Goes w (if b then store_follows (owner_of w table) lucks w else still w)
    go true = follows_goes (owner_of w table) lucks w
    go false = still_goes w

-- ---- a crash and a start

pub crashes_goes : (number calls : ℕ) (lucks : List Luck) (w : World) → Goes w (store_crashes number calls lucks w)
crashes_goes number calls lucks w =
    let m : Moved = table_crashes luck (busy_table w number) w in then_goes w m (store_falls number) (one (busy_table w number)) (store_falls_goes number m.world)
  where
    luck : Luck
    luck = crash_luck calls (other_lucks lucks) (first_luck lucks)

    one : (o : Option ℕ) → Goes w (table_crashes luck o w)
    one None = still_goes w
    one (Some table) = table_goes w table (store.Crash luck)

start_goes : (w : World) (table : ℕ) → Goes w (start_hosted w table (hosted_at w table))
start_goes w table = go (hosted_at w table) refl
  where
    made : (hosted : Hosted) (b : Bool) → hosted_at w table ≡ Some hosted
        → Goes w (if b then move_table table store.Start w else after_table w table (record hosted { made = true }) (declared_late (owner_of w table) table hosted.store.disk.state))
    made hosted true at = table_goes w table store.Start
    made hosted false at = after_goes w table hosted (record hosted { made = true }) (declared_late (owner_of w table) table hosted.store.disk.state) at

    go : (o : Option Hosted) → hosted_at w table ≡ o → Goes w (start_hosted w table o)
    go None at = still_goes w
    go (Some hosted) at = made hosted hosted.made at

table_starts_goes : (table : ℕ) (luck : Luck) (w : World) → Goes w (table_starts table luck w)
table_starts_goes table messages.Done w = start_goes w table
table_starts_goes table messages.FailedBefore w = failing_goes w (still w) (still_goes w)
table_starts_goes table messages.FailedAfter w = failing_goes w (still w) (still_goes w)

pub tables_start_goes : (tables : List ℕ) (lucks : List Luck) (w : World) → Goes w (tables_start tables lucks w)
tables_start_goes [] lucks w = still_goes w
tables_start_goes (table ∷ tables) lucks w =
    let m : Moved = table_starts table (first_luck lucks) w in
    unless_goes w m (tables_start tables (other_lucks lucks)) (table_starts_goes table (first_luck lucks) w) (tables_start_goes tables (other_lucks lucks) m.world)

pub restart_goes : (tables : List ℕ) (lucks : List Luck) (w : World) → Goes w (restart_moves tables lucks w)
restart_goes tables lucks w = let m : Moved = tables_fall tables w in then_goes w m (tables_start tables lucks) (falls_goes tables w) (tables_start_goes tables lucks m.world)

pub starts_goes : (number : ℕ) (lucks : List Luck) (w : World) → Goes w (store_starts number lucks w)
starts_goes number lucks w = go m.failed
  where
    tables : List ℕ
    tables = tables_of w number

    m : Moved
    m = restart_moves tables lucks w

    goes : Goes w m
    goes = restart_goes tables lucks w

    up : World
    up = without_down (nodes.Store number) m.world

    go : (b : Bool) → Goes w (if b then and_then m (store_falls number) else and_then m (λ x. store_follows number (drop (length tables) lucks) (without_down (nodes.Store number) x)))
    go true = then_goes w m (store_falls number) goes (store_falls_goes number m.world)
    go false =
        then_goes w m (λ x. store_follows number (drop (length tables) lucks) (without_down (nodes.Store number) x)) goes
        (then_goes m.world (still up) (store_follows number (drop (length tables) lucks)) (up_goes number m.world) (follows_goes number (drop (length tables) lucks) up))
