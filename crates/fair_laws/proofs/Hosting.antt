-- What a Store's moves keep of a world: each row is one of its table, and each request is its client's own.
use Rattle.std.proofs.Common.{◌≡◌, ⊎_elim, ℕ, zero, suc, Bool, true, false, cond, List, [], ◌∷◌, length, Option, Some, None, refl, sym, ◌∙◌, subst, arith}
use Rattle.std.specs.Prelude.{if◌then◌else◌, is_some, drop}
use Rattle.std.specs.Ordering.{nat_cmp}
use Rattle.std.specs.Cmp.{nat_cmp_total}
use Rattle.std.specs.Map.{lookup}
use Rattle.std.specs.BTreeMap.{is_at, insert_entry}
use Rattle.std.proofs.lemmas.Bool.Decides.{nat_tests}
use Rattle.stab_base.specs.declared.node.Node.{Node}
use Rattle.stab_base.specs.declared.node.Node.TheVariants as nodes
use Rattle.row_value.specs.declared.schema.Schema.{Schema}
use Rattle.step_tables.specs.Members.{Among}
use Rattle.step_tables.specs.Messages.{Message, Send, Luck, SyncRequest, SyncResponse, PullRequest, PullResponse, TornRowRequest, TornRowResponse}
use Rattle.step_tables.specs.Messages as messages
use Rattle.step_tables.specs.StoreMoves as store
use Rattle.step_tables.specs.StoreMoves.{StoreMove, StoreStep}
use Rattle.step_tables.proofs.Lists.{among_none, among_cons, among_either, lookup-insert, lookup-insert_nat}
use Rattle.world_tables.specs.World.{World, Packet, Hosted, Moved, owner_of, has_node, schema_at, scheme_in, chunk_in, hosted_at, still, and_then, and_unless, packets_from}
use Rattle.world_tables.specs.World.{history_on, after_table, table_step, move_hosted, move_table, first_luck, other_lucks, tables_of, tables_fall, without_down, store_falls, or_falls}
use Rattle.world_tables.specs.World.{busy_table, write_next, store_works, tasks_of, store_until_idle, store_follows, table_follows, is_at_work, declared_late, start_hosted, table_starts}
use Rattle.world_tables.specs.World.{tables_start, store_starts, crash_luck, table_crashes, store_crashes}
use Rattle.fair_laws.specs.Worlds.{IsFromStore, IsFairMessage, AreStoreSends, IsFairStore, IsFair}
use Rattle.fair_laws.proofs.Fairness.{at_same}
use Rattle.fair_laws.proofs.Stores.{IsFairMove, IsFairStep, move_fair, late_fair}

-- other Stores, holds, Stores and links that are down, and phases that are open beside it
pub with_stores : (w : World) (stores : List ℕ) (downs : List Node) → IsFair w → IsFair (record w { stores = stores; downs = downs })
with_stores w stores downs f = record { both = f.both; made = f.made; numbers = f.numbers; tables = f.tables; clients = f.clients; packets = f.packets }

pub beside_fair : (w : World) (holds downs cuts : List Node) (phases : List (ℕ × ℕ)) → IsFair w → IsFair (record w { holds = holds; downs = downs; cuts = cuts; phases = phases })
beside_fair w holds downs cuts phases f = record { both = f.both; made = f.made; numbers = f.numbers; tables = f.tables; clients = f.clients; packets = f.packets }

-- ---- one value of a map changed

pub some_after : {V : Type 0} (es : List (ℕ × V)) (k : ℕ) (old new : V) (q : ℕ) → lookup (is_at (nat_cmp k)) es ≡ Some old
    → is_some (lookup (is_at (nat_cmp q)) (insert_entry nat_cmp es k new)) ≡ is_some (lookup (is_at (nat_cmp q)) es)
some_after es k old new q at = grind (arith, nat_tests, at, lookup-insert_nat es k new q)

-- what holds of each value holds behind the change
pub all_after : {V : Type 0} (P : ℕ → V → Type 0) (es : List (ℕ × V)) (k : ℕ) (new : V) → P k new → ((q : ℕ) (x : V) → lookup (is_at (nat_cmp q)) es ≡ Some x → P q x)
    → (q : ℕ) (x : V) → lookup (is_at (nat_cmp q)) (insert_entry nat_cmp es k new) ≡ Some x → P q x
all_after {V} P es k new here old q x at = go (is_at (nat_cmp k) q) refl (sym (lookup-insert nat_cmp nat_cmp_total es k new q) ∙ at)
  where
    go : (b : Bool) → is_at (nat_cmp k) q ≡ b → cond b (Some new) (lookup (is_at (nat_cmp q)) es) ≡ Some x → P q x
    go true is e = let same : new ≡ x = cc in subst (λ (n : ℕ). P n x) (at_same k q is) (subst (P k) same here)
    go false is e = old q x e

-- ---- one move

from_store : (known : ℕ → Option Schema) (from : Node) (m : Message) → IsFromStore known m → IsFairMessage known from m
from_store known from (SyncRequest q) f = absurd f
from_store known from (PullRequest q) f = absurd f
from_store known from (SyncResponse r) f = f
from_store known from (PullResponse q) f = f
from_store known from (TornRowRequest q) f = absurd f
from_store known from (TornRowResponse q) f = f

sent_fair : (known : ℕ → Option Schema) (owners : ℕ → ℕ) (from : Node) (sends : List Send) → AreStoreSends known sends
    → (p : Packet) → Among (packets_from owners from sends) p → IsFairMessage known p.from p.message
sent_fair known owners from [] f p a = absurd (among_none p a)
sent_fair known owners from (send ∷ sends) f p a =
    ⊎_elim (λ e. subst (λ (x : Packet). IsFairMessage known x.from x.message) e (from_store known from send.message f.0)) (sent_fair known owners from sends f.1 p)
    (among_cons _ (packets_from owners from sends) p a)

pub after_fair : (w : World) (table : ℕ) (there hosted : Hosted) (s : StoreStep) → hosted_at w table ≡ Some there → IsFair w → IsFairStep (schema_at w) table s
    → IsFair (after_table w table hosted s).world
after_fair w table there hosted s at f fair = record {
  both = λ q. f.both q ∙ sym (some_after w.tables table there new q at);
  made = f.made;
  numbers = f.numbers;
  tables = all_after (λ (q : ℕ) (x : Hosted). IsFairStore (schema_at w) q x.store) w.tables table new fair.store f.tables;
  clients = f.clients;
  packets = λ p a. ⊎_elim (f.packets p) (sent_fair (schema_at w) (owner_of w) (nodes.Store (owner_of w table)) s.sends fair.sends p)
      (among_either w.packets (packets_from (owner_of w) (nodes.Store (owner_of w table)) s.sends) p a);
}
  where
    new : Hosted
    new = record { store = s.store; history = history_on hosted.history s.facts; made = hosted.made }

pub table_fair : (w : World) (table : ℕ) (move : StoreMove) → IsFairMove (schema_at w) table move → IsFair w → IsFair (move_table table move w).world
table_fair w table move takes f = go (hosted_at w table) refl
  where
    go : (o : Option Hosted) → hosted_at w table ≡ o → IsFair (move_hosted w table move o).world
    go None at = f
    go (Some hosted) at = after_fair w table hosted hosted (table_step w table hosted move) at f
        (move_fair (schema_at w) table (owner_of w table) (scheme_in (schema_at w table)) (chunk_in (schema_at w table)) hosted.store move takes (f.tables table hosted at))

unless_fair : (m : Moved) (g : World → Moved) → IsFair m.world → (IsFair m.world → IsFair (g m.world).world) → IsFair (and_unless m g).world
unless_fair m g a b = go m.failed
  where
    go : (failed : Bool) → IsFair (if failed then m else and_then m g).world
    go true = a
    go false = b a

-- ---- falls

falls_fair : (tables : List ℕ) (w : World) → IsFair w → IsFair (tables_fall tables w).world
falls_fair [] w f = f
falls_fair (table ∷ tables) w f =
    falls_fair tables (move_table table (store.Crash messages.FailedBefore) w).world (table_fair w table (store.Crash messages.FailedBefore) tt f)

pub store_falls_fair : (number : ℕ) (w : World) → IsFair w → IsFair (store_falls number w).world
store_falls_fair number w f =
    let x : World = (tables_fall (tables_of w number) w).world in
    beside_fair x x.holds (nodes.Store number ∷ x.downs) x.cuts x.phases (falls_fair (tables_of w number) w f)

or_falls_fair : (number : ℕ) (m : Moved) → IsFair m.world → IsFair (or_falls number m).world
or_falls_fair number m f = go m.failed
  where
    go : (failed : Bool) → IsFair (if failed then and_then m (store_falls number) else m).world
    go true = store_falls_fair number m.world f
    go false = f

-- ---- writes

pub write_fair : (number : ℕ) (luck : Luck) (o : Option ℕ) (w : World) → IsFair w → IsFair (write_next number luck o w).world
write_fair number luck None w f = f
write_fair number luck (Some table) w f = or_falls_fair number (move_table table (store.Work luck) w) (table_fair w table (store.Work luck) tt f)

pub works_fair : (number count : ℕ) (lucks : List Luck) (w : World) → IsFair w → IsFair (store_works number count lucks w).world
works_fair number zero lucks w f = f
works_fair number (suc more) lucks w f =
    let m : Moved = write_next number (first_luck lucks) (busy_table w number) w in
    unless_fair m (store_works number more (other_lucks lucks)) (write_fair number (first_luck lucks) (busy_table w number) w f)
    (λ there. works_fair number more (other_lucks lucks) m.world there)

follows_fair : (number : ℕ) (lucks : List Luck) (w : World) → IsFair w → IsFair (store_follows number lucks w).world
follows_fair number lucks w f = go (has_node w.holds (nodes.Store number))
  where
    go : (held : Bool) → IsFair (if held then still w else store_until_idle number lucks w).world
    go true = f
    go false = works_fair number (length (tasks_of w number)) lucks w f

pub table_follows_fair : (table : ℕ) (lucks : List Luck) (w : World) → IsFair w → IsFair (table_follows table lucks w).world
table_follows_fair table lucks w f = go (is_at_work w table)
  where
    go : (busy : Bool) → IsFair (if busy then store_follows (owner_of w table) lucks w else still w).world
    go true = follows_fair (owner_of w table) lucks w f
    go false = f

-- ---- a crash and a start

pub crashes_fair : (number calls : ℕ) (lucks : List Luck) (w : World) → IsFair w → IsFair (store_crashes number calls lucks w).world
crashes_fair number calls lucks w f = store_falls_fair number (table_crashes luck (busy_table w number) w).world (one (busy_table w number))
  where
    luck : Luck
    luck = crash_luck calls (other_lucks lucks) (first_luck lucks)

    one : (o : Option ℕ) → IsFair (table_crashes luck o w).world
    one None = f
    one (Some table) = table_fair w table (store.Crash luck) tt f

start_fair : (w : World) (table : ℕ) → IsFair w → IsFair (start_hosted w table (hosted_at w table)).world
start_fair w table f = go (hosted_at w table) refl
  where
    made : (hosted : Hosted) (b : Bool) → hosted_at w table ≡ Some hosted
        → IsFair (if b then move_table table store.Start w else after_table w table (record hosted { made = true }) (declared_late (owner_of w table) table hosted.store.disk.state)).world
    made hosted true at = table_fair w table store.Start tt f
    made hosted false at = after_fair w table hosted (record hosted { made = true }) (declared_late (owner_of w table) table hosted.store.disk.state) at f
        (late_fair (schema_at w) table (owner_of w table) hosted.store.disk.state)

    go : (o : Option Hosted) → hosted_at w table ≡ o → IsFair (start_hosted w table o).world
    go None at = f
    go (Some hosted) at = made hosted hosted.made at

tables_start_fair : (tables : List ℕ) (lucks : List Luck) (w : World) → IsFair w → IsFair (tables_start tables lucks w).world
tables_start_fair [] lucks w f = f
tables_start_fair (table ∷ tables) lucks w f =
    unless_fair (table_starts table (first_luck lucks) w) (tables_start tables (other_lucks lucks)) (one (first_luck lucks))
    (λ there. tables_start_fair tables (other_lucks lucks) (table_starts table (first_luck lucks) w).world there)
  where
    one : (luck : Luck) → IsFair (table_starts table luck w).world
    one messages.Done = start_fair w table f
    one messages.FailedBefore = f
    one messages.FailedAfter = f

pub store_starts_fair : (number : ℕ) (lucks : List Luck) (w : World) → IsFair w → IsFair (store_starts number lucks w).world
store_starts_fair number lucks w f = go m.failed
  where
    tables : List ℕ
    tables = tables_of w number

    m : Moved
    m = and_then (tables_fall tables w) (tables_start tables lucks)

    there : IsFair m.world
    there = tables_start_fair tables lucks (tables_fall tables w).world (falls_fair tables w f)

    up : World
    up = without_down (nodes.Store number) m.world

    go : (failed : Bool) → IsFair (if failed then and_then m (store_falls number) else and_then m (λ x. store_follows number (drop (length tables) lucks) (without_down (nodes.Store number) x))).world
    go true = store_falls_fair number m.world there
    go false = follows_fair number (drop (length tables) lucks) up (beside_fair m.world m.world.holds up.downs m.world.cuts m.world.phases there)
