-- The moves of a world tell only what was asked for, and keep its clients so.
use Rattle.std.proofs.Common.{◌≡◌, ⊎_elim, ℕ, zero, suc, Bool, true, false, List, [], ◌∷◌, ◌++◌, length, Option, Some, None, append-nil, append_assoc, refl, sym, ◌∙◌, ap, subst}
use Rattle.std.specs.Prelude.{drop, if◌then◌else◌}
use Rattle.std.specs.Ordering.{nat_cmp}
use Rattle.std.specs.Map.{lookup}
use Rattle.std.specs.BTreeMap.{is_at, insert_entry}
use Rattle.stab_base.specs.declared.node.Node.TheVariants as nodes
use Rattle.step_tables.specs.Messages.{Luck}
use Rattle.step_tables.specs.Messages as messages
use Rattle.step_tables.specs.StoreMoves as store
use Rattle.step_tables.specs.StoreMoves.{StoreTask, TableStore, StoreMove, StoreStep}
use Rattle.step_tables.specs.ClientMoves as client
use Rattle.step_tables.specs.ClientMoves.{Client, ClientTask, ClientMove, ClientStep, Shape, no_shape, client_step}
use Rattle.world_tables.specs.World.{World, Packet, Outbox, owner_of, packets_from, Hosted, Moved, schema_at, scheme_in, chunk_in, hosted_at, client_at}
use Rattle.world_tables.specs.World.{has_node, tables_of, tasks_in, still, and_then, and_unless, failing}
use Rattle.world_tables.specs.World.{history_on, after_table, table_step, move_hosted, move_table, move_there, move_client, first_luck, other_lucks, client_works, client_tasks, client_until_idle, client_follows, client_follows_from}
use Rattle.world_tables.specs.World.{client_writes, client_starts, starts_by, client_falls, gets_tasks, table_falls, tables_fall, with_down, without_down, store_falls, or_falls, is_at_work, busy_table, write_next}
use Rattle.world_tables.specs.World.{store_works, tasks_of, store_until_idle, store_follows, table_follows, declared_late, start_hosted, table_starts, tables_start, store_starts, crash_luck, table_crashes, store_crashes}
use Rattle.world_laws.proofs.Looks.{look_cases}
use Rattle.asked_laws.specs.Asked.{Asked}
use Rattle.asked_laws.proofs.Tellings.{packets_in, packets_join, OutsUnsent, outs_unsent, facts_asked, outs_asked, OutsAsked, outs_join, outs_both}
use Rattle.asked_laws.proofs.Fine.{plain_unsent, IsFine, fine_on, plain_told}
use Rattle.asked_laws.proofs.Plans.{KeepsFine}
use Rattle.asked_laws.proofs.Stores.{ArePlainWrites, IsPlainStep, store_plain}
use Rattle.asked_laws.proofs.ClientMoves.{WasAsked, move_keeps}

-- ---- worlds

abbrev pub TablesFine : List (ℕ × Hosted) → Type 0
TablesFine tables = (q : ℕ) (hosted : Hosted) → lookup (is_at (nat_cmp q)) tables ≡ Some hosted → ArePlainWrites (tasks_in hosted.store.agenda)

abbrev pub ClientsFine : Asked → List (ℕ × Client) → Type 0
ClientsFine a clients = (q : ℕ) (node : Client) → lookup (is_at (nat_cmp q)) clients ≡ Some node → IsFine a q node

abbrev pub AreFine : Asked → World → Type 0
AreFine a w = TablesFine w.tables × ClientsFine a w.clients

pub put_table : (tables : List (ℕ × Hosted)) (t : ℕ) (x : Hosted) → TablesFine tables → ArePlainWrites (tasks_in x.store.agenda) → TablesFine (insert_entry nat_cmp tables t x)
put_table tables t x fine here q found at = ⊎_elim
    (λ e. let both : Some x ≡ Some found = sym e.1 ∙ at in let same : x ≡ found = cc in subst (λ (y : Hosted). ArePlainWrites (tasks_in y.store.agenda)) same here)
    (λ e. fine q found (sym e.1 ∙ at)) (look_cases tables t x q)

-- what moves tell was asked for, and behind it the world is fine; its packets are those from before and those sent
pub record Goes (a : Asked) (before : List Packet) (m : Moved) : Type 0 where
  pub asked : OutsAsked a m.outs
  pub fine : AreFine (outs_asked m.outs a) m.world
  pub unsent : OutsUnsent m.outs
  pub packets : m.world.packets ≡ before ++ packets_in m.outs

-- ---- one after the other

pub still_goes : (a : Asked) (w : World) → AreFine a w → Goes a w.packets (still w)
still_goes a w f = record { asked = tt; fine = f; unsent = tt; packets = sym (append-nil w.packets) }

pub both_packets : (before now : List Packet) (xs ys : List Outbox) → now ≡ before ++ packets_in xs → now ++ packets_in ys ≡ before ++ packets_in (xs ++ ys)
both_packets before now xs ys is =
    ap (λ (ps : List Packet). ps ++ packets_in ys) is ∙ (append_assoc before (packets_in xs) (packets_in ys) ∙ ap (λ (ps : List Packet). before ++ ps) (sym (packets_join xs ys)))

pub then_goes : {before : List Packet} (a : Asked) (m : Moved) (f : World → Moved) → Goes a before m → ((b : Asked) → AreFine b m.world → Goes b m.world.packets (f m.world)) → Goes a before (and_then m f)
then_goes {before = before} a m f first next =
    let rest = next (outs_asked m.outs a) first.fine in
    record {
      asked = outs_both a m.outs (f m.world).outs first.asked rest.asked;
      fine = subst (λ (b : Asked). AreFine b (f m.world).world) (sym (outs_join a m.outs (f m.world).outs)) rest.fine;
      unsent = outs_unsent m.outs (f m.world).outs first.unsent rest.unsent;
      packets = rest.packets ∙ both_packets before m.world.packets m.outs (f m.world).outs first.packets;
    }

pub unless_goes : {before : List Packet} (a : Asked) (m : Moved) (f : World → Moved) → Goes a before m → ((b : Asked) → AreFine b m.world → Goes b m.world.packets (f m.world)) → Goes a before (and_unless m f)
unless_goes {before = before} a m f first next = go m.failed
  where
    go : (failed : Bool) → Goes a before (if failed then m else and_then m f)
    go true = first
    go false = then_goes a m f first next

pub failing_goes : {before : List Packet} (a : Asked) (m : Moved) → Goes a before m → Goes a before (failing m)
failing_goes a m g = record { asked = g.asked; fine = g.fine; unsent = g.unsent; packets = g.packets }

-- ---- one move

pub after_goes : (a : Asked) (w : World) (table : ℕ) (hosted : Hosted) (s : StoreStep) → AreFine a w → IsPlainStep s → Goes a w.packets (after_table w table hosted s)
after_goes a w table hosted s fine plain =
    let told = plain_told a s.facts plain.0 in
    let new : Hosted = record { store = s.store; history = history_on hosted.history s.facts; made = hosted.made } in
    record {
      asked = (told.0, tt);
      fine = (put_table w.tables table new fine.0 plain.1, subst (λ (b : Asked). ClientsFine b w.clients) (sym told.1) fine.1);
      unsent = (plain_unsent s.facts plain.0, tt);
      packets = ap (λ (ps : List Packet). w.packets ++ ps) (sym (append-nil (packets_from (owner_of w) (nodes.Store (owner_of w table)) s.sends)));
    }

pub table_goes : (a : Asked) (w : World) (table : ℕ) (move : StoreMove) → AreFine a w → Goes a w.packets (move_table table move w)
table_goes a w table move fine = go (hosted_at w table) refl
  where
    go : (o : Option Hosted) → hosted_at w table ≡ o → Goes a w.packets (move_hosted w table move o)
    go None at = still_goes a w fine
    go (Some hosted) at =
        after_goes a w table hosted (table_step w table hosted move) fine
        (store_plain (owner_of w table) (scheme_in (schema_at w table)) (chunk_in (schema_at w table)) table hosted.store move (fine.0 table hosted at))

put_client : (a : Asked) (clients : List (ℕ × Client)) (c : ℕ) (s : ClientStep) → ClientsFine a clients → KeepsFine a c s → ClientsFine (facts_asked s.facts a) (insert_entry nat_cmp clients c s.client)
put_client a clients c s fine k q found at = ⊎_elim
    (λ e. let both : Some s.client ≡ Some found = sym e.1 ∙ at in let same : s.client ≡ found = cc in
    subst (λ (z : ℕ). IsFine (facts_asked s.facts a) z found) (sym e.0) (subst (λ (y : Client). IsFine (facts_asked s.facts a) c y) same k.fine))
    (λ e. fine_on q a (facts_asked s.facts a) (k.others q e.0) found (fine q found (sym e.1 ∙ at))) (look_cases clients c s.client q)

pub client_goes : (a : Asked) (w : World) (c : ℕ) (move : ClientMove) (shape : Shape) → AreFine a w
    → ((node : Client) → client_at w c ≡ Some node → WasAsked a c move (client_step c shape node move).answer) → Goes a w.packets (move_client c move shape w)
client_goes a w c move shape fine was = go (client_at w c) refl
  where
    go : (o : Option Client) → client_at w c ≡ o → Goes a w.packets (move_there w c move shape o)
    go None at = still_goes a w fine
    go (Some node) at =
        let k : KeepsFine a c (client_step c shape node move) = move_keeps a c shape node (fine.1 c node at) move (was node at) in
        record {
          asked = (k.asked, tt);
          fine = (fine.0, put_client a w.clients c (client_step c shape node move) fine.1 k);
          unsent = (k.unsent, tt);
          packets = ap (λ (ps : List Packet). w.packets ++ ps) (sym (append-nil (packets_from (owner_of w) (nodes.Client c) (client_step c shape node move).sends)));
        }

-- ---- a client's work

pub client_works_go : (c : ℕ) (tasks : List ClientTask) (lucks : List Luck) (a : Asked) (w : World) → AreFine a w → Goes a w.packets (client_works c tasks lucks w)
client_works_go c [] lucks a w fine = still_goes a w fine
client_works_go c (task ∷ tasks) lucks a w fine =
    then_goes a (move_client c (client.Work (first_luck lucks)) no_shape w) (client_works c tasks (other_lucks lucks))
    (client_goes a w c (client.Work (first_luck lucks)) no_shape fine (λ node at. tt))
    (λ b now. client_works_go c tasks (other_lucks lucks) b _ now)

pub client_follows_goes : (c : ℕ) (lucks : List Luck) (a : Asked) (w : World) → AreFine a w → Goes a w.packets (client_follows c lucks w)
client_follows_goes c lucks a w fine = go (has_node w.holds (nodes.Client c))
  where
    go : (held : Bool) → Goes a w.packets (if held then still w else client_until_idle c lucks w)
    go true = still_goes a w fine
    go false = client_works_go c (client_tasks (client_at w c)) lucks a w fine

pub follows_from_goes : (agenda : Option (List ClientTask)) (c : ℕ) (lucks : List Luck) (a : Asked) (w : World) → AreFine a w → Goes a w.packets (client_follows_from agenda c lucks w)
follows_from_goes agenda c lucks a w fine = go (gets_tasks agenda w c)
  where
    go : (b : Bool) → Goes a w.packets (if b then client_follows c lucks w else still w)
    go true = client_follows_goes c lucks a w fine
    go false = still_goes a w fine

pub client_writes_go : (c : ℕ) (luck : Luck) (tasks : List ClientTask) (a : Asked) (w : World) → AreFine a w → Goes a w.packets (client_writes c luck tasks w)
client_writes_go c luck [] a w fine = still_goes a w fine
client_writes_go c luck (task ∷ tasks) a w fine = client_goes a w c (client.Work luck) no_shape fine (λ node at. tt)

pub client_falls_goes : (c : ℕ) (a : Asked) (w : World) → AreFine a w → Goes a w.packets (client_falls c w)
client_falls_goes c a w fine = client_goes a w c (client.Crash messages.FailedBefore) no_shape fine (λ node at. tt)

pub client_starts_go : (c : ℕ) (shape : Shape) (lucks : List Luck) (a : Asked) (w : World) → AreFine a w → Goes a w.packets (client_starts c shape lucks w)
client_starts_go c shape lucks a w fine = go (first_luck lucks)
  where
    go : (luck : Luck) → Goes a w.packets (starts_by c shape luck (other_lucks lucks) w)
    go messages.Done =
        then_goes a (move_client c client.Start shape w) (client_follows c (other_lucks lucks)) (client_goes a w c client.Start shape fine (λ node at. tt))
        (λ b now. client_follows_goes c (other_lucks lucks) b (move_client c client.Start shape w).world now)
    go messages.FailedBefore = failing_goes a (still w) (still_goes a w fine)
    go messages.FailedAfter = failing_goes a (still w) (still_goes a w fine)

-- ---- the Store's work

falls_go : (tables : List ℕ) (a : Asked) (w : World) → AreFine a w → Goes a w.packets (tables_fall tables w)
falls_go [] a w fine = still_goes a w fine
falls_go (table ∷ tables) a w fine =
    then_goes a (table_falls table w) (tables_fall tables) (table_goes a w table (store.Crash messages.FailedBefore) fine) (λ b now. falls_go tables b _ now)

pub store_falls_goes : (node : ℕ) (a : Asked) (w : World) → AreFine a w → Goes a w.packets (store_falls node w)
store_falls_goes node a w fine =
    then_goes a (tables_fall (tables_of w node) w) (λ x. still (with_down (nodes.Store node) x)) (falls_go (tables_of w node) a w fine) (λ b now. still_goes b _ now)

or_falls_goes : {before : List Packet} (node : ℕ) (a : Asked) (m : Moved) → Goes a before m → Goes a before (or_falls node m)
or_falls_goes {before = before} node a m g = go m.failed
  where
    go : (failed : Bool) → Goes a before (if failed then and_then m (store_falls node) else m)
    go true = then_goes a m (store_falls node) g (λ b now. store_falls_goes node b m.world now)
    go false = g

pub write_goes : (node : ℕ) (luck : Luck) (o : Option ℕ) (a : Asked) (w : World) → AreFine a w → Goes a w.packets (write_next node luck o w)
write_goes node luck None a w fine = still_goes a w fine
write_goes node luck (Some table) a w fine = or_falls_goes node a (move_table table (store.Work luck) w) (table_goes a w table (store.Work luck) fine)

works_go : (node count : ℕ) (lucks : List Luck) (a : Asked) (w : World) → AreFine a w → Goes a w.packets (store_works node count lucks w)
works_go node zero lucks a w fine = still_goes a w fine
works_go node (suc more) lucks a w fine =
    unless_goes a (write_next node (first_luck lucks) (busy_table w node) w) (store_works node more (other_lucks lucks))
    (write_goes node (first_luck lucks) (busy_table w node) a w fine) (λ b now. works_go node more (other_lucks lucks) b _ now)

pub until_idle_goes : (node : ℕ) (lucks : List Luck) (a : Asked) (w : World) → AreFine a w → Goes a w.packets (store_until_idle node lucks w)
until_idle_goes node lucks a w fine = works_go node (length (tasks_of w node)) lucks a w fine

follows_go : (node : ℕ) (lucks : List Luck) (a : Asked) (w : World) → AreFine a w → Goes a w.packets (store_follows node lucks w)
follows_go node lucks a w fine = go (has_node w.holds (nodes.Store node))
  where
    go : (held : Bool) → Goes a w.packets (if held then still w else store_until_idle node lucks w)
    go true = still_goes a w fine
    go false = until_idle_goes node lucks a w fine

pub table_follows_goes : (table : ℕ) (lucks : List Luck) (a : Asked) (w : World) → AreFine a w → Goes a w.packets (table_follows table lucks w)
table_follows_goes table lucks a w fine = go (is_at_work w table)
  where
    go : (busy : Bool) → Goes a w.packets (if busy then store_follows (owner_of w table) lucks w else still w)
    go true = follows_go (owner_of w table) lucks a w fine
    go false = still_goes a w fine

start_goes : (table : ℕ) (a : Asked) (w : World) → AreFine a w → Goes a w.packets (start_hosted w table (hosted_at w table))
start_goes table a w fine = go (hosted_at w table)
  where
    go : (o : Option Hosted) → Goes a w.packets (start_hosted w table o)
    go None = still_goes a w fine
    go (Some hosted) = made hosted.made
      where
        late : StoreStep
        late = declared_late (owner_of w table) table hosted.store.disk.state

        made : (b : Bool) → Goes a w.packets (if b then move_table table store.Start w else after_table w table (record hosted { made = true }) late)
        made true = table_goes a w table store.Start fine
        made false = after_goes a w table (record hosted { made = true }) late fine ((tt, tt), tt)

starts_go : (tables : List ℕ) (lucks : List Luck) (a : Asked) (w : World) → AreFine a w → Goes a w.packets (tables_start tables lucks w)
starts_go [] lucks a w fine = still_goes a w fine
starts_go (table ∷ tables) lucks a w fine =
    unless_goes a (table_starts table (first_luck lucks) w) (tables_start tables (other_lucks lucks)) (one (first_luck lucks))
    (λ b now. starts_go tables (other_lucks lucks) b _ now)
  where
    one : (luck : Luck) → Goes a w.packets (table_starts table luck w)
    one messages.Done = start_goes table a w fine
    one messages.FailedBefore = failing_goes a (still w) (still_goes a w fine)
    one messages.FailedAfter = failing_goes a (still w) (still_goes a w fine)

pub store_starts_go : (node : ℕ) (lucks : List Luck) (a : Asked) (w : World) → AreFine a w → Goes a w.packets (store_starts node lucks w)
store_starts_go node lucks a w fine = go m.failed
  where
    tables : List ℕ
    tables = tables_of w node

    m : Moved
    m = and_then (tables_fall tables w) (tables_start tables lucks)

    first : Goes a w.packets m
    first = then_goes a (tables_fall tables w) (tables_start tables lucks) (falls_go tables a w fine) (λ b now. starts_go tables lucks b _ now)

    go : (failed : Bool)
        → Goes a w.packets (if failed then and_then m (store_falls node) else and_then m (λ x. store_follows node (drop (length tables) lucks) (without_down (nodes.Store node) x)))
    go true = then_goes a m (store_falls node) first (λ b now. store_falls_goes node b m.world now)
    go false =
        then_goes a m (λ x. store_follows node (drop (length tables) lucks) (without_down (nodes.Store node) x)) first
        (λ b now. follows_go node (drop (length tables) lucks) b (without_down (nodes.Store node) m.world) now)

pub store_crashes_go : (node calls : ℕ) (lucks : List Luck) (a : Asked) (w : World) → AreFine a w → Goes a w.packets (store_crashes node calls lucks w)
store_crashes_go node calls lucks a w fine =
    then_goes a (table_crashes luck (busy_table w node) w) (store_falls node) (one (busy_table w node)) (λ b now. store_falls_goes node b _ now)
  where
    luck : Luck
    luck = crash_luck calls (other_lucks lucks) (first_luck lucks)

    one : (o : Option ℕ) → Goes a w.packets (table_crashes luck o w)
    one None = still_goes a w fine
    one (Some table) = table_goes a w table (store.Crash luck) fine
