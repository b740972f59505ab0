-- What the moves of a world keep: each table clean, what is sent to places, and the packets in the order in which they
-- were sent.
use Rattle.std.proofs.Common.{◌≡◌, inr, ⊎_elim, ℕ, zero, suc, Bool, true, false, List, [], ◌∷◌, ◌++◌, length, Option, Some, None, refl, sym, ◌∙◌, ap, subst, append-nil, append_assoc}
use Rattle.std.specs.Prelude.{◌==◌, drop, if◌then◌else◌}
use Rattle.std.specs.List.{list_any}
use Rattle.std.specs.Ordering.{nat_cmp}
use Rattle.std.specs.Map.{lookup, keys_of}
use Rattle.std.specs.BTreeMap.{is_at}
use Rattle.stab_base.specs.declared.node.Node.{Node}
use Rattle.stab_base.specs.declared.node.Node.TheVariants as nodes
use Rattle.row_value.specs.declared.schema.Schema.{Schema}
use Rattle.step_tables.specs.Members.{Among}
use Rattle.step_tables.specs.Messages.{Message, Send, Luck, table_of}
use Rattle.step_tables.specs.Messages as messages
use Rattle.step_tables.specs.StoreMoves as store
use Rattle.step_tables.specs.StoreMoves.{StoreTask, TableStore, StoreMove, StoreStep}
use Rattle.step_tables.specs.ClientMoves as client
use Rattle.step_tables.specs.ClientMoves.{Client, ClientTask, ClientMove, Shape, no_shape, client_step}
use Rattle.step_tables.proofs.Lists.{among_none, among_cons, among_either}
use Rattle.world_tables.specs.World.{client_until_idle, client_writes}
use Rattle.world_tables.specs.World.{World, Packet, Hosted, Outbox, Moved, owner_by, owner_of, has_store, tables_of, schema_at, scheme_in, chunk_in, hosted_at, client_at, has_node, still, and_then}
use Rattle.world_tables.specs.World.{and_unless, failing, address, packets_from}
use Rattle.world_tables.specs.World.{history_on, after_table, table_step, move_hosted, move_table, moved_client, move_there, move_client, first_luck, other_lucks, client_works, client_tasks}
use Rattle.world_tables.specs.World.{client_follows}
use Rattle.world_tables.specs.World.{table_falls, tables_fall, with_down, without_down, store_falls, or_falls, is_at_work, busy_table, write_next, store_works, tasks_of, store_until_idle}
use Rattle.world_tables.specs.World.{store_follows, table_follows}
use Rattle.world_tables.specs.World.{declared_late, start_hosted, table_starts, tables_start, store_starts, crash_luck, table_crashes, store_crashes, gets_tasks, client_follows_from}
use Rattle.world_laws.proofs.Looks.{look_cases}
use Rattle.name_laws.specs.Owners.{WasOwner}
use Rattle.name_laws.proofs.Rows.{nothing_named}
use Rattle.name_laws.proofs.Keeps.{IsNamedStore, move_keeps}
use Rattle.name_laws.proofs.Left.{IsClean, move_clean}
use Rattle.name_laws.proofs.Plain.{ArePlainFacts, ToOwners, IsPlace, IsPlaceIn, ToPlaces, IsPlainAgenda, IsPlainStep, client_plain, HasPlainWrites, IsPlainMove, IsFrom, move_plain}
use Rattle.name_laws.proofs.Keys.{AreRising, insert_keys_rise}

pub record IsFineTable (size : ℕ) (s : TableStore) : Type 0 where
  pub named : IsNamedStore size s
  pub clean : IsClean s.disk s.agenda
  pub writes : HasPlainWrites s.agenda

-- a packet to a Store is one of a client or a gateway, and for the owner that its table had
abbrev pub IsAddressed : World → Packet → Node → Type 0
IsAddressed w p (nodes.Store number) = IsPlace p.from × WasOwner w.stores (schema_at w (table_of p.message)) number
IsAddressed w p other = Unit {0}

pub record IsFine (w : World) : Type 0 where
  pub keys : AreRising (keys_of w.tables)
  pub known : (table : ℕ) → hosted_at w table ≡ None → schema_at w table ≡ None
  pub tables : (table : ℕ) (hosted : Hosted) → hosted_at w table ≡ Some hosted → IsFineTable (chunk_in (schema_at w table)) hosted.store
  pub clients : (c : ℕ) (node : Client) → client_at w c ≡ Some node → IsPlainAgenda node.agenda
  pub places : (p : Packet) → Among w.packets p → IsAddressed w p p.to

abbrev pub packets_in : List Outbox → List Packet
packets_in [] = []
packets_in (out ∷ more) = out.packets ++ packets_in more

abbrev pub ArePlainOuts : List Outbox → Type 0
ArePlainOuts [] = Unit {0}
ArePlainOuts (out ∷ more) = ArePlainFacts out.facts × ArePlainOuts more

pub record Went (w : World) (m : Moved) : Type 0 where
  pub fine : IsFine m.world
  pub packets : m.world.packets ≡ w.packets ++ packets_in m.outs
  pub plain : ArePlainOuts m.outs
  pub holds : m.world.holds ≡ w.holds
  pub schemas : m.world.schemas ≡ w.schemas
  pub stores : m.world.stores ≡ w.stores

-- the Stores and owners of the tables stay
pub stores_went : (w : World) (m : Moved) → Went w m → (number : ℕ) → has_store m.world number ≡ has_store w number
stores_went w m k number = ap (λ (stores : List ℕ). list_any (λ other. number == other) stores) k.stores

pub owners_went : (w : World) (m : Moved) → Went w m → (table : ℕ) → owner_of m.world table ≡ owner_of w table
owners_went w m k table = ap (λ (stores : List ℕ). owner_by stores (schema_at m.world table)) k.stores
    ∙ ap (λ (some : List (ℕ × Schema)). owner_by w.stores (lookup (is_at (nat_cmp table)) some)) k.schemas

-- ---- one after the other

packets_join : (xs ys : List Outbox) → packets_in (xs ++ ys) ≡ packets_in xs ++ packets_in ys
packets_join [] ys = refl
packets_join (x ∷ xs) ys = ap (λ (ps : List Packet). x.packets ++ ps) (packets_join xs ys) ∙ sym (append_assoc x.packets (packets_in xs) (packets_in ys))

plain_join : (xs ys : List Outbox) → ArePlainOuts xs → ArePlainOuts ys → ArePlainOuts (xs ++ ys)
plain_join [] ys p q = q
plain_join (x ∷ xs) ys p q = (p.0, plain_join xs ys p.1 q)

pub still_went : (w : World) → IsFine w → Went w (still w)
still_went w f = record { fine = f; packets = sym (append-nil w.packets); plain = tt; holds = refl; schemas = refl; stores = refl }

pub then_went : (w : World) (m : Moved) (f : World → Moved) → Went w m → (IsFine m.world → Went m.world (f m.world)) → Went w (and_then m f)
then_went w m f a more =
    let b = more a.fine in
    record {
      fine = b.fine;
      packets = b.packets ∙ (ap (λ (ps : List Packet). ps ++ packets_in (f m.world).outs) a.packets
          ∙ (append_assoc w.packets (packets_in m.outs) (packets_in (f m.world).outs) ∙ ap (λ (ps : List Packet). w.packets ++ ps) (sym (packets_join m.outs (f m.world).outs))));
      plain = plain_join m.outs (f m.world).outs a.plain b.plain;
      holds = b.holds ∙ a.holds;
      schemas = b.schemas ∙ a.schemas;
      stores = b.stores ∙ a.stores;
    }

pub unless_went : (w : World) (m : Moved) (f : World → Moved) → Went w m → (IsFine m.world → Went m.world (f m.world)) → Went w (and_unless m f)
unless_went w m f a more = go m.failed
  where
    go : (b : Bool) → Went w (if b then m else and_then m f)
    go true = a
    go false = then_went w m f a more

pub failing_went : (w : World) (m : Moved) → Went w m → Went w (failing m)
failing_went w m a = record { fine = a.fine; packets = a.packets; plain = a.plain; holds = a.holds; schemas = a.schemas; stores = a.stores }

-- ---- one move

-- a Store's packets, to places
store_places : (w : World) (from : Node) (sends : List Send) → ToPlaces sends → (p : Packet) → Among (packets_from (owner_of w) from sends) p → IsAddressed w p p.to
store_places w from [] t p a = absurd (among_none p a)
store_places w from (send ∷ sends) t p a = ⊎_elim (λ e. subst (λ (x : Packet). IsAddressed w x x.to) e (place send t.0)) (λ b. store_places w from sends t.1 p b)
    (among_cons (packet send) (packets_from (owner_of w) from sends) p a)
  where
    packet : Send → Packet
    packet one = record { from = from; to = address (owner_of w) one.to one.message; message = one.message }

    at : (x : Packet) (to : Node) → IsPlace to → IsAddressed w x to
    at x (nodes.Store number) is = absurd is
    at x (nodes.Client c) is = tt
    at x (nodes.Gate gate) is = tt

    place : (one : Send) → IsPlaceIn one.to → IsAddressed w (packet one) (packet one).to
    place one is = go one.to is
      where
        go : (to : Option Node) → IsPlaceIn to → IsAddressed w (packet one) (address (owner_of w) to one.message)
        go None none = absurd none
        go (Some node) it = at (packet one) node it

-- a client's packets, to the owners of their tables
owner_now : (w : World) (table : ℕ) → WasOwner w.stores (schema_at w table) (owner_of w table)
owner_now w table = record { later = []; earlier = w.stores; known = schema_at w table; joined = refl; declared = inr refl; is = refl }

client_places : (w : World) (c : ℕ) (sends : List Send) → ToOwners sends → (p : Packet) → Among (packets_from (owner_of w) (nodes.Client c) sends) p → IsAddressed w p p.to
client_places w c [] t p a = absurd (among_none p a)
client_places w c (send ∷ sends) t p a = ⊎_elim (λ e. subst (λ (x : Packet). IsAddressed w x x.to) e (place send t.0)) (λ b. client_places w c sends t.1 p b)
    (among_cons (packet send) (packets_from (owner_of w) (nodes.Client c) sends) p a)
  where
    packet : Send → Packet
    packet one = record { from = nodes.Client c; to = address (owner_of w) one.to one.message; message = one.message }

    place : (one : Send) → one.to ≡ None → IsAddressed w (packet one) (packet one).to
    place one none = subst (λ (to : Option Node). IsAddressed w (packet one) (address (owner_of w) to one.message)) (sym none) (tt, owner_now w (table_of one.message))

pub after_went : (w : World) (table : ℕ) (hosted : Hosted) (s : StoreStep) → IsFine w → IsPlainMove s → IsNamedStore (chunk_in (schema_at w table)) s.store → IsClean s.store.disk s.store.agenda
    → Went w (after_table w table hosted s)
after_went w table hosted s f p named clean = record {
  fine = record {
    keys = insert_keys_rise w.tables table new f.keys;
    known = λ q none. f.known q (⊎_elim (λ e. absurd (let both : Some new ≡ None = sym e.1 ∙ none in cc)) (λ e. sym e.1 ∙ none) (look_cases w.tables table new q));
    tables = λ q x at. ⊎_elim
        (λ e. let both : Some new ≡ Some x = sym e.1 ∙ at in let same : new ≡ x = cc in subst (λ (n : ℕ). IsFineTable (chunk_in (schema_at w n)) x.store) (sym e.0)
        (subst (λ (y : Hosted). IsFineTable (chunk_in (schema_at w table)) y.store) same (record { named = named; clean = clean; writes = p.agenda })))
        (λ e. f.tables q x (sym e.1 ∙ at)) (look_cases w.tables table new q);
    clients = f.clients;
    places = λ x a. ⊎_elim (λ b. f.places x b) (λ b. store_places w from s.sends p.sends x b) (among_either w.packets (packets_from (owner_of w) from s.sends) x a);
  };
  packets = ap (λ (ps : List Packet). w.packets ++ ps) (sym (append-nil (packets_from (owner_of w) from s.sends)));
  plain = (p.facts, tt);
  holds = refl;
  schemas = refl;
  stores = refl;
}
  where
    from : Node
    from = nodes.Store (owner_of w table)

    new : Hosted
    new = record { store = s.store; history = history_on hosted.history s.facts; made = hosted.made }

pub table_went : (w : World) (table : ℕ) (move : StoreMove) → IsFrom move → IsFine w → Went w (move_table table move w)
table_went w table move from f = go (hosted_at w table) refl
  where
    go : (o : Option Hosted) → hosted_at w table ≡ o → Went w (move_hosted w table move o)
    go None at = still_went w f
    go (Some hosted) at =
        let x = f.tables table hosted at in
        after_went w table hosted (table_step w table hosted move) f
        (move_plain (owner_of w table) (scheme_in (schema_at w table)) (chunk_in (schema_at w table)) table hosted.store move from x.writes)
        (move_keeps (owner_of w table) (scheme_in (schema_at w table)) (chunk_in (schema_at w table)) table hosted.store move x.named)
        (move_clean (owner_of w table) (scheme_in (schema_at w table)) (chunk_in (schema_at w table)) table hosted.store move x.clean)

pub client_went : (w : World) (c : ℕ) (move : ClientMove) (shape : Shape) → IsFine w → Went w (move_client c move shape w)
client_went w c move shape f = go (client_at w c) refl
  where
    go : (o : Option Client) → client_at w c ≡ o → Went w (move_there w c move shape o)
    go None at = still_went w f
    go (Some node) at = went (client_plain c shape node move (f.clients c node at))
      where
        went : IsPlainStep (client_step c shape node move) → Went w (moved_client w c move (client_step c shape node move))
        went p = record {
          fine = record {
            keys = f.keys;
            known = f.known;
            tables = f.tables;
            clients = λ q x is. ⊎_elim
                (λ e. let both : Some (client_step c shape node move).client ≡ Some x = sym e.1 ∙ is in let same : (client_step c shape node move).client ≡ x = cc in
                subst (λ (y : Client). IsPlainAgenda y.agenda) same p.agenda)
                (λ e. f.clients q x (sym e.1 ∙ is)) (look_cases w.clients c (client_step c shape node move).client q);
            places = λ x a. ⊎_elim (λ b. f.places x b) (λ b. client_places w c (client_step c shape node move).sends p.sends x b)
                (among_either w.packets (packets_from (owner_of w) (nodes.Client c) (client_step c shape node move).sends) x a);
          };
          packets = ap (λ (ps : List Packet). w.packets ++ ps) (sym (append-nil (packets_from (owner_of w) (nodes.Client c) (client_step c shape node move).sends)));
          plain = (p.facts, tt);
          holds = refl;
          schemas = refl;
          stores = refl;
        }

-- ---- a client's work

pub works_went : (c : ℕ) (tasks : List ClientTask) (lucks : List Luck) (w : World) → IsFine w → Went w (client_works c tasks lucks w)
works_went c [] lucks w f = still_went w f
works_went c (task ∷ tasks) lucks w f =
    let m : Moved = move_client c (client.Work (first_luck lucks)) no_shape w in
    then_went w m (client_works c tasks (other_lucks lucks)) (client_went w c (client.Work (first_luck lucks)) no_shape f) (λ x. works_went c tasks (other_lucks lucks) m.world x)

pub client_follows_went : (c : ℕ) (lucks : List Luck) (w : World) → IsFine w → Went w (client_follows c lucks w)
client_follows_went c lucks w f = go (has_node w.holds (nodes.Client c))
  where
    go : (held : Bool) → Went w (if held then still w else client_until_idle c lucks w)
    go true = still_went w f
    go false = works_went c (client_tasks (client_at w c)) lucks w f

pub client_writes_went : (c : ℕ) (luck : Luck) (tasks : List ClientTask) (w : World) → IsFine w → Went w (client_writes c luck tasks w)
client_writes_went c luck [] w f = still_went w f
client_writes_went c luck (task ∷ tasks) w f = client_went w c (client.Work luck) no_shape f

pub follows_from_went : (agenda : Option (List ClientTask)) (c : ℕ) (lucks : List Luck) (w : World) → IsFine w → Went w (client_follows_from agenda c lucks w)
follows_from_went agenda c lucks w f = go (gets_tasks agenda w c)
  where
    go : (b : Bool) → Went w (if b then client_follows c lucks w else still w)
    go true = client_follows_went c lucks w f
    go false = still_went w f

-- ---- a Store's work, falls and starts

pub downs_went : (w : World) (downs : List Node) → IsFine w → Went w (still (record w { downs = downs }))
downs_went w downs f = record {
  fine = record { keys = f.keys; known = f.known; tables = f.tables; clients = f.clients; places = f.places };
  packets = sym (append-nil w.packets);
  plain = tt;
  holds = refl;
  schemas = refl;
  stores = refl;
}

pub falls_went : (tables : List ℕ) (w : World) → IsFine w → Went w (tables_fall tables w)
falls_went [] w f = still_went w f
falls_went (table ∷ tables) w f =
    let m : Moved = table_falls table w in
    then_went w m (tables_fall tables) (table_went w table (store.Crash messages.FailedBefore) tt f) (λ x. falls_went tables m.world x)

pub store_falls_went : (number : ℕ) (w : World) → IsFine w → Went w (store_falls number w)
store_falls_went number w f =
    let m : Moved = tables_fall (tables_of w number) w in
    then_went w m (λ x. still (with_down (nodes.Store number) x)) (falls_went (tables_of w number) w f) (λ x. downs_went m.world (nodes.Store number ∷ m.world.downs) x)

pub or_falls_went : (number : ℕ) (w : World) (m : Moved) → Went w m → Went w (or_falls number m)
or_falls_went number w m a = go m.failed
  where
    go : (b : Bool) → Went w (if b then and_then m (store_falls number) else m)
    go true = then_went w m (store_falls number) a (λ x. store_falls_went number m.world x)
    go false = a

pub write_went : (number : ℕ) (luck : Luck) (o : Option ℕ) (w : World) → IsFine w → Went w (write_next number luck o w)
write_went number luck None w f = still_went w f
write_went number luck (Some table) w f = or_falls_went number w (move_table table (store.Work luck) w) (table_went w table (store.Work luck) tt f)

pub store_works_went : (number count : ℕ) (lucks : List Luck) (w : World) → IsFine w → Went w (store_works number count lucks w)
store_works_went number zero lucks w f = still_went w f
store_works_went number (suc more) lucks w f =
    let m : Moved = write_next number (first_luck lucks) (busy_table w number) w in
    unless_went w m (store_works number more (other_lucks lucks)) (write_went number (first_luck lucks) (busy_table w number) w f) (λ x. store_works_went number more (other_lucks lucks) m.world x)

pub store_follows_went : (number : ℕ) (lucks : List Luck) (w : World) → IsFine w → Went w (store_follows number lucks w)
store_follows_went number lucks w f = go (has_node w.holds (nodes.Store number))
  where
    go : (b : Bool) → Went w (if b then still w else store_until_idle number lucks w)
    go true = still_went w f
    go false = store_works_went number (length (tasks_of w number)) lucks w f

pub table_follows_went : (table : ℕ) (lucks : List Luck) (w : World) → IsFine w → Went w (table_follows table lucks w)
table_follows_went table lucks w f = go (is_at_work w table)
  where
    go : (b : Bool) → Went w (if b then store_follows (owner_of w table) lucks w else still w)
    go true = store_follows_went (owner_of w table) lucks w f
    go false = still_went w f

pub crashes_went : (number calls : ℕ) (lucks : List Luck) (w : World) → IsFine w → Went w (store_crashes number calls lucks w)
crashes_went number calls lucks w f =
    let m : Moved = table_crashes luck (busy_table w number) w in
    then_went w m (store_falls number) (one (busy_table w number)) (λ x. store_falls_went number m.world x)
  where
    luck : Luck
    luck = crash_luck calls (other_lucks lucks) (first_luck lucks)

    one : (o : Option ℕ) → Went w (table_crashes luck o w)
    one None = still_went w f
    one (Some table) = table_went w table (store.Crash luck) tt f

pub start_went : (w : World) (table : ℕ) → IsFine w → Went w (start_hosted w table (hosted_at w table))
start_went w table f = go (hosted_at w table)
  where
    late : Hosted → StoreStep
    late hosted = declared_late (owner_of w table) table hosted.store.disk.state

    made : (hosted : Hosted) (b : Bool) → Went w (if b then move_table table store.Start w else after_table w table (record hosted { made = true }) (late hosted))
    made hosted true = table_went w table store.Start tt f
    made hosted false = after_went w table (record hosted { made = true }) (late hosted) f (record { facts = (tt, tt); sends = tt; agenda = tt })
        (nothing_named (chunk_in (schema_at w table))) refl

    go : (o : Option Hosted) → Went w (start_hosted w table o)
    go None = still_went w f
    go (Some hosted) = made hosted hosted.made

pub table_starts_went : (table : ℕ) (luck : Luck) (w : World) → IsFine w → Went w (table_starts table luck w)
table_starts_went table messages.Done w f = start_went w table f
table_starts_went table messages.FailedBefore w f = failing_went w (still w) (still_went w f)
table_starts_went table messages.FailedAfter w f = failing_went w (still w) (still_went w f)

pub tables_start_went : (tables : List ℕ) (lucks : List Luck) (w : World) → IsFine w → Went w (tables_start tables lucks w)
tables_start_went [] lucks w f = still_went w f
tables_start_went (table ∷ tables) lucks w f =
    let m : Moved = table_starts table (first_luck lucks) w in
    unless_went w m (tables_start tables (other_lucks lucks)) (table_starts_went table (first_luck lucks) w f) (λ x. tables_start_went tables (other_lucks lucks) m.world x)

pub begins_went : (tables : List ℕ) (lucks : List Luck) (w : World) → IsFine w → Went w (and_then (tables_fall tables w) (tables_start tables lucks))
begins_went tables lucks w f = then_went w (tables_fall tables w) (tables_start tables lucks) (falls_went tables w f) (λ x. tables_start_went tables lucks (tables_fall tables w).world x)

pub starts_went : (number : ℕ) (lucks : List Luck) (w : World) → IsFine w → Went w (store_starts number lucks w)
starts_went number lucks w f = go m.failed
  where
    tables : List ℕ
    tables = tables_of w number

    m : Moved
    m = and_then (tables_fall tables w) (tables_start tables lucks)

    started : Went w m
    started = begins_went tables lucks w f

    follows : (x : World) → IsFine x → Went x (store_follows number (drop (length tables) lucks) (without_down (nodes.Store number) x))
    follows x fine =
        let y : World = without_down (nodes.Store number) x in
        let b = store_follows_went number (drop (length tables) lucks) y (downs_went x y.downs fine).fine in
        record { fine = b.fine; packets = b.packets; plain = b.plain; holds = b.holds; schemas = b.schemas; stores = b.stores }

    go : (b : Bool) → Went w (if b then and_then m (store_falls number) else and_then m (λ x. store_follows number (drop (length tables) lucks) (without_down (nodes.Store number) x)))
    go true = then_went w m (store_falls number) started (λ x. store_falls_went number m.world x)
    go false = then_went w m (λ x. store_follows number (drop (length tables) lucks) (without_down (nodes.Store number) x)) started (λ x. follows m.world x)
