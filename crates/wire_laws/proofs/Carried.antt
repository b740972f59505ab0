-- What a node of the wire is handed for a part, as a delivery of a whole packet.
use Rattle.std.proofs.Common.{◌≡◌, ◌≢◌, ◌⊎◌, inl, inr, ⊎_elim, ℕ, Bool, true, false, List, [], ◌∷◌, Option, Some, None, refl, sym, ◌∙◌, ap, subst, arith, true≢false}
use Rattle.std.specs.Prelude.{◌==◌, ◌&&◌, not, if◌then◌else◌}
use Rattle.std.proofs.lemmas.Bool.{and_parts}
use Rattle.std.proofs.lemmas.Bool.Decides.{nat_tests}
use Rattle.stab_base.specs.declared.node.Node.{Node}
use Rattle.stab_base.specs.declared.node.Node.TheVariants as nodes
use Rattle.row_value.specs.declared.schema.Scheme.{Scheme}
use Rattle.table_model.specs.declared.event.Event.TheVariants as events
use Rattle.step_tables.specs.Facts as facts
use Rattle.step_tables.specs.Members.{Among}
use Rattle.step_tables.specs.Messages.{Message, Luck, Pull, PullRequest, table_of}
use Rattle.step_tables.specs.Messages as messages
use Rattle.step_tables.specs.StoreMoves as store
use Rattle.step_tables.specs.StoreMoves.{StoreDisk, StoreMove, StoreTask}
use Rattle.step_tables.specs.ClientMoves as client
use Rattle.step_tables.specs.ClientMoves.{Client, ClientTask, ClientMove, Shape, TableDisk, table_at, seen}
use Rattle.step_tables.proofs.Lists.{among_get}
use Rattle.world_tables.specs.Passed.{taken_by, taken_from}
use Rattle.world_tables.specs.Ready.{is_idle, is_idle_table, is_idle_client, is_table_ready, is_client_ready}
use Rattle.world_tables.specs.Turns.{Happening}
use Rattle.world_tables.specs.World.{World, Packet, Hosted, Lucks, WorldStep, owner_of, hosted_by, schema_at, scheme_in, chunk_in, hosted_at, client_at, is_down, is_cut, is_client_down}
use Rattle.world_tables.specs.World.{history_on, table_step, move_hosted, move_table, answering, failing, store_falls, client_falls, first_luck, other_lucks, refused}
use Rattle.world_tables.specs.World.{take_read, take_at, to_hosted, unless_down, reads, is_closed, is_closed_in, call_there, call, to_there, carried, delivered}
use Rattle.world_tables.specs.World as world
use Rattle.world_laws.proofs.Looks.{look_cases}
use Rattle.world_laws.proofs.Owners.{hosted_by_is, hosted_by_owner}
use Rattle.name_laws.specs.Owners.{WasOwner}
use Rattle.name_laws.proofs.Moves.{IsAddressed}
use Rattle.fair_laws.specs.Reached.{IsReached}
use Rattle.part_tables.specs.StoreParts as at_store
use Rattle.part_tables.specs.StoreParts.{StoreTaken}
use Rattle.part_tables.specs.ClientParts as at_client
use Rattle.part_tables.specs.Arriving.{Arrived, arrived}
use Rattle.wire_tables.specs.Wire.{PartPacket, Wire, WireStep, start, or_no_gatherings, or_nothing, gathered_at, arriving_at, with_gathered, with_arriving, part_table, spread, any_of, whole}
use Rattle.wire_tables.specs.Wire.{untaken, waits, store_taken, parted_at, by_hosted, client_taken, by_table, by_client, brought, wire_step}
use Rattle.wire_tables.specs.Wire as wire
use Rattle.wire_tables.specs.Runs.{wire_from}
use Rattle.wire_laws.specs.Runs.{AreBuilt}
use Rattle.wire_laws.specs.Carried.{is_open_in, IsFit, store_of, HaveSameTables, IsCarriedAs, IsSent, TakesNothing, IsUntaken, IsAtStore, IsAtClient, IsFallenStore, IsFallenClient}
use Rattle.wire_laws.proofs.Places.{place_of}
use Rattle.wire_laws.proofs.PartsOf.{part_of, same_table}
use Rattle.wire_laws.proofs.Ground.{IsGround, size_in}
use Rattle.wire_laws.proofs.Keeping.{HasWhole, IsKept}
use Rattle.wire_laws.proofs.ToStores as stores
use Rattle.wire_laws.proofs.ToClients as clients
use Rattle.wire_laws.proofs.WireRuns.{IsGoing, going_ground, run_goes, whole_run}

-- the world of a wire that built events lead to
pub reached_world : (v : Wire) (run : List Happening) → AreBuilt run → v ≡ wire_from start run → IsReached v.world
reached_world v run built is = let r = whole_run run built in record { run = r.whole; built = r.built; is = ap (λ (x : Wire). x.world) is ∙ r.world }

-- ---- nodes that take a message now

idle_is : {X : Type 0} (o : Option (List X)) → is_idle o ≡ true → o ≡ Some []
idle_is None e = absurd (true≢false (sym e))
idle_is (Some []) e = refl
idle_is (Some (x ∷ xs)) e = absurd (true≢false (sym e))

not_true : (b : Bool) → not b ≡ true → b ≡ false
not_true true e = absurd (true≢false (sym e))
not_true false e = refl

record IsReadyStore (w : World) (table : ℕ) : Type 0 where
  up : is_down w (nodes.Store (owner_of w table)) ≡ false
  hosted : Hosted
  there : hosted_at w table ≡ Some hosted
  idle : hosted.store.agenda ≡ Some []

ready_store : (w : World) (table : ℕ) → is_table_ready w table ≡ true → IsReadyStore w table
ready_store w table ready = go (hosted_at w table) refl
  where
    down : Bool
    down = is_down w (nodes.Store (owner_of w table))

    parts : (not down ≡ true) × (is_idle_table (hosted_at w table) ≡ true)
    parts = and_parts (not down) (is_idle_table (hosted_at w table)) ready

    go : (o : Option Hosted) → hosted_at w table ≡ o → IsReadyStore w table
    go None at = absurd (true≢false (sym parts.1 ∙ ap is_idle_table at))
    go (Some hosted) at = record {
      up = not_true down parts.0;
      hosted = hosted;
      there = at;
      idle = idle_is hosted.store.agenda (sym (ap is_idle_table at) ∙ parts.1);
    }

record IsReadyClient (w : World) (c : ℕ) : Type 0 where
  linked : is_cut w c ≡ false
  node : Client
  there : client_at w c ≡ Some node
  idle : node.agenda ≡ Some []

ready_client : (w : World) (c : ℕ) → is_client_ready w c ≡ true → IsReadyClient w c
ready_client w c ready = go (client_at w c) refl
  where
    parts : (not (is_cut w c) ≡ true) × (is_idle_client (client_at w c) ≡ true)
    parts = and_parts (not (is_cut w c)) (is_idle_client (client_at w c)) ready

    go : (o : Option Client) → client_at w c ≡ o → IsReadyClient w c
    go None at = absurd (true≢false (sym parts.1 ∙ ap is_idle_client at))
    go (Some node) at = record {
      linked = not_true (is_cut w c) parts.0;
      node = node;
      there = at;
      idle = idle_is node.agenda (sym (ap is_idle_client at) ∙ parts.1);
    }

some_hosted : (a b : Hosted) → Some a ≡ Some b → a ≡ b
some_hosted a b e = cc

some_client : (a b : Client) → Some a ≡ Some b → a ≡ b
some_client a b e = cc

-- ---- a packet in whose place a message is handed on

module _ (w : World) (from to : Node) (m : Message) (packet : Packet) (stands : Among w.packets packet) (to_is : packet.to ≡ to) where
  abbrev handed : Packet
  handed = record { from = from; to = to; message = m }

  carried_as : ((lucks : Lucks) → carried w handed lucks.shape lucks.calls to ≡ carried w packet lucks.shape lucks.calls to)
      → (taken_by w handed to ≡ taken_by w packet to) ⊎ HaveSameTables w (taken_by w handed to) → IsFit (schema_at w) from m → IsCarriedAs w from to m
  carried_as same first fair =
      let place = place_of w.packets packet stands in
      record {
        number = place.0;
        packet = packet;
        at = place.1;
        to_is = to_is;
        same = λ lucks. same lucks ∙ (ap (carried w packet lucks.shape lucks.calls) (sym to_is) ∙ sym (ap (delivered w lucks.shape lucks.calls) place.1));
        first = ⊎_elim (λ e. inl (e ∙ (ap (taken_by w packet) (sym to_is) ∙ sym (ap (taken_from w) place.1)))) (λ s. inr s) first;
        fair = fair;
      }

-- ---- whichever message leaves a table as it is

pulled_store : (g : Scheme) (size table : ℕ) (d : StoreDisk) (agenda : Option (List StoreTask)) (from : Node) (pull : Pull)
    → (store.taken g size table d agenda from (PullRequest pull)).store ≡ record { disk = d; agenda = agenda }
pulled_store g size table d None from pull = refl
pulled_store g size table d (Some []) from pull = refl
pulled_store g size table d (Some (task ∷ more)) from pull = refl

same_tables : (w : World) (table : ℕ) (from : Node) → HaveSameTables w (move_table table (store.Take from (any_of table)) w).world
same_tables w table from q = go (hosted_at w table) refl
  where
    go : (o : Option Hosted) → hosted_at w table ≡ o → store_of (hosted_at (move_hosted w table (store.Take from (any_of table)) o).world q) ≡ store_of (hosted_at w q)
    go None at = refl
    go (Some hosted) at = ⊎_elim
        (λ e. ap store_of e.1
        ∙ (ap (λ (s : store.TableStore). Some s)
        (pulled_store (scheme_in (schema_at w table)) (chunk_in (schema_at w table)) table hosted.store.disk hosted.store.agenda from (record { client = 0; table = table; position = 0 }))
        ∙ sym (ap store_of (ap (hosted_at w) e.0 ∙ at))))
        (λ e. ap store_of e.1) (look_cases w.tables table new q)
      where
        new : Hosted
        new =
            let s = table_step w table hosted (store.Take from (any_of table)) in
            record { store = s.store; history = history_on hosted.history s.facts; made = hosted.made }

-- a Store that doesn't keep it takes nothing
same_taken : (w : World) (table number : ℕ) (from to : Node) → HaveSameTables w (taken_by w (record { from = from; to = to; message = any_of table }) (nodes.Store number))
same_taken w table number from to = go (owner_of w table == number)
  where
    go : (b : Bool) → HaveSameTables w (if b then (move_table table (store.Take from (any_of table)) w).world else w)
    go true q = same_tables w table from q
    go false q = refl

-- ---- a part that was sent

module _ (v : Wire) (number : ℕ) (p : PartPacket) (s : IsSent v number p) where
  abbrev w : World
  w = v.world

  abbrev table : ℕ
  table = part_table p.part

  going : IsGoing v
  going = subst IsGoing (sym s.is) (run_goes s.run s.built)

  g : IsGround v.world
  g = going_ground v going

  k : IsKept v
  k = going.kept

  h : HasWhole v.world p
  h = k.parts p (among_get v.packets number p s.at)

  same : table_of h.packet.message ≡ table
  same = sym (same_table (size_in w (table_of h.packet.message)) h.packet.message p.part (part_of (size_in w (table_of h.packet.message)) h.packet.message p.part h.part))

  -- it goes to the owner that its table had
  pub was_owner : (n : ℕ) → p.to ≡ nodes.Store n → WasOwner w.stores (schema_at w table) n
  was_owner n here =
      subst (λ (t : ℕ). WasOwner w.stores (schema_at w t) n) same (subst (λ (to : Node). IsAddressed w h.packet to) (sym h.to ∙ here) (g.fine.places h.packet h.stands)).1

  brought_is : (to : Node) → p.to ≡ to → (lucks : Lucks) → wire_step v (events.Deliver number) lucks ≡ brought v p lucks to
  brought_is to here lucks = ap (wire.delivered v lucks) s.at ∙ ap (brought v p lucks) here

  -- where the node makes the same of the packet as of any other
  untaken_by : (to : Node) → p.to ≡ to → ((lucks : Lucks) → carried w (record { from = p.from; to = to; message = any_of table }) lucks.shape lucks.calls to ≡ carried w h.packet lucks.shape lucks.calls to)
      → HaveSameTables w (taken_by w (record { from = p.from; to = to; message = any_of table }) to) → ((lucks : Lucks) → brought v p lucks to ≡ untaken v p lucks) → IsUntaken v number p
  untaken_by to here alike tables is = record {
    carried = subst (λ (n : Node). IsCarriedAs w p.from n (any_of table)) (sym here) (carried_as w p.from to (any_of table) h.packet h.stands (sym h.to ∙ here) alike (inr tables) tt);
    step_is = λ lucks. brought_is to here lucks ∙ is lucks;
  }

  -- ---- to a gate

  to_gate : (gate : ℕ) → p.to ≡ nodes.Gate gate → IsUntaken v number p
  to_gate gate here = untaken_by (nodes.Gate gate) here (λ lucks. refl) (λ q. refl) (λ lucks. refl)

  -- ---- to a Store

  module _ (n : ℕ) (here : p.to ≡ nodes.Store n) where
    abbrev any : Packet
    any = record { from = p.from; to = nodes.Store n; message = any_of table }

    store_untaken : ((lucks : Lucks) → carried w any lucks.shape lucks.calls (nodes.Store n) ≡ carried w h.packet lucks.shape lucks.calls (nodes.Store n))
        → ((lucks : Lucks) → brought v p lucks (nodes.Store n) ≡ untaken v p lucks) → IsUntaken v number p
    store_untaken alike is = untaken_by (nodes.Store n) here alike (same_taken w table n p.from (nodes.Store n)) is

    down_untaken : is_down w (nodes.Store n) ≡ true → IsUntaken v number p
    down_untaken down = store_untaken (λ lucks. stores.down_carried w n table lucks any h.packet refl same down)
        (λ lucks. ap (λ (b : Bool). if b then untaken v p lucks else by_hosted v p lucks (hosted_by w n table)) down)

    module _ (up : is_down w (nodes.Store n) ≡ false) where
      up_brought : (lucks : Lucks) → brought v p lucks (nodes.Store n) ≡ by_hosted v p lucks (hosted_by w n table)
      up_brought lucks = ap (λ (b : Bool). if b then untaken v p lucks else by_hosted v p lucks (hosted_by w n table)) up

      up_untaken : ((lucks : Lucks) → to_hosted w table (store.Take p.from (any_of table)) lucks.calls (hosted_by w n table)
          ≡ to_hosted w table (store.Take h.packet.from h.packet.message) lucks.calls (hosted_by w n table))
          → ((lucks : Lucks) → by_hosted v p lucks (hosted_by w n table) ≡ untaken v p lucks) → IsUntaken v number p
      up_untaken alike is = store_untaken (λ lucks. stores.carried_same w n table lucks any h.packet refl same (alike lucks)) (λ lucks. up_brought lucks ∙ is lucks)

      none_untaken : hosted_by w n table ≡ None → IsUntaken v number p
      none_untaken none = up_untaken
          (λ lucks. ap (to_hosted w table (store.Take p.from (any_of table)) lucks.calls) none ∙ sym (ap (to_hosted w table (store.Take h.packet.from h.packet.message) lucks.calls) none))
          (λ lucks. ap (by_hosted v p lucks) none)

      module _ (hosted : Hosted) (by : hosted_by w n table ≡ Some hosted) where
        abbrev there : hosted_at w table ≡ Some hosted
        there = (hosted_by_is w n table hosted by).1

        at_agenda : (agenda : Option (List StoreTask)) → hosted.store.agenda ≡ agenda → (lucks : Lucks)
            → by_hosted v p lucks (hosted_by w n table) ≡ by_hosted v p lucks (Some (record hosted { store = record hosted.store { agenda = agenda } }))
        at_agenda agenda is lucks =
            ap (by_hosted v p lucks) by ∙ ap (λ (a : Option (List StoreTask)). by_hosted v p lucks (Some (record hosted { store = record hosted.store { agenda = a } }))) is

        step_untaken : table_step w table hosted (store.Take p.from (any_of table)) ≡ table_step w table hosted (store.Take h.packet.from h.packet.message)
            → ((lucks : Lucks) → by_hosted v p lucks (hosted_by w n table) ≡ untaken v p lucks) → IsUntaken v number p
        step_untaken alike is = up_untaken
            (λ lucks. ap (to_hosted w table (store.Take p.from (any_of table)) lucks.calls) by
            ∙ (stores.taken_same w table lucks.calls (store.Take p.from (any_of table)) (store.Take h.packet.from h.packet.message) hosted there alike
            ∙ sym (ap (to_hosted w table (store.Take h.packet.from h.packet.message) lucks.calls) by)))
            is

        agenda_untaken : (agenda : Option (List StoreTask)) → hosted.store.agenda ≡ agenda → is_idle agenda ≡ false → IsUntaken v number p
        agenda_untaken None is busy = step_untaken (stores.down_step w table hosted p.from h.packet.from (any_of table) h.packet.message is) (λ lucks. at_agenda None is lucks)
        agenda_untaken (Some []) is busy = absurd (true≢false busy)
        agenda_untaken (Some (task ∷ more)) is busy =
            step_untaken (stores.busy_step w table hosted p.from h.packet.from (any_of table) h.packet.message task more is) (λ lucks. at_agenda (Some (task ∷ more)) is lucks)

        busy_untaken : is_table_ready w table ≡ false → IsUntaken v number p
        busy_untaken ready = agenda_untaken hosted.store.agenda refl
            (sym (ap is_idle_table there)
            ∙ (sym (ap (λ (b : Bool). not b && is_idle_table (hosted_at w table)) (ap (λ (k : ℕ). is_down w (nodes.Store k)) (hosted_by_is w n table hosted by).0 ∙ up)) ∙ ready))

        kept_here : (owner_of w table == n) ≡ false → ⊥
        kept_here apart = true≢false (sym (let own : (owner_of w table == n) ≡ true = grind (arith, nat_tests, (hosted_by_is w n table hosted by).0) in own) ∙ apart)

    to_store : TakesNothing w table (nodes.Store n) → IsUntaken v number p
    to_store nothing = go (is_down w (nodes.Store n)) refl
      where
        at : (up : is_down w (nodes.Store n) ≡ false) (o : Option Hosted) → hosted_by w n table ≡ o → IsUntaken v number p
        at up None none = none_untaken up none
        at up (Some hosted) by = ⊎_elim (λ ready. busy_untaken up hosted by ready) (λ apart. absurd (kept_here up hosted by apart)) nothing

        go : (b : Bool) → is_down w (nodes.Store n) ≡ b → IsUntaken v number p
        go true down = down_untaken down
        go false up = at up (hosted_by w n table) refl

  -- ---- to a client

  abbrev by_open : ℕ → TableDisk → Lucks → Bool → WireStep
  by_open c opened lucks closed = if closed then untaken v p lucks else client_taken v c p lucks (arrived opened (arriving_at v c) p.part)

  module _ (c : ℕ) (here : p.to ≡ nodes.Client c) where
    client_untaken : ((lucks : Lucks) → to_there w c (any_of table) lucks.shape lucks.calls (client_at w c) ≡ to_there w c h.packet.message lucks.shape lucks.calls (client_at w c))
        → ((lucks : Lucks) → brought v p lucks (nodes.Client c) ≡ untaken v p lucks) → IsUntaken v number p
    client_untaken alike is = untaken_by (nodes.Client c) here alike (λ q. refl) is

    cut_untaken : is_cut w c ≡ true → IsUntaken v number p
    cut_untaken cut = client_untaken (λ lucks. alike lucks (client_at w c) refl) (λ lucks. ap (λ (b : Bool). if b then untaken v p lucks else by_client v c p lucks (client_at w c)) cut)
      where
        alike : (lucks : Lucks) (o : Option Client) → client_at w c ≡ o → to_there w c (any_of table) lucks.shape lucks.calls o ≡ to_there w c h.packet.message lucks.shape lucks.calls o
        alike lucks None at = refl
        alike lucks (Some node) at = clients.cut_same w c lucks.shape lucks.calls node (any_of table) h.packet.message (sym same) cut

    module _ (linked : is_cut w c ≡ false) where
      linked_brought : (lucks : Lucks) → brought v p lucks (nodes.Client c) ≡ by_client v c p lucks (client_at w c)
      linked_brought lucks = ap (λ (b : Bool). if b then untaken v p lucks else by_client v c p lucks (client_at w c)) linked

      none_there : client_at w c ≡ None → IsUntaken v number p
      none_there none = client_untaken
          (λ lucks. ap (to_there w c (any_of table) lucks.shape lucks.calls) none ∙ sym (ap (to_there w c h.packet.message lucks.shape lucks.calls) none))
          (λ lucks. linked_brought lucks ∙ ap (by_client v c p lucks) none)

      module _ (node : Client) (there : client_at w c ≡ Some node) where
        client_agenda : (agenda : Option (List ClientTask)) → node.agenda ≡ agenda → (lucks : Lucks)
            → by_client v c p lucks (client_at w c) ≡ by_client v c p lucks (Some (record node { agenda = agenda }))
        client_agenda agenda is lucks = ap (by_client v c p lucks) there ∙ ap (λ (a : Option (List ClientTask)). by_client v c p lucks (Some (record node { agenda = a }))) is

        call_same : ((lucks : Lucks) → call_there w c (client.Take (any_of table)) lucks.shape lucks.calls (Some node)
            ≡ call_there w c (client.Take h.packet.message) lucks.shape lucks.calls (Some node))
            → ((lucks : Lucks) → by_client v c p lucks (client_at w c) ≡ untaken v p lucks) → IsUntaken v number p
        call_same alike is = client_untaken
            (λ lucks. ap (to_there w c (any_of table) lucks.shape lucks.calls) there ∙ (alike lucks ∙ sym (ap (to_there w c h.packet.message lucks.shape lucks.calls) there)))
            (λ lucks. linked_brought lucks ∙ is lucks)

        step_same : ((shape : Shape) → client.client_step c shape node (client.Take (any_of table)) ≡ client.client_step c shape node (client.Take h.packet.message))
            → ((lucks : Lucks) → by_client v c p lucks (client_at w c) ≡ untaken v p lucks) → IsUntaken v number p
        step_same alike is = call_same
            (λ lucks. clients.taken_same w c lucks.shape lucks.calls node (any_of table) h.packet.message (sym same) there (alike lucks.shape)) is

        by_opened : node.agenda ≡ Some [] → (o : Option TableDisk) → table_at (seen node.disk) table ≡ o → (is_open_in (table_at (seen node.disk) table) ≡ true → ⊥) → IsUntaken v number p
        by_opened idle None none never = step_same
            (λ shape. clients.unopened_step c shape node (any_of table) h.packet.message table refl same idle none)
            (λ lucks. client_agenda (Some []) idle lucks ∙ ap (by_table v c p lucks) none)
        by_opened idle (Some opened) is never = go opened.closed refl
          where
            go : (b : Bool) → opened.closed ≡ b → IsUntaken v number p
            go false opens = absurd (never (ap is_open_in is ∙ ap not opens))
            go true closed = call_same
                (λ lucks. clients.closed_same w c lucks.shape lucks.calls node (any_of table) h.packet.message (sym same)
                (ap (λ (t : ℕ). is_closed node (Some t)) same ∙ (ap is_closed_in is ∙ closed)))
                (λ lucks. client_agenda (Some []) idle lucks ∙ (ap (by_table v c p lucks) is ∙ ap (by_open c opened lucks) closed))

        by_agenda : (agenda : Option (List ClientTask)) → node.agenda ≡ agenda
            → (node.agenda ≡ Some [] → is_open_in (table_at (seen node.disk) table) ≡ true → ⊥) → IsUntaken v number p
        by_agenda None is never = step_same (λ shape. clients.down_step c shape node (any_of table) h.packet.message is) (λ lucks. client_agenda None is lucks)
        by_agenda (Some []) is never = by_opened is (table_at (seen node.disk) table) refl (never is)
        by_agenda (Some (task ∷ more)) is never =
            step_same (λ shape. clients.busy_step c shape node (any_of table) h.packet.message task more is) (λ lucks. client_agenda (Some (task ∷ more)) is lucks)

    never_ready : TakesNothing w table (nodes.Client c) → is_cut w c ≡ false → (node : Client) → client_at w c ≡ Some node → node.agenda ≡ Some []
        → is_open_in (table_at (seen node.disk) table) ≡ true → ⊥
    never_ready (inl ready) linked node there idle opens = true≢false
        (sym (ap (λ (b : Bool). not b && is_idle_client (client_at w c)) linked ∙ (ap is_idle_client there ∙ ap is_idle idle)) ∙ ready)
    never_ready (inr u) linked node there idle opens =
        true≢false (sym opens ∙ (ap (λ (x : Client). is_open_in (table_at (seen x.disk) table)) (some_client node u.node (sym there ∙ u.there)) ∙ u.none))

    to_client : TakesNothing w table (nodes.Client c) → IsUntaken v number p
    to_client nothing = go (is_cut w c) refl
      where
        at : is_cut w c ≡ false → (o : Option Client) → client_at w c ≡ o → IsUntaken v number p
        at linked None none = none_there linked none
        at linked (Some node) there = by_agenda linked node there node.agenda refl (never_ready nothing linked node there)

        go : (b : Bool) → is_cut w c ≡ b → IsUntaken v number p
        go true cut = cut_untaken cut
        go false linked = at linked (client_at w c) refl

  -- ---- a node that takes nothing

  pub untaken_as : (to : Node) → p.to ≡ to → TakesNothing w table to → IsUntaken v number p
  untaken_as (nodes.Store n) here nothing = to_store n here nothing
  untaken_as (nodes.Client c) here nothing = to_client c here nothing
  untaken_as (nodes.Gate gate) here nothing = to_gate gate here

  -- ---- the owner takes the part

  module _ (here : p.to ≡ nodes.Store (owner_of w table)) (ready : is_table_ready w table ≡ true) (hosted : Hosted) (there : hosted_at w table ≡ Some hosted) where
    abbrev n : ℕ
    n = owner_of w table

    r : IsReadyStore w table
    r = ready_store w table ready

    by : hosted_by w n table ≡ Some hosted
    by = hosted_by_owner w n table refl ∙ there

    idle : hosted.store.agenda ≡ Some []
    idle = ap (λ (x : Hosted). x.store.agenda) (some_hosted hosted r.hosted (sym there ∙ r.there)) ∙ r.idle

    abbrev x : StoreTaken
    x = parted_at v p hosted.store.disk.items

    taken_is : (lucks : Lucks) → wire_step v (events.Deliver number) lucks ≡ store_taken v p lucks x
    taken_is lucks = brought_is (nodes.Store n) here lucks ∙ (up_brought n here r.up lucks ∙ at_agenda n here r.up hosted by (Some []) idle lucks)

    abbrev took : (q : ℕ) (from : Node) (m : Message) → World
    took q from m = if owner_of w q == n then (move_table q (store.Take from m) w).world else w

    store_whole : (m : Message) → x.taken ≡ at_store.Whole m → IsCarriedAs w p.from (nodes.Store n) m
    store_whole m is =
        let t = stores.completes_as v g k number p s.at world.no_lucks h n here hosted by idle m is in
        carried_as w p.from (nodes.Store n) m t.packet t.stands (t.to ∙ here)
        (λ lucks. stores.carried_same w n table lucks (record { from = p.from; to = nodes.Store n; message = m }) t.packet t.table_m t.table_is
        (ap (to_hosted w table (store.Take p.from m) lucks.calls) by
        ∙ (stores.taken_same w table lucks.calls (store.Take p.from m) (store.Take t.packet.from t.packet.message) hosted there t.step
        ∙ sym (ap (to_hosted w table (store.Take t.packet.from t.packet.message) lucks.calls) by))))
        (inl (ap (λ (q : ℕ). took q p.from m) t.table_m
        ∙ (ap (λ (y : world.Moved). if owner_of w table == n then y.world else w) (stores.moved_same w table [] (store.Take p.from m) (store.Take t.packet.from t.packet.message) hosted there t.step)
        ∙ sym (ap (λ (q : ℕ). took q t.packet.from t.packet.message) t.table_is))))
        t.fit

    pub store_as : IsAtStore v number p hosted
    store_as = record { step_is = taken_is; whole = λ m is. subst (λ (to : Node). IsCarriedAs w p.from to m) (sym here) (store_whole m is) }

  -- ---- a client that takes the part

  module _ (c : ℕ) (here : p.to ≡ nodes.Client c) (ready : is_client_ready w c ≡ true) where
    open_to : IsReadyClient w c
    open_to = ready_client w c ready

    by_table_is : (node : Client) → client_at w c ≡ Some node → (lucks : Lucks) → wire_step v (events.Deliver number) lucks ≡ by_table v c p lucks (table_at (seen node.disk) table)
    by_table_is node there lucks =
        let idle : node.agenda ≡ Some [] = ap (λ (x : Client). x.agenda) (some_client node open_to.node (sym there ∙ open_to.there)) ∙ open_to.idle in
        brought_is (nodes.Client c) here lucks ∙ (linked_brought c here open_to.linked lucks ∙ client_agenda c here open_to.linked node there (Some []) idle lucks)

    module _ (node : Client) (there : client_at w c ≡ Some node) (opened : TableDisk) (is_there : table_at (seen node.disk) table ≡ Some opened) (open_now : opened.closed ≡ false) where
      is_idle_now : node.agenda ≡ Some []
      is_idle_now = ap (λ (x : Client). x.agenda) (some_client node open_to.node (sym there ∙ open_to.there)) ∙ open_to.idle

      abbrev y : Arrived
      y = arrived opened (arriving_at v c) p.part

      client_whole : (m : Message) → y.taken ≡ at_client.Whole m → IsCarriedAs w p.from (nodes.Client c) m
      client_whole m is =
          let t = clients.completes_as v g k number p s.at world.no_lucks h c here node there is_idle_now opened is_there m is in
          carried_as w p.from (nodes.Client c) m t.packet t.stands t.to
          (λ lucks. ap (to_there w c m lucks.shape lucks.calls) there
          ∙ (clients.taken_same w c lucks.shape lucks.calls node m t.packet.message t.tables there (t.step lucks.shape)
          ∙ sym (ap (to_there w c t.packet.message lucks.shape lucks.calls) there)))
          (inl refl) t.fit

      pub client_as : IsAtClient v number p c opened
      client_as = record {
        step_is = λ lucks. by_table_is node there lucks ∙ (ap (by_table v c p lucks) is_there ∙ ap (by_open c opened lucks) open_now);
        whole = λ m is. subst (λ (to : Node). IsCarriedAs w p.from to m) (sym here) (client_whole m is);
      }

  -- ---- a node whose first device call fails

  waits_fails : (lucks : Lucks) (kept : Wire) (luck : Luck) → luck ≢ messages.Done → waits v kept p lucks luck ≡ untaken v p lucks
  waits_fails lucks kept messages.Done fails = absurd (fails refl)
  waits_fails lucks kept messages.FailedBefore fails = refl
  waits_fails lucks kept messages.FailedAfter fails = refl

  past_down : (node : Node) (x : WorldStep) → is_down w node ≡ false → unless_down w node x ≡ x
  past_down node x up = ap (λ (b : Bool). if b then refused w (facts.NodeDown node) else x) up

  module _ (lucks : Lucks) (here : p.to ≡ nodes.Store (owner_of w table)) (ready : is_table_ready w table ≡ true) (fails : first_luck lucks.calls ≢ messages.Done) where
    abbrev owner : ℕ
    owner = owner_of w table

    abbrev fallen_store : WorldStep
    fallen_store = answering facts.Done (failing (store_falls owner w))

    at_rest : IsReadyStore w table
    at_rest = ready_store w table ready

    read_falls : (hosted : Hosted) (move : StoreMove) (rest : List Luck) (luck : Luck) → luck ≢ messages.Done → take_read w table hosted move rest luck ≡ fallen_store
    read_falls hosted move rest messages.Done f = absurd (f refl)
    read_falls hosted move rest messages.FailedBefore f = refl
    read_falls hosted move rest messages.FailedAfter f = refl

    table_falls_in : (move : StoreMove) → to_hosted w table move lucks.calls (hosted_by w owner table) ≡ fallen_store
    table_falls_in move =
        ap (to_hosted w table move lucks.calls) (hosted_by_owner w owner table refl ∙ at_rest.there)
        ∙ (ap (take_at w table at_rest.hosted move lucks.calls) at_rest.idle
        ∙ read_falls at_rest.hosted move (other_lucks lucks.calls) (first_luck lucks.calls) fails)

    store_carries : (x : Packet) → table_of x.message ≡ table → carried w x lucks.shape lucks.calls (nodes.Store owner) ≡ fallen_store
    store_carries x tx =
        past_down (nodes.Store owner) _ at_rest.up
        ∙ (ap (λ (t : ℕ). to_hosted w t (store.Take x.from x.message) lucks.calls (hosted_by w owner t)) tx ∙ table_falls_in (store.Take x.from x.message))

    store_fallen : (kept : Wire) → kept.world ≡ w → kept.packets ≡ v.packets → kept.arriving ≡ v.arriving → ((t : ℕ) → t ≢ table → gathered_at kept t ≡ gathered_at v t)
        → wire_step v (events.Deliver number) lucks ≡ spread kept fallen_store → IsFallenStore v number lucks table
    store_fallen kept at packets arriving others is =
        let place = place_of w.packets h.packet h.stands in
        record {
          fallen = record {
            kept = kept;
            world = at;
            packets = packets;
            step_is = is;
            packet = place.0;
            whole = sym (ap (delivered w lucks.shape lucks.calls) place.1 ∙ (ap (carried w h.packet lucks.shape lucks.calls) (sym h.to ∙ here) ∙ store_carries h.packet same));
          };
          arriving = arriving;
          others = others;
        }

    pub store_fails : IsFallenStore v number lucks table
    store_fails = go x.taken refl
      where
        x : StoreTaken
        x = parted_at v p at_rest.hosted.store.disk.items

        step_at : (t : at_store.Taken) → x.taken ≡ t → wire_step v (events.Deliver number) lucks ≡ store_taken v p lucks (record x { taken = t })
        step_at t is = taken_is here ready at_rest.hosted at_rest.there lucks ∙ ap (λ (y : at_store.Taken). store_taken v p lucks (record x { taken = y })) is

        go : (t : at_store.Taken) → x.taken ≡ t → IsFallenStore v number lucks table
        go (at_store.Whole m) is =
            let t = stores.completes_as v g k number p s.at lucks h owner here at_rest.hosted (hosted_by_owner w owner table refl ∙ at_rest.there) at_rest.idle m is in
            store_fallen (with_gathered table x.gatherings v) refl refl refl
            (λ q other. ⊎_elim (λ e. absurd (other e.0)) (λ e. ap or_no_gatherings e.1) (look_cases v.gathered table x.gatherings q))
            (step_at (at_store.Whole m) is
            ∙ ap (spread (with_gathered table x.gatherings v)) (ap (carried w (whole p m) lucks.shape lucks.calls) here ∙ store_carries (whole p m) t.table_m))
        go at_store.Waits is =
            store_fallen v refl refl refl (λ q other. refl)
            (step_at at_store.Waits is
            ∙ (waits_fails lucks (with_gathered table x.gatherings v) (first_luck lucks.calls) fails
            ∙ ap (spread v) (ap (carried w (whole p (any_of table)) lucks.shape lucks.calls) here ∙ store_carries (whole p (any_of table)) refl)))

  module _ (lucks : Lucks) (c : ℕ) (here : p.to ≡ nodes.Client c) (ready : is_client_ready w c ≡ true) (fails : first_luck lucks.calls ≢ messages.Done) where
    abbrev fallen_client : WorldStep
    fallen_client = answering facts.Done (failing (client_falls c w))

    resting : IsReadyClient w c
    resting = ready_client w c ready

    client_up : is_down w (nodes.Client c) ≡ false
    client_up = ap is_client_down resting.there ∙ ap (λ (a : Option (List ClientTask)). is_client_down (Some (record resting.node { agenda = a }))) resting.idle

    reads_fail : (x : WorldStep) (luck : Luck) → luck ≢ messages.Done → reads w c luck x ≡ fallen_client
    reads_fail x messages.Done f = absurd (f refl)
    reads_fail x messages.FailedBefore f = refl
    reads_fail x messages.FailedAfter f = refl

    call_falls : (move : ClientMove) → call_there w c move lucks.shape lucks.calls (Some resting.node) ≡ fallen_client
    call_falls move = past_down (nodes.Client c) _ client_up ∙ reads_fail _ (first_luck lucks.calls) fails

    client_carries : (x : Packet) → carried w x lucks.shape lucks.calls (nodes.Client c) ≡ fallen_client
    client_carries x = ap (to_there w c x.message lucks.shape lucks.calls) resting.there ∙ call_falls (client.Take x.message)

    client_fallen : (kept : Wire) → kept.world ≡ w → kept.packets ≡ v.packets → kept.gathered ≡ v.gathered → ((d : ℕ) → d ≢ c → arriving_at kept d ≡ arriving_at v d)
        → wire_step v (events.Deliver number) lucks ≡ spread kept fallen_client → IsFallenClient v number lucks c
    client_fallen kept at packets gathered others is =
        let place = place_of w.packets h.packet h.stands in
        record {
          fallen = record {
            kept = kept;
            world = at;
            packets = packets;
            step_is = is;
            packet = place.0;
            whole = sym (ap (delivered w lucks.shape lucks.calls) place.1 ∙ (ap (carried w h.packet lucks.shape lucks.calls) (sym h.to ∙ here) ∙ client_carries h.packet));
          };
          gathered = gathered;
          others = others;
        }

    untaken_falls : wire_step v (events.Deliver number) lucks ≡ untaken v p lucks → IsFallenClient v number lucks c
    untaken_falls is =
        client_fallen v refl refl refl (λ d other. refl) (is ∙ ap (spread v) (ap (carried w (whole p (any_of table)) lucks.shape lucks.calls) here ∙ client_carries (whole p (any_of table))))

    table_is : (opened : TableDisk) → table_at (seen resting.node.disk) table ≡ Some opened → (b : Bool) → opened.closed ≡ b
        → wire_step v (events.Deliver number) lucks ≡ by_open c opened lucks b
    table_is opened is_there b is = by_table_is c here ready resting.node resting.there lucks ∙ (ap (by_table v c p lucks) is_there ∙ ap (by_open c opened lucks) is)

    module _ (opened : TableDisk) (is_there : table_at (seen resting.node.disk) table ≡ Some opened) (open_now : opened.closed ≡ false) where
      abbrev z : Arrived
      z = arrived opened (arriving_at v c) p.part

      abbrev kept_arriving : Wire
      kept_arriving = with_arriving c z.arriving v

      client_at_taken : (t : at_client.Taken) → z.taken ≡ t → wire_step v (events.Deliver number) lucks ≡ client_taken v c p lucks (record z { taken = t })
      client_at_taken t is =
          table_is opened is_there false open_now ∙ ap (λ (y : at_client.Taken). client_taken v c p lucks (record z { taken = y })) is

      kept_falls : (x : WorldStep) → wire_step v (events.Deliver number) lucks ≡ spread kept_arriving x → x ≡ fallen_client → IsFallenClient v number lucks c
      kept_falls x is falls =
          client_fallen kept_arriving refl refl refl
          (λ d other. ⊎_elim (λ e. absurd (other e.0)) (λ e. ap or_nothing e.1) (look_cases v.arriving c z.arriving d)) (is ∙ ap (spread kept_arriving) falls)

      opened_falls : (t : at_client.Taken) → z.taken ≡ t → IsFallenClient v number lucks c
      opened_falls (at_client.Whole m) is =
          kept_falls _ (client_at_taken (at_client.Whole m) is) (ap (carried w (whole p m) lucks.shape lucks.calls) here ∙ client_carries (whole p m))
      opened_falls (at_client.Tears row) is =
          kept_falls _ (client_at_taken (at_client.Tears row) is)
          (ap (call_there w c (client.Next table (row ∷ []) (row ∷ [])) lucks.shape lucks.calls) resting.there ∙ call_falls (client.Next table (row ∷ []) (row ∷ [])))
      opened_falls at_client.Waits is = untaken_falls (client_at_taken at_client.Waits is ∙ waits_fails lucks kept_arriving (first_luck lucks.calls) fails)

    pub client_fails : IsFallenClient v number lucks c
    client_fails = go (table_at (seen resting.node.disk) table) refl
      where
        go : (o : Option TableDisk) → table_at (seen resting.node.disk) table ≡ o → IsFallenClient v number lucks c
        go None none = untaken_falls (by_table_is c here ready resting.node resting.there lucks ∙ ap (by_table v c p lucks) none)
        go (Some opened) is_there = by_closed opened.closed refl
          where
            by_closed : (b : Bool) → opened.closed ≡ b → IsFallenClient v number lucks c
            by_closed true closed = untaken_falls (table_is opened is_there true closed)
            by_closed false opens = opened_falls opened is_there opens (arrived opened (arriving_at v c) p.part).taken refl
