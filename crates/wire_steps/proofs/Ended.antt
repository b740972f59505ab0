-- What a part came to at a node that takes messages, and how its delivery ends.
use Rattle.std.proofs.Common.{◌≡◌, ◌≢◌, ℕ, true, List, [], ◌∷◌, map, Some, Result, refl, sym, ◌∙◌, ap, subst}
use Rattle.std.specs.Prelude.{IfOk}
use Rattle.std.specs.Ordering.{nat_cmp}
use Rattle.std.specs.BTreeMap as tree
use Rattle.disk_trait.specs.Calls.{DiskState}
use Rattle.disk_trait.specs.Image.{IsImage}
use Rattle.stab_base.specs.declared.node.Node.{Node}
use Rattle.stab_base.specs.declared.node.Node.TheVariants as nodes
use Rattle.row_value.specs.declared.schema.Scheme.{Scheme}
use Rattle.table_model.specs.declared.line.TextLine.{TextLine}
use Rattle.table_model.specs.declared.message.Message.{Message}
use Rattle.step_tables.specs.Facts.{AnswerLine}
use Rattle.step_tables.specs.Facts as facts
use Rattle.step_tables.specs.Lines.{line_of}
use Rattle.step_tables.specs.Messages as messages
use Rattle.step_tables.specs.Store.{Stored}
use Rattle.step_tables.specs.ClientMoves.{TableDisk, table_at, seen}
use Rattle.world_tables.specs.Ready.{is_table_ready}
use Rattle.world_tables.specs.World.{Hosted, schema_at, chunk_in, scheme_in, hosted_at}
use Rattle.message_parts.specs.Parts.{part_of}
use Rattle.part_tables.specs.Parts.{Part}
use Rattle.part_tables.specs.StoreParts as at_store
use Rattle.part_tables.specs.StoreParts.{Gathering, parted, StoreTaken}
use Rattle.part_tables.specs.ClientParts as at_client
use Rattle.part_tables.specs.Arriving as arrivals
use Rattle.part_tables.specs.Arriving.{arrived}
use Rattle.part_store.specs.Calls as store_calls
use Rattle.part_store.specs.View.{IsViewOf}
use Rattle.part_store.specs.declared.gatherings.Gatherings.{Gatherings}
use Rattle.part_store.specs.declared.gatherings.Taken.{Taken as StoreTook}
use Rattle.part_store.specs.declared.view.RowView.{RowView}
use Rattle.part_client.specs.Calls as client_calls
use Rattle.part_client.specs.Held.{IsHeldOf}
use Rattle.part_client.specs.Keeping as keeping
use Rattle.part_client.specs.declared.arriving.Arriving.{Arriving}
use Rattle.part_client.specs.declared.held.RowHeld.{RowHeld}
use Rattle.part_client.specs.declared.taken.Taken.{Taken as ClientTook}
use Rattle.send_laws.proofs.Gathering.{gathered_at_store, gathered_at_client}
use Rattle.wire_tables.specs.Wire.{PartPacket, Wire, part_table, gathered_at, arriving_at, with_gathered, with_arriving, parted_at}
use Rattle.node_steps.specs.declared.fault.WorldFault.{WorldFault}
use Rattle.wire_steps.specs.declared.world.World.{World}
use Rattle.wire_steps.specs.Calls.{Comes, Ends, IsToCarry, bring_step, IsToPull, pull_step}
use Rattle.wire_steps.specs.Delivering.{IsViewFor, IsSeenOf, IsGatheredThere, IsGatheredAs, IsOpenedAt, IsHeldOfPart, IsKeptThere, IsArrivedAs, delivery, takes_at}
use Rattle.wire_steps.specs.Holds.{Holds, HasGatheredThere, KeepsThere}
use Rattle.wire_steps.proofs.Answered.{comes_as, ends_as, still_comes}
use Rattle.wire_steps.proofs.Delivered.{part_framed, gathered_wire, store_carry, store_carries, store_waits, arrived_wire, client_carry, client_carries, client_pull, client_tears, client_waits}
use Rattle.wire_steps.proofs.Remembering.{memory_gathered, memory_arrived}
use Rattle.wire_steps.proofs.Viewed.{ready_table, takes_both, table_up, client_up}

-- ---- what a table has gathered

module _ {D : Type 0} (state : D → DiskState) (world : World D) (store : ℕ) (from : Node) (told : StoreTook) (x : IsGatheredAs state world store from told) where
  abbrev pub gathered_in : Wire
  gathered_in = gathered_wire x.v store from x.p x.sent x.takes x.hosted x.there

  module _ (m : messages.Message) (is : at_store.Whole m ≡ store_calls.taken_of told) where
    abbrev pub gathered_carry : IsToCarry state world from (nodes.Store store) m
    gathered_carry = store_carry x.v store from x.p x.sent x.takes x.hosted x.there state world x.held m (is ∙ x.taken)

    module _ (images : D → ℕ → List ℕ → Type 0) (result : Result (List TextLine) WorldFault) (new : World D) where
      pub gathered_comes : Comes state images gathered_in (bring_step gathered_in from (nodes.Store store) m) result world new → Comes state images x.v (delivery x.v x.sent) result world new
      gathered_comes k = comes_as state images x.v gathered_in (delivery x.v x.sent) (bring_step gathered_in from (nodes.Store store) m) result world world new refl refl refl
          (λ lucks. store_carries x.v store from x.p x.sent x.takes x.hosted x.there state world x.held m (is ∙ x.taken) lucks) k

      pub gathered_ends : Ends state images gathered_in (bring_step gathered_in from (nodes.Store store) m) result world new → Ends state images x.v (delivery x.v x.sent) result world new
      gathered_ends k = ends_as state images x.v gathered_in (delivery x.v x.sent) (bring_step gathered_in from (nodes.Store store) m) result world world new refl refl
          (λ lucks. store_carries x.v store from x.p x.sent x.takes x.hosted x.there state world x.held m (is ∙ x.taken) lucks) k

  pub gathered_waits : (images : D → ℕ → List ℕ → Type 0) → ((disk : D) (image : List ℕ) → images disk (state disk).moment image → IsImage (state disk).pending image)
      → at_store.Waits ≡ store_calls.taken_of told → (result : Result (List TextLine) WorldFault) → IfOk result (λ lines. map line_of lines ≡ AnswerLine facts.Done ∷ [])
      → Comes state images x.v (delivery x.v x.sent) result world world
  gathered_waits images only_now is result lines = still_comes state images only_now x.v gathered_in facts.Done refl world world refl refl refl x.held (delivery x.v x.sent)
      (store_waits x.v store from x.p x.sent x.takes x.hosted x.there (is ∙ x.taken)) result lines

-- a part is taken, and what is kept of it is in memory
pub record Gathers {D : Type 0} (state : D → DiskState) (world : World D) (v : Wire) (p : PartPacket) (part : Message) (view : RowView) (scheme : Scheme) (chunk : ℕ) (told : StoreTook)
    (after : tree.BTreeMap ℕ Gatherings) (t : ℕ) : Type 0 where
  pub ready : is_table_ready v.world t ≡ true
  pub scheme_is : scheme ≡ scheme_in (schema_at v.world t)
  pub chunk_is : chunk ≡ chunk_in (schema_at v.world t)
  pub viewed : IsViewFor v t p.part view
  pub taken : (items : List Stored) (gs : List Gathering) (q : Part) → HasGatheredThere gs (tree.get nat_cmp world.gathered t) → part_of part ≡ Some q
      → (store_calls.needs_row gs q ≡ true → IsViewOf chunk items (store_calls.client_of q) (store_calls.row_of q) view)
      → IsGatheredThere (parted scheme chunk items gs q) (tree.get nat_cmp after t) told
  pub others : (q : ℕ) → q ≢ t → tree.get nat_cmp after q ≡ tree.get nat_cmp world.gathered q

pub record Came {D : Type 0} (state : D → DiskState) (world : World D) (v : Wire) (p : PartPacket) (told : StoreTook) : Type 0 where
  pub ready : is_table_ready v.world (part_table p.part) ≡ true
  pub hosted : Hosted
  pub there : hosted_at v.world (part_table p.part) ≡ Some hosted
  pub taken : store_calls.taken_of told ≡ (parted_at v p hosted.store.disk.items).taken
  pub held : Holds state (with_gathered (part_table p.part) (parted_at v p hosted.store.disk.items).gatherings v) world

module _ {D : Type 0} (state : D → DiskState) (world : World D) (v : Wire) (p : PartPacket) (part : Message) (view : RowView) (scheme : Scheme) (chunk : ℕ) (told : StoreTook)
    (after : tree.BTreeMap ℕ Gatherings) (h : Holds state v world) (is : part_of part ≡ Some p.part) where
  came : Gathers state world v p part view scheme chunk told after (part_table p.part) → Came state (record world { gathered = after }) v p told
  came k =
      let table = part_table p.part in
      let r = ready_table v.world table k.ready in
      let items = r.hosted.store.disk.items in
      let up = table_up v.world table k.ready in
      let got = k.taken items (gathered_at v table) p.part (h.memory.gathers table up) is
      (λ needs. subst (λ (n : ℕ). IsViewOf n items (store_calls.client_of p.part) (store_calls.row_of p.part) view) (sym k.chunk_is) (k.viewed r.hosted r.there needs)) in
      let same : parted scheme chunk items (gathered_at v table) p.part ≡ parted_at v p items =
      ap (λ (s : Scheme). parted s chunk items (gathered_at v table) p.part) k.scheme_is
      ∙ ap (λ (n : ℕ). parted (scheme_in (schema_at v.world table)) n items (gathered_at v table) p.part) k.chunk_is in
      let kept = subst (λ (t : StoreTaken). IsGatheredThere t (tree.get nat_cmp after table) told) same got in
      record {
        ready = k.ready;
        hosted = r.hosted;
        there = r.there;
        taken = kept.0;
        held = record {
          nodes = h.nodes;
          packets = h.packets;
          memory = memory_gathered v world.gathered world.arriving h.memory table (parted_at v p items).gatherings after up kept.1 k.others;
        };
      }

  pub came_of : (t : ℕ) → t ≡ part_table p.part → Gathers state world v p part view scheme chunk told after t → Came state (record world { gathered = after }) v p told
  came_of t e k = came (subst (λ (n : ℕ). Gathers state world v p part view scheme chunk told after n) e k)

module _ {D : Type 0} (state : D → DiskState) (world : World D) (store : ℕ) (from : Node) (table : ℕ) (view : RowView) (part : Message) (x : IsSeenOf state world store from table view part) where
  pub seen_places : store_calls.may_gather (part_of part) ≡ true
  seen_places = let b = x.of_table.brought in
      ap store_calls.may_gather b.part_is ∙ gathered_at_store b.p.part (part_framed state b.v world b.held from (nodes.Store store) b.p b.sent)

  module _ (scheme : Scheme) (chunk : ℕ) (told : StoreTook) (after : tree.BTreeMap ℕ Gatherings) (scheme_is : scheme ≡ scheme_in (schema_at x.of_table.brought.v.world table))
      (chunk_is : chunk ≡ chunk_in (schema_at x.of_table.brought.v.world table))
      (taken : (items : List Stored) (gs : List Gathering) (q : Part) → HasGatheredThere gs (tree.get nat_cmp world.gathered table) → part_of part ≡ Some q
      → (store_calls.needs_row gs q ≡ true → IsViewOf chunk items (store_calls.client_of q) (store_calls.row_of q) view)
      → IsGatheredThere (parted scheme chunk items gs q) (tree.get nat_cmp after table) told)
      (others : (q : ℕ) → q ≢ table → tree.get nat_cmp after q ≡ tree.get nat_cmp world.gathered q) where
    pub it_came : Came state (record world { gathered = after }) x.of_table.brought.v x.of_table.brought.p told
    it_came = let b = x.of_table.brought in
        came_of state world b.v b.p part view scheme chunk told after b.held b.part_is table x.of_table.table_is
        (record { ready = (takes_both b.v.world store table x.of_table.takes).1; scheme_is = scheme_is; chunk_is = chunk_is; viewed = x.view; taken = taken; others = others })

    abbrev pub seen_gathers : IsGatheredAs state (record world { gathered = after }) store from told
    seen_gathers = record {
      v = x.of_table.brought.v;
      p = x.of_table.brought.p;
      sent = x.of_table.brought.sent;
      takes = subst (λ (t : ℕ). takes_at x.of_table.brought.v.world store t ≡ true) x.of_table.table_is x.of_table.takes;
      hosted = it_came.hosted;
      there = it_came.there;
      taken = it_came.taken;
      held = it_came.held;
    }

-- ---- what a client keeps

module _ {D : Type 0} (state : D → DiskState) (world : World D) (c : ℕ) (from : Node) (table : ℕ) (told : ClientTook) (x : IsArrivedAs state world c from table told) where
  abbrev pub arrived_in : Wire
  arrived_in = arrived_wire x.v c from x.p x.sent x.ready x.it.node x.it.there x.it.opened x.it.at x.it.free

  module _ (m : messages.Message) (is : at_client.Whole m ≡ keeping.taken_of told) where
    abbrev pub arrived_carry : IsToCarry state world from (nodes.Client c) m
    arrived_carry = client_carry x.v c from x.p x.sent x.ready x.it.node x.it.there x.it.opened x.it.at x.it.free state world x.held m (is ∙ x.taken)

    module _ (images : D → ℕ → List ℕ → Type 0) (result : Result (List TextLine) WorldFault) (new : World D) where
      pub arrived_comes : Comes state images arrived_in (bring_step arrived_in from (nodes.Client c) m) result world new → Comes state images x.v (delivery x.v x.sent) result world new
      arrived_comes k = comes_as state images x.v arrived_in (delivery x.v x.sent) (bring_step arrived_in from (nodes.Client c) m) result world world new refl refl refl
          (λ lucks. client_carries x.v c from x.p x.sent x.ready x.it.node x.it.there x.it.opened x.it.at x.it.free state world x.held m (is ∙ x.taken) lucks) k

      pub arrived_ends : Ends state images arrived_in (bring_step arrived_in from (nodes.Client c) m) result world new → Ends state images x.v (delivery x.v x.sent) result world new
      arrived_ends k = ends_as state images x.v arrived_in (delivery x.v x.sent) (bring_step arrived_in from (nodes.Client c) m) result world world new refl refl
          (λ lucks. client_carries x.v c from x.p x.sent x.ready x.it.node x.it.there x.it.opened x.it.at x.it.free state world x.held m (is ∙ x.taken) lucks) k

  abbrev pub arrived_pull : IsToPull state world
  arrived_pull = client_pull x.v c from x.p x.sent x.ready x.it.node x.it.there x.it.opened x.it.at x.it.free state world x.held

  module _ (row : List ℕ) (is : at_client.Tears row ≡ keeping.taken_of told) (images : D → ℕ → List ℕ → Type 0) (result : Result (List TextLine) WorldFault) (new : World D) where
    pub tears_comes : Comes state images arrived_in (pull_step arrived_in c table (row ∷ []) (row ∷ [])) result world new → Comes state images x.v (delivery x.v x.sent) result world new
    tears_comes k = comes_as state images x.v arrived_in (delivery x.v x.sent) (pull_step arrived_in c table (row ∷ []) (row ∷ [])) result world world new refl refl refl
        (λ lucks. client_tears x.v c from x.p x.sent x.ready x.it.node x.it.there x.it.opened x.it.at x.it.free row (is ∙ x.taken) table x.table_is lucks) k

    pub tears_ends : Ends state images arrived_in (pull_step arrived_in c table (row ∷ []) (row ∷ [])) result world new → Ends state images x.v (delivery x.v x.sent) result world new
    tears_ends k = ends_as state images x.v arrived_in (delivery x.v x.sent) (pull_step arrived_in c table (row ∷ []) (row ∷ [])) result world world new refl refl
        (λ lucks. client_tears x.v c from x.p x.sent x.ready x.it.node x.it.there x.it.opened x.it.at x.it.free row (is ∙ x.taken) table x.table_is lucks) k

  pub arrived_waits : (images : D → ℕ → List ℕ → Type 0) → ((disk : D) (image : List ℕ) → images disk (state disk).moment image → IsImage (state disk).pending image)
      → at_client.Waits ≡ keeping.taken_of told → (result : Result (List TextLine) WorldFault) → IfOk result (λ lines. map line_of lines ≡ AnswerLine facts.Done ∷ [])
      → Comes state images x.v (delivery x.v x.sent) result world world
  arrived_waits images only_now is result lines = still_comes state images only_now x.v arrived_in facts.Done refl world world refl refl refl x.held (delivery x.v x.sent)
      (client_waits x.v c from x.p x.sent x.ready x.it.node x.it.there x.it.opened x.it.at x.it.free (is ∙ x.taken)) result lines

module _ {D : Type 0} (state : D → DiskState) (world : World D) (c : ℕ) (from : Node) (table : ℕ) (held : RowHeld) (part : Message) (x : IsHeldOfPart state world c from table held part) where
  pub held_places : client_calls.may_gather (part_of part) ≡ true
  held_places = let b = x.of_opened.of_client.brought in
      ap client_calls.may_gather b.part_is ∙ gathered_at_client b.p.part (part_framed state b.v world b.held from (nodes.Client c) b.p b.sent)

  abbrev pub opened_of : IsOpenedAt x.of_opened.of_client.brought.v c (part_table x.of_opened.of_client.brought.p.part)
  opened_of = record {
    node = x.of_opened.opened.node;
    there = x.of_opened.opened.there;
    opened = x.of_opened.opened.opened;
    at = subst (λ (t : ℕ). table_at (seen x.of_opened.opened.node.disk) t ≡ Some x.of_opened.opened.opened) x.of_opened.of_client.table_is x.of_opened.opened.at;
    free = x.of_opened.opened.free;
  }

  module _ (told : ClientTook) (after : tree.BTreeMap ℕ Arriving)
      (taken : (opened : TableDisk) (a : arrivals.Arriving) (q : Part) → KeepsThere a (tree.get nat_cmp world.arriving c) → part_of part ≡ Some q
      → (client_calls.needs_row a q ≡ true → IsHeldOf opened (client_calls.row_of q) held)
      → IsKeptThere (arrived opened a q) (tree.get nat_cmp after c) told)
      (others : (q : ℕ) → q ≢ c → tree.get nat_cmp after q ≡ tree.get nat_cmp world.arriving q) where
    pub it_kept : IsKeptThere (arrived x.of_opened.opened.opened (arriving_at x.of_opened.of_client.brought.v c) x.of_opened.of_client.brought.p.part) (tree.get nat_cmp after c) told
    it_kept = let b = x.of_opened.of_client.brought in
        taken x.of_opened.opened.opened (arriving_at b.v c) b.p.part (b.held.memory.arrives c (client_up b.v.world c x.of_opened.of_client.ready)) b.part_is
        (λ needs. x.held.held x.of_opened.opened needs)

    pub it_holds : Holds state
        (with_arriving c (arrived x.of_opened.opened.opened (arriving_at x.of_opened.of_client.brought.v c) x.of_opened.of_client.brought.p.part).arriving x.of_opened.of_client.brought.v)
        (record world { arriving = after })
    it_holds = let b = x.of_opened.of_client.brought in record {
      nodes = b.held.nodes;
      packets = b.held.packets;
      memory = memory_arrived b.v world.gathered world.arriving b.held.memory c (arrived x.of_opened.opened.opened (arriving_at b.v c) b.p.part).arriving after
          (client_up b.v.world c x.of_opened.of_client.ready) it_kept.1 others;
    }

    abbrev pub held_arrives : IsArrivedAs state (record world { arriving = after }) c from table told
    held_arrives = record {
      v = x.of_opened.of_client.brought.v;
      p = x.of_opened.of_client.brought.p;
      sent = x.of_opened.of_client.brought.sent;
      table_is = x.of_opened.of_client.table_is;
      ready = x.of_opened.of_client.ready;
      it = opened_of;
      taken = it_kept.0;
      held = it_holds;
    }
