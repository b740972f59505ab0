-- What the wire keeps beside the world of its nodes: each part is of a whole packet, and what was gathered of them is of
-- packets that were sent.
use Rattle.std.proofs.Common.{◌≡◌, ◌⊎◌, inl, inr, ⊎_elim, ℕ, Bool, true, false, List, [], ◌∷◌, ◌++◌, Option, Some, None, refl, sym, ◌∙◌, ap, subst}
use Rattle.std.specs.Prelude.{if◌then◌else◌}
use Rattle.std.specs.List.{AllByRecursion, flat_map}
use Rattle.std.specs.Ordering.{nat_cmp}
use Rattle.std.specs.Map.{lookup}
use Rattle.std.specs.BTreeMap.{is_at}
use Rattle.row_value.specs.declared.schema.Schema.{Schema}
use Rattle.table_model.specs.declared.event.Event.{Event}
use Rattle.table_model.specs.declared.event.Event.TheVariants as events
use Rattle.table_model.specs.declared.table_state.TableState.{TableState}
use Rattle.table_model.specs.declared.table_state.TableState.TheVariants as states
use Rattle.step_tables.specs.Members.{Among}
use Rattle.step_tables.specs.Messages.{Request, Pulled, TornPulled, Header, Message, Luck, SyncRequest, SyncResponse, PullRequest, PullResponse, TornRowRequest, TornRowResponse, table_of}
use Rattle.step_tables.specs.Messages as messages
use Rattle.step_tables.proofs.Lists.{among_none, among_cons, among_left, among_right, among_either, among_mapped}
use Rattle.world_tables.specs.World.{World, Packet, Outbox, WorldStep, Lucks, Hosted, owner_by, owner_of, schema_at}
use Rattle.world_tables.specs.World.{hosted_at, client_at, chunk_in, first_luck, with_table, made_with, declared, step}
use Rattle.part_tables.specs.Parts.{Part, PulledHead, TornHead, parts_of}
use Rattle.part_tables.specs.StoreParts.{Gathering}
use Rattle.part_tables.specs.ClientParts.{Answering}
use Rattle.part_tables.specs.Arriving.{WholeRow, Arriving}
use Rattle.world_laws.proofs.Looks.{look_cases}
use Rattle.name_laws.proofs.Moves.{packets_in}
use Rattle.name_laws.proofs.Steps.{stores_by, schemas_by, step_stepped}
use Rattle.part_laws.specs.Gathers.{IsGathered, Gathers}
use Rattle.part_laws.specs.Answers.{IsAnswering, AreAnswering}
use Rattle.part_laws.specs.Rows.{IsWholeRow, AreArriving}
use Rattle.part_laws.proofs.Stores.{more_sent}
use Rattle.part_laws.proofs.WholeRows.{nothing_kept, sent_still}
use Rattle.wire_tables.specs.Wire.{PartPacket, Wire, or_no_gatherings, gathered_at, or_nothing, arriving_at, with_gathered, with_arriving, split, is_hosted_up, is_client_up, spread}
use Rattle.wire_laws.proofs.Places.{flat_member, lookup_some}
use Rattle.wire_laws.proofs.PartsOf.{HasRow, parts_same}
use Rattle.wire_laws.proofs.SpreadLines.{parts_in}
use Rattle.wire_laws.proofs.Ground.{IsGround, size_in, request_to, requests_to, pulled_to, torn_to, down_to, sent_request, sent_pulled, sent_torn, sent_left}

-- ---- each part is of a whole packet

pub record HasWhole (w : World) (p : PartPacket) : Type 0 where
  pub packet : Packet
  pub stands : Among w.packets packet
  pub from : p.from ≡ packet.from
  pub to : p.to ≡ packet.to
  pub part : Among (parts_of (size_in w (table_of packet.message)) packet.message) p.part

-- the requests that were sent to a table at its owner
abbrev pub sent_to : World → ℕ → List Request
sent_to w table = requests_to (owner_of w table) table w.packets

pub record IsKept (v : Wire) : Type 0 where
  pub parts : (p : PartPacket) → Among v.packets p → HasWhole v.world p
  pub gathers : (table : ℕ) → Gathers (size_in v.world table) (sent_to v.world table) (gathered_at v table)
  pub arriving : (c : ℕ) → AreArriving (size_in v.world) (down_to c v.world.packets) (arriving_at v c)

-- ---- schemas stay

abbrev pub SchemasStay : World → World → Type 0
SchemasStay w later = (table : ℕ) (schema : Schema) → schema_at w table ≡ Some schema → schema_at later table ≡ Some schema

module _ (w : World) (g : IsGround w) where
  with_stays : (table : ℕ) (new : Schema) (state : TableState) (made : Bool) → hosted_at w table ≡ None → SchemasStay w (with_table w table new state made)
  with_stays table new state made none q schema at = ⊎_elim
      (λ e. absurd (let both : Some schema ≡ None = sym at ∙ (ap (schema_at w) e.0 ∙ g.unhosted table none) in cc))
      (λ e. e.1 ∙ at) (look_cases w.schemas table new q)

  made_stays : (table : ℕ) (new : Schema) (state : TableState) (luck : Luck) → hosted_at w table ≡ None → SchemasStay w (made_with w table new state luck)
  made_stays table new state messages.Done none = with_stays table new state true none
  made_stays table new state messages.FailedBefore none = with_stays table new state false none
  made_stays table new state messages.FailedAfter none = with_stays table new state false none

  declared_stays : (table : ℕ) (new : Schema) (state : TableState) (luck : Luck) (o : Option Hosted) → hosted_at w table ≡ o → SchemasStay w (declared w table new state luck o)
  declared_stays table new state luck (Some hosted) there q schema at = at
  declared_stays table new state luck None there q schema at = made_stays table new state luck there q schema at

  events_stay : (event : Event) (lucks : Lucks) (q : ℕ) (schema : Schema) → schema_at w q ≡ Some schema → lookup (is_at (nat_cmp q)) (schemas_by w event lucks) ≡ Some schema
  events_stay (events.Table table new) lucks q schema at = declared_stays table new states.Live (first_luck lucks.calls) (hosted_at w table) refl q schema at
  events_stay (events.Draft table new) lucks q schema at = declared_stays table new states.Draft (first_luck lucks.calls) (hosted_at w table) refl q schema at
  events_stay other lucks q schema at = at

  pub schemas_stay : (event : Event) (lucks : Lucks) → SchemasStay w (step w event lucks).world
  schemas_stay event lucks q schema at =
      ap (λ (schemas : List (ℕ × Schema)). lookup (is_at (nat_cmp q)) schemas) (step_stepped w event lucks g.fine).schemas_are ∙ events_stay event lucks q schema at

  -- an event sends nothing, or declares no table
  pub sends_or_declares : (event : Event) (lucks : Lucks) → ((step w event lucks).outs ≡ []) ⊎ ((step w event lucks).world.schemas ≡ w.schemas)
  sends_or_declares event lucks = go event
    where
      other : (e : Event) → schemas_by w e lucks ≡ w.schemas → ((step w e lucks).outs ≡ []) ⊎ ((step w e lucks).world.schemas ≡ w.schemas)
      other e same = inr ((step_stepped w e lucks g.fine).schemas_are ∙ same)

      go : (e : Event) → ((step w e lucks).outs ≡ []) ⊎ ((step w e lucks).world.schemas ≡ w.schemas)
      go (events.Table table new) = inl refl
      go (events.Draft table new) = inl refl
      go e = other e refl

-- ---- a message with a row is of a declared table

known_table : (w : World) → IsGround w → (p : Packet) → Among w.packets p → (m : Message) → p.message ≡ m → HasRow m → (schema : Schema) × (schema_at w (table_of m) ≡ Some schema)
known_table w g p a (SyncRequest q) is row = let d = g.requests p q a is in (d.0, d.1)
known_table w g p a (SyncResponse r) is row = absurd row
known_table w g p a (PullRequest pull) is row = absurd row
known_table w g p a (PullResponse pulled) is row = g.pulls p pulled row.0 a is row.1
known_table w g p a (TornRowRequest torn) is row = absurd row
known_table w g p a (TornRowResponse t) is row = g.rows p t row.0 a is row.1

module _ (w : World) (g : IsGround w) (later : World) (stay : SchemasStay w later) where
  size_stays : (table : ℕ) (schema : Schema) → schema_at w table ≡ Some schema → size_in w table ≡ size_in later table
  size_stays table schema at = ap chunk_in at ∙ sym (ap chunk_in (stay table schema at))

  whole_stays : (more : List Packet) → later.packets ≡ w.packets ++ more → (p : PartPacket) → HasWhole w p → HasWhole later p
  whole_stays more packets p h = record {
    packet = h.packet;
    stands = subst (λ (l : List Packet). Among l h.packet) (sym packets) (among_left w.packets more h.packet h.stands);
    from = h.from;
    to = h.to;
    part = subst (λ (l : List Part). Among l p.part)
        (parts_same (size_in w (table_of h.packet.message)) (size_in later (table_of h.packet.message)) h.packet.message
        (λ row. let d = known_table w g h.packet h.stands h.packet.message refl row in size_stays (table_of h.packet.message) d.0 d.1))
        h.part;
  }

  -- ---- what was gathered of them

  -- what was gathered is of a declared table
  gathers_known : (table : ℕ) (x : Gathering) → IsGathered (size_in w table) (sent_to w table) x → (schema : Schema) × (schema_at w table ≡ Some schema)
  gathers_known table x is =
      let r = sent_request (owner_of w table) table w.packets is.request is.was_sent in
      let d = g.requests r.packet is.request r.stands r.message in
      (d.0, subst (λ (t : ℕ). schema_at w t ≡ Some d.0) r.table_is d.1)

  gathers_stay : (table : ℕ) (gs : List Gathering) → Gathers (size_in w table) (sent_to w table) gs → Gathers (size_in later table) (sent_to w table) gs
  gathers_stay table [] all = tt
  gathers_stay table (x ∷ gs) all =
      let d = gathers_known table x all.0 in
      (subst (λ (n : ℕ). IsGathered n (sent_to w table) x) (size_stays table d.0 d.1) all.0, gathers_stay table gs all.1)

  -- where no Store joins its owner stays
  owner_stays : later.stores ≡ w.stores → (table : ℕ) (schema : Schema) → schema_at w table ≡ Some schema → owner_of w table ≡ owner_of later table
  owner_stays same table schema at = ap (owner_by w.stores) (at ∙ sym (stay table schema at)) ∙ ap (λ (stores : List ℕ). owner_by stores (schema_at later table)) (sym same)

  more_gathers : later.stores ≡ w.stores → (more : List Packet) → later.packets ≡ w.packets ++ more → (table : ℕ) (gs : List Gathering) → Gathers (size_in w table) (sent_to w table) gs
      → Gathers (size_in later table) (sent_to later table) gs
  more_gathers same more packets table [] all = tt
  more_gathers same more packets table (x ∷ gs) all =
      let d = gathers_known table x all.0 in
      subst (λ (l : List Packet). Gathers (size_in later table) (requests_to (owner_of later table) table l) (x ∷ gs)) (sym packets)
      (subst (λ (n : ℕ). Gathers (size_in later table) (requests_to n table (w.packets ++ more)) (x ∷ gs)) (owner_stays same table d.0 d.1)
      (more_sent (size_in later table) (sent_to w table) (requests_to (owner_of w table) table (w.packets ++ more))
      (λ q a. sent_left (λ (p : Packet). request_to (owner_of w table) table p.to p.message) w.packets more q a) (x ∷ gs) (gathers_stay table (x ∷ gs) all)))

  -- ---- and of what comes to a client

  module _ (c : ℕ) where
    pulls_stay : (xs : List Answering) → AreAnswering (size_in w) (down_to c w.packets).pulls xs → AreAnswering (size_in later) (down_to c w.packets).pulls xs
    pulls_stay [] all = tt
    pulls_stay (x ∷ xs) all = (subst (λ (n : ℕ). IsAnswering n (down_to c w.packets).pulls x) (same all.0) all.0, pulls_stay xs all.1)
      where
        same : IsAnswering (size_in w x.head.table) (down_to c w.packets).pulls x → size_in w x.head.table ≡ size_in later x.head.table
        same is =
            let r = sent_pulled c w.packets is.answer is.was_sent in
            let d = g.pulls r.packet is.answer is.header r.stands r.message is.header_is in
            size_stays x.head.table d.0 (ap (schema_at w) (ap (λ (h : PulledHead). h.table) is.head) ∙ d.1)

    rows_stay : (xs : List WholeRow) → AllByRecursion (λ (x : WholeRow). IsWholeRow (size_in w x.head.table) (down_to c w.packets).rows x) xs
        → AllByRecursion (λ (x : WholeRow). IsWholeRow (size_in later x.head.table) (down_to c w.packets).rows x) xs
    rows_stay [] all = tt
    rows_stay (x ∷ xs) all = (subst (λ (n : ℕ). IsWholeRow n (down_to c w.packets).rows x) (same all.0) all.0, rows_stay xs all.1)
      where
        same : IsWholeRow (size_in w x.head.table) (down_to c w.packets).rows x → size_in w x.head.table ≡ size_in later x.head.table
        same is =
            let r = sent_torn c w.packets is.answer is.was_sent in
            let d = g.rows r.packet is.answer is.header r.stands r.message is.header_is in
            size_stays x.head.table d.0 (ap (schema_at w) (ap (λ (h : TornHead). h.table) is.head) ∙ d.1)

    more_arriving : (more : List Packet) → later.packets ≡ w.packets ++ more → (a : Arriving) → AreArriving (size_in w) (down_to c w.packets) a
        → AreArriving (size_in later) (down_to c later.packets) a
    more_arriving more packets a k =
        subst (λ (l : List Packet). AreArriving (size_in later) (down_to c l) a) (sym packets)
        (sent_still (size_in later) (down_to c w.packets) (down_to c (w.packets ++ more)) a
        (λ p m. sent_left (λ (x : Packet). pulled_to c x.to x.message) w.packets more p m)
        (λ t m. sent_left (λ (x : Packet). torn_to c x.to x.message) w.packets more t m)
        (record { pulls = pulls_stay a.pulls k.pulls; rows = rows_stay a.rows k.rows }))

-- ---- new parts

module _ (w later : World) (g : IsGround later) where
  -- the parts of a packet, where its table was declared before
  new_whole : (same : (table : ℕ) → size_in w table ≡ size_in later table) (packet : Packet) → Among later.packets packet → (p : PartPacket) → Among (split w packet) p → HasWhole later p
  new_whole same packet a p b =
      let r = among_mapped (λ (part : Part). record { from = packet.from; to = packet.to; part = part }) (parts_of (size_in w (table_of packet.message)) packet.message) p b in
      record {
        packet = packet;
        stands = a;
        from = ap (λ (x : PartPacket). x.from) (sym r.2);
        to = ap (λ (x : PartPacket). x.to) (sym r.2);
        part = subst (λ (part : Part). Among (parts_of (size_in later (table_of packet.message)) packet.message) part) (ap (λ (x : PartPacket). x.part) r.2)
            (subst (λ (n : ℕ). Among (parts_of n packet.message) r.0) (same (table_of packet.message)) r.1);
      }

  out_packets : (outs : List Outbox) (out : Outbox) (packet : Packet) → Among outs out → Among out.packets packet → Among (packets_in outs) packet
  out_packets [] out packet a b = absurd (among_none out a)
  out_packets (x ∷ outs) out packet a b = ⊎_elim
      (λ e. among_left x.packets (packets_in outs) packet (subst (λ (y : Outbox). Among y.packets packet) (sym e) b))
      (λ more. among_right x.packets (packets_in outs) packet (out_packets outs out packet more b)) (among_cons x outs out a)

  new_wholes : (outs : List Outbox) → later.packets ≡ w.packets ++ packets_in outs → (outs ≡ []) ⊎ (later.schemas ≡ w.schemas) → (p : PartPacket) → Among (parts_in w outs) p → HasWhole later p
  new_wholes outs packets (inl none) p a = absurd (among_none p (subst (λ (os : List Outbox). Among (parts_in w os) p) none a))
  new_wholes outs packets (inr same) p a =
      let o = flat_member (λ (out : Outbox). flat_map (split w) out.packets) outs p a in
      let q = flat_member (split w) o.0.packets p o.2 in
      new_whole (λ table. ap (λ (schemas : List (ℕ × Schema)). chunk_in (lookup (is_at (nat_cmp table)) schemas)) (sym same)) q.0
      (subst (λ (l : List Packet). Among l q.0) (sym packets) (among_right w.packets (packets_in outs) q.0 (out_packets outs o.0 q.0 o.1 q.1))) p q.2

-- ---- a step of the nodes

-- a Store joins only where nothing is gathered
abbrev pub NoneJoins : Wire → Event → Type 0
NoneJoins v event = (stores_by v.world event ≡ v.world.stores) ⊎ (v.gathered ≡ [])

module _ (v : Wire) (g : IsGround v.world) (k : IsKept v) (event : Event) (lucks : Lucks) (joins : NoneJoins v event) (after : IsGround (step v.world event lucks).world) where
  abbrev pub s : WorldStep
  s = step v.world event lucks

  packets_are : s.world.packets ≡ v.world.packets ++ packets_in s.outs
  packets_are = (step_stepped v.world event lucks g.fine).packets

  stay : SchemasStay v.world s.world
  stay = schemas_stay v.world g event lucks

  all_gathers : (table : ℕ) → Gathers (size_in s.world table) (sent_to s.world table) (gathered_at v table)
  all_gathers table = ⊎_elim
      (λ same. more_gathers v.world g s.world stay ((step_stepped v.world event lucks g.fine).stores_are ∙ same) (packets_in s.outs) packets_are table (gathered_at v table) (k.gathers table))
      (λ none. subst (λ (some : List (ℕ × List Gathering)). Gathers (size_in s.world table) (sent_to s.world table) (or_no_gatherings (lookup (is_at (nat_cmp table)) some))) (sym none) tt) joins

  left_gathers : (table : ℕ) (b : Bool) → Gathers (size_in s.world table) (sent_to s.world table) (or_no_gatherings (if b then lookup (is_at (nat_cmp table)) v.gathered else None))
  left_gathers table true = all_gathers table
  left_gathers table false = tt

  left_arriving : (c : ℕ) (b : Bool) → AreArriving (size_in s.world) (down_to c s.world.packets) (or_nothing (if b then lookup (is_at (nat_cmp c)) v.arriving else None))
  left_arriving c true = more_arriving v.world g s.world stay c (packets_in s.outs) packets_are (arriving_at v c) (k.arriving c)
  left_arriving c false = nothing_kept (size_in s.world) (down_to c s.world.packets)

  pub spread_kept : IsKept (spread v s).wire
  spread_kept = record {
    parts = λ p a. ⊎_elim
        (λ old. whole_stays v.world g s.world stay (packets_in s.outs) packets_are p (k.parts p old))
        (λ new. new_wholes v.world s.world after s.outs packets_are (sends_or_declares v.world g event lucks) p new)
        (among_either v.packets (parts_in v.world s.outs) p a);
    gathers = λ table.
        subst (λ (o : Option (List Gathering)). Gathers (size_in s.world table) (sent_to s.world table) (or_no_gatherings o))
        (sym (lookup_some (λ (t : ℕ). is_hosted_up (hosted_at s.world t)) table v.gathered)) (left_gathers table (is_hosted_up (hosted_at s.world table)));
    arriving = λ c.
        subst (λ (o : Option Arriving). AreArriving (size_in s.world) (down_to c s.world.packets) (or_nothing o))
        (sym (lookup_some (λ (t : ℕ). is_client_up (client_at s.world t)) c v.arriving)) (left_arriving c (is_client_up (client_at s.world c)));
  }

-- ---- what is put in memory

pub gathered_kept : (v : Wire) → IsKept v → (table : ℕ) (gs : List Gathering) → Gathers (size_in v.world table) (sent_to v.world table) gs → IsKept (with_gathered table gs v)
gathered_kept v k table gs all = record {
  parts = k.parts;
  gathers = λ q. ⊎_elim
      (λ e. subst (λ (o : Option (List Gathering)). Gathers (size_in v.world q) (sent_to v.world q) (or_no_gatherings o)) (sym e.1)
      (subst (λ (t : ℕ). Gathers (size_in v.world t) (sent_to v.world t) gs) (sym e.0) all))
      (λ e. subst (λ (o : Option (List Gathering)). Gathers (size_in v.world q) (sent_to v.world q) (or_no_gatherings o)) (sym e.1) (k.gathers q))
      (look_cases v.gathered table gs q);
  arriving = k.arriving;
}

pub arriving_kept : (v : Wire) → IsKept v → (c : ℕ) (a : Arriving) → AreArriving (size_in v.world) (down_to c v.world.packets) a → IsKept (with_arriving c a v)
arriving_kept v k c a all = record {
  parts = k.parts;
  gathers = k.gathers;
  arriving = λ q. ⊎_elim
      (λ e. subst (λ (o : Option Arriving). AreArriving (size_in v.world) (down_to q v.world.packets) (or_nothing o)) (sym e.1)
      (subst (λ (d : ℕ). AreArriving (size_in v.world) (down_to d v.world.packets) a) (sym e.0) all))
      (λ e. subst (λ (o : Option Arriving). AreArriving (size_in v.world) (down_to q v.world.packets) (or_nothing o)) (sym e.1) (k.arriving q))
      (look_cases v.arriving c a q);
}
