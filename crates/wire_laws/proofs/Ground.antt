-- What is known of a world that a run leads to, and what part_laws may take of it.
use Rattle.std.proofs.Common.{◌≡◌, ⊎_elim, ℕ, ◌<◌, Bool, true, false, List, [], ◌∷◌, ◌++◌, Option, Some, None, refl, sym, ◌∙◌, ap, subst, arith}
use Rattle.std.specs.Prelude.{◌==◌, ◌&&◌, if◌then◌else◌}
use Rattle.std.specs.List.{flat_map}
use Rattle.std.proofs.lemmas.Bool.{and_parts, eqb-true}
use Rattle.std.proofs.lemmas.Bool.Decides.{nat_tests}
use Rattle.std.proofs.lemmas.Grind.{flat_map-append}
use Rattle.stab_base.specs.declared.node.Node.{Node}
use Rattle.stab_base.specs.declared.node.Node.TheVariants as nodes
use Rattle.row_value.specs.declared.schema.Schema.{Schema}
use Rattle.step_tables.specs.Slots.{Shadow}
use Rattle.step_tables.specs.Chunks.{is_spelled, is_named}
use Rattle.step_tables.specs.Members.{Among}
use Rattle.step_tables.specs.Messages.{Request, Pulled, TornPulled, Header, Message, SyncRequest, PullResponse, TornRowResponse}
use Rattle.step_tables.specs.ClientMoves.{TableDisk, Client, table_at, seen, slots_in, slots_at}
use Rattle.step_tables.proofs.Lists.{among_none, among_here, among_cons, among_left}
use Rattle.world_tables.specs.World.{World, Packet, Hosted, schema_at, hosted_at, client_at, chunk_in}
use Rattle.name_laws.proofs.Moves.{IsFine}
use Rattle.piece_laws.specs.Pieces.{items_at, asked_in, NamesOne, KeepsKnown, SlotsNamed, HasNames, IsHeaderOf, NamesStand}
use Rattle.piece_laws.proofs.Worlds.{request_there}
use Rattle.part_laws.specs.Gathers.{AreSent}
use Rattle.part_laws.specs.Answers.{IsOfItem, IsReadItem, IsOpened}
use Rattle.part_laws.specs.Rows.{SentDown, AreOfItems}
use Rattle.wire_laws.specs.Carried.{IsFit}
use Rattle.wire_laws.proofs.Places.{flat_member, member_flat}

pub record IsGround (w : World) : Type 0 where
  pub fine : IsFine w
  pub names : NamesStand w
  pub sized : (table : ℕ) (schema : Schema) → schema_at w table ≡ Some schema → 0 < schema.chunk
  pub declared : (table : ℕ) (hosted : Hosted) → hosted_at w table ≡ Some hosted → (schema : Schema) × (schema_at w table ≡ Some schema)
  pub unhosted : (table : ℕ) → hosted_at w table ≡ None → schema_at w table ≡ None
  pub requests : (p : Packet) (q : Request) → Among w.packets p → p.message ≡ SyncRequest q → (schema : Schema) × (schema_at w q.table ≡ Some schema) × (p.from ≡ nodes.Client q.client)
  pub pulls : (p : Packet) (pulled : Pulled) (h : Header) → Among w.packets p → p.message ≡ PullResponse pulled → pulled.header ≡ Some h → (schema : Schema) × (schema_at w pulled.table ≡ Some schema)
  pub rows : (p : Packet) (t : TornPulled) (h : Header) → Among w.packets p → p.message ≡ TornRowResponse t → t.header ≡ Some h → (schema : Schema) × (schema_at w t.table ≡ Some schema)
  pub fits : (p : Packet) → Among w.packets p → IsFit (schema_at w) p.from p.message
  pub opened : (c : ℕ) (node : Client) → client_at w c ≡ Some node → (table : ℕ) (t : TableDisk) → table_at (seen node.disk) table ≡ Some t → schema_at w table ≡ Some t.schema

-- the size of a table's chunks
abbrev pub size_in : World → ℕ → ℕ
size_in w table = chunk_in (schema_at w table)

-- ---- what was sent to a table at a Store, and to a client

abbrev pub request_to : ℕ → ℕ → Node → Message → List Request
request_to store table (nodes.Store number) (SyncRequest q) = if number == store && q.table == table then q ∷ [] else []
request_to store table to message = []

abbrev pub requests_to : ℕ → ℕ → List Packet → List Request
requests_to store table packets = flat_map (λ (p : Packet). request_to store table p.to p.message) packets

abbrev pub pulled_to : ℕ → Node → Message → List Pulled
pulled_to c (nodes.Client number) (PullResponse p) = if number == c then p ∷ [] else []
pulled_to c to message = []

abbrev pub torn_to : ℕ → Node → Message → List TornPulled
torn_to c (nodes.Client number) (TornRowResponse t) = if number == c then t ∷ [] else []
torn_to c to message = []

abbrev pub down_to : ℕ → List Packet → SentDown
down_to c packets = record {
  pulls = flat_map (λ (p : Packet). pulled_to c p.to p.message) packets;
  rows = flat_map (λ (p : Packet). torn_to c p.to p.message) packets;
}

-- one or none
only_one : {X : Type 0} (b : Bool) (x y : X) → Among (if b then x ∷ [] else []) y → (b ≡ true) → x ≡ y
only_one true x y a e = ⊎_elim (λ same. same) (λ none. absurd (among_none y none)) (among_cons x [] y a)
only_one false x y a e = absurd (among_none y a)

only_if : {X : Type 0} (b : Bool) (x y : X) → Among (if b then x ∷ [] else []) y → b ≡ true
only_if true x y a = refl
only_if false x y a = absurd (among_none y a)

-- the packet of a request that was sent to a table
pub record IsRequestTo (store table : ℕ) (packets : List Packet) (q : Request) : Type 0 where
  pub packet : Packet
  pub stands : Among packets packet
  pub to : packet.to ≡ nodes.Store store
  pub message : packet.message ≡ SyncRequest q
  pub table_is : q.table ≡ table

request_from : (store table : ℕ) (to : Node) (m : Message) (q : Request) → Among (request_to store table to m) q → (to ≡ nodes.Store store) × (m ≡ SyncRequest q) × (q.table ≡ table)
request_from store table (nodes.Store number) (SyncRequest r) q a =
    let here = only_if (number == store && r.table == table) r q a in
    let same = only_one (number == store && r.table == table) r q a here in
    let both = and_parts (number == store) (r.table == table) here in
    (ap nodes.Store (eqb-true number store both.0), ap (λ (x : Request). SyncRequest x) same, sym (ap (λ (x : Request). x.table) same) ∙ eqb-true r.table table both.1)
request_from store table to m q a = absurd (among_none q a)

pub sent_request : (store table : ℕ) (packets : List Packet) (q : Request) → Among (requests_to store table packets) q → IsRequestTo store table packets q
sent_request store table packets q a =
    let r = flat_member (λ (p : Packet). request_to store table p.to p.message) packets q a in
    let is = request_from store table r.0.to r.0.message q r.2 in
    record { packet = r.0; stands = r.1; to = is.0; message = is.1; table_is = is.2 }

itself : (n : ℕ) → (n == n) ≡ true
itself n = grind (arith, nat_tests)

if_same : {X : Type 0} (n k : ℕ) (x : X) → n ≡ k → Among (if n == k then x ∷ [] else []) x
if_same {X} n k x e = subst (λ (b : Bool). Among (if b then x ∷ [] else []) x) (sym (ap (λ (m : ℕ). n == m) (sym e) ∙ itself n)) (among_here x [])

pub request_sent : (store table : ℕ) (packets : List Packet) (p : Packet) (q : Request) → Among packets p → p.to ≡ nodes.Store store → p.message ≡ SyncRequest q → q.table ≡ table
    → Among (requests_to store table packets) q
request_sent store table packets p q a to message same =
    member_flat (λ (x : Packet). request_to store table x.to x.message) packets p q a
    (subst (λ (n : Node). Among (request_to store table n p.message) q) (sym to)
    (subst (λ (m : Message). Among (request_to store table (nodes.Store store) m) q) (sym message)
    (subst (λ (b : Bool). Among (if b && q.table == table then q ∷ [] else []) q) (sym (itself store)) (if_same q.table table q same))))

-- the packets of answers to a client
pub record IsPulledTo (c : ℕ) (packets : List Packet) (pulled : Pulled) : Type 0 where
  pub packet : Packet
  pub stands : Among packets packet
  pub to : packet.to ≡ nodes.Client c
  pub message : packet.message ≡ PullResponse pulled

pulled_from : (c : ℕ) (to : Node) (m : Message) (p : Pulled) → Among (pulled_to c to m) p → (to ≡ nodes.Client c) × (m ≡ PullResponse p)
pulled_from c (nodes.Client number) (PullResponse r) p a =
    (ap nodes.Client (eqb-true number c (only_if (number == c) r p a)), ap (λ (x : Pulled). PullResponse x) (only_one (number == c) r p a (only_if (number == c) r p a)))
pulled_from c to m p a = absurd (among_none p a)

pub sent_pulled : (c : ℕ) (packets : List Packet) (p : Pulled) → Among (down_to c packets).pulls p → IsPulledTo c packets p
sent_pulled c packets p a =
    let r = flat_member (λ (x : Packet). pulled_to c x.to x.message) packets p a in
    let is = pulled_from c r.0.to r.0.message p r.2 in
    record { packet = r.0; stands = r.1; to = is.0; message = is.1 }

pub pulled_sent : (c : ℕ) (packets : List Packet) (packet : Packet) (p : Pulled) → Among packets packet → packet.to ≡ nodes.Client c
    → packet.message ≡ PullResponse p → Among (down_to c packets).pulls p
pulled_sent c packets packet p a to message =
    member_flat (λ (x : Packet). pulled_to c x.to x.message) packets packet p a
    (subst (λ (n : Node). Among (pulled_to c n packet.message) p) (sym to)
    (subst (λ (m : Message). Among (pulled_to c (nodes.Client c) m) p) (sym message) (if_same c c p refl)))

pub record IsTornTo (c : ℕ) (packets : List Packet) (t : TornPulled) : Type 0 where
  pub packet : Packet
  pub stands : Among packets packet
  pub to : packet.to ≡ nodes.Client c
  pub message : packet.message ≡ TornRowResponse t

torn_from : (c : ℕ) (to : Node) (m : Message) (t : TornPulled) → Among (torn_to c to m) t → (to ≡ nodes.Client c) × (m ≡ TornRowResponse t)
torn_from c (nodes.Client number) (TornRowResponse r) t a =
    (ap nodes.Client (eqb-true number c (only_if (number == c) r t a)), ap (λ (x : TornPulled). TornRowResponse x) (only_one (number == c) r t a (only_if (number == c) r t a)))
torn_from c to m t a = absurd (among_none t a)

pub sent_torn : (c : ℕ) (packets : List Packet) (t : TornPulled) → Among (down_to c packets).rows t → IsTornTo c packets t
sent_torn c packets t a =
    let r = flat_member (λ (x : Packet). torn_to c x.to x.message) packets t a in
    let is = torn_from c r.0.to r.0.message t r.2 in
    record { packet = r.0; stands = r.1; to = is.0; message = is.1 }

pub torn_sent : (c : ℕ) (packets : List Packet) (packet : Packet) (t : TornPulled) → Among packets packet → packet.to ≡ nodes.Client c
    → packet.message ≡ TornRowResponse t → Among (down_to c packets).rows t
torn_sent c packets packet t a to message =
    member_flat (λ (x : Packet). torn_to c x.to x.message) packets packet t a
    (subst (λ (n : Node). Among (torn_to c n packet.message) t) (sym to)
    (subst (λ (m : Message). Among (torn_to c (nodes.Client c) m) t) (sym message) (if_same c c t refl)))

-- what was sent is among more
pub sent_left : {X : Type 0} (f : Packet → List X) (packets more : List Packet) (x : X) → Among (flat_map f packets) x → Among (flat_map f (packets ++ more)) x
sent_left {X} f packets more x a = subst (λ (l : List X). Among l x) (sym (flat_map-append f packets more)) (among_left (flat_map f packets) (flat_map f more) x a)

-- ---- what part_laws takes

module _ (w : World) (g : IsGround w) where
  module _ (table : ℕ) (schema : Schema) (at : schema_at w table ≡ Some schema) where
    size_is : size_in w table ≡ schema.chunk
    size_is = ap chunk_in at

    pub positive : 0 < size_in w table
    positive = subst (λ (n : ℕ). 0 < n) (sym size_is) (g.sized table schema at)

    pub one_name : NamesOne (size_in w table) (items_at w table)
    one_name = subst (λ (n : ℕ). NamesOne n (items_at w table)) (sym size_is) (g.names.one table schema at)

    pub are_sent : (store : ℕ) → AreSent (size_in w table) (items_at w table) (requests_to store table w.packets)
    are_sent store = record {
      one = λ q r a b client row number.
          let y = sent_request store table w.packets r b in
          (g.names.pairs q r (asked q a) (asked r b) client number schema (subst (λ (t : ℕ). schema_at w t ≡ Some schema) (sym y.table_is) at)).2;
      spelled = λ q a. (said q a).0;
      keeps = λ q a. (said q a).1;
    }
      where
        asked : (q : Request) → Among (requests_to store table w.packets) q → Among (asked_in w) q
        asked q a = let x = sent_request store table w.packets q a in request_there w.packets x.packet q x.stands x.message

        said : (q : Request) → Among (requests_to store table w.packets) q
            → (is_spelled (size_in w table) q.content q.pieces ≡ true) × KeepsKnown (size_in w table) (items_at w table) q.row q.content q.pieces
        said q a =
            let x = sent_request store table w.packets q a in
            subst (λ (n : ℕ). (is_spelled n q.content q.pieces ≡ true) × KeepsKnown n (items_at w table) q.row q.content q.pieces) (sym size_is)
            (subst (λ (t : ℕ). (is_spelled schema.chunk q.content q.pieces ≡ true) × KeepsKnown schema.chunk (items_at w t) q.row q.content q.pieces) x.table_is
            (g.names.requests q (asked q a) schema (subst (λ (t : ℕ). schema_at w t ≡ Some schema) (sym x.table_is) at)))

  -- a row from the Store is an item
  item_is : (table : ℕ) (schema : Schema) (h : Header) → schema_at w table ≡ Some schema → IsHeaderOf (items_at w table) h × (is_named schema.chunk h.content h.names ≡ true)
      → IsOfItem (size_in w table) (items_at w table) h
  item_is table schema h at is = record {
    item = is.0.item;
    is = is.0.is;
    content = is.0.content;
    names = is.0.names;
    named = subst (λ (n : ℕ). is_named n h.content h.names ≡ true) (sym (size_is table schema at)) is.1;
  }

  pub of_items : (c : ℕ) → AreOfItems (size_in w) (items_at w) (down_to c w.packets)
  of_items c = record {
    pulls = λ p h a is.
        let x = sent_pulled c w.packets p a in
        let d = g.pulls x.packet p h x.stands x.message is in
        item_is p.table d.0 h d.1 (g.names.headers x.packet x.stands p x.message h is d.0 d.1);
    rows = λ t h a is.
        let x = sent_torn c w.packets t a in
        let d = g.rows x.packet t h x.stands x.message is in
        item_is t.table d.0 h d.1 (g.names.torn x.packet x.stands t x.message h is d.0 d.1);
  }

  pub is_opened : (c : ℕ) (node : Client) → client_at w c ≡ Some node → (table : ℕ) (t : TableDisk) → table_at (seen node.disk) table ≡ Some t → IsOpened (size_in w table) (items_at w table) t
  is_opened c node there table t at = record {
    some = positive table t.schema known;
    size_is = sym (size_is table t.schema known);
    names_one = one_name table t.schema known;
    contents_one = λ row version i j x y. g.names.contents table row version i j x y;
    rows = λ row. record { shadow = λ x is. read row x ((named row).shadow x is); conflict = λ x is. read row x ((named row).conflict x is) };
  }
    where
      known : schema_at w table ≡ Some t.schema
      known = g.opened c node there table t at

      named : (row : List ℕ) → SlotsNamed t.schema.chunk c (items_at w table) (asked_in w) table row (slots_at t row)
      named row = subst (λ (o : Option TableDisk). SlotsNamed t.schema.chunk c (items_at w table) (asked_in w) table row (slots_in o row)) at (g.names.clients c node there table t.schema known row)

      read : (row : List ℕ) (x : Shadow) → HasNames (items_at w table) row x → IsReadItem (items_at w table) row x
      read row x n = record { item = n.item; is = n.is; content = sym n.content; names = n.names }
