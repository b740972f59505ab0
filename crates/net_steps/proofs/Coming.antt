-- A part that comes to a client or to a Store is that of a packet of the wire, which goes there too.
use Rattle.std.proofs.Common.{◌≡◌, ℕ, Bool, true, false, List, Option, Some, None, refl, sym, ◌∙◌, ap, subst}
use Rattle.std.specs.Prelude.{slice_get, length, if◌then◌else◌}
use Rattle.disk_trait.specs.Calls.{DiskState}
use Rattle.stab_base.specs.declared.node.Node.{Node}
use Rattle.stab_base.specs.declared.node.Node.TheVariants as nodes
use Rattle.table_model.specs.declared.event.Event.TheVariants as events
use Rattle.step_tables.specs.Facts as facts
use Rattle.step_tables.proofs.Lists.{among_get}
use Rattle.world_tables.specs.World.{Lucks, owner_of}
use Rattle.message_parts.specs.Parts.{part_of, message_at}
use Rattle.wire_tables.specs.Wire.{PartPacket, Wire, WireStep, brought, wire_step}
use Rattle.gated_tables.specs.Devices.{Device}
use Rattle.gated_tables.specs.Net.{Net, NetStep, Sent, carried_on, client_taken, cut_by, cutting, delivered, delivered_to, device_at, gate_at, is_node_down}
use Rattle.gated_tables.specs.Net.{net_step, refused, still, to_client, to_gate, to_store, unless_down}
use Rattle.gated_laws.specs.Carried.{IsNoGate}
use Rattle.gated_laws.proofs.HandedOn.{part_back, part_stamped, way_of}
use Rattle.gated_laws.proofs.KeptWires.{parts_go}
use Rattle.gated_laws.proofs.Reached.{IsPacketOf, before_reached, packet_of, kept_wire, brought_to_client}
use Rattle.net_network.specs.Packets.{IsPartIf, IsWayAt, IsWayOf}
use Rattle.net_network.specs.declared.packet.Way.{Way}
use Rattle.net_steps.specs.declared.world.World.{World}
use Rattle.net_steps.specs.Holds.{IsAt}
use Rattle.net_steps.specs.Delivering.{IsComing, step_brought, step_linked}

module _ {D : Type 0} (state : D → DiskState) (is_out : ℕ → Bool) (number : ℕ) (from to : Node) (part : ℕ × ℕ) (old : World D) (x : IsComing state is_out number from to (Some part) old)
    (party : IsNoGate to) where
  abbrev pub packet : PartPacket
  packet = x.part_is.0

  pub stands : slice_get x.n.wire.packets part.0 ≡ Some packet
  stands = x.part_is.1

  pub part_here : part_of x.one.message ≡ Some packet.part
  part_here = ap part_of x.part_is.2 ∙ (part_stamped part.1 (message_at packet.part) ∙ part_back packet.part)

  sent_as : IsPacketOf x.n.wire packet.part to
  sent_as = packet_of x.n x.here.reached number x.one x.stands packet.part part_here to party x.to_is

  pub goes : (q : PartPacket) (place : ℕ) → slice_get x.n.wire.packets place ≡ Some q → q.to ≡ way_of (owner_of x.n.wire.world) q.part
  goes q place at = (parts_go x.n.wire (kept_wire x.n x.here.reached) q (among_get x.n.wire.packets place q at)).to

  pub goes_to : packet.to ≡ x.one.to
  goes_to = goes packet part.0 stands
      ∙ (ap (way_of (owner_of x.n.wire.world)) (sym sent_as.part_is)
      ∙ (sym (goes sent_as.packet sent_as.place sent_as.at)
      ∙ (sent_as.to_is ∙ sym x.to_is)))

module _ {D : Type 0} (state : D → DiskState) (is_out : ℕ → Bool) (number : ℕ) (from : Node) (part : ℕ × ℕ) (old : World D) where
  module _ (c : ℕ) (x : IsComing state is_out number from (nodes.Client c) (Some part) old) where
    abbrev pub here : PartPacket
    here = packet state is_out number from (nodes.Client c) part old x tt

    abbrev pub as_brought : PartPacket
    as_brought = record { from = x.one.from; to = x.one.to; part = here.part }

    by_wire : (v : Wire) → slice_get v.packets part.0 ≡ Some here → (lucks : Lucks) → brought v as_brought lucks (nodes.Client c) ≡ wire_step v (events.Deliver part.0) lucks
    by_wire v at lucks = brought_to_client v part.0 here at x.one.from x.one.to here.part refl (goes_to state is_out number from (nodes.Client c) part old x tt) c x.to_is lucks

    by_device : (lucks : Lucks) (o : Option Device) → device_at x.n c ≡ o → to_client x.n c x.one lucks (part_of x.one.message) ≡ client_taken x.n c as_brought lucks o
    by_device lucks o at = ap (to_client x.n c x.one lucks) (part_here state is_out number from (nodes.Client c) part old x tt) ∙ ap (client_taken x.n c as_brought lucks) at

    -- of a client without a gateway
    pub client_wired : device_at x.n c ≡ None → (lucks : Lucks) → to_client x.n c x.one lucks (part_of x.one.message) ≡ step_brought x.n x.n.wire part.0 lucks
    client_wired at lucks = by_device lucks None at
        ∙ ap (carried_on x.n) (by_wire x.n.wire (stands state is_out number from (nodes.Client c) part old x tt) lucks)

    -- of one that has a gateway
    pub client_linked : (d : Device) → device_at x.n c ≡ Some d → (lucks : Lucks) → to_client x.n c x.one lucks (part_of x.one.message) ≡ step_linked x.n c d part.0 lucks
    client_linked d at lucks = by_device lucks (Some d) at
        ∙ ap (λ (s : WireStep). let t : NetStep = carried_on x.n s in record t { net = cut_by c d t.net })
        (by_wire (cutting c d.linked x.n.wire) (stands state is_out number from (nodes.Client c) part old x tt) lucks)

-- ---- a message of a number

module _ {D : Type 0} (state : D → DiskState) (is_out : ℕ → Bool) (number : ℕ) (from to : Node) (old : World D) where
  -- of which it is known whether it is a part
  abbrev pub coming_as : (part given : Option (ℕ × ℕ)) → part ≡ given → IsComing state is_out number from to part old → IsComing state is_out number from to given old
  coming_as part given is x = record {
    n = x.n;
    here = x.here;
    one = x.one;
    stands = x.stands;
    from_is = x.from_is;
    to_is = x.to_is;
    part_is = subst (λ (p : Option (ℕ × ℕ)). IsPartIf x.n.wire.packets p x.one.message) is x.part_is;
  }

pub way_there : (ps : List PartPacket) (way : Way) (o : Option Sent) → IsWayAt ps (Some way) o → (one : Sent) × (o ≡ Some one) × IsWayOf ps way one
way_there ps way None k = absurd k
way_there ps way (Some one) k = (one, refl, k)

module _ {D : Type 0} (state : D → DiskState) (is_out : ℕ → Bool) (number : ℕ) (way : Way) (old : World D) (n : Net) (x : IsAt state is_out (events.Deliver number) n old)
    (k : IsWayAt n.wire.packets (Some way) (slice_get n.sent number)) where
  abbrev pub sent_there : (one : Sent) × (slice_get n.sent number ≡ Some one) × IsWayOf n.wire.packets way one
  sent_there = way_there n.wire.packets way (slice_get n.sent number) k

  abbrev pub one : Sent
  one = sent_there.0

  module _ (to : Node) (is : way.to ≡ to) (up : is_node_down n way.to ≡ false) where
    pub is_up : is_node_down n to ≡ false
    is_up = sym (ap (is_node_down n) is) ∙ up

    abbrev pub comes : IsComing state is_out number way.from to way.part old
    comes = record {
      n = n;
      here = record { reached = before_reached n (events.Deliver number) x.before; held = x.held; out = x.out; up = is_up };
      one = one;
      stands = sent_there.1;
      from_is = sym sent_there.2.from;
      to_is = sym sent_there.2.to ∙ is;
      part_is = sent_there.2.part;
    }

    step_to : (lucks : Lucks) → net_step n (events.Deliver number) lucks ≡ delivered_to n one lucks to
    step_to lucks = ap (delivered n lucks) sent_there.1 ∙ ap (delivered_to n one lucks) (sym sent_there.2.to ∙ is)

  unless_up : (to : Node) → is_node_down n to ≡ false → (s : NetStep) → unless_down n to s ≡ s
  unless_up to up s = ap (λ (b : Bool). if b then refused n (facts.NodeDown to) else s) up

  pub step_to_store : (store : ℕ) → way.to ≡ nodes.Store store → is_node_down n way.to ≡ false → (lucks : Lucks)
      → net_step n (events.Deliver number) lucks ≡ to_store n store one lucks (part_of one.message)
  step_to_store store is up lucks =
      step_to (nodes.Store store) is up lucks ∙ unless_up (nodes.Store store) (is_up (nodes.Store store) is up) (to_store n store one lucks (part_of one.message))

  pub step_to_client : (c : ℕ) → way.to ≡ nodes.Client c → is_node_down n way.to ≡ false → (lucks : Lucks)
      → net_step n (events.Deliver number) lucks ≡ to_client n c one lucks (part_of one.message)
  step_to_client c is up lucks =
      step_to (nodes.Client c) is up lucks ∙ unless_up (nodes.Client c) (is_up (nodes.Client c) is up) (to_client n c one lucks (part_of one.message))

  -- to a node that is down
  pub step_refused : is_node_down n way.to ≡ true → (lucks : Lucks) → net_step n (events.Deliver number) lucks ≡ still n (facts.Refuses (facts.NodeDown way.to))
  step_refused down lucks = ap (delivered n lucks) sent_there.1 ∙ (ap (delivered_to n one lucks) (sym sent_there.2.to) ∙ go way.to down)
    where
      go : (to : Node) → is_node_down n to ≡ true → delivered_to n one lucks to ≡ still n (facts.Refuses (facts.NodeDown to))
      go (nodes.Store number) is = ap (λ (b : Bool). if b then refused n (facts.NodeDown (nodes.Store number)) else to_store n number one lucks (part_of one.message)) is
      go (nodes.Client c) is = ap (λ (b : Bool). if b then refused n (facts.NodeDown (nodes.Client c)) else to_client n c one lucks (part_of one.message)) is
      go (nodes.Gate number) is = ap (λ (b : Bool). if b then refused n (facts.NodeDown (nodes.Gate number)) else to_gate n number one (gate_at n number)) is

-- of a number that wasn't sent
pub absent_step : (n : Net) (number : ℕ) → IsWayAt n.wire.packets None (slice_get n.sent number) → (lucks : Lucks)
    → net_step n (events.Deliver number) lucks ≡ still n (facts.Refuses (facts.NoPacket (length n.sent)))
absent_step n number k lucks = go (slice_get n.sent number) k
  where
    go : (o : Option Sent) → IsWayAt n.wire.packets None o → delivered n lucks o ≡ still n (facts.Refuses (facts.NoPacket (length n.sent)))
    go None k = refl
    go (Some p) k = absurd k
