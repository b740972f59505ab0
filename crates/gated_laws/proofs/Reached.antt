-- What holds in every world with gateways that a script leads to, for bodies that go through one: it is kept, its wire is
-- one that a run of wires leads to, and what its deliveries and sessions do are steps of that wire.
use Rattle.std.proofs.Common.{◌≡◌, ℕ, Bool, true, false, List, [], ◌∷◌, ◌++◌, Some, refl, sym, ◌∙◌, ap, subst, true≢false}
use Rattle.std.specs.Prelude.{slice_get, is_some, MatchBool}
use Rattle.std.specs.List.{AllByRecursion}
use Rattle.stab_base.specs.declared.node.Node.{Node}
use Rattle.stab_base.specs.declared.node.Node.TheVariants as nodes
use Rattle.table_model.specs.declared.event.Event.{Event}
use Rattle.table_model.specs.declared.event.Event.TheVariants as events
use Rattle.step_tables.specs.Facts.{Line, FactLine}
use Rattle.step_tables.specs.Facts as facts
use Rattle.step_tables.specs.ClientMoves.{Client}
use Rattle.step_tables.proofs.Lists.{among_get}
use Rattle.world_tables.specs.Sound.{is_declaration}
use Rattle.world_tables.specs.Turns.{Happening}
use Rattle.world_tables.specs.Quiet.{sent_in}
use Rattle.world_tables.specs.World.{Lucks, no_lucks, client_at, is_client_down, owner_of}
use Rattle.fair_laws.specs.Reached.{IsBuilt}
use Rattle.part_tables.specs.Parts.{Part}
use Rattle.message_parts.specs.Parts.{part_of}
use Rattle.wire_tables.specs.Wire.{PartPacket, Wire, WireStep, brought, delivered, wire_step}
use Rattle.wire_tables.specs.Wire as wires
use Rattle.wire_tables.specs.Runs.{wire_from}
use Rattle.wire_laws.specs.Runs.{AreBuilt}
use Rattle.wire_laws.proofs.Places.{place_of}
use Rattle.gated_tables.specs.Devices.{part_client}
use Rattle.gated_tables.specs.Net.{Sent, Net, start, cutting, net_step}
use Rattle.gated_tables.specs.Runs.{net_from}
use Rattle.gated_laws.specs.Carried.{IsNoGate}
use Rattle.gated_laws.specs.Runs.{AreDeclaredFirst, AreDeclarations, IsReached, IsBefore}
use Rattle.gated_laws.proofs.Remembered.{IsRemembered, start_remembered, shaped, link_alone}
use Rattle.gated_laws.proofs.NetLines.{IsPlainWireStep}
use Rattle.gated_laws.proofs.KeptWires.{from_join, built_join, IsKeptWire, parts_go, IsPartAddressed, cut_linked, plain_on}
use Rattle.gated_laws.proofs.KeptNets.{IsSentAs, IsKeptNet, Carries}
use Rattle.gated_laws.proofs.Carrying.{from_client, from_unread, carries, goes_there}
use Rattle.gated_laws.proofs.NetRuns.{IsSilent, DeclaresNet, declares_net, start_silent}

-- ---- every world that a script leads to is kept

plain_kept : (run : List Happening) → AllByRecursion (λ (h : Happening). is_declaration h.event ≡ false) run → AreBuilt run → (n : Net) → IsKeptNet n → IsKeptNet (net_from n run)
plain_kept [] plain built n k = k
plain_kept (h ∷ run) plain built n k =
    let c : Carries 1 n h.event (net_step n h.event h.lucks) = carries n k h.event plain.0 built.0 h.lucks in
    plain_kept run plain.1 built.1 (net_step n h.event h.lucks).net c.kept

first_kept : (run : List Happening) → AreDeclaredFirst run → AreBuilt run → (n : Net) → IsSilent n → IsKeptNet (net_from n run)
first_kept [] first built n k = k.kept
first_kept (h ∷ run) first built n k = go (is_declaration h.event) refl first (λ f m s. first_kept run f built.1 m s)
  where
    go : (b : Bool) → is_declaration h.event ≡ b → MatchBool b (AreDeclaredFirst run) (AllByRecursion (λ (x : Happening). is_declaration x.event ≡ false) run)
        → (AreDeclaredFirst run → (m : Net) → IsSilent m → IsKeptNet (net_from m run)) → IsKeptNet (net_from n (h ∷ run))
    go false is f rest = plain_kept (h ∷ run) (is, f) built n k.kept
    go true is f rest =
        let d : DeclaresNet 1 n h.event (net_step n h.event h.lucks) = declares_net n k h.event is built.0 h.lucks in
        rest f (net_step n h.event h.lucks).net d.silent

pub kept_net : (n : Net) → IsReached n → IsKeptNet n
kept_net n r = subst IsKeptNet (sym r.is) (first_kept r.run r.first r.built start start_silent)

pub reached_start : IsReached start
reached_start = record { run = []; first = tt; built = tt; is = refl }

-- ---- and its wire is one that a run of wires leads to

pub reached_wire : (n : Net) → IsReached n → (run : List Happening) × AreBuilt run × (n.wire ≡ wire_from wires.start run)
reached_wire n r = let k : IsKeptNet n = kept_net n r in (k.wire.run, k.wire.built, k.wire.is)

pub kept_wire : (n : Net) → IsReached n → IsKeptWire n.wire
kept_wire n r = (kept_net n r).wire

pub remembered_wire : (n : Net) → IsReached n → IsRemembered n.wire
remembered_wire n r = (kept_net n r).wire.remembered

-- ---- the next event

net_join : (n : Net) (run more : List Happening) → net_from n (run ++ more) ≡ net_from (net_from n run) more
net_join n [] more = refl
net_join n (h ∷ run) more = net_join (net_step n h.event h.lucks).net run more

plain_push : (run : List Happening) (h : Happening) → AllByRecursion (λ (x : Happening). is_declaration x.event ≡ false) run → is_declaration h.event ≡ false
    → AllByRecursion (λ (x : Happening). is_declaration x.event ≡ false) (run ++ h ∷ [])
plain_push [] h all here = (here, tt)
plain_push (x ∷ run) h all here = (all.0, plain_push run h all.1 here)

pub declared_push : (run : List Happening) (h : Happening) → AreDeclarations run → is_declaration h.event ≡ true → AreDeclarations (run ++ h ∷ [])
declared_push [] h all here = (here, tt)
declared_push (x ∷ run) h all here = (all.0, declared_push run h all.1 here)

all_first : (run : List Happening) → AreDeclarations run → AreDeclaredFirst run
all_first [] all = tt
all_first (h ∷ run) all =
    subst (λ (b : Bool). MatchBool b (AreDeclaredFirst run) (AllByRecursion (λ (x : Happening). is_declaration x.event ≡ false) run)) (sym all.0) (all_first run all.1)

one_first : (h : Happening) → AreDeclaredFirst (h ∷ [])
one_first h = go (is_declaration h.event)
  where
    go : (b : Bool) → MatchBool b (AreDeclaredFirst []) (AllByRecursion (λ (x : Happening). is_declaration x.event ≡ false) [])
    go true = tt
    go false = tt

first_push : (run : List Happening) (h : Happening) → AreDeclaredFirst run → is_declaration h.event ≡ false → AreDeclaredFirst (run ++ h ∷ [])
first_push [] h first here = one_first h
first_push (x ∷ run) h first here = go (is_declaration x.event) first (λ f. first_push run h f here)
  where
    go : (b : Bool) → MatchBool b (AreDeclaredFirst run) (AllByRecursion (λ (y : Happening). is_declaration y.event ≡ false) run) → (AreDeclaredFirst run → AreDeclaredFirst (run ++ h ∷ []))
        → MatchBool b (AreDeclaredFirst (run ++ h ∷ [])) (AllByRecursion (λ (y : Happening). is_declaration y.event ≡ false) (run ++ h ∷ []))
    go true f rest = rest f
    go false f rest = plain_push run h f here

-- an event that declares nothing may always come
pub before_plain : (n : Net) (event : Event) → IsReached n → is_declaration event ≡ false → IsBefore n event
before_plain n event r plain = record { run = r.run; first = r.first; built = r.built; is = r.is; follows = λ declares. absurd (true≢false (sym declares ∙ plain)) }

-- and any behind declarations alone
pub before_declared : (n : Net) (event : Event) (run : List Happening) → AreDeclarations run → AreBuilt run → n ≡ net_from start run → IsBefore n event
before_declared n event run all built is = record { run = run; first = all_first run all; built = built; is = is; follows = λ declares. all }

pub before_reached : (n : Net) (event : Event) → IsBefore n event → IsReached n
before_reached n event b = record { run = b.run; first = b.first; built = b.built; is = b.is }

-- an event that follows a run goes on with it
pub first_next : (run : List Happening) (h : Happening) → AreDeclaredFirst run → (is_declaration h.event ≡ true → AreDeclarations run) → AreDeclaredFirst (run ++ h ∷ [])
first_next run h first follows = go (is_declaration h.event) refl
  where
    go : (d : Bool) → is_declaration h.event ≡ d → AreDeclaredFirst (run ++ h ∷ [])
    go true is = all_first (run ++ h ∷ []) (declared_push run h (follows is) is)
    go false is = first_push run h first is

pub reached_next : (n : Net) (event : Event) → IsBefore n event → (lucks : Lucks) → IsBuilt event → IsReached (net_step n event lucks).net
reached_next n event b lucks built = record {
  run = b.run ++ h ∷ [];
  first = first_next b.run h b.first b.follows;
  built = built_join b.run (h ∷ []) b.built (built, tt);
  is = ap (λ (m : Net). (net_step m event lucks).net) b.is ∙ sym (net_join start b.run (h ∷ []));
}
  where
    h : Happening
    h = record { event = event; lucks = lucks }

-- behind a declaration another may come
pub before_next : (n : Net) (event next : Event) → IsBefore n event → (lucks : Lucks) → IsBuilt event → is_declaration event ≡ true → IsBefore (net_step n event lucks).net next
before_next n event next b lucks built declares = before_declared (net_step n event lucks).net next (b.run ++ h ∷ [])
    (declared_push b.run h (b.follows declares) declares) (built_join b.run (h ∷ []) b.built (built, tt))
    (ap (λ (m : Net). (net_step m event lucks).net) b.is ∙ sym (net_join start b.run (h ∷ [])))
  where
    h : Happening
    h = record { event = event; lucks = lucks }

-- ---- a delivery is one of the wire

-- to a client from anywhere, on any wire
pub brought_to_client : (v : Wire) (j : ℕ) (q : PartPacket) → slice_get v.packets j ≡ Some q → (from to : Node) (part : Part) → q.part ≡ part → q.to ≡ to
    → (c : ℕ) → to ≡ nodes.Client c → (lucks : Lucks) → brought v (record { from = from; to = to; part = part }) lucks (nodes.Client c) ≡ wire_step v (events.Deliver j) lucks
brought_to_client v j q at from to part part_is to_is c here lucks = sym (
    ap (delivered v lucks) at
    ∙ (ap (brought v q lucks) (to_is ∙ here)
    ∙ (ap (λ (x : Node). brought v (record { from = q.from; to = x; part = q.part }) lucks (nodes.Client c)) (to_is ∙ here)
    ∙ (ap (λ (x : Part). brought v (record { from = q.from; to = nodes.Client c; part = x }) lucks (nodes.Client c)) part_is
    ∙ (from_unread v c part q.from from lucks
    ∙ ap (λ (x : Node). brought v (record { from = from; to = x; part = part }) lucks (nodes.Client c)) (sym here))))))

-- to a Store it comes from its client
pub comes_from : (n : Net) → IsReached n → (j : ℕ) (q : PartPacket) → slice_get n.wire.packets j ≡ Some q → (number : ℕ) → q.to ≡ nodes.Store number → q.from ≡ nodes.Client (part_client q.part)
comes_from n r j q at number here =
    let a : IsPartAddressed (owner_of n.wire.world) q = parts_go n.wire (kept_wire n r) q (among_get n.wire.packets j q at) in
    from_client (owner_of n.wire.world) q.part q.from q.to number a.from a.to here

pub brought_to_store : (n : Net) → IsReached n → (j : ℕ) (q : PartPacket) → slice_get n.wire.packets j ≡ Some q → (to : Node) (part : Part) → q.part ≡ part → q.to ≡ to
    → (number : ℕ) → to ≡ nodes.Store number → (lucks : Lucks)
    → brought n.wire (record { from = nodes.Client (part_client part); to = to; part = part }) lucks (nodes.Store number) ≡ wire_step n.wire (events.Deliver j) lucks
brought_to_store n r j q at to part part_is to_is number here lucks = sym (
    ap (delivered n.wire lucks) at
    ∙ (ap (brought n.wire q lucks) (to_is ∙ here)
    ∙ (ap (λ (x : Node). brought n.wire (record { from = x; to = q.to; part = q.part }) lucks (nodes.Store number)) (comes_from n r j q at number (to_is ∙ here))
    ∙ (ap (λ (x : Node). brought n.wire (record { from = nodes.Client (part_client q.part); to = x; part = q.part }) lucks (nodes.Store number)) to_is
    ∙ ap (λ (x : Part). brought n.wire (record { from = nodes.Client (part_client x); to = to; part = x }) lucks (nodes.Store number)) part_is))))

-- a message that is a part, on its way to a client or to a Store, has such a packet of the wire
pub record IsPacketOf (v : Wire) (part : Part) (to : Node) : Type 0 where
  pub place : ℕ
  pub packet : PartPacket
  pub at : slice_get v.packets place ≡ Some packet
  pub part_is : packet.part ≡ part
  pub to_is : packet.to ≡ to

pub packet_of : (n : Net) → IsReached n → (number : ℕ) (p : Sent) → slice_get n.sent number ≡ Some p → (part : Part) → part_of p.message ≡ Some part
    → (to : Node) → IsNoGate to → p.to ≡ to → IsPacketOf n.wire part to
packet_of n r number p at part is to party here =
    let k : IsKeptNet n = kept_net n r in
    let a : IsSentAs n.wire p.to part = k.sent p (among_get n.sent number p at) part is in
    let place = place_of n.wire.packets a.packet a.stands in
    record { place = place.0; packet = a.packet; at = place.1; part_is = a.part_is; to_is = goes_there n k p part to party here a }

-- ---- a session is a link of the wire

run_remembered : (run : List Happening) (v : Wire) → IsRemembered v → IsRemembered (wire_from v run)
run_remembered [] v r = r
run_remembered (h ∷ run) v r = run_remembered run (wire_step v h.event h.lucks).wire (shaped v r h.event h.lucks).remembered

pub wire_remembered : (v : Wire) (run : List Happening) → v ≡ wire_from wires.start run → IsRemembered v
wire_remembered v run is = subst IsRemembered (sym is) (run_remembered run wires.start start_remembered)

pub cutting_is : (v : Wire) (c : ℕ) (up : Bool) (lucks : Lucks) (node : Client) → IsRemembered v → client_at v.world c ≡ Some node → is_client_down (client_at v.world c) ≡ false
    → cutting c up v ≡ (wire_step v (events.Link c up) lucks).wire
cutting_is v c up lucks node r there is_up = sym (ap (λ (s : WireStep). s.wire) (link_alone v c up lucks node r there is_up))

pub cutting_kept : (v : Wire) (c : ℕ) (up : Bool) → IsKeptWire v → is_some (client_at v.world c) ≡ true → is_client_down (client_at v.world c) ≡ false → IsKeptWire (cutting c up v)
cutting_kept v c up k there is_up = (cut_linked v k c up there is_up).kept

-- on any wire that built events lead to
pub cutting_reached : (v : Wire) (c : ℕ) (up : Bool) (run : List Happening) → AreBuilt run → v ≡ wire_from wires.start run → (node : Client) → client_at v.world c ≡ Some node
    → is_client_down (client_at v.world c) ≡ false → (whole : List Happening) × AreBuilt whole × (cutting c up v ≡ wire_from wires.start whole)
cutting_reached v c up run built is node there is_up =
    let h : Happening = record { event = events.Link c up; lucks = no_lucks } in (
      run ++ h ∷ [],
      built_join run (h ∷ []) built (tt, tt),
      cutting_is v c up no_lucks node (wire_remembered v run is) there is_up
          ∙ (ap (λ (x : Wire). (wire_step x (events.Link c up) no_lucks).wire) is ∙ sym (from_join wires.start run (h ∷ []))),
    )

-- what leads to a wire that is kept
pub kept_reached : (v : Wire) → IsKeptWire v → (run : List Happening) × AreBuilt run × (v ≡ wire_from wires.start run)
kept_reached v k = (k.run, k.built, k.is)

-- ---- what a step of the wire tells is no packet

pub plain_wire : (v : Wire) (run : List Happening) → AreBuilt run → v ≡ wire_from wires.start run → (event : Event) (lucks : Lucks) → IsPlainWireStep (wire_step v event lucks)
plain_wire v run built is event lucks = plain_on v run built is event lucks

-- and neither does a line that is counted
abbrev pub IsPlainLine : Line → Type 0
IsPlainLine (FactLine (facts.Sent packet from to name)) = ⊥
IsPlainLine other = Unit {0}

lines_plain : (lines : List Line) → sent_in (lines ++ []) ≡ [] → AllByRecursion IsPlainLine lines
lines_plain [] none = tt
lines_plain (line ∷ lines) none = go line none (lines_plain lines)
  where
    go : (l : Line) → sent_in (l ∷ lines ++ []) ≡ [] → (sent_in (lines ++ []) ≡ [] → AllByRecursion IsPlainLine lines) → AllByRecursion IsPlainLine (l ∷ lines)
    go (FactLine (facts.Sent packet from to name)) e rest = absurd cc
    go (FactLine other) e rest = (tt, rest e)
    go other e rest = (tt, rest e)

pub plain_counted : (s : WireStep) → IsPlainWireStep s → AllByRecursion IsPlainLine s.counted
plain_counted s p = lines_plain s.counted (p.counted [])
