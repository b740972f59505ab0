-- A client that is declared, with a gateway or without.
use Rattle.std.proofs.Common.{◌≡◌, ⊎_elim, ℕ, ◌≤◌, ◌<◌, Bool, true, false, List, [], Option, Some, None, refl, sym, ap, subst, append-nil, arith}
use Rattle.std.specs.Prelude.{is_some}
use Rattle.disk_trait.specs.Calls.{DiskState}
use Rattle.row_store.specs.Spelling.{IsClient}
use Rattle.table_model.specs.declared.event.Event.{Event}
use Rattle.table_model.specs.declared.event.Event.TheVariants as events
use Rattle.table_model.specs.declared.line.TextLine.{TextLine}
use Rattle.step_tables.specs.ClientMoves.{Client}
use Rattle.step_tables.specs.Messages.{Luck}
use Rattle.world_laws.proofs.Looks.{look_cases}
use Rattle.world_tables.specs.World.{World as AWorld, Lucks, joined as world_joined, open_all, new_client, first_agenda, first_luck, client_at}
use Rattle.wire_tables.specs.Wire.{WireStep, wire_step}
use Rattle.wire_tables.specs.Faults.{is_wire_fault}
use Rattle.part_network.specs.Packets.{most_bytes}
use Rattle.gate_host.specs.Holds.{HoldsGates}
use Rattle.gated_tables.specs.Devices.{Device, new_device}
use Rattle.gated_tables.specs.Net.{Net, NetStep, Sent, carried_on, joined, with_device}
use Rattle.net_network.specs.Packets.{net_bytes}
use Rattle.node_steps.specs.declared.fault.WorldFault.{WorldFault}
use Rattle.node_steps.specs.declared.fault.WorldFault.TheVariants.{Limit as LimitPassed}
use Rattle.node_steps.specs.Holds.{Holds as NodesHold}
use Rattle.net_steps.specs.declared.world.World.{World}
use Rattle.net_steps.specs.Askers.{AreAsked, HoldsAskers}
use Rattle.net_steps.specs.Devices.{HoldsDevices}
use Rattle.net_steps.specs.Holds.{Holds}
use Rattle.net_steps.specs.Steps.{IsMoved, IsDone, IsStep, IsOver, all_faults}
use Rattle.net_steps.specs.Through.{IsStood, IsThrough, IsBeyond, joined_unless}
use Rattle.net_steps.proofs.Carried.{carried_held}
use Rattle.net_steps.proofs.Moved.{later_moved, later_linked}

-- ---- the wire behind it

-- it has the Stores and the tables that it had
joined_gates : (w : AWorld) (c : ℕ) (tables : List ℕ) (luck : Luck) (o : Option Client) (gs : _) (gates : _) → HoldsGates w.stores w.schemas gs gates
    → HoldsGates (world_joined w c tables luck o).stores (world_joined w c tables luck o).schemas gs gates
joined_gates w c tables luck (Some node) gs gates h = h
joined_gates w c tables luck None gs gates h = h

-- and who asked is known still
joined_asked : (w : AWorld) (c : ℕ) (tables : List ℕ) (luck : Luck) (o : Option Client) (askers : _) → AreAsked askers w.schemas → AreAsked askers (world_joined w c tables luck o).schemas
joined_asked w c tables luck (Some node) askers k = k
joined_asked w c tables luck None askers k = k

-- and the client
joined_there : (w : AWorld) (c : ℕ) (tables : List ℕ) (luck : Luck) (o : Option Client) → client_at w c ≡ o → is_some (client_at (world_joined w c tables luck o) c) ≡ true
joined_there w c tables luck (Some node) at = ap is_some at
joined_there w c tables luck None at =
    ⊎_elim (λ e. ap is_some e.1) (λ e. absurd (e.0 refl)) (look_cases w.clients c (new_client (open_all w [] tables) (first_agenda luck)) c)

-- ---- as a step of the wire

join_step : (n : Net) (c : ℕ) (gate : Option ℕ) (tables : List ℕ) (lucks : Lucks) (o : Option Client)
    → joined n c gate tables lucks o ≡ (let x : NetStep = carried_on n (wire_step n.wire (events.Client c None tables) lucks) in record x { net = joined_unless (is_some o) c gate x.net })
join_step n c gate tables lucks (Some node) = refl
join_step n c gate tables lucks None = refl

abbrev pub join_by : Net → ℕ → Option ℕ → List ℕ → Lucks → NetStep
join_by n c gate tables lucks = let x : NetStep = carried_on n (wire_step n.wire (events.Client c None tables) lucks) in
    record x { net = joined_unless (is_some (client_at n.wire.world c)) c gate x.net }

less : (a b : ℕ) → a < b → b ≤ a → ⊥
less a b x y = omega (arith, x, y)

module _ {D : Type 0} (state : D → DiskState) (images : D → ℕ → List ℕ → Type 0) (n : Net) (c : ℕ) (gate : Option ℕ) (tables : List ℕ) (before is_out : ℕ → Bool) (old mid : World D)
    (x : IsStood state before n old) where
  abbrev other : Event
  other = events.Client c None tables

  step_of : Lucks → WireStep
  step_of lucks = wire_step n.wire (events.Client c None tables) lucks

  -- it sends nothing
  pub join_over : (e : WorldFault) → ((count : ℕ) → e ≡ LimitPassed 10 count → (lucks : Lucks) × IsBeyond state images n other lucks is_out old mid)
      → (count : ℕ) → e ≡ LimitPassed 10 count → IsOver state images n (events.Client c gate tables) is_out old mid
  join_over e over count ten =
      let k = over count ten in
      let more : most_bytes < net_bytes n.sent = subst (λ (l : List Sent). most_bytes < net_bytes l) (append-nil n.sent) k.1.over in
      absurd (less most_bytes (net_bytes n.sent) more x.held.sent.most)

  module _ (rest : mid ≡ record old { wire = mid.wire; network = mid.network }) (lines : List TextLine) (k : (lucks : Lucks) × IsThrough state images n (events.Client c None tables) lucks lines is_out old mid) where
    abbrev s : WireStep
    s = wire_step n.wire (events.Client c None tables) k.0

    mid_held : Holds state (carried_on n s).net mid
    mid_held = carried_held state n s lines mid k.1.carried k.1.wire
        (joined_gates n.wire.world c tables (first_luck k.0.calls) (client_at n.wire.world c) n.gates mid.gates
        (subst (λ (y : World D). HoldsGates n.wire.world.stores n.wire.world.schemas n.gates y.gates) (sym rest) x.held.gates))
        (subst (λ (y : World D). HoldsDevices n.devices y.devices) (sym rest) x.held.devices) x.held.numbered
        (subst (λ (y : World D). HoldsAskers n.askers y.askers) (sym rest) x.held.askers)
        (joined_asked n.wire.world c tables (first_luck k.0.calls) (client_at n.wire.world c) n.askers x.held.asked)

    there : is_some (client_at s.wire.world c) ≡ true
    there = joined_there n.wire.world c tables (first_luck k.0.calls) (client_at n.wire.world c) refl

    module _ (new : World D) (store : new.wire.nodes.store ≡ mid.wire.nodes.store) (faults : all_faults state new ≡ all_faults state mid) where
      moved : (b : Bool) (g : Option ℕ) → NodesHold state (joined_unless b c g (carried_on n s).net).wire.world new.wire.nodes
          → IsMoved state images n (is_wire_fault n.wire other k.0) (joined_unless b c g (carried_on n s).net).wire is_out old new
      moved true g held = later_moved state images n is_out old new (is_wire_fault n.wire other k.0) mid store faults s.wire k.1.moved held
      moved false None held = later_moved state images n is_out old new (is_wire_fault n.wire other k.0) mid store faults s.wire k.1.moved held
      moved false (Some number) held =
          later_linked state images n is_out old new (is_wire_fault n.wire other k.0) mid store faults (carried_on n s).net c (new_device number) k.1.moved held

      pub join_done : (is_there : Bool) → is_there ≡ is_some (client_at n.wire.world c) → IsClient c
          → ((m : Net) → Holds state m mid → is_some (client_at m.wire.world c) ≡ true → IsClient c → Holds state (joined_unless is_there c gate m) new)
          → IsStep state images n (events.Client c gate tables) lines is_out old new
      join_done is_there is client given = (
        k.0,
        subst (λ (y : NetStep). IsDone state images n y (is_wire_fault n.wire other k.0) lines is_out old new)
            (sym (join_step n c gate tables k.0 (client_at n.wire.world c))) (record { lines_are = k.1.carried.lines_are; held = held; moved = moved b gate held.wire.nodes }),
      )
        where
          b : Bool
          b = is_some (client_at n.wire.world c)

          held : Holds state (joined_unless (is_some (client_at n.wire.world c)) c gate (carried_on n s).net) new
          held = subst (λ (y : Bool). Holds state (joined_unless y c gate (carried_on n s).net) new) is (given (carried_on n s).net mid_held there client)

-- one that wasn't there has this gateway
pub joined_new : {D : Type 0} (state : D → DiskState) (n : Net) (c number : ℕ) (new : World D) (is_there : Bool) → is_there ≡ false → (d : Device) → d ≡ new_device number
    → Holds state (with_device c d n) new → Holds state (joined_unless is_there c (Some number) n) new
joined_new state n c number new is_there is d same h =
    subst (λ (b : Bool). Holds state (joined_unless b c (Some number) n) new) (sym is) (subst (λ (e : Device). Holds state (with_device c e n) new) same h)

-- the tables are those that were copied
pub joined_as : {D : Type 0} (state : D → DiskState) (images : D → ℕ → List ℕ → Type 0) (n : Net) (c : ℕ) (gate : Option ℕ) (made tables : List ℕ) → made ≡ tables
    → (lines : List TextLine) (is_out : ℕ → Bool) (old new : World D) → IsStep state images n (events.Client c gate made) lines is_out old new
    → IsStep state images n (events.Client c gate tables) lines is_out old new
joined_as state images n c gate made tables same lines is_out old new k = subst (λ (t : List ℕ). IsStep state images n (events.Client c gate t) lines is_out old new) same k

pub joined_over : {D : Type 0} (state : D → DiskState) (images : D → ℕ → List ℕ → Type 0) (n : Net) (c : ℕ) (gate : Option ℕ) (made tables : List ℕ) → made ≡ tables
    → (is_out : ℕ → Bool) (old new : World D) → IsOver state images n (events.Client c gate made) is_out old new → IsOver state images n (events.Client c gate tables) is_out old new
joined_over state images n c gate made tables same is_out old new k = subst (λ (t : List ℕ). IsOver state images n (events.Client c gate t) is_out old new) same k
