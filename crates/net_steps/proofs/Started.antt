-- A client that is started.
use Rattle.std.proofs.Common.{◌≡◌, ℕ, ◌<◌, Bool, true, false, List, Option, Some, None, refl, sym, ◌∙◌, ap, subst}
use Rattle.std.specs.Prelude.{if◌then◌else◌}
use Rattle.std.specs.Ordering.{nat_cmp}
use Rattle.std.specs.BTreeMap.{insert_entry}
use Rattle.disk_trait.specs.Calls.{DiskState}
use Rattle.stab_base.specs.declared.node.Node.TheVariants as nodes
use Rattle.table_model.specs.declared.event.Event.{Event}
use Rattle.table_model.specs.declared.event.Event.TheVariants as events
use Rattle.table_model.specs.declared.line.TextLine.{TextLine}
use Rattle.world_tables.specs.Faults.{is_fault_answer}
use Rattle.world_tables.specs.World.{Lucks, client_at, is_client_down}
use Rattle.wire_tables.specs.Wire.{WireStep, wire_step}
use Rattle.wire_tables.specs.Faults.{is_wire_fault}
use Rattle.part_network.specs.Packets.{most_bytes}
use Rattle.gate_host.specs.Holds.{HoldsGates}
use Rattle.gated_tables.specs.Devices.{Device, is_online}
use Rattle.gated_tables.specs.Faults.{is_net_fault}
use Rattle.gated_tables.specs.Net.{Net, NetStep, Sent, net_step, carried_on, cutting, device_at, with_device, restarted}
use Rattle.gated_laws.specs.Runs.{IsReached}
use Rattle.gated_laws.proofs.KeptNets.{IsKeptNet}
use Rattle.gated_laws.proofs.KeptWires.{step_keeps}
use Rattle.gated_laws.proofs.Reached.{kept_net}
use Rattle.net_network.specs.Packets.{net_bytes}
use Rattle.node_steps.specs.declared.fault.WorldFault.{WorldFault}
use Rattle.node_steps.specs.declared.fault.WorldFault.TheVariants.{Limit as LimitPassed}
use Rattle.node_steps.specs.Holds.{Holds as NodesHold}
use Rattle.net_steps.specs.declared.world.World.{World}
use Rattle.net_steps.specs.Askers.{HoldsAskers}
use Rattle.net_steps.specs.Devices.{HoldsDevices}
use Rattle.net_steps.specs.Holds.{Holds}
use Rattle.net_steps.specs.Steps.{IsMoved, IsDone, IsPast, IsStep, IsOver, IsUndone, all_faults}
use Rattle.net_steps.specs.Through.{IsStood, IsThrough, IsBeyond, IsThere, restarted_if}
use Rattle.net_steps.proofs.Carried.{asked_stay, wire_of, gates_stay, carried_held}
use Rattle.net_steps.proofs.Moved.{later_moved, later_linked}

pub device_sent : (c : ℕ) (d : Device) (n : Net) → (with_device c d n).sent ≡ n.sent
device_sent c d n = go (is_client_down (client_at n.wire.world c))
  where
    m : Net
    m = record n { devices = insert_entry nat_cmp n.devices c d }

    go : (b : Bool) → (λ (x : Net). x.sent) (if b then m else record m { wire = cutting c (is_online d) n.wire }) ≡ n.sent
    go true = refl
    go false = refl

restarted_sent : (b : Bool) (c : ℕ) (m : Net) → (restarted_if b c m).sent ≡ m.sent
restarted_sent false c m = refl
restarted_sent true c m = go (device_at m c)
  where
    go : (o : Option Device) → (restarted c o m).sent ≡ m.sent
    go None = refl
    go (Some d) = device_sent c (record d { token = None }) m

abbrev starts : ℕ → Event
starts c = events.Start (nodes.Client c)

start_step : (n : Net) (c : ℕ) (lucks : Lucks)
    → net_step n (events.Start (nodes.Client c)) lucks
    ≡ (let x : NetStep = carried_on n (wire_step n.wire (events.Start (nodes.Client c)) lucks) in record x { net = restarted_if (is_client_down (client_at n.wire.world c)) c x.net })
start_step n c lucks = go (is_client_down (client_at n.wire.world c))
  where
    x : NetStep
    x = carried_on n (wire_step n.wire (events.Start (nodes.Client c)) lucks)

    go : (b : Bool) → (if b then record x { net = restarted c (device_at n c) x.net } else x) ≡ record x { net = restarted_if b c x.net }
    go true = refl
    go false = refl

-- an answer doesn't go by sessions
start_fault : (n : Net) (c : ℕ) (lucks : Lucks) → is_net_fault n (events.Start (nodes.Client c)) lucks ≡ is_wire_fault n.wire (events.Start (nodes.Client c)) lucks
start_fault n c lucks = ap (λ (x : NetStep). is_fault_answer x.answer) (start_step n c lucks)

-- a client that has a gateway is there, and stays
pub there_behind : (n : Net) → IsReached n → (c : ℕ) (lucks : Lucks) → IsThere c (carried_on n (wire_step n.wire (events.Start (nodes.Client c)) lucks)).net
there_behind n r c lucks d at =
    let k : IsKeptNet n = kept_net n r in
    (step_keeps n.wire k.wire (events.Start (nodes.Client c)) refl tt lucks).clients c (k.devices c d at)

pub there_now : (n : Net) → IsReached n → (c : ℕ) → IsThere c n
there_now n r c d at = (kept_net n r).devices c d at

module _ {D : Type 0} (state : D → DiskState) (images : D → ℕ → List ℕ → Type 0) (n : Net) (c : ℕ) (before is_out : ℕ → Bool) (old mid : World D) (x : IsStood state before n old) where
  abbrev behind : Lucks → Net
  behind lucks = (carried_on n (wire_step n.wire (events.Start (nodes.Client c)) lucks)).net

  module _ (new : World D) (store : new.wire.nodes.store ≡ mid.wire.nodes.store) (faults : all_faults state new ≡ all_faults state mid) where
    restart_moved : (failed b : Bool) (m : Net) → IsMoved state images n failed m.wire is_out old mid → NodesHold state (restarted_if b c m).wire.world new.wire.nodes
        → IsMoved state images n failed (restarted_if b c m).wire is_out old new
    restart_moved failed false m moved held = later_moved state images n is_out old new failed mid store faults m.wire moved held
    restart_moved failed true m moved held = go (device_at m c) held
      where
        go : (o : Option Device) → NodesHold state (restarted c o m).wire.world new.wire.nodes → IsMoved state images n failed (restarted c o m).wire is_out old new
        go None k = later_moved state images n is_out old new failed mid store faults m.wire moved k
        go (Some d) k = later_linked state images n is_out old new failed mid store faults m c (record d { token = None }) moved k

    -- it is started
    pub start_done : mid ≡ record old { wire = mid.wire; network = mid.network } → (was_down : Bool) → was_down ≡ is_client_down (client_at n.wire.world c)
        → ((m : Net) → Holds state m mid → IsThere c m → Holds state (restarted_if was_down c m) new) → (lines : List TextLine)
        → (lucks : Lucks) × IsThrough state images n (events.Start (nodes.Client c)) lucks lines is_out old mid → IsStep state images n (events.Start (nodes.Client c)) lines is_out old new
    start_done rest was_down is given lines k = (
      k.0,
      subst (λ (y : NetStep). IsDone state images n y (is_net_fault n (starts c) k.0) lines is_out old new) (sym (start_step n c k.0))
          (subst (λ (f : Bool). IsDone state images n (record s { net = restarted_if b c s.net }) f lines is_out old new) (sym (start_fault n c k.0))
          (record { lines_are = k.1.carried.lines_are; held = held; moved = restart_moved (is_wire_fault n.wire (starts c) k.0) b s.net k.1.moved held.wire.nodes })),
    )
      where
        w : WireStep
        w = wire_step n.wire (events.Start (nodes.Client c)) k.0

        s : NetStep
        s = carried_on n (wire_step n.wire (events.Start (nodes.Client c)) k.0)

        b : Bool
        b = is_client_down (client_at n.wire.world c)

        mid_held : Holds state (carried_on n (wire_step n.wire (events.Start (nodes.Client c)) k.0)).net mid
        mid_held = carried_held state n w lines mid k.1.carried k.1.wire
            (gates_stay n n.wire (wire_of n x.reached) refl refl (starts c) refl k.0 mid
            (subst (λ (y : World D). HoldsGates n.wire.world.stores n.wire.world.schemas n.gates y.gates) (sym rest) x.held.gates))
            (subst (λ (y : World D). HoldsDevices n.devices y.devices) (sym rest) x.held.devices) x.held.numbered
            (subst (λ (y : World D). HoldsAskers n.askers y.askers) (sym rest) x.held.askers) (asked_stay n n.wire (wire_of n x.reached) refl (starts c) refl k.0 x.held.asked)

        held : Holds state (restarted_if (is_client_down (client_at n.wire.world c)) c (carried_on n (wire_step n.wire (events.Start (nodes.Client c)) k.0)).net) new
        held = subst (λ (y : Bool). Holds state (restarted_if y c s.net) new) is (given s.net mid_held (there_behind n x.reached c k.0))

    -- and too much is sent
    pub start_over : mid ≡ record old { wire = mid.wire; network = mid.network } → (was_down : Bool) → was_down ≡ is_client_down (client_at n.wire.world c)
        → ((m : Net) → HoldsDevices m.devices mid.devices → NodesHold state m.wire.world mid.wire.nodes → IsThere c m → NodesHold state (restarted_if was_down c m).wire.world new.wire.nodes)
        → (e : WorldFault) → ((count : ℕ) → e ≡ LimitPassed 10 count → (lucks : Lucks) × IsBeyond state images n (events.Start (nodes.Client c)) lucks is_out old mid)
        → (count : ℕ) → e ≡ LimitPassed 10 count → IsOver state images n (events.Start (nodes.Client c)) is_out old new
    start_over rest was_down is given e over count ten = (
      k.0,
      subst (λ (y : NetStep). IsPast state images n y (is_net_fault n (starts c) k.0) is_out old new) (sym (start_step n c k.0))
          (subst (λ (f : Bool). IsPast state images n (record s { net = restarted_if b c s.net }) f is_out old new) (sym (start_fault n c k.0))
          (record {
            over = subst (λ (l : List Sent). most_bytes < net_bytes l) (sym (restarted_sent b c s.net)) k.1.over;
            moved = restart_moved (is_wire_fault n.wire (starts c) k.0) b s.net k.1.moved held;
          })),
    )
      where
        k : (lucks : Lucks) × IsBeyond state images n (events.Start (nodes.Client c)) lucks is_out old mid
        k = over count ten

        s : NetStep
        s = carried_on n (wire_step n.wire (events.Start (nodes.Client c)) (over count ten).0)

        b : Bool
        b = is_client_down (client_at n.wire.world c)

        held : NodesHold state (restarted_if (is_client_down (client_at n.wire.world c)) c (carried_on n (wire_step n.wire (events.Start (nodes.Client c)) (over count ten).0)).net).wire.world new.wire.nodes
        held = subst (λ (y : Bool). NodesHold state (restarted_if y c s.net).wire.world new.wire.nodes) is
            (given s.net (subst (λ (y : World D). HoldsDevices n.devices y.devices) (sym rest) x.held.devices) k.1.moved.held (there_behind n x.reached c k.0))

    -- it isn't
    pub start_left : IsUndone state n is_out old mid → Holds state n new → IsUndone state n is_out old new
    start_left u held = record { held = held; out = u.out; same = faults ∙ u.same }
