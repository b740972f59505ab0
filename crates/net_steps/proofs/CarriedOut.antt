-- An event of which the world makes what the wire makes of it: carried out, with more bytes than may be sent, and undone.
use Rattle.std.proofs.Common.{◌≡◌, ◌⊎◌, inl, inr, ⊎_elim, ℕ, Bool, List, refl, sym, subst}
use Rattle.std.specs.Prelude.{Result, Ok, Err, IfOk, IfErr}
use Rattle.std.proofs.lemmas.Result.{IfOk-weaker}
use Rattle.disk_trait.specs.Calls.{DiskState}
use Rattle.table_model.specs.declared.event.Event.{Event}
use Rattle.table_model.specs.declared.line.TextLine.{TextLine}
use Rattle.world_tables.specs.World.{Lucks}
use Rattle.wire_tables.specs.Wire.{WireStep, wire_step}
use Rattle.wire_tables.specs.Faults.{is_wire_fault}
use Rattle.gated_tables.specs.Faults.{is_net_fault}
use Rattle.gated_tables.specs.Net.{Net, NetStep, carried_on}
use Rattle.gated_laws.specs.Runs.{IsReached}
use Rattle.gated_laws.proofs.Reached.{before_reached}
use Rattle.net_network.specs.declared.network.Network.{Network}
use Rattle.node_steps.specs.declared.fault.WorldFault.{WorldFault}
use Rattle.node_steps.specs.declared.fault.WorldFault.TheVariants.{Limit as LimitPassed}
use Rattle.wire_steps.specs.declared.world.World as wire_world
use Rattle.wire_steps.specs.Holds as holds
use Rattle.wire_steps.specs.Steps as wires
use Rattle.net_steps.specs.declared.world.World.{World}
use Rattle.net_steps.specs.Holds.{Holds, IsAt}
use Rattle.net_steps.specs.Steps.{IsMoved, IsDone, IsPast, IsStep, IsOver, IsUndone, Spends}
use Rattle.net_steps.specs.Calls.{Comes, Overruns, IsCarriedOn}
use Rattle.net_steps.specs.Carrying.{IsToCarry, IsCarried, IsOverFault}
use Rattle.net_steps.proofs.Carried.{wire_of, gates_stay, asked_stay, to_carry, carried_held, over_carried}

-- ---- the wire in the world

pub wire_stands : {D : Type 0} (state : D → DiskState) (is_out : ℕ → Bool) (event : Event) (n : Net) (world : World D) → IsAt state is_out event n world → holds.IsWorld state is_out world.wire
wire_stands state is_out event n world at = record {
  v = n.wire;
  reached = wire_of n (before_reached n event at.before);
  held = at.held.wire;
  out = at.out;
}

-- only the wire and the network are others
abbrev pub with_wire : {D : Type 0} → wire_world.World D → Network → World D → World D
with_wire wire network world = record world { wire = wire; network = network }

module _ {D : Type 0} (state : D → DiskState) (images : D → ℕ → List ℕ → Type 0) (n : Net) (event : Event) (is_out : ℕ → Bool) (old new : World D) where
  -- the nodes are behind the wire's step
  pub moved_on : (lucks : Lucks) → wires.IsMoved state images n.wire event lucks is_out old.wire new.wire
      → IsMoved state images n (is_wire_fault n.wire event lucks) (wire_step n.wire event lucks).wire is_out old new
  moved_on lucks m = record { held = m.held; out = m.out; rose = m.rose; same = m.same; rows = m.rows }

  abbrev WasStep : List TextLine → wire_world.World D → Type 0
  WasStep lines wire = wires.IsStep state images n.wire event lines is_out old.wire wire

module _ {D : Type 0} (state : D → DiskState) (images : D → ℕ → List ℕ → Type 0) (n : Net) (event : Event) (before is_out : ℕ → Bool) (old : World D) (at : IsAt state before event n old)
    (on : IsCarriedOn n event) where
  reached : IsReached n
  reached = before_reached n event at.before

  -- ---- carried out

  module _ (lines : List TextLine) (wire : wire_world.World D) (k : wires.IsStep state images n.wire event lines is_out old.wire wire) where
    abbrev pub s : WireStep
    s = wire_step n.wire event k.lucks

    pub to_carry_on : IsToCarry state n n.wire s lines (with_wire wire old.network old)
    to_carry_on = to_carry state n n.wire (wire_of n reached) refl refl refl event k.lucks s refl lines old (with_wire wire old.network old) at.held k.held k.lines_are refl refl refl

    moved_by : (network : Network) → IsMoved state images n (is_net_fault n event k.lucks) s.wire is_out old (with_wire wire network old)
    moved_by network = subst (λ (failed : Bool). IsMoved state images n failed s.wire is_out old (with_wire wire network old)) (sym (on.fault k.lucks))
        (moved_on state images n event is_out old (with_wire wire network old) k.lucks k.moved)

    held_by : (network : Network) (told : List TextLine) → IsCarried n s told network → Holds state (carried_on n s).net (with_wire wire network old)
    held_by network told c = carried_held state n s told (with_wire wire network old) c k.held
        (gates_stay n n.wire (wire_of n reached) refl refl event on.plain k.lucks (with_wire wire network old) at.held.gates) at.held.devices at.held.numbered
        at.held.askers (asked_stay n n.wire (wire_of n reached) refl event on.plain k.lucks at.held.asked)

    pub carry_comes : (network : Network) (result : Result (List TextLine) WorldFault) → IfOk result (λ told. IsCarried n s told network)
        → Comes state images n event is_out result old (with_wire wire network old)
    carry_comes network result c = IfOk-weaker result (λ told. IsCarried n s told network) (λ told. IsStep state images n event told is_out old (with_wire wire network old))
        (λ told x. (
          k.lucks,
          subst (λ (z : NetStep). IsDone state images n z (is_net_fault n event k.lucks) told is_out old (with_wire wire network old)) (sym (on.step k.lucks))
              (record { lines_are = x.lines_are; held = held_by network told x; moved = moved_by network }),
        )) c

    pub carry_overruns : (network : Network) (result : Result (List TextLine) WorldFault) → IfErr result (IsOverFault (carried_on n s).net.sent)
        → Overruns state images n event is_out result old (with_wire wire network old)
    carry_overruns network (Ok told) over = tt
    carry_overruns network (Err e) over = λ count ten. (
      k.lucks,
      subst (λ (z : NetStep). IsPast state images n z (is_net_fault n event k.lucks) is_out old (with_wire wire network old)) (sym (on.step k.lucks))
          (record { over = over count ten; moved = moved_by network }),
    )

  -- ---- not carried out by the wire

  pub step_overruns : (e : WorldFault) (wire : wire_world.World D) → ((count : ℕ) → e ≡ LimitPassed 10 count → wires.IsOver state images n.wire event is_out old.wire wire)
      → (count : ℕ) → e ≡ LimitPassed 10 count → IsOver state images n event is_out old (with_wire wire old.network old)
  step_overruns e wire over count ten =
      let k : wires.IsOver state images n.wire event is_out old.wire wire = over count ten in
      let s : WireStep = wire_step n.wire event k.lucks in
      let new : World D = with_wire wire old.network old in (
        k.lucks,
        subst (λ (z : NetStep). IsPast state images n z (is_net_fault n event k.lucks) is_out old new) (sym (on.step k.lucks))
            (record {
              over = over_carried state n n.wire (wire_of n reached) refl event k.lucks s refl old at.held k.over;
              moved = subst (λ (failed : Bool). IsMoved state images n failed s.wire is_out old new) (sym (on.fault k.lucks)) (moved_on state images n event is_out old new k.lucks k.moved);
            }),
      )

  pub step_limited : (m : ℕ) (e : WorldFault) → ((code count : ℕ) → e ≡ LimitPassed code count → (code ≡ 10) ⊎ ((code ≡ 11) × wires.Spends m n.wire.world event))
      → (code count : ℕ) → e ≡ LimitPassed code count → (code ≡ 10) ⊎ ((code ≡ 11) × Spends m n event)
  step_limited m e limit code count is = ⊎_elim (λ ten. inl ten) (λ k. inr (k.0, on.spends m k.1)) (limit code count is)

-- nothing has changed where the wire's step is undone
pub step_undone : {D : Type 0} (state : D → DiskState) (n : Net) (is_out : ℕ → Bool) (old : World D) → Holds state n old → (wire : wire_world.World D)
    → wires.IsUndone state n.wire is_out old.wire wire → IsUndone state n is_out old (with_wire wire old.network old)
step_undone state n is_out old h wire k = record {
  held = record { wire = k.held; gates = h.gates; devices = h.devices; sent = h.sent; short = h.short; bytes = h.bytes; numbered = h.numbered; askers = h.askers; asked = h.asked };
  out = k.out;
  same = k.same;
}
