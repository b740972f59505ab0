-- A part that the wire brings to its node, with what it sends on its way.
use Rattle.std.proofs.Common.{◌≡◌, ◌≢◌, ◌⊎◌, ⊎_elim, ℕ, suc, ◌+◌, Bool, List, Result, Ok, Err, refl, sym, ◌∙◌, subst}
use Rattle.std.specs.Prelude.{IfOk, IfErr}
use Rattle.disk_trait.specs.Calls.{DiskState, IsCounted}
use Rattle.table_model.specs.declared.event.Event.TheVariants as events
use Rattle.table_model.specs.declared.line.TextLine.{TextLine}
use Rattle.world_tables.specs.World.{Lucks}
use Rattle.wire_tables.specs.Wire.{Wire, WireStep, wire_step}
use Rattle.gate_host.specs.Holds.{HoldsGates}
use Rattle.gate_host.specs.declared.gates.Gates.{Gates}
use Rattle.gated_tables.specs.Net.{Net, carried_on}
use Rattle.net_network.specs.declared.network.Network.{Network}
use Rattle.node_steps.specs.declared.fault.WorldFault.{WorldFault}
use Rattle.node_steps.specs.declared.fault.WorldFault.TheVariants.{Memory, Depot as DepotFailed, Limit as LimitPassed}
use Rattle.wire_steps.specs.Calls.{SpendsAny}
use Rattle.wire_steps.specs.Sending.{IsSendFault}
use Rattle.wire_steps.specs.Steps as wires
use Rattle.wire_steps.specs.declared.world.World.{World as WireWorld}
use Rattle.wire_steps.proofs.Answered.{send_limited}
use Rattle.net_steps.specs.declared.world.World.{World}
use Rattle.net_steps.specs.Askers.{HoldsAskers}
use Rattle.net_steps.specs.Devices.{HoldsDevices}
use Rattle.net_steps.specs.Steps.{HavePlansBelow}
use Rattle.net_steps.specs.Carrying.{IsToCarry, IsCarried, IsOverFault}
use Rattle.net_steps.specs.Delivering.{IsToBring, IsBrought, Brings}
use Rattle.net_steps.proofs.Carried.{asked_stay, to_carry, carried_held, over_carried, gates_stay}

-- no depot ends what fails to be sent
pub send_apart : {T : Type 0} (result : Result T WorldFault) → IfErr result IsSendFault → IfErr result (λ e. e ≢ DepotFailed)
send_apart (Ok x) k = tt
send_apart (Err e) k =
    λ depot. ⊎_elim (λ m. let both : Memory ≡ DepotFailed = sym m ∙ depot in absurd cc) (λ l. let both : LimitPassed 10 l.0 ≡ DepotFailed = sym l.1 ∙ depot in absurd cc) k

-- and none has failed in it
pub counted_apart : {T : Type 0} (before after : ℕ) → after ≡ before → (result : Result T WorldFault) → IfErr result (λ e. e ≢ DepotFailed) → IsCounted DepotFailed before after result
counted_apart before after same (Ok x) k = same
counted_apart before after same (Err e) k = (λ depot. absurd (k depot), λ other. same)

module _ {D : Type 0} (state : D → DiskState) (images : D → ℕ → List ℕ → Type 0) (n : Net) (v : Wire) (packet : ℕ) (is_out is_after : ℕ → Bool) (old : World D)
    (x : IsToBring state is_out n v old) where
  abbrev step_of : Lucks → WireStep
  step_of lucks = wire_step v (events.Deliver packet) lucks

  -- the wire is behind its step, and told this
  module _ (wire : WireWorld D) (lines : List TextLine) (s : wires.IsStep state images v (events.Deliver packet) lines is_after old.wire wire) where
    abbrev mid : World D
    mid = record old { wire = wire }

    pub to_carry_on : IsToCarry state n v (step_of s.lucks) lines mid
    to_carry_on = to_carry state n v x.reached x.packets x.stores x.schemas (events.Deliver packet) s.lucks (step_of s.lucks) refl lines x.first mid x.net s.held s.lines_are x.devices x.askers x.network

    pub brings_carry : (n : Net) × (v : Wire) × (s : WireStep) × IsToCarry state n v s lines mid
    brings_carry = (n, v, step_of s.lucks, to_carry_on)

    gates_are : HoldsGates (step_of s.lucks).wire.world.stores (step_of s.lucks).wire.world.schemas n.gates old.gates
    gates_are = subst (λ (gates : Gates). HoldsGates (step_of s.lucks).wire.world.stores (step_of s.lucks).wire.world.schemas n.gates gates) (sym x.gates)
        (gates_stay n v x.reached x.stores x.schemas (events.Deliver packet) refl s.lucks x.first x.net.gates)

    -- with what it sent on the network
    behind : (network : Network) (told : List TextLine) → IsCarried n (step_of s.lucks) told network
        → IsBrought state images n v packet s.lucks told is_after old (record old { wire = wire; network = network })
    behind network told k = record {
      lines_are = k.lines_are;
      held = carried_held state n (step_of s.lucks) told (record old { wire = wire; network = network }) k s.held gates_are (subst (HoldsDevices n.devices) (sym x.devices) x.net.devices) x.net.numbered
          (subst (HoldsAskers n.askers) (sym x.askers) x.net.askers) (asked_stay n v x.reached x.schemas (events.Deliver packet) refl s.lucks x.net.asked);
      moved = s.moved;
    }

    brings_by : (network : Network) (result : Result (List TextLine) WorldFault) → IfOk result (λ told. IsCarried n (step_of s.lucks) told network)
        → IfErr result (IsOverFault (carried_on n (step_of s.lucks)).net.sent) → IfErr result IsSendFault
        → ((m : ℕ) → HavePlansBelow state m old → wires.HavePlansBelow state (3 + m) wire)
        → Brings state images n v packet result is_after old (record old { wire = wire; network = network })
    brings_by network (Ok told) done over only plans = record {
      done = (s.lucks, behind network told done);
      over = tt;
      limit = λ m below. tt;
      plans = plans;
      apart = tt;
    }
    brings_by network (Err e) done over only plans = record {
      done = tt;
      over = λ count is. (s.lucks, record { over = over count is; moved = s.moved });
      limit = λ m below. send_limited (SpendsAny (suc (suc m)) v.world) {T = List TextLine} (Err e) only;
      plans = plans;
      apart = send_apart {T = List TextLine} (Err e) only;
    }

    pub brings_carried : (new : World D) → new ≡ record old { wire = wire; network = new.network } → (result : Result (List TextLine) WorldFault)
        → IfOk result (λ told. IsCarried n (step_of s.lucks) told new.network) → IfErr result (IsOverFault (carried_on n (step_of s.lucks)).net.sent) → IfErr result IsSendFault
        → ((m : ℕ) → HavePlansBelow state m old → wires.HavePlansBelow state (3 + m) wire) → Brings state images n v packet result is_after old new
    brings_carried new same result done over only plans =
        subst (λ (w : World D). Brings state images n v packet result is_after old w) (sym same) (brings_by new.network result done over only plans)

  -- the wire ends the run
  pub brings_ended : (wire : WireWorld D) (e : WorldFault)
      → ((count : ℕ) → e ≡ LimitPassed 10 count → wires.IsOver state images v (events.Deliver packet) is_after old.wire wire)
      → ((m : ℕ) → HavePlansBelow state m old → (code count : ℕ) → e ≡ LimitPassed code count → (code ≡ 10) ⊎ ((code ≡ 11) × SpendsAny (suc (suc m)) v.world))
      → ((m : ℕ) → HavePlansBelow state m old → wires.HavePlansBelow state (3 + m) wire) → (e ≢ DepotFailed)
      → Brings state images n v packet (Err e) is_after old (record old { wire = wire })
  brings_ended wire e over limit plans only = record {
    done = tt;
    over = λ count is. let o = over count is in (
      o.lucks,
      record {
        over = over_carried state n v x.reached x.packets (events.Deliver packet) o.lucks (step_of o.lucks) refl x.first x.net o.over;
        moved = o.moved;
      },
    );
    limit = limit;
    plans = plans;
    apart = only;
  }
