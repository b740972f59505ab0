-- What the calls of the world promise, each for an event.
use Rattle.std.specs.Prelude.{◌≡◌, ◌≢◌, ◌⊎◌, ℕ, Bool, false, List, Result, IfOk, IfErr}
use Rattle.disk_trait.specs.Calls.{DiskState}
use Rattle.table_model.specs.declared.event.Event.{Event}
use Rattle.table_model.specs.declared.line.TextLine.{TextLine}
use Rattle.world_tables.specs.Sound.{is_declaration}
use Rattle.world_tables.specs.World.{Lucks}
use Rattle.wire_tables.specs.Faults.{is_wire_fault}
use Rattle.wire_tables.specs.Wire.{wire_step}
use Rattle.gated_tables.specs.Faults.{is_net_fault}
use Rattle.gated_tables.specs.Net.{Net, net_step, carried_on}
use Rattle.node_steps.specs.declared.fault.WorldFault.{WorldFault}
use Rattle.node_steps.specs.declared.fault.WorldFault.TheVariants.{Memory, Depot as DepotFailed, Limit as LimitPassed}
use Rattle.wire_steps.specs.Calls.{IsLimitedBy}
use Rattle.wire_steps.specs.Steps.{IsWhole}
use Rattle.wire_steps.specs.Steps as wires
use Rattle.net_steps.specs.declared.world.World.{World}
use Rattle.net_steps.specs.Steps.{IsStep, IsOver, IsUndone, Spends}

-- it is carried out, and these are its lines
abbrev pub Comes : {D : Type 0} → (D → DiskState) → (D → ℕ → List ℕ → Type 0) → Net → Event → (ℕ → Bool)
    → Result (List TextLine) WorldFault → (old new : World D) → Type 0
Comes state images n event is_out result old new =
    IfOk result (λ lines. IsStep state images n event lines is_out old new)

-- at limit 10 the nodes are behind it
abbrev pub Overruns : {D : Type 0} → (D → DiskState) → (D → ℕ → List ℕ → Type 0) → Net → Event → (ℕ → Bool)
    → Result (List TextLine) WorldFault → (old new : World D) → Type 0
Overruns state images n event is_out result old new = IfErr result (λ e. (count : ℕ) → e ≡ LimitPassed 10 count
    → IsOver state images n event is_out old new)

-- limit 10, or limit 11 where a number is spent
abbrev pub IsLimited : ℕ → Net → Event → Result (List TextLine) WorldFault → Type 0
IsLimited m n event result = IsLimitedBy (Spends m n event) result

-- where it ends the run for another reason nothing has changed
abbrev pub Leaves : {D : Type 0} → (D → DiskState) → Net → Event → (ℕ → Bool) → Result (List TextLine) WorldFault
    → (old new : World D) → Type 0
Leaves state n event is_out result old new = IfErr result (λ e. e ≢ Memory
    → ((count : ℕ) → e ≢ LimitPassed 10 count) → IsWhole event ⊎ (e ≡ DepotFailed)
    → IsUndone state n is_out old new)

-- the world makes of the event what the wire makes of it, and declares nothing
pub record IsCarriedOn (n : Net) (event : Event) : Type 0 where
  pub step : (lucks : Lucks) → net_step n event lucks ≡ carried_on n (wire_step n.wire event lucks)
  pub fault : (lucks : Lucks) → is_net_fault n event lucks ≡ is_wire_fault n.wire event lucks
  pub spends : (m : ℕ) → wires.Spends m n.wire.world event → Spends m n event
  pub plain : is_declaration event ≡ false
