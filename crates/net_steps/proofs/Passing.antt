-- A step of the wire with what it sends on its way: gone through, with more bytes than may be sent, and undone.
use Rattle.std.proofs.Common.{◌≡◌, ℕ, Bool, List, refl, sym, ◌∙◌, ap, subst}
use Rattle.std.specs.Prelude.{Result, Ok, Err, IfOk, IfErr}
use Rattle.disk_trait.specs.Calls.{DiskState}
use Rattle.table_model.specs.declared.event.Event.{Event}
use Rattle.table_model.specs.declared.line.TextLine.{TextLine}
use Rattle.world_tables.specs.World.{Lucks}
use Rattle.wire_tables.specs.Wire.{WireStep, wire_step}
use Rattle.gated_tables.specs.Net.{Net, carried_on}
use Rattle.gated_laws.proofs.Reached.{before_reached}
use Rattle.node_steps.specs.declared.fault.WorldFault.{WorldFault}
use Rattle.node_steps.specs.declared.fault.WorldFault.TheVariants.{Limit as LimitPassed}
use Rattle.wire_steps.specs.declared.world.World as wire_world
use Rattle.wire_steps.specs.Holds as holds
use Rattle.wire_steps.specs.Steps as wires
use Rattle.net_steps.specs.declared.world.World.{World}
use Rattle.net_steps.specs.Carrying.{IsToCarry, IsCarried, IsOverFault}
use Rattle.net_steps.specs.Holds.{IsAt}
use Rattle.net_steps.specs.Steps.{HavePlansBelow}
use Rattle.net_steps.specs.Through.{IsStood, IsThrough, IsBeyond}
use Rattle.net_steps.proofs.Carried.{wire_of, to_carry, over_carried}
use Rattle.net_steps.proofs.Moved.{wire_moved}

pub stands_at : {D : Type 0} (state : D → DiskState) (is_out : ℕ → Bool) (event : Event) (n : Net) (world : World D) → IsAt state is_out event n world → IsStood state is_out n world
stands_at state is_out event n world at = record { reached = before_reached n event at.before; held = at.held; out = at.out }

-- what the wire and the network are, and the rest as it was
pub rest_too : {D : Type 0} (old new : World D) (wire : wire_world.World D) → new ≡ record (record old { wire = wire }) { network = new.network }
    → new ≡ record old { wire = new.wire; network = new.network }
rest_too {D} old new wire same = same ∙ ap (λ (w : wire_world.World D). record old { wire = w; network = new.network }) (sym (ap (λ (x : World D). x.wire) same))

pub plans_too : {D : Type 0} (state : D → DiskState) (m : ℕ) (old new : World D) → new.wire ≡ old.wire → HavePlansBelow state m old → HavePlansBelow state m new
plans_too {D} state m old new same below = subst (λ (w : wire_world.World D). wires.HavePlansBelow state m w) (sym same) below

module _ {D : Type 0} (state : D → DiskState) (images : D → ℕ → List ℕ → Type 0) (n : Net) (event : Event) (before is_out : ℕ → Bool) (old : World D) (x : IsStood state before n old) where
  pub wire_stood : holds.IsWorld state before old.wire
  wire_stood = record { v = n.wire; reached = wire_of n x.reached; held = x.held.wire; out = x.out }

  module _ (lines : List TextLine) (wire : wire_world.World D) (k : wires.IsStep state images n.wire event lines is_out old.wire wire) where
    abbrev pub s : WireStep
    s = wire_step n.wire event k.lucks

    pub to_send : IsToCarry state n n.wire s lines (record old { wire = wire })
    to_send = to_carry state n n.wire (wire_of n x.reached) refl refl refl event k.lucks s refl lines old (record old { wire = wire }) x.held k.held k.lines_are refl refl refl

    module _ (new : World D) (same : new ≡ record (record old { wire = wire }) { network = new.network }) where
      wire_same : wire ≡ new.wire
      wire_same = sym (ap (λ (y : World D). y.wire) same)

      wire_went : wires.IsMoved state images n.wire event k.lucks is_out old.wire new.wire
      wire_went = subst (λ (w : wire_world.World D). wires.IsMoved state images n.wire event k.lucks is_out old.wire w) wire_same k.moved

      pub gone_through : (result : Result (List TextLine) WorldFault) → IfOk result (λ told. IsCarried n s told new.network)
          → IfOk result (λ told. (lucks : Lucks) × IsThrough state images n event lucks told is_out old new)
      gone_through (Err e) c = tt
      gone_through (Ok told) c = (
        k.lucks,
        record {
          wire = subst (λ (w : wire_world.World D). holds.Holds state s.wire w) wire_same k.held;
          carried = c;
          moved = wire_moved state images n is_out old new event k.lucks wire_went;
        },
      )

      pub gone_beyond : (result : Result (List TextLine) WorldFault) → IfErr result (IsOverFault (carried_on n s).net.sent)
          → IfErr result (λ e. (count : ℕ) → e ≡ LimitPassed 10 count → (lucks : Lucks) × IsBeyond state images n event lucks is_out old new)
      gone_beyond (Ok told) over = tt
      gone_beyond (Err e) over = λ count ten. (k.lucks, record { over = over count ten; moved = wire_moved state images n is_out old new event k.lucks wire_went })

  pub step_beyond : (e : WorldFault) (wire : wire_world.World D) → ((count : ℕ) → e ≡ LimitPassed 10 count → wires.IsOver state images n.wire event is_out old.wire wire)
      → (count : ℕ) → e ≡ LimitPassed 10 count → (lucks : Lucks) × IsBeyond state images n event lucks is_out old (record old { wire = wire })
  step_beyond e wire over count ten =
      let k : wires.IsOver state images n.wire event is_out old.wire wire = over count ten in (
        k.lucks,
        record {
          over = over_carried state n n.wire (wire_of n x.reached) refl event k.lucks (wire_step n.wire event k.lucks) refl old x.held k.over;
          moved = wire_moved state images n is_out old (record old { wire = wire }) event k.lucks k.moved;
        },
      )
