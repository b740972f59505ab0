-- What a step of the wire comes to: a step of the whole world, or none.
use Rattle.std.proofs.Common.{◌≡◌, ◌⊎◌, inl, inr, ℕ, List, [], ◌∷◌, Some, refl, sym, ◌∙◌, ap}
use Rattle.std.specs.Prelude.{slice_get, option_map}
use Rattle.std.proofs.lemmas.Option.{slice_get-map}
use Rattle.stab_base.specs.declared.node.Node.{Node}
use Rattle.table_model.specs.declared.event.Event.{Event}
use Rattle.table_model.specs.declared.event.Event.TheVariants as events
use Rattle.step_tables.specs.Facts.{Answer, AnswerLine}
use Rattle.step_tables.specs.Facts as facts
use Rattle.step_tables.specs.Members.{Among}
use Rattle.world_tables.specs.World.{Packet, WorldStep, Lucks, carried, delivered, step}
use Rattle.part_tables.specs.StoreParts.{Gathering}
use Rattle.part_tables.specs.Arriving.{Arriving}
use Rattle.wire_tables.specs.Wire.{PartPacket, Wire, WireStep, spread, still}
use Rattle.wire_laws.specs.Alike.{IsEventAlike, IsLone}
use Rattle.wire_laws.proofs.Places.{place_of}
use Rattle.wire_laws.proofs.SpreadLines.{to_of, whole_to}
use Rattle.wire_laws.proofs.Keeping.{IsKept, NoneJoins}

-- the wire with other parts in memory
abbrev pub beside : Wire → List (ℕ × List Gathering) → List (ℕ × Arriving) → Wire
beside v gathered arriving = record v { gathered = gathered; arriving = arriving }

pub record IsStepOf (v : Wire) (event : Event) (x : WireStep) : Type 0 where
  pub gathered : List (ℕ × List Gathering)
  pub arriving : List (ℕ × Arriving)
  pub kept : IsKept (beside v gathered arriving)
  pub other : Event
  pub lucks : Lucks
  pub joins : NoneJoins (beside v gathered arriving) other
  pub alike : IsEventAlike (to_of v.packets) (whole_to v.world.packets) event other
  pub is : x ≡ spread (beside v gathered arriving) (step v.world other lucks)

pub record IsLoneStep (v : Wire) (event : Event) (x : WireStep) : Type 0 where
  pub gathered : List (ℕ × List Gathering)
  pub arriving : List (ℕ × Arriving)
  pub kept : IsKept (beside v gathered arriving)
  pub answer : Answer
  pub lone : IsLone event (AnswerLine answer ∷ [])
  pub is : x ≡ still (beside v gathered arriving) answer

abbrev pub Comes : Wire → Event → WireStep → Type 0
Comes v event x = IsLoneStep v event x ⊎ IsStepOf v event x

-- ---- a packet that is brought in place of a part

to_there : (v : Wire) (number : ℕ) (p : PartPacket) → slice_get v.packets number ≡ Some p → slice_get (to_of v.packets) number ≡ Some p.to
to_there v number p at = slice_get-map (λ (x : PartPacket). x.to) v.packets number ∙ ap (option_map (λ (x : PartPacket). x.to)) at

pub to_is : (v : Wire) (number : ℕ) (p : PartPacket) (to : Node) → slice_get v.packets number ≡ Some p → p.to ≡ to → slice_get (to_of v.packets) number ≡ Some to
to_is v number p to at is = to_there v number p at ∙ ap (λ (n : Node). Some n) is

module _ (v : Wire) (number : ℕ) (p : PartPacket) (at : slice_get v.packets number ≡ Some p) (lucks : Lucks) where
  -- the packet is of the same nodes
  pub brings : (gathered : List (ℕ × List Gathering)) (arriving : List (ℕ × Arriving)) → IsKept (beside v gathered arriving) → (packet : Packet) → Among v.world.packets packet → packet.to ≡ p.to
      → (x : WorldStep) → x ≡ carried v.world packet lucks.shape lucks.calls packet.to → Comes v (events.Deliver number) (spread (beside v gathered arriving) x)
  brings gathered arriving kept packet a to x is =
      let place = place_of v.world.packets packet a in
      inr (record {
        gathered = gathered;
        arriving = arriving;
        kept = kept;
        other = events.Deliver place.0;
        lucks = lucks;
        joins = inl refl;
        alike = slice_get-map (λ (y : Packet). y.to) v.world.packets place.0
            ∙ (ap (option_map (λ (y : Packet). y.to)) place.1
            ∙ (ap (λ (n : Node). Some n) to ∙ sym (to_there v number p at)));
        is = ap (spread (beside v gathered arriving)) (is ∙ sym (ap (delivered v.world lucks.shape lucks.calls) place.1));
      })

  -- a part is kept or dropped
  pub stays : (gathered : List (ℕ × List Gathering)) (arriving : List (ℕ × Arriving)) → IsKept (beside v gathered arriving)
      → Comes v (events.Deliver number) (still (beside v gathered arriving) facts.Done)
  stays gathered arriving kept = inl (record { gathered = gathered; arriving = arriving; kept = kept; answer = facts.Done; lone = inl refl; is = refl })
