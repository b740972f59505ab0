use Rattle.std.proofs.Common.{◌≡◌, arith, true}
use Rattle.std.proofs.lemmas.Grind.{common_steps}
use Rattle.std.specs.Prelude.{None}
use Rattle.row_value.specs.declared.schema.Scheme.{Scheme}
use Rattle.held_value.specs.declared.slots.Slots.{Slots}
use Rattle.client_tables.specs.Kept.{SlotEvent, slots_behind, IsInOrder, MayCome, IsAbove, RestsOn, IsHeldUp}
use Rattle.client_tables.specs.Transitions.{is_eventual}
use Rattle.client_tables.proofs.laws.slots_stay_in_order.Goals as goal

above : (scheme : Scheme) (slots : Slots) (event : SlotEvent) → IsInOrder scheme slots → MayCome slots event
    → IsAbove (slots_behind scheme slots event).conflict (slots_behind scheme slots event).shadow
above scheme slots event order may = grind (arith, common_steps)

base : (scheme : Scheme) (slots : Slots) (event : SlotEvent) → IsInOrder scheme slots → MayCome slots event
    → RestsOn (slots_behind scheme slots event).out (slots_behind scheme slots event).shadow
base scheme slots event order may = grind (arith, common_steps)

held_up : (scheme : Scheme) (slots : Slots) (event : SlotEvent) → IsInOrder scheme slots → MayCome slots event
    → IsHeldUp (slots_behind scheme slots event).main (slots_behind scheme slots event).out (slots_behind scheme slots event).conflict
held_up scheme slots event order may = grind (arith, common_steps)

eventual : (scheme : Scheme) (slots : Slots) (event : SlotEvent) → IsInOrder scheme slots → MayCome slots event
    → is_eventual scheme ≡ true → (slots_behind scheme slots event).conflict ≡ None
eventual scheme slots event order may is = grind (arith, common_steps)

pub returns : goal.returns
returns c = λ scheme slots event order may. record {
  above = above scheme slots event order may;
  base = base scheme slots event order may;
  held_up = held_up scheme slots event order may;
  eventual = eventual scheme slots event order may;
}
