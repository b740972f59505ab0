-- A plan's row is noted where its slots come to wait.
use Rattle.std.proofs.Common.{◌≡◌, ℕ, Bool, true, false, List, [], Option, Some, None, refl, sym, ◌∙◌, subst}
use Rattle.std.specs.Prelude.{IfSome, IsSome, is_some, is_none, option_map, ◌&&◌}
use Rattle.held_value.specs.declared.local_name.LocalName.{LocalName}
use Rattle.held_value.specs.declared.slots.Main.{Main as HeldMain}
use Rattle.held_value.specs.declared.slots.Out.{Out as HeldOut}
use Rattle.held_value.specs.declared.slots.Shadow.{Shadow as HeldShadow}
use Rattle.held_value.specs.declared.slots.Slots.{Slots as HeldSlots}
use Rattle.plan_log.specs.declared.plan.RowChange.{RowChange}
use Rattle.client_tables.specs.Transitions.{can_send}
use Rattle.client_journal.specs.Plan.{numbered_main, numbered_shadow, numbered_out, numbered_row, numbered_slots}
use Rattle.step_tables.specs.ClientMoves.{Slots, RowPut, to_send}
use Rattle.journal_laws.specs.Holds.{IsPutOf, StandsPut}
use Rattle.journal_laws.specs.Whole.{whole_slots}
use Rattle.journal_laws.proofs.Transitions.{sends_alike}
use Rattle.client_node.specs.Carrying.{IsNotedRow}
use Rattle.client_node.specs.Steady.{IsNoted}
use Rattle.client_node.specs.declared.waiting.Waiting.{Waiting}

some_mapped : {X Y : Type 0} (o : Option X) (f : X → Y) → IsSome (option_map f o) → IsSome o
some_mapped None f is = absurd cc
some_mapped (Some x) f is = refl

some_is : {X : Type 0} (o : Option X) → IsSome o → is_some o ≡ true
some_is None is = absurd cc
some_is (Some x) is = refl

-- slots have something to send where they do whole
pub sends_whole : (meaning : LocalName → List ℕ) (held : HeldSlots) → can_send held ≡ is_some (to_send (whole_slots meaning held) (whole_slots meaning held).out (whole_slots meaning held).main (whole_slots meaning held).conflict)
sends_whole meaning held = sends_alike 0 meaning (record { last = 0; tables = []; plan = None }) 0 [] held.main held.shadow held.out held.conflict

numbered_alike : (number : ℕ) (slots : HeldSlots) → can_send (numbered_slots number slots) ≡ can_send slots
numbered_alike number slots = alike slots.main slots.out slots.conflict
  where
    alike : (m : Option HeldMain) (o : Option HeldOut) (k : Option HeldShadow)
        → (is_some (option_map (numbered_main number) m) && is_none (option_map (numbered_out number) o) && is_none (option_map (numbered_shadow number) k)) ≡ (is_some m && is_none o && is_none k)
    alike None None None = refl
    alike None None (Some x) = refl
    alike None (Some x) None = refl
    alike None (Some x) (Some y) = refl
    alike (Some m) None None = refl
    alike (Some m) None (Some x) = refl
    alike (Some m) (Some x) None = refl
    alike (Some m) (Some x) (Some y) = refl

-- a row that is noted by its slots is noted by them whole
pub noted_whole : (w : Waiting) (means : LocalName → List ℕ) (table : ℕ) (row : List ℕ) (held : HeldSlots) → IsNotedRow w table (record { row = row; slots = held }) → IsNoted w table row (whole_slots means held)
noted_whole w means table row held noted = record {
  sent = λ some. noted.out (some_mapped held.out _ some);
  ready = λ some. noted.ready (sends_whole means held ∙ some_is _ some);
  conflict = λ some. noted.conflict (some_mapped held.conflict _ some);
  sized = λ some. noted.sized (some_mapped held.conflict _ some);
}

module _ (w : Waiting) (means : LocalName → List ℕ) (number table : ℕ) where
  noted_put : (change : RowChange) (put : RowPut) → IsPutOf means (numbered_row number change) put → IsNotedRow w table change → IsNoted w table put.row put.slots
  noted_put change put is noted =
      let behind : HeldSlots = numbered_slots number change.slots in
      subst (λ (s : Slots). IsNoted w table put.row s) is.slots
      (subst (λ (r : List ℕ). IsNoted w table r (whole_slots means behind)) is.row (record {
        sent = λ some. noted.out (some_mapped change.slots.out _ (some_mapped _ _ some));
        ready = λ some. noted.ready (sym (numbered_alike number change.slots) ∙ (sends_whole means behind ∙ some_is _ some));
        conflict = λ some. noted.conflict (some_mapped change.slots.conflict _ (some_mapped _ _ some));
        sized = λ some. noted.sized (some_mapped change.slots.conflict _ (some_mapped _ _ some));
      }))

  pub noted_plan : (o : Option RowChange) (p : Option RowPut) → StandsPut means (option_map (numbered_row number) o) p → IfSome o (IsNotedRow w table) → IfSome p (λ put. IsNoted w table put.row put.slots)
  noted_plan None None s noted = tt
  noted_plan None (Some put) s noted = absurd s
  noted_plan (Some change) None s noted = absurd s
  noted_plan (Some change) (Some put) s noted = noted_put change put s noted
