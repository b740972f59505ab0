-- Slots that stay fit under what names stand for in a plan.
use Rattle.std.proofs.Common.{◌≡◌, ℕ, ◌<◌, Bool, false, List, [], ◌++◌, length, Option, Some, None, sym, ◌∙◌, ap, arith}
use Rattle.std.specs.Prelude.{◌==◌, IfSome, option_map, slice_index_or, if◌then◌else◌}
use Rattle.std.proofs.lemmas.Bool.Decides.{nat_tests}
use Rattle.std.proofs.lemmas.List.{length-map}
use Rattle.held_value.specs.declared.local_name.LocalName.{LocalName}
use Rattle.held_value.specs.declared.content.HeldContent.{HeldContent}
use Rattle.held_value.specs.declared.slots.Main.{Main}
use Rattle.held_value.specs.declared.slots.Shadow.{Shadow}
use Rattle.held_value.specs.declared.slots.Out.{Out}
use Rattle.held_value.specs.declared.slots.Slots.{Slots}
use Rattle.slot_store.specs.declared.held.TableRecord.{TableRecord}
use Rattle.plan_log.specs.Spelling.{IsPlan as IsPlanNumber}
use Rattle.client_journal.specs.Agenda.{meaning_with}
use Rattle.client_journal.specs.Names.{Has, names_of, names_of_main, names_of_shadow, names_of_out, names_in}
use Rattle.client_journal.specs.Plan.{numbered_name, numbered_content, numbered_main, numbered_shadow, numbered_out, numbered_slots}
use Rattle.client_journal.proofs.Wholes.{slots_alike, has_left, has_right}
use Rattle.journal_laws.specs.Moves.{plan_meaning}
use Rattle.journal_laws.proofs.Brought.{kept_is}
use Rattle.plan_limits.specs.Fit.{IsFitContent, IsFitRow, AreOlder, AreOlderOrNew}
use Rattle.plan_limits.proofs.Contents.{names_numbered, numbered_right, held_spelled}
use Rattle.plan_limits.proofs.Rows.{FitMain, FitShadow, FitOut, each_fit, row_fit}

-- ---- names that stand for the same

module _ (meaning others : LocalName → List ℕ) (table : Option TableRecord) (slots : Slots) (k : IsFitRow meaning table slots) (same : (name : LocalName) → Has (names_in slots) name → others name ≡ meaning name) where
  as_before : IsFitRow others table slots
  as_before = record {
    whole = record { right = slots_alike (λ name. Some (others name)) (λ name. Some (meaning name)) table slots (λ name has. ap (λ (l : List ℕ). Some l) (same name has)) ∙ k.whole.right };
    spelled = k.spelled;
    pieces = k.pieces;
  }

module _ (meaning : LocalName → List ℕ) (table : Option TableRecord) (number : ℕ) (brought : List (List ℕ)) (slots : Slots) where
  pub planned : IsFitRow meaning table slots → AreOlder number (names_in slots) → IsFitRow (plan_meaning meaning number brought) table slots
  planned k older = as_before meaning (plan_meaning meaning number brought) table slots k (λ name has. let o = older name has in kept_is meaning number brought name o.0 o.1)

  pub others : IsFitRow meaning table slots → AreOlder number (names_in slots) → IsFitRow (meaning_with meaning number brought) table slots
  others k older = as_before meaning (meaning_with meaning number brought) table slots k (λ name has. other name (older name has).1)
    where
      other : (name : LocalName) → name.plan < number → meaning_with meaning number brought name ≡ meaning name
      other name lt = let not_now : (name.plan == number) ≡ false = grind (arith, nat_tests) in ap (λ (b : Bool). if b then slice_index_or brought name.ordinal [] else meaning name) not_now

-- ---- names that get the plan's number

module _ (means : LocalName → List ℕ) (table : Option TableRecord) (number : ℕ) (plan : IsPlanNumber number) where
  abbrev before : LocalName → List ℕ
  before name = means (numbered_name number name)

  content_fit : (c : HeldContent) → AreOlderOrNew number (names_of c) → IsFitContent before table c → IsFitContent means table (numbered_content number c)
  content_fit c older k = record {
    right = numbered_right number (λ name. Some (means name)) table c older ∙ k.right;
    spelled = held_spelled number plan c k.spelled;
  }

  main_fit : (o : Option Main) → AreOlderOrNew number (names_of_main o) → IfSome o (FitMain before table) → IfSome (option_map (numbered_main number) o) (FitMain means table)
  main_fit None older h = tt
  main_fit (Some m) older h = (h.0, h.1, content_fit m.content older h.2)

  shadow_fit : (o : Option Shadow) → AreOlderOrNew number (names_of_shadow o) → IfSome o (FitShadow before table) → IfSome (option_map (numbered_shadow number) o) (FitShadow means table)
  shadow_fit None older h = tt
  shadow_fit (Some s) older h = (h.0, content_fit s.content older h.1)

  out_fit : (o : Option Out) → AreOlderOrNew number (names_of_out o) → IfSome o (FitOut before table) → IfSome (option_map (numbered_out number) o) (FitOut means table)
  out_fit None older h = tt
  out_fit (Some o) older h =
      (h.0, h.1, h.2, content_fit o.content older h.3, record { count = h.4.count ∙ sym (ap length (names_numbered number o.content) ∙ length-map (names_of o.content) (numbered_name number)); spelled = h.4.spelled })

  pub numbered : (slots : Slots) → AreOlderOrNew number (names_in slots) → IsFitRow before table slots → IsFitRow means table (numbered_slots number slots)
  numbered slots older k =
      let a = each_fit before table slots k in
      let m = names_of_main slots.main in
      let h = names_of_shadow slots.shadow in
      let o = names_of_out slots.out in
      let x = names_of_shadow slots.conflict in
      row_fit means table (numbered_slots number slots) (record {
        main = main_fit slots.main (λ q has. older q (has_left m (h ++ (o ++ x)) q has)) a.main;
        shadow = shadow_fit slots.shadow (λ q has. older q (has_right m (h ++ (o ++ x)) q (has_left h (o ++ x) q has))) a.shadow;
        out = out_fit slots.out (λ q has. older q (has_right m (h ++ (o ++ x)) q (has_right h (o ++ x) q (has_left o x q has)))) a.out;
        conflict = shadow_fit slots.conflict (λ q has. older q (has_right m (h ++ (o ++ x)) q (has_right h (o ++ x) q (has_right o x q has)))) a.conflict;
      })
