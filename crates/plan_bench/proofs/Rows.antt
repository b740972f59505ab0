-- Each plan of a row's one new chunk may be begun.
use Rattle.std.proofs.Common.{◌≡◌, ⊎_elim, ℕ, ◌<◌, ◌≤◌, List, [], ◌∷◌, length, Option, Some, None, refl, sym, ◌∙◌, ap, subst, arith}
use Rattle.std.specs.Prelude.{◌^◌}
use Rattle.stab_base.specs.declared.limits.TheConstants.{NUMBER_MAX}
use Rattle.value_codec.specs.Spelling.{list_spelling}
use Rattle.field_codec.specs.Forms.{IsOption, AreEach}
use Rattle.held_value.specs.declared.local_name.LocalName.{LocalName}
use Rattle.held_codec.specs.Spelling.{local_spelling, HasLocalSpelling}
use Rattle.slot_store.specs.declared.held.RowSlots.{RowSlots}
use Rattle.slot_store.specs.Data.{SlotData, slots_of}
use Rattle.plan_log.specs.Spelling.{IsPlan as IsPlanNumber}
use Rattle.client_journal.specs.Names.{Has}
use Rattle.client_journal.specs.Devs.{ClientDevs, local_in}
use Rattle.client_journal.specs.NamedSlots.{AreDifferent, IsAtRest, names_if, names_behind}
use Rattle.client_journal.specs.Plan.{IsPlan}
use Rattle.client_journal.proofs.Applied.{as_held}
use Rattle.client_journal.proofs.Lookups.{has_cases}
use Rattle.journal_tests.specs.Standing.{AreNamed}
use Rattle.journal_tests.specs.Shapes.{change_of, plan_of}
use Rattle.journal_tests.proofs.Shaped.{is_plan, main_fits, one_len, drop_len}
use Rattle.plan_bench.specs.Rows.{new_content, listed}

-- ---- the name that a row had

fits : (old : Option LocalName) → IsOption HasLocalSpelling old → AreEach HasLocalSpelling (listed old) × (length (list_spelling local_spelling (listed old)) ≤ 16)
fits None spelled = ((omega arith, tt), omega arith)
fits (Some name) spelled = ((omega arith, (spelled, tt)), omega (arith, drop_len name))

different : (old : Option LocalName) → AreDifferent (listed old)
different None = tt
different (Some name) = (refl, tt)

one_at_most : (old : Option LocalName) → length (listed old) ≤ 1
one_at_most None = omega arith
one_at_most (Some name) = omega arith

-- a name in a row's slots has its chunk
there : (d : ClientDevs) → IsAtRest d → AreNamed d → (row : List ℕ) (name : LocalName) (o : Option RowSlots) → slots_of d.held 1 row ≡ o → Has (names_if o) name → (bytes : List ℕ) × (local_in d.chunks name ≡ Some bytes)
there d rests are row name None is has = absurd cc
there d rests are row name (Some stored) is has =
    let held = ap (λ (h : SlotData). slots_of h 1 row) (as_held d.journal.at_work d.held rests.not_committed) in
    (are.meaning name, are.named.there name (record { table = 1; row = row; stored = stored; there = held ∙ is; among = has }))

-- ---- the plan

number_fits : (n : ℕ) → IsPlanNumber n → n < 2 ^ 64
number_fits n is = let most = is.most in omega (arith, most)

pub one_is_plan : (d : ClientDevs) → IsAtRest d → AreNamed d → (row : List ℕ) → length row ≡ 16 → (number : ℕ) → number ≤ NUMBER_MAX
    → (bytes : List ℕ) → length bytes ≡ 64 → (old : Option LocalName) → IsOption HasLocalSpelling old → names_if (slots_of d.held 1 row) ≡ listed old → IsPlan d (plan_of number (Some (change_of row number new_content)) None None (bytes ∷ []) (listed old))
one_is_plan d rests are row size number within bytes short old spelled olds =
    is_plan d number (Some (change_of row number new_content)) None None (bytes ∷ []) (listed old) within
    (λ n is. main_fits d row size number within n new_content
    ((omega (arith, within), (omega arith, ((omega arith, tt), (omega arith, ((omega arith, (omega arith, (((number_fits n is, omega arith), tt), tt))), tt))))), (tt, (tt, tt))) (omega (arith, one_len n number 64)))
    tt tt (fits old spelled)
    (λ name has. ⊎_elim (λ same. (ap (λ (q : LocalName). q.plan) same, let o : name.ordinal ≡ 0 = ap (λ (q : LocalName). q.ordinal) same in omega (arith, o)))
    (λ none. absurd cc) (has_cases (record { plan = 0; ordinal = 0 }) name [] has))
    (λ ordinal lt. let o : ordinal ≡ 0 = omega (arith, lt) in subst (λ (k : ℕ). Has (names_behind (Some (change_of row number new_content))) (record { plan = 0; ordinal = k })) (sym o) refl)
    olds (different old)
    (λ name has. there d rests are row name (slots_of d.held 1 row) refl (subst (λ (l : List LocalName). Has l name) (sym olds) has))
    (omega (arith, short), tt) (omega (arith, one_at_most old))
