-- Timers of one client: what a change of each makes of the whole.
use Rattle.std.proofs.Common.{◌≡◌, ℕ, Bool, true, false, cond, [], ◌∷◌, ◌||◌, Some, None, refl, sym, ap, ◌∙◌, eqb, arith}
use Rattle.std.specs.Prelude.{fold}
use Rattle.std.specs.List.{list_any}
use Rattle.std.specs.List.Sorted.{IsStrictlySortedBy}
use Rattle.std.specs.Ordering.{nat_cmp}
use Rattle.std.specs.Cmp.{nat_cmp_total, eq_by_cmp_equiv}
use Rattle.std.specs.BTreeMap.{is_at}
use Rattle.std.specs.Map.{lookup, keys_of, set_value}
use Rattle.std.proofs.lemmas.Bool.Decides.{nat_tests}
use Rattle.std.proofs.lemmas.Map.{NonePasses, none_passes_from_lookup}
use Rattle.std.proofs.lemmas.Map.Entries.{none_past_head}
use Rattle.std.proofs.lemmas.Map.Keys.{IsDistinct-from_sorted, sorted_tail}
use Rattle.gate_tables.specs.Gate.{marked}
use Rattle.gate_tables.specs.declared.timer.Timer.{Timer}
use Rattle.gate_tables.specs.Timers.{Timers, as_counted, as_marked, is_due, each, told, any_due, with_bit, bitmap}

-- a tick leaves each mark
pub due_counted : (timers : Timers) → any_due (each as_counted timers) ≡ list_any (λ (e : ℕ × Timer). is_due (as_counted e.1)) timers
due_counted [] = refl
due_counted (e ∷ timers) = ap (λ (b : Bool). is_due (as_counted e.1) || b) (due_counted timers)

bits_counted : (bits : ℕ) (timers : Timers) → fold with_bit bits (each as_counted timers) ≡ fold with_bit bits timers
bits_counted bits [] = refl
bits_counted bits (e ∷ timers) = bits_counted (with_bit bits e) timers

pub bitmap_counted : (timers : Timers) → bitmap (each as_counted timers) ≡ bitmap timers
bitmap_counted timers = bits_counted 0 timers

pub told_next : (timers : Timers) (due : Bool) → due ≡ list_any (λ (e : ℕ × Timer). is_due (as_counted e.1)) timers
    → cond due (Some (bitmap timers)) None ≡ told (each as_counted timers)
told_next timers due e = ap (λ (b : Bool). cond b (Some (bitmap timers)) None) (e ∙ sym (due_counted timers))
    ∙ ap (λ (n : ℕ). cond (any_due (each as_counted timers)) (Some n) None) (sym (bitmap_counted timers))

-- ---- a mark

is_it : (table number : ℕ) → eqb number table ≡ is_at (nat_cmp table) number
is_it table number = grind (arith, nat_tests)

others : (table : ℕ) (timers : Timers) → NonePasses (is_at (nat_cmp table)) timers → marked table timers ≡ timers
others table [] h = refl
others table (e ∷ timers) h =
    ap (λ (b : Bool). (e.0, cond b (as_marked e.1) e.1) ∷ marked table timers) (is_it table e.0 ∙ h.0) ∙ ap (λ (es : Timers). e ∷ es) (others table timers h.1)

pub marked_none : (table : ℕ) (timers : Timers) → lookup (is_at (nat_cmp table)) timers ≡ None → timers ≡ marked table timers
marked_none table timers h = sym (others table timers (none_passes_from_lookup (is_at (nat_cmp table)) timers h))

pub marked_at : (table : ℕ) (timer : Timer) (timers : Timers) → IsStrictlySortedBy nat_cmp (keys_of timers)
    → lookup (is_at (nat_cmp table)) timers ≡ Some timer → set_value (is_at (nat_cmp table)) timers (as_marked timer) ≡ marked table timers
marked_at table timer [] s h = absurd cc
marked_at table timer (e ∷ timers) s h =
    ap (λ (b : Bool). cond b ((e.0, as_marked timer) ∷ timers) (e ∷ set_value (is_at (nat_cmp table)) timers (as_marked timer))) refl
    ∙ go (is_at (nat_cmp table) e.0) refl h (marked_at table timer timers (sorted_tail nat_cmp e.0 (keys_of timers) s))
    ∙ ap (λ (b : Bool). (e.0, cond b (as_marked e.1) e.1) ∷ marked table timers) (sym (is_it table e.0))
  where
    go : (b : Bool) → is_at (nat_cmp table) e.0 ≡ b → cond b (Some e.1) (lookup (is_at (nat_cmp table)) timers) ≡ Some timer
        → (lookup (is_at (nat_cmp table)) timers ≡ Some timer → set_value (is_at (nat_cmp table)) timers (as_marked timer) ≡ marked table timers)
        → cond b ((e.0, as_marked timer) ∷ timers) (e ∷ set_value (is_at (nat_cmp table)) timers (as_marked timer))
        ≡ (e.0, cond b (as_marked e.1) e.1) ∷ marked table timers
    go true is found more =
        let same : e.1 ≡ timer = cc in
        let apart = IsDistinct-from_sorted nat_cmp (keys_of (e ∷ timers)) s in
        ap (λ (t : Timer). (e.0, as_marked t) ∷ timers) (sym same)
        ∙ ap (λ (es : Timers). (e.0, as_marked e.1) ∷ es) (sym (others table timers (none_past_head (eq_by_cmp_equiv nat_cmp_total) table e timers apart is)))
    go false is found more = ap (λ (es : Timers). e ∷ es) (more found)
