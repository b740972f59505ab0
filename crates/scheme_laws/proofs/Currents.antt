-- The last entry of a row has the row's highest version.
use Rattle.std.proofs.Common.{◌≡◌, ℕ, ◌<◌, ◌≤◌, Bool, true, false, cond, List, [], ◌∷◌, ◌++◌, length, get_or, Option, Some, None, refl, sym, ap, ◌∙◌, subst, arith, true≢false}
use Rattle.std.specs.Prelude.{All, IfSome, reverse}
use Rattle.std.specs.Option.{option_or}
use Rattle.std.specs.List.{find}
use Rattle.std.specs.Ordering.{is_eq}
use Rattle.std.specs.Cmp.{tied_itself}
use Rattle.std.specs.Cmp.Lexicographic.{nat_list_cmp_total}
use Rattle.std.proofs.lemmas.Grind.{reverse_onto}
use Rattle.std.proofs.lemmas.List.Folds.{find-append}
use Rattle.std.proofs.lemmas.List.Elements.{All-head, All-tail, All-cons, All-nil}
use Rattle.table_model.specs.declared.entry.Entry.{Entry}
use Rattle.table_model.specs.History.{current, last_entry, version_of, is_of_row, same_row}
use Rattle.scheme_laws.specs.Requests.{IsRising}

of_row : (a b : List ℕ) → a ≡ b → same_row a b ≡ true
of_row a b e = subst (λ r. same_row a r ≡ true) e (ap is_eq (tied_itself nat_list_cmp_total a))

module _ (row : List ℕ) where
  step : (x : Entry) (h : List Entry) → last_entry (x ∷ h) row ≡ option_or (last_entry h row) (cond (is_of_row row x) (Some x) None)
  step x h = ap (find (is_of_row row)) (reverse_onto h x []) ∙ find-append (is_of_row row) (reverse h) (x ∷ [])

  found : (P : Entry → Type 0) (h : List Entry) → All P h → IfSome (last_entry h row) P
  found P [] all = tt
  found P (x ∷ h) all = subst (λ (o : Option Entry). IfSome o P) (sym (step x h)) (by (last_entry h row) (is_of_row row x) (found P h (All-tail P x h all)) (All-head P x h all))
    where
      by : (o : Option Entry) (b : Bool) → IfSome o P → P x → IfSome (option_or o (cond b (Some x) None)) P
      by (Some y) b p q = p
      by None true p q = q
      by None false p q = tt

  grows : (x : Entry) (h : List Entry) → current h row ≤ current (x ∷ h) row
  grows x h = subst (λ (o : Option Entry). current h row ≤ version_of o) (sym (step x h)) (by (last_entry h row))
    where
      by : (o : Option Entry) → version_of o ≤ version_of (option_or o (cond (is_of_row row x) (Some x) None))
      by (Some y) = omega arith
      by None = omega arith

  own : (x : Entry) (h : List Entry) → is_of_row row x ≡ true → All (λ later. x.version < later.version) h → x.version ≤ current (x ∷ h) row
  own x h is above = subst (λ (o : Option Entry). x.version ≤ version_of o) (sym (step x h)) (by (last_entry h row) (is_of_row row x) is (found (λ later. x.version < later.version) h above))
    where
      by : (o : Option Entry) (b : Bool) → b ≡ true → IfSome o (λ later. x.version < later.version) → x.version ≤ version_of (option_or o (cond b (Some x) None))
      by (Some y) b e p = omega (arith, p)
      by None true e p = omega arith
      by None false e p = absurd (true≢false (sym e))

  -- each entry of the row has at most the row's version
  pub bound : (h : List Entry) → IsRising h → All (λ e. e.row ≡ row → e.version ≤ current h row) h
  bound [] rising = All-nil (λ e. e.row ≡ row → e.version ≤ current [] row)
  bound (x ∷ h) rising =
      All-cons (λ e. e.row ≡ row → e.version ≤ current (x ∷ h) row) x h (λ same. own x h (of_row x.row row same) rising.0)
      (λ k d lt same. let low = bound h rising.1 k d lt same in let more = grows x h in omega (arith, low, more))
