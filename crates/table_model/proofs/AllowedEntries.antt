-- The test of an entry decides the rule.
use Rattle.std.proofs.Common.{◌≡◌, ◌↔◌, ℕ, ◌<◌, ◌⊎◌, inl, inr, Bool, true, false, not, ◌&&◌, ◌||◌, List, [], ◌∷◌, refl, ap, ◌∙◌, subst, arith}
use Rattle.std.specs.Prelude.{◌==◌, nat_lt, nat_le, All, Any, IsTrue}
use Rattle.std.specs.List.{list_all, list_any}
use Rattle.std.specs.Ordering.{is_eq}
use Rattle.std.proofs.lemmas.Bool.{eqb-true, eq-eqb, and_parts, or_cases, or_right}
use Rattle.std.proofs.lemmas.Bool.Decides.{nat_tests}
use Rattle.std.proofs.lemmas.List.Elements.{All-head, All-tail, All-cons, All-nil}
use Rattle.std.proofs.lemmas.List.Folds.{Any-from_list_any, list_any-from_Any}
use Rattle.std.proofs.lemmas.Map.Lookups.{exact_bytes}
use Rattle.std.proofs.lemmas.Map.Views.{tells_apart}
use Rattle.std.specs.Cmp.{tied_itself}
use Rattle.std.specs.Cmp.Lexicographic.{nat_list_cmp_total}
use Rattle.row_value.specs.declared.schema.Scheme.{Scheme}
use Rattle.row_value.specs.declared.schema.Scheme.TheVariants.{Strong, Causal, Eventual}
use Rattle.table_model.specs.declared.entry.Entry.{Entry}
use Rattle.table_model.specs.History.{current, same_row}
use Rattle.table_model.specs.Allowed.{is_read_or_own, is_entry_at, entry_allowed, IsReadOrOwn, IsEntryAt, IsAllowed}

row_is : (a b : List ℕ) → same_row a b ≡ true → a ≡ b
row_is a b e = tells_apart exact_bytes a b e

same_row-own : (a b : List ℕ) → a ≡ b → same_row a b ≡ true
same_row-own a b e = subst (λ x. same_row a x ≡ true) e (ap is_eq (tied_itself nat_list_cmp_total a))

read_or_own : (entry : Entry) (read : ℕ) (before : Entry) → (is_read_or_own entry read before ≡ true) ↔ IsReadOrOwn entry read before
read_or_own entry read before = (to, from)
  where
    to : is_read_or_own entry read before ≡ true → IsReadOrOwn entry read before
    to e same later =
        let s : same_row before.row entry.row ≡ true = same_row-own before.row entry.row same in grind (arith, nat_tests)

    from : IsReadOrOwn entry read before → is_read_or_own entry read before ≡ true
    from h = by (same_row before.row entry.row) refl
      where
        by : (s : Bool) → same_row before.row entry.row ≡ s → (not s || nat_le before.version read || ((before.client == entry.client) && nat_lt before.number entry.number)) ≡ true
        by false e = refl
        by true e = unread (nat_le before.version read) refl
          where
            unread : (v : Bool) → nat_le before.version read ≡ v → (v || ((before.client == entry.client) && nat_lt before.number entry.number)) ≡ true
            unread true e' = refl
            unread false e' = let later : read < before.version = grind (arith, nat_tests) in let own = h (row_is before.row entry.row e) later in grind (arith, nat_tests, own.0, own.1)

entry_at : (row : List ℕ) (version : ℕ) (before : Entry) → (is_entry_at row version before ≡ true) ↔ IsEntryAt row version before
entry_at row version before = (
  λ e. let p = and_parts _ _ e in (row_is before.row row p.0, eqb-true before.version version p.1),
  λ h. ap (λ b. b && (before.version == version)) (same_row-own before.row row h.0) ∙ eq-eqb before.version version h.1,
)

all_of : {X : Type 0} (test : X → Bool) (P : X → Type 0) → ((x : X) → (test x ≡ true) ↔ P x) → (xs : List X) → (list_all test xs ≡ true) ↔ All P xs
all_of test P each [] = (λ _. All-nil P, λ _. refl)
all_of test P each (x ∷ xs) = (
  λ e. let p = and_parts _ _ e in All-cons P x xs ((each x).0 p.0) ((all_of test P each xs).0 p.1),
  λ h. ap (λ b. b && list_all test xs) ((each x).1 (All-head P x xs h)) ∙ (all_of test P each xs).1 (All-tail P x xs h),
)

any_of : {X : Type 0} (test : X → Bool) (P : X → Type 0) → ((x : X) → (test x ≡ true) ↔ P x) → (xs : List X) → (list_any test xs ≡ true) ↔ Any P xs
any_of test P each xs = (
  λ e. let a = Any-from_list_any test xs e in (a.0, a.1, a.2, a.3, (each a.1).0 a.4),
  λ a. list_any-from_Any test xs (a.0, a.1, a.2, a.3, (each a.1).1 a.4),
)

pub allowed : (scheme : Scheme) (history : List Entry) (entry : Entry) (read : ℕ) → IsTrue (entry_allowed scheme history entry read) ↔ IsAllowed scheme history entry read
allowed Strong history entry read = (
  λ e. let p = and_parts _ _ e in (eqb-true entry.base read p.0, eqb-true entry.base (current history entry.row) p.1),
  λ h. ap (λ b. b && (entry.base == current history entry.row)) (eq-eqb entry.base read h.0) ∙ eq-eqb entry.base (current history entry.row) h.1,
)
allowed Causal history entry read =
    let each = all_of (is_read_or_own entry read) (IsReadOrOwn entry read) (read_or_own entry read) history in (
      λ e. let p = and_parts _ _ e in (eqb-true entry.base (current history entry.row) p.0, each.0 p.1),
      λ h. ap (λ b. b && list_all (is_read_or_own entry read) history) (eq-eqb entry.base (current history entry.row) h.0) ∙ each.1 h.1,
    )
allowed Eventual history entry read =
    let some = any_of (is_entry_at entry.row entry.base) (IsEntryAt entry.row entry.base) (entry_at entry.row entry.base) history in
    (λ e. elim (or_cases _ _ e) [ inl none ↦ inl (eqb-true entry.base 0 none) | inr one ↦ inr (some.0 one) ], λ h. either h some.1)
  where
    either : (entry.base ≡ 0) ⊎ Any (IsEntryAt entry.row entry.base) history
        → (Any (IsEntryAt entry.row entry.base) history → list_any (is_entry_at entry.row entry.base) history ≡ true)
        → ((entry.base == 0) || list_any (is_entry_at entry.row entry.base) history) ≡ true
    either (inl none) some = ap (λ b. b || list_any (is_entry_at entry.row entry.base) history) (eq-eqb entry.base 0 none)
    either (inr one) some = or_right (entry.base == 0) _ (some one)
