-- The first of the rows by version, from a version on.
use Rattle.std.proofs.Common.{◌≡◌, ◌≤◌, ⊎_elim, ℕ, zero, suc, Bool, true, false, List, [], ◌∷◌, length, Some, None, refl, sym, ◌∙◌, ap, subst, arith}
use Rattle.std.specs.Prelude.{◌&&◌, ◌||◌, is_some, filter, slice_get, replicate}
use Rattle.std.specs.declared.cmp.Ordering.{Ordering}
use Rattle.std.specs.declared.cmp.Ordering.TheVariants.{Less, Equal, Greater}
use Rattle.std.specs.Ordering.{is_eq, is_le, nat_cmp, ordering_then}
use Rattle.std.specs.BTreeMap.{is_at}
use Rattle.std.specs.Map.{lookup, keys_of}
use Rattle.std.specs.List.{list_any, AllByRecursion}
use Rattle.std.specs.List.Sorted.{IsStrictlySortedBy}
use Rattle.std.proofs.lemmas.Bool.{cases_lt}
use Rattle.std.proofs.lemmas.Bool.Decides.{nat_tests}
use Rattle.std.proofs.lemmas.List.Kept.{IsStrictlySortedBy-filter}
use Rattle.std.proofs.lemmas.Map.Keys.{sorted_head}
use Rattle.spare_map.proofs.Changes.{keys-filter}
use Rattle.stab_base.specs.declared.row_version.RowVersion.{RowVersion}
use Rattle.row_store.specs.Data.{id_cmp, version_cmp}
use Rattle.row_store.specs.Memory.{IsFirstFrom}
use Rattle.row_store.proofs.Versions.{Versions}
use Rattle.row_store.proofs.Above.{same, laws, any_filter, any_found, and_left}

from_it : (n m : ℕ) (o : Ordering) → n ≤ m → is_le o ≡ true → is_le (ordering_then (nat_cmp n m) o) ≡ true
from_it n m o le is = grind (arith, nat_tests)

-- zeros are below every id
zeros_first : (n : ℕ) (row : List ℕ) → length row ≡ n → is_le (id_cmp (replicate n 0) row) ≡ true
zeros_first zero [] e = refl
zeros_first zero (b ∷ row) e = absurd (omega (arith, e))
zeros_first (suc n) [] e = absurd (omega (arith, e))
zeros_first (suc n) (b ∷ row) e = from_it 0 b (id_cmp (replicate n 0) row) (omega arith) (zeros_first n row (omega (arith, e)))

not_below : (n m : ℕ) (o : Ordering) → is_le (ordering_then (nat_cmp n m) o) ≡ true → n ≤ m
not_below n m o is = grind (arith, nat_tests)

not_above : (n m : ℕ) (o : Ordering) → ordering_then (nat_cmp n m) o ≡ Less → n ≤ m
not_above n m o is = grind (arith, nat_tests)

at_most : (first each : RowVersion) (rest : List RowVersion) → AllByRecursion (λ k. version_cmp first k ≡ Less) rest → list_any (same each) rest ≡ true → ((k : RowVersion) → same each k ≡ true → each.version ≡ k.version)
    → first.version ≤ each.version
at_most first each [] all any one = absurd cc
at_most first each (k ∷ rest) all any one = pick (same each k) refl any (λ more. at_most first each rest all.1 more one)
  where
    pick : (b : Bool) → same each k ≡ b → b || list_any (same each) rest ≡ true → (list_any (same each) rest ≡ true → first.version ≤ each.version) → first.version ≤ each.version
    pick true is h behind = let le = not_above first.version k.version (id_cmp first.row k.row) all.0 in omega (arith, le, one k is)
    pick false is h behind = behind h

same_version : (each k : RowVersion) → same each k ≡ true → each.version ≡ k.version
same_version each k is = pick (nat_cmp each.version k.version) (id_cmp each.row k.row) refl is
  where
    equal : nat_cmp each.version k.version ≡ Equal → each.version ≡ k.version
    equal e = grind (arith, nat_tests)

    pick : (o p : Ordering) → nat_cmp each.version k.version ≡ o → is_eq (ordering_then o p) ≡ true → each.version ≡ k.version
    pick Less p at h = absurd cc
    pick Equal p at h = equal at
    pick Greater p at h = absurd cc

module _ (entries : Versions) (least : RowVersion) (zeros : least.row ≡ replicate 16 0) (sorted : IsStrictlySortedBy version_cmp (keys_of entries)) where
  abbrev p : RowVersion → Bool
  p row = is_le (version_cmp least row)

  abbrev found : Versions
  found = filter (λ e. is_le (version_cmp least e.0)) entries

  any_in : (each : RowVersion) → list_any (same each) (keys_of found) ≡ p each && is_some (lookup (is_at (version_cmp each)) entries)
  any_in each = ap (list_any (same each)) (keys-filter p entries) ∙ (any_filter p each (keys_of entries) ∙ ap (λ (b : Bool). p each && b) (any_found each entries))

  passes : (each : RowVersion) → length each.row ≡ 16 → least.version ≤ each.version → p each ≡ true
  passes each long le = from_it least.version each.version (id_cmp least.row each.row) le (subst (λ (r : List ℕ). is_le (id_cmp r each.row) ≡ true) (sym zeros) (zeros_first 16 each.row long))

  is_there : (each : RowVersion) → length each.row ≡ 16 → least.version ≤ each.version → is_some (lookup (is_at (version_cmp each)) entries) ≡ true → list_any (same each) (keys_of found) ≡ true
  is_there each long le there = any_in each ∙ (ap (λ (b : Bool). b && is_some (lookup (is_at (version_cmp each)) entries)) (passes each long le) ∙ there)

  pub none_from : None ≡ slice_get found 0 → IsFirstFrom entries least.version None
  none_from none each long there = ⊎_elim (λ lt. lt) (λ le. absurd (nothing found none (is_there each long le there))) (cases_lt each.version least.version)
    where
      nothing : (es : Versions) → None ≡ slice_get es 0 → list_any (same each) (keys_of es) ≡ true → ⊥
      nothing [] e any = cc
      nothing (e ∷ es) is any = cc

  pub first_from : (first : RowVersion × Unit {0}) → Some first ≡ slice_get found 0 → IsFirstFrom entries least.version (Some first.0)
  first_from first is = pick found is refl
    where
      itself : same first.0 first.0 ≡ true
      itself = laws.refl first.0

      pick : (es : Versions) → Some first ≡ slice_get es 0 → es ≡ found → IsFirstFrom entries least.version (Some first.0)
      pick [] e all = absurd cc
      pick (x ∷ es) e all =
          let one : first ≡ x = cc in
          let head : list_any (same first.0) (keys_of (x ∷ es)) ≡ true = subst (λ (y : RowVersion × Unit {0}). same first.0 y.0 || list_any (same first.0) (keys_of es) ≡ true) one (ap (λ (b : Bool). b || list_any (same first.0) (keys_of es)) itself) in
          let both = and_left (p first.0) (is_some (lookup (is_at (version_cmp first.0)) entries)) (sym (any_in first.0) ∙ (ap (λ (l : Versions). list_any (same first.0) (keys_of l)) (sym all) ∙ head)) in
          let rising : IsStrictlySortedBy version_cmp (keys_of (x ∷ es)) = subst (λ (l : Versions). IsStrictlySortedBy version_cmp (keys_of l)) (sym all) (subst (IsStrictlySortedBy version_cmp) (sym (keys-filter p entries)) (IsStrictlySortedBy-filter version_cmp p (keys_of entries) sorted)) in
          let behind : AllByRecursion (λ k. version_cmp first.0 k ≡ Less) (keys_of es) = subst (λ (y : RowVersion × Unit {0}). AllByRecursion (λ k. version_cmp y.0 k ≡ Less) (keys_of es)) (sym one) (sorted_head version_cmp x.0 (keys_of es) rising) in (
            not_below least.version first.0.version (id_cmp least.row first.0.row) both.0,
            both.1,
            λ each long there le. other each (same each first.0) refl
                (subst (λ (y : RowVersion × Unit {0}). same each y.0 || list_any (same each) (keys_of es) ≡ true) (sym one) (ap (λ (l : Versions). list_any (same each) (keys_of l)) all ∙ is_there each long le there)) behind,
          )
        where
          other : (each : RowVersion) (b : Bool) → same each first.0 ≡ b → b || list_any (same each) (keys_of es) ≡ true → AllByRecursion (λ k. version_cmp first.0 k ≡ Less) (keys_of es) → first.0.version ≤ each.version
          other each true at h behind = let same_ = same_version each first.0 at in omega (arith, same_)
          other each false at h behind = at_most first.0 each (keys_of es) behind h (same_version each)
