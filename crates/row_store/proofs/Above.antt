-- The rows by version above a version.
use Rattle.std.proofs.Common.{◌≡◌, ◌<◌, ℕ, Bool, true, false, cond, List, [], ◌∷◌, Option, Some, refl, sym, ◌∙◌, ap, arith}
use Rattle.std.specs.Prelude.{◌==◌, ◌&&◌, ◌||◌, nat_lt, is_some, filter}
use Rattle.std.specs.declared.cmp.Ordering.{Ordering}
use Rattle.std.specs.declared.cmp.Ordering.TheVariants.{Less, Equal, Greater}
use Rattle.std.specs.Ordering.{is_eq, is_le, nat_cmp, ordering_then}
use Rattle.std.specs.Cmp.{IsEquivalence, eq_by_cmp_equiv}
use Rattle.std.specs.BTreeMap.{is_at}
use Rattle.std.specs.Map.{lookup, keys_of}
use Rattle.std.specs.List.{list_any}
use Rattle.std.specs.List.Sorted.{IsStrictlySortedBy}
use Rattle.std.proofs.lemmas.Bool.Decides.{nat_tests}
use Rattle.std.proofs.lemmas.List.Kept.{IsStrictlySortedBy-filter}
use Rattle.std.proofs.lemmas.Map.Lookups.{exact_unsigned, exact_bytes}
use Rattle.std.proofs.lemmas.Map.Views.{Contains-from_any, list_any-from_Contains}
use Rattle.spare_map.proofs.Changes.{keys-filter}
use Rattle.stab_base.specs.declared.row_version.RowVersion.{RowVersion}
use Rattle.row_store.specs.Data.{id_cmp, version_cmp}
use Rattle.row_store.specs.Memory.{AreAbove}
use Rattle.row_store.proofs.Versions.{version_cmp_total, Versions, at}

abbrev pub same : RowVersion → RowVersion → Bool
same a b = is_eq (version_cmp a b)

pub laws : IsEquivalence same
laws = eq_by_cmp_equiv version_cmp_total

pub exact : (a b : RowVersion) → same a b ≡ true → a ≡ b
exact a b e =
    let t = parts (nat_cmp a.version b.version) (id_cmp a.row b.row) e in
    ap (λ (n : ℕ). at n a.row) (exact_unsigned a.version b.version t.0) ∙ ap (at b.version) (exact_bytes a.row b.row t.1)
  where
    parts : (o p : Ordering) → is_eq (ordering_then o p) ≡ true → (o ≡ Equal) × (p ≡ Equal)
    parts Less p h = absurd cc
    parts Equal Less h = absurd cc
    parts Equal Equal h = (refl, refl)
    parts Equal Greater h = absurd cc
    parts Greater p h = absurd cc

any_if : (b : Bool) (q k : RowVersion) (ks : List RowVersion) → list_any (same q) (cond b (k ∷ ks) ks) ≡ cond b (same q k || list_any (same q) ks) (list_any (same q) ks)
any_if true q k ks = refl
any_if false q k ks = refl

kept : (b c d r : Bool) → (c ≡ true → b ≡ d) → cond b (c || (d && r)) (d && r) ≡ d && (c || r)
kept true true true r h = refl
kept true true false r h = let e : true ≡ false = h refl in absurd cc
kept false true true r h = let e : false ≡ true = h refl in absurd cc
kept false true false r h = refl
kept true false d r h = refl
kept false false d r h = refl

pub any_filter : (p : RowVersion → Bool) (q : RowVersion) (ks : List RowVersion) → list_any (same q) (filter p ks) ≡ p q && list_any (same q) ks
any_filter p q [] = none (p q)
  where
    none : (b : Bool) → false ≡ b && false
    none true = refl
    none false = refl
any_filter p q (k ∷ ks) =
    any_if (p k) q k (filter p ks)
    ∙ (ap (λ (r : Bool). cond (p k) (same q k || r) r) (any_filter p q ks)
    ∙ kept (p k) (same q k) (p q) (list_any (same q) ks) (λ is. ap p (sym (exact q k is))))

pub any_found : (q : RowVersion) (es : Versions) → list_any (same q) (keys_of es) ≡ is_some (lookup (is_at (version_cmp q)) es)
any_found q [] = refl
any_found q (e ∷ es) = split (same q e.0) ∙ ap (λ (b : Bool). cond (same q e.0) true b) (any_found q es) ∙ sym (some (same q e.0) (lookup (is_at (version_cmp q)) es))
  where
    split : (b : Bool) → b || list_any (same q) (keys_of es) ≡ cond b true (list_any (same q) (keys_of es))
    split true = refl
    split false = refl

    some : (b : Bool) (v : Option (Unit {0})) → is_some (cond b (Some e.1) v) ≡ cond b true (is_some v)
    some true v = refl
    some false v = refl

pub and_left : (a b : Bool) → a && b ≡ true → (a ≡ true) × (b ≡ true)
and_left true b h = (refl, h)
and_left false b h = absurd cc

pub above_is_from : (n m : ℕ) (o : Ordering) → nat_lt n m ≡ true → is_le (ordering_then (nat_cmp n m) o) ≡ true
above_is_from n m o lt = ap (λ (r : Ordering). is_le (ordering_then r o)) less
  where
    less : nat_cmp n m ≡ Less
    less = ap (λ (b : Bool). cond b Less (cond (n == m) Equal Greater)) lt

pub are_above : (entries found : Versions) (least : RowVersion) → found ≡ filter (λ e. is_le (version_cmp least e.0)) entries → IsStrictlySortedBy version_cmp (keys_of found)
    → (rows : List RowVersion) → rows ≡ filter (λ row. nat_lt least.version row.version) (keys_of found) → AreAbove entries least.version rows
are_above entries found least is sorted rows from = record {
  rising = rw from (IsStrictlySortedBy-filter version_cmp p (keys_of found) sorted);
  only = λ each there.
      let t = and_left (p each) (f each && is_some (lookup (is_at (version_cmp each)) entries)) (sym (whole each) ∙ list_any-from_Contains laws each rows there) in
      let test : nat_lt least.version each.version ≡ true = t.0 in
      let lt : least.version < each.version = grind (arith, nat_tests) in
      (lt, (and_left (f each) (is_some (lookup (is_at (version_cmp each)) entries)) t.1).1);
  all = λ each lt there.
      let test : nat_lt least.version each.version ≡ true = grind (arith, nat_tests) in
      let from_least : f each ≡ true = above_is_from least.version each.version (id_cmp least.row each.row) test in
      let any : list_any (same each) rows ≡ true = whole each ∙ (ap (λ (b : Bool). b && (f each && is_some (lookup (is_at (version_cmp each)) entries))) test
      ∙ (ap (λ (b : Bool). b && is_some (lookup (is_at (version_cmp each)) entries)) from_least ∙ there)) in
      Contains-from_any exact each rows any;
}
  where
    p : RowVersion → Bool
    p row = nat_lt least.version row.version

    f : RowVersion → Bool
    f row = is_le (version_cmp least row)

    whole : (each : RowVersion) → list_any (same each) rows ≡ p each && (f each && is_some (lookup (is_at (version_cmp each)) entries))
    whole each =
        ap (list_any (same each)) from
        ∙ (any_filter p each (keys_of found)
        ∙ ap (λ (b : Bool). p each && b) (ap (λ (es : Versions). list_any (same each) (keys_of es)) is ∙ (ap (list_any (same each)) (keys-filter f entries) ∙ (any_filter f each (keys_of entries) ∙ ap (λ (b : Bool). f each && b) (any_found each entries)))))
