-- The rows by version, after a row has got a place.
use Rattle.std.proofs.Common.{◌≡◌, ℕ, Bool, true, false, cond, List, [], ◌∷◌, arith, Option, Some, None, refl, sym, ◌∙◌, ap}
use Rattle.std.specs.Prelude.{◌==◌, ◌&&◌, is_some}
use Rattle.std.specs.declared.cmp.Ordering.{Ordering}
use Rattle.std.specs.declared.cmp.Ordering.TheVariants.{Less, Equal, Greater}
use Rattle.std.specs.Ordering.{is_eq, nat_cmp, ordering_then}
use Rattle.std.specs.Cmp.{IsTotalOrder, nat_cmp_total, eq_by_cmp_equiv}
use Rattle.std.specs.BTreeMap.{insert_entry, is_at}
use Rattle.std.specs.Map.{lookup}
use Rattle.std.proofs.lemmas.Cmp.{then_total, on_total, nat_list_cmp_total}
use Rattle.std.proofs.lemmas.Bool.Decides.{nat_tests}
use Rattle.spare_map.specs.Late.{without}
use Rattle.spare_map.proofs.Changes.{lookup-changed}
use Rattle.row_store.specs.declared.memory.Place.{Place}
use Rattle.stab_base.specs.declared.row_version.RowVersion.{RowVersion}
use Rattle.row_store.specs.Data.{id_cmp, version_cmp}
use Rattle.row_store.specs.Memory.{has_version, AreByVersion}

pub id_cmp_total : IsTotalOrder id_cmp
id_cmp_total = nat_list_cmp_total

pub version_cmp_total : IsTotalOrder version_cmp
version_cmp_total = then_total (on_total (λ (each : RowVersion). each.version) nat_cmp_total) (on_total (λ (each : RowVersion). each.row) id_cmp_total)

abbrev pub Places : Type 0
Places = List (List ℕ × Place)

abbrev pub Versions : Type 0
Versions = List (RowVersion × Unit {0})

abbrev pub at : ℕ → List ℕ → RowVersion
at version row = record { version = version; row = row }

both_are : (a b : Ordering) → is_eq (ordering_then a b) ≡ is_eq a && is_eq b
both_are Less b = refl
both_are Equal b = refl
both_are Greater b = refl

same_number : (a b : ℕ) → is_eq (nat_cmp a b) ≡ (a == b)
same_number a b = grind (arith, nat_tests)

is_both : (a b : RowVersion) → is_at (version_cmp a) b ≡ (a.version == b.version) && is_at (id_cmp a.row) b.row
is_both a b = both_are (nat_cmp a.version b.version) (id_cmp a.row b.row) ∙ ap (λ (t : Bool). t && is_at (id_cmp a.row) b.row) (same_number a.version b.version)

is_some_if : (b : Bool) (v w : Option (Unit {0})) → is_some (cond b v w) ≡ cond b (is_some v) (is_some w)
is_some_if true v w = refl
is_some_if false v w = refl

has_if : (b : Bool) (v w : Option Place) (n : ℕ) → has_version (cond b v w) n ≡ cond b (has_version v n) (has_version w n)
has_if true v w n = refl
has_if false v w n = refl

module _ (places : Places) (versions : Versions) (by : AreByVersion places versions) (row : List ℕ) (place : Place) where
  abbrev after_places : Places
  after_places = insert_entry id_cmp places row place

  -- a row whose id is another one, and the row itself under one more version
  here : (each : RowVersion) (mid : Versions) → is_some (lookup (is_at (version_cmp each)) mid) ≡ cond (is_at (id_cmp row) each.row) false (is_some (lookup (is_at (version_cmp each)) versions))
      → is_some (lookup (is_at (version_cmp each)) (insert_entry version_cmp mid (at place.version row) tt)) ≡ has_version (lookup (is_at (id_cmp each.row)) after_places) each.version
  here each mid before =
      let w : Option (Unit {0}) = Some tt in
      let p : Option Place = Some place in
      ap is_some (lookup-changed version_cmp version_cmp_total mid (at place.version row) w each)
      ∙ (is_some_if (is_at (version_cmp (at place.version row)) each) w (lookup (is_at (version_cmp each)) mid)
      ∙ (ap (λ (b : Bool). cond b true (is_some (lookup (is_at (version_cmp each)) mid))) (is_both (at place.version row) each)
      ∙ (ap (λ (b : Bool). cond ((place.version == each.version) && is_at (id_cmp row) each.row) true b) before
      ∙ (split (place.version == each.version) (is_at (id_cmp row) each.row) (is_some (lookup (is_at (version_cmp each)) versions))
      ∙ (ap (λ (b : Bool). cond (is_at (id_cmp row) each.row) (place.version == each.version) b) (by.same each)
      ∙ (sym (has_if (is_at (id_cmp row) each.row) p (lookup (is_at (id_cmp each.row)) places) each.version)
      ∙ sym (ap (λ (v : Option Place). has_version v each.version) (lookup-changed id_cmp id_cmp_total places row p each.row))))))))
    where
      split : (v r s : Bool) → cond (v && r) true (cond r false s) ≡ cond r v s
      split true true s = refl
      split true false s = refl
      split false true s = refl
      split false false s = refl

  same_row : (each : RowVersion) → is_at (id_cmp row) each.row ≡ true → lookup (is_at (id_cmp each.row)) places ≡ lookup (is_at (id_cmp row)) places
  same_row each same = go places
    where
      go : (es : Places) → lookup (is_at (id_cmp each.row)) es ≡ lookup (is_at (id_cmp row)) es
      go [] = refl
      go (e ∷ es) =
          ap (λ (b : Bool). cond b (Some e.1) (lookup (is_at (id_cmp each.row)) es)) (sym ((eq_by_cmp_equiv id_cmp_total).congr row each.row e.0 same))
          ∙ ap (λ (v : Option Place). cond (is_at (id_cmp row) e.0) (Some e.1) v) (go es)

  -- where the row had no place
  pub by_new : lookup (is_at (id_cmp row)) places ≡ None → AreByVersion after_places (insert_entry version_cmp versions (at place.version row) tt)
  by_new none = record { same = λ each. here each versions (before each (is_at (id_cmp row) each.row) refl) }
    where
      before : (each : RowVersion) (b : Bool) → is_at (id_cmp row) each.row ≡ b
          → is_some (lookup (is_at (version_cmp each)) versions) ≡ cond b false (is_some (lookup (is_at (version_cmp each)) versions))
      before each true same = by.same each ∙ ap (λ (v : Option Place). has_version v each.version) (same_row each same ∙ none)
      before each false same = refl

  -- where it had another place
  pub by_moved : (old : Place) → lookup (is_at (id_cmp row)) places ≡ Some old
      → AreByVersion after_places (insert_entry version_cmp (without version_cmp versions (at old.version row)) (at place.version row) tt)
  by_moved old some = record { same = λ each. here each (without version_cmp versions (at old.version row)) (before each) }
    where
      cases : (each : RowVersion) (b : Bool) → is_at (id_cmp row) each.row ≡ b
          → cond ((old.version == each.version) && b) false (is_some (lookup (is_at (version_cmp each)) versions)) ≡ cond b false (is_some (lookup (is_at (version_cmp each)) versions))
      cases each true same = split (old.version == each.version) (is_some (lookup (is_at (version_cmp each)) versions)) (by.same each ∙ ap (λ (v : Option Place). has_version v each.version) (same_row each same ∙ some))
        where
          split : (v s : Bool) → s ≡ v → cond (v && true) false s ≡ false
          split true s is = refl
          split false s is = is
      cases each false same = split (old.version == each.version) (is_some (lookup (is_at (version_cmp each)) versions))
        where
          split : (v s : Bool) → cond (v && false) false s ≡ s
          split true s = refl
          split false s = refl

      before : (each : RowVersion) → is_some (lookup (is_at (version_cmp each)) (without version_cmp versions (at old.version row)))
          ≡ cond (is_at (id_cmp row) each.row) false (is_some (lookup (is_at (version_cmp each)) versions))
      before each =
          let nothing : Option (Unit {0}) = None in
          ap is_some (lookup-changed version_cmp version_cmp_total versions (at old.version row) nothing each)
          ∙ (is_some_if (is_at (version_cmp (at old.version row)) each) nothing (lookup (is_at (version_cmp each)) versions)
          ∙ (ap (λ (b : Bool). cond b false (is_some (lookup (is_at (version_cmp each)) versions))) (is_both (at old.version row) each)
          ∙ cases each (is_at (id_cmp row) each.row) refl))
