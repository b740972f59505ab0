-- Finding rows in memory.
use Rattle.std.proofs.Common.{◌≡◌, ◌+◌, ◌≤◌, inl, inr, ℕ, true, false, List, [], length, get_or, Option, Some, None, refl, sym, ◌∙◌, ap, subst, arith}
use Rattle.std.specs.Prelude.{option_map, unwrap_or, is_some, IfNone, IfSome}
use Rattle.std.specs.declared.cmp.Ordering.{Ordering}
use Rattle.std.specs.Ordering.{is_lt, nat_cmp, ordering_then}
use Rattle.std.specs.BTreeMap.{is_at}
use Rattle.std.specs.Map.{lookup}
use Rattle.std.proofs.lemmas.Bool.Decides.{nat_tests}
use Rattle.stab_base.specs.declared.limits.TheConstants.{NUMBER_MAX}
use Rattle.spare_map.specs.Late.{entries_of, IsLast}
use Rattle.spare_map.proofs.Values.{lookup_with, value_found}
use Rattle.row_store.specs.declared.stored.StoredRow.{StoredRow}
use Rattle.stab_base.specs.declared.row_version.RowVersion.{RowVersion}
use Rattle.row_store.specs.declared.memory.RowMemory.{RowMemory}
use Rattle.row_store.specs.declared.memory.Place.{Place}
use Rattle.row_store.specs.Data.{id_cmp, version_cmp, data_of, row_of, version_if, version_of, IsTableVersion, AreChangedSince, IsNextChanged}
use Rattle.row_store.specs.Memory.{row_at, IsPlace, has_version, AreAbove, IsFirstFrom, Fits}
use Rattle.row_store.proofs.Versions.{at}
use Rattle.row_store.proofs.Found.{row_most}
use Rattle.row_store.proofs.Ids.{data_ids}

abbrev place_in : RowMemory → List ℕ → Option Place
place_in memory row = lookup (is_at (id_cmp row)) (entries_of id_cmp memory.places)

module _ (memory : RowMemory) (ps : List (List ℕ)) (fit : Fits memory ps) where
  row_is : (row : List ℕ) (found : Option Place) → found ≡ place_in memory row → row_of (data_of ps) row ≡ option_map (row_at ps) found
  row_is row found is =
      ap (λ (rows : List (List ℕ × StoredRow)). lookup (is_at (id_cmp row)) rows) fit.rows
      ∙ (lookup_with (row_at ps) (is_at (id_cmp row)) (entries_of id_cmp memory.places) ∙ ap (option_map (row_at ps)) (sym is))

  pub none_is : (row : List ℕ) (found : Option Place) → found ≡ place_in memory row → IfNone found (row_of (data_of ps) row ≡ None)
  none_is row None is = row_is row None is
  none_is row (Some place) is = tt

  pub some_is : (row : List ℕ) (found : Option Place) → found ≡ place_in memory row → IfSome found (λ place. row_of (data_of ps) row ≡ Some (row_at ps place))
  some_is row None is = tt
  some_is row (Some place) is = row_is row (Some place) is

  pub place_at : (row : List ℕ) (found : Option Place) → found ≡ place_in memory row → IfSome found (IsPlace ps)
  place_at row None is = tt
  place_at row (Some place) is = value_found (IsPlace ps) (is_at (id_cmp row)) (entries_of id_cmp memory.places) place fit.places (sym is)

  abbrev versioned : Option Place → Option ℕ
  versioned found = option_map (λ place. place.version) found

  version_is : (row : List ℕ) (found : Option Place) → found ≡ place_in memory row → version_if (data_of ps) row ≡ versioned found
  version_is row None is = ap (option_map (λ (s : StoredRow). s.version)) (row_is row None is)
  version_is row (Some place) is = ap (option_map (λ (s : StoredRow). s.version)) (row_is row (Some place) is) ∙ ap (λ (n : ℕ). Some n) (place_at row (Some place) is).version

  has_its : (found : Option Place) (n : ℕ) → versioned found ≡ Some n → has_version found n ≡ true
  has_its None n e = absurd cc
  has_its (Some place) n e = let same : place.version ≡ n = cc in grind (arith, nat_tests)

  its_version : (found : Option Place) (n : ℕ) → has_version found n ≡ true → versioned found ≡ Some n
  its_version None n e = absurd cc
  its_version (Some place) n e = let same : place.version ≡ n = grind (arith, nat_tests) in ap (λ (m : ℕ). Some m) same

  abbrev found_by : RowVersion → Option (Unit {0})
  found_by each = lookup (is_at (version_cmp each)) (entries_of version_cmp memory.versions)

  pub by_version : (each : RowVersion) → version_if (data_of ps) each.row ≡ Some each.version → is_some (found_by each) ≡ true
  by_version each e = fit.versions.same each ∙ has_its (place_in memory each.row) each.version (sym (version_is each.row (place_in memory each.row) refl) ∙ e)

  pub of_version : (each : RowVersion) → is_some (found_by each) ≡ true → version_if (data_of ps) each.row ≡ Some each.version
  of_version each e = version_is each.row (place_in memory each.row) refl ∙ its_version (place_in memory each.row) each.version (sym (fit.versions.same each) ∙ e)

  pub changed_are : (position : ℕ) (rows : List RowVersion) → AreAbove (entries_of version_cmp memory.versions) position rows → AreChangedSince (data_of ps) position rows
  changed_are position rows h = record {
    rising = h.rising;
    only = λ each there. let t = h.only each there in (t.0, of_version each t.1);
    all = λ each lt e. h.all each lt (by_version each e);
  }

  -- each version is within the limit
  pub versions_most : (row : List ℕ) (n : ℕ) → version_if (data_of ps) row ≡ Some n → n ≤ NUMBER_MAX
  versions_most row n e = cases (place_in memory row) refl
    where
      cases : (found : Option Place) → found ≡ place_in memory row → n ≤ NUMBER_MAX
      cases None is = let none : None ≡ Some n = sym (version_is row None is) ∙ e in absurd cc
      cases (Some place) is =
          let its = place_at row (Some place) is in
          let same : Some place.version ≡ Some n = sym (version_is row (Some place) is) ∙ e in
          let one : place.version ≡ n = cc in
          subst (λ (m : ℕ). m ≤ NUMBER_MAX) (its.version ∙ one) (row_most (get_or ps place.index []) (row_at ps place) its.row)

  pub no_version : IsLast version_cmp (entries_of version_cmp memory.versions) None → IsTableVersion (data_of ps) 0
  no_version none = record {
    greatest = λ row other e. absurd (none (at other row) (by_version (at other row) e));
    attained = inl refl;
  }

  pub last_version : (last : RowVersion) → IsLast version_cmp (entries_of version_cmp memory.versions) (Some last) → IsTableVersion (data_of ps) last.version
  last_version last h = record {
    greatest = λ row other e. not_above other (id_cmp last.row row) (h.1 (at other row) (by_version (at other row) e));
    attained = inr (last.row, of_version last h.0);
  }
    where
      not_above : (other : ℕ) (o : Ordering) → is_lt (ordering_then (nat_cmp last.version other) o) ≡ false → other ≤ last.version
      not_above other o e = grind (arith, nat_tests)

  -- ---- the next change

  sixteen : (row : List ℕ) (n : ℕ) → version_if (data_of ps) row ≡ Some n → length row ≡ 16
  sixteen row n e = pick (row_of (data_of ps) row) refl e
    where
      pick : (o : Option StoredRow) → row_of (data_of ps) row ≡ o → option_map (λ (s : StoredRow). s.version) o ≡ Some n → length row ≡ 16
      pick None is h = absurd cc
      pick (Some stored) is h = data_ids ps row stored is

  pub none_changed : (position : ℕ) → NUMBER_MAX ≤ position → IsNextChanged (data_of ps) position None
  none_changed position most row other e = let le = versions_most row other e in omega (arith, le, most)

  pub next_is : (position : ℕ) (next : Option RowVersion) → IsFirstFrom (entries_of version_cmp memory.versions) (position + 1) next → IsNextChanged (data_of ps) position next
  next_is position None h = λ row other e. let lt = h (at other row) (sixteen row other e) (by_version (at other row) e) in omega (arith, lt)
  next_is position (Some next) h = (
    omega (arith, h.0),
    of_version next h.1,
    λ row other e lt. h.2 (at other row) (sixteen row other e) (by_version (at other row) e) (omega (arith, lt)),
  )

pub version_or : (memory : RowMemory) (ps : List (List ℕ)) → Fits memory ps → (row : List ℕ) (found : Option Place) → found ≡ place_in memory row
    → version_of (data_of ps) row ≡ unwrap_or (option_map (λ place. place.version) found) 0
version_or memory ps fit row found is = ap (λ (v : Option ℕ). unwrap_or v 0) (version_is memory ps fit row found is)
