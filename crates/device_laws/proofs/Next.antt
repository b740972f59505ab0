-- The next change of a table, among the items and on the devices.
use Rattle.std.proofs.Common.{◌≡◌, inl, inr, ⊎_elim, ◌⊎◌, ℕ, ◌+◌, ◌<◌, ◌≤◌, Bool, true, false, cond, List, [], ◌∷◌, Option, Some, None, refl, sym, ◌∙◌, ap, subst, arith}
use Rattle.std.specs.Prelude.{◌&&◌, ◌||◌, not, nat_lt, option_map, if◌then◌else◌}
use Rattle.std.specs.List.{list_any}
use Rattle.std.specs.Option.{option_or}
use Rattle.std.proofs.lemmas.Bool.{cases_lt}
use Rattle.std.proofs.lemmas.Bool.Decides.{nat_tests}
use Rattle.table_model.specs.History.{same_row}
use Rattle.stab_base.specs.declared.row_version.RowVersion.{RowVersion}
use Rattle.row_value.specs.declared.schema.Schema.{Schema}
use Rattle.row_store.specs.declared.stored.StoredRow.{StoredRow}
use Rattle.row_store.specs.Data.{version_if, IsNextChanged}
use Rattle.store_commit.specs.Devs.{Devs}
use Rattle.step_tables.specs.Store.{Stored, current_of, is_of_row, next_changed}
use Rattle.step_tables.specs.StoreMoves.{StoreDisk}
use Rattle.step_tables.proofs.Lists.{last_where-cons, same_row-refl}
use Rattle.device_laws.specs.Stands.{AreNumbered, Stands}
use Rattle.device_laws.specs.Reads.{row_version_of}
use Rattle.device_laws.proofs.Numbered.{numbered_above, current_row, one_version}
use Rattle.device_laws.proofs.Rows.{at_row}

-- ---- among the items

-- no item behind is of the row
none_later : (row : List ℕ) (later : List Stored) → list_any (is_of_row row) later ≡ false → current_of later row ≡ None
none_later row [] e = refl
none_later row (x ∷ later) e = last_where-cons (is_of_row row) x later ∙ pick (is_of_row row x) (list_any (is_of_row row) later) refl e (none_later row later)
  where
    pick : (b c : Bool) → list_any (is_of_row row) later ≡ c → b || c ≡ false → (list_any (is_of_row row) later ≡ false → current_of later row ≡ None)
        → option_or (current_of later row) (cond b (Some x) None) ≡ None
    pick true c is h more = absurd cc
    pick false true is h more = absurd cc
    pick false false is h more = ap (λ (o : Option Stored). option_or o None) (more is)

later_none : (row : List ℕ) (later : List Stored) → current_of later row ≡ None → list_any (is_of_row row) later ≡ false
later_none row [] e = refl
later_none row (x ∷ later) e = pick (is_of_row row x) (current_of later row) refl (sym (last_where-cons (is_of_row row) x later) ∙ e) (later_none row later)
  where
    pick : (b : Bool) (o : Option Stored) → current_of later row ≡ o → option_or o (cond b (Some x) None) ≡ None → (current_of later row ≡ None → list_any (is_of_row row) later ≡ false) → b || list_any (is_of_row row) later ≡ false
    pick true (Some w) is h more = absurd cc
    pick true None is h more = absurd cc
    pick false (Some w) is h more = absurd cc
    pick false None is h more = more is

-- the last item of a row is so behind the first, or is the first
split_last : (s : Stored) (later : List Stored) (j : Stored) → current_of (s ∷ later) j.entry.row ≡ Some j
    → (current_of later j.entry.row ≡ Some j) ⊎ ((current_of later j.entry.row ≡ None) × (s ≡ j))
split_last s later j is = pick (current_of later j.entry.row) refl (same_row s.entry.row j.entry.row) (sym (last_where-cons (is_of_row j.entry.row) s later) ∙ is)
  where
    pick : (o : Option Stored) → current_of later j.entry.row ≡ o → (b : Bool) → option_or o (cond b (Some s) None) ≡ Some j → (current_of later j.entry.row ≡ Some j) ⊎ ((current_of later j.entry.row ≡ None) × (s ≡ j))
    pick (Some w) at b e = inl (at ∙ e)
    pick None at true e = let same : s ≡ j = cc in inr (at, same)
    pick None at false e = absurd cc

more_last : (s : Stored) (later : List Stored) (i : Stored) → current_of later i.entry.row ≡ Some i → current_of (s ∷ later) i.entry.row ≡ Some i
more_last s later i is = last_where-cons (is_of_row i.entry.row) s later ∙ ap (λ (o : Option Stored). option_or o (cond (same_row s.entry.row i.entry.row) (Some s) None)) is

module _ (position : ℕ) where
  -- the last item of its row with the least version above the position
  abbrev IsNextItem : List Stored → Option Stored → Type 0
  IsNextItem items None = (j : Stored) → current_of items j.entry.row ≡ Some j → j.entry.version ≤ position
  IsNextItem items (Some i) = (current_of items i.entry.row ≡ Some i) × (position < i.entry.version)
      × ((j : Stored) → current_of items j.entry.row ≡ Some j → position < j.entry.version → i.entry.version ≤ j.entry.version)

  module _ (s : Stored) (later : List Stored) where
    same_none : (j : Stored) → s ≡ j → current_of later j.entry.row ≡ None → current_of later s.entry.row ≡ None
    same_none j same none = subst (λ (x : Stored). current_of later x.entry.row ≡ None) (sym same) none

    above_it : (j : Stored) → s ≡ j → position < j.entry.version → position < s.entry.version
    above_it j same lt = subst (λ (x : Stored). position < x.entry.version) (sym same) lt

    -- the first item is none that is asked for
    keep : (o : Option Stored) → (current_of later s.entry.row ≡ None → position < s.entry.version → ⊥) → IsNextItem later o → IsNextItem (s ∷ later) o
    keep None isnt h = λ j at. ⊎_elim (λ l. h j l)
        (λ r. ⊎_elim (λ lt. absurd (isnt (same_none j r.1 r.0) (above_it j r.1 lt))) (λ le. le) (cases_lt position j.entry.version))
        (split_last s later j at)
    keep (Some i) isnt h = (
      more_last s later i h.0,
      h.1,
      λ j at lt. ⊎_elim (λ l. h.2 j l lt) (λ r. absurd (isnt (same_none j r.1 r.0) (above_it j r.1 lt))) (split_last s later j at),
    )

    step : (n : ℕ) → AreNumbered n (s ∷ later) → (b c : Bool) → nat_lt position s.entry.version ≡ b → list_any (is_of_row s.entry.row) later ≡ c → IsNextItem later (next_changed position later)
        → IsNextItem (s ∷ later) (if b && not c then Some s else next_changed position later)
    step n num true false lt any h = (
      last_where-cons (is_of_row s.entry.row) s later
          ∙ (ap (λ (o : Option Stored). option_or o (cond (same_row s.entry.row s.entry.row) (Some s) None)) (none_later s.entry.row later any) ∙ ap (λ (b : Bool). cond b (Some s) None) (same_row-refl s.entry.row)),
      grind (arith, nat_tests),
      λ j at above. ⊎_elim
          (λ l. let more = numbered_above (n + 1) later j num.1 (current_row later j.entry.row j l).0 in omega (arith, more, num.0))
          (λ r. let same : s.entry.version ≡ j.entry.version = ap (λ (x : Stored). x.entry.version) r.1 in omega (arith, same))
          (split_last s later j at),
    )
    step n num true true lt any h = keep (next_changed position later) (λ none above. let no_ = later_none s.entry.row later none in cc) h
    step n num false c lt any h = keep (next_changed position later) (λ none above. not_both lt above) h
      where
        not_both : nat_lt position s.entry.version ≡ false → position < s.entry.version → ⊥
        not_both isnt above = grind (arith, nat_tests)

  next_item : (n : ℕ) (items : List Stored) → AreNumbered n items → IsNextItem items (next_changed position items)
  next_item n [] num = λ j at. absurd cc
  next_item n (s ∷ later) num = step s later n num (nat_lt position s.entry.version) (list_any (is_of_row s.entry.row) later) refl refl (next_item (n + 1) later num.1)

  -- ---- on the devices

  module _ (schema : Schema) (d : Devs) (disk : StoreDisk) (st : Stands schema d disk) where
    item_of : (row : List ℕ) (n : ℕ) → version_if d.held row ≡ Some n → (j : Stored) × (current_of disk.items row ≡ Some j) × (j.entry.version ≡ n) × (j.entry.row ≡ row)
    item_of row n is =
        ⊎_elim
        (λ none. let no_ : None ≡ Some n = sym (ap (option_map (λ (s : StoredRow). s.version)) none.1) ∙ is in absurd cc)
        (λ some.
        let same : Some some.1.version ≡ Some n = sym (ap (option_map (λ (s : StoredRow). s.version)) some.3) ∙ is in
        let one : some.1.version ≡ n = cc in
        (some.0, some.2, sym some.4.version ∙ one, (current_row disk.items row some.0 some.2).1))
        (at_row schema.chunk disk.items d.held st.held.numbered st.held.rows row)

    version_is : (j : Stored) → current_of disk.items j.entry.row ≡ Some j → version_if d.held j.entry.row ≡ Some j.entry.version
    version_is j is =
        ⊎_elim
        (λ none. let no_ : Some j ≡ None = sym is ∙ none.0 in absurd cc)
        (λ some.
        let both : Some some.0 ≡ Some j = sym some.2 ∙ is in
        let one : some.0 ≡ j = cc in
        ap (option_map (λ (s : StoredRow). s.version)) some.3 ∙ ap (λ (n : ℕ). Some n) (some.4.version ∙ ap (λ (x : Stored). x.entry.version) one))
        (at_row schema.chunk disk.items d.held st.held.numbered st.held.rows j.entry.row)

    -- the last item of its row, where one is
    last_too : (row : List ℕ) (j : Stored) → current_of disk.items row ≡ Some j → j.entry.row ≡ row → current_of disk.items j.entry.row ≡ Some j
    last_too row j is own = subst (λ (r : List ℕ). current_of disk.items r ≡ Some j) (sym own) is

    same_change : (o : Option Stored) (next : Option RowVersion) → IsNextItem disk.items o → IsNextChanged d.held position next → next ≡ option_map row_version_of o
    same_change None None h k = refl
    same_change None (Some r) h k =
        let j = item_of r.row r.version k.1 in
        let le = h j.0 (last_too r.row j.0 j.1 j.3) in
        absurd (omega (arith, le, k.0, j.2))
    same_change (Some i) None h k = let le = k i.entry.row i.entry.version (version_is i h.0) in absurd (omega (arith, le, h.1))
    same_change (Some i) (Some r) h k =
        let j = item_of r.row r.version k.1 in
        let least = k.2 i.entry.row i.entry.version (version_is i h.0) h.1 in
        let most = h.2 j.0 (last_too r.row j.0 j.1 j.3) (omega (arith, k.0, j.2)) in
        let version : j.0.entry.version ≡ i.entry.version = omega (arith, least, most, j.2) in
        let one : j.0 ≡ i = one_version 0 disk.items j.0 i st.held.numbered (current_row disk.items r.row j.0 j.1).0 (current_row disk.items i.entry.row i h.0).0 version in
        ap (λ (x : RowVersion). Some x) (made r (ap (λ (x : Stored). x.entry.row) (sym one) ∙ j.3) (sym j.2 ∙ version))
      where
        made : (x : RowVersion) → i.entry.row ≡ x.row → x.version ≡ i.entry.version → x ≡ row_version_of i
        made x row version = rw (sym row, version) refl

    pub changed_is : (next : Option RowVersion) → IsNextChanged d.held position next → next ≡ option_map row_version_of (next_changed position disk.items)
    changed_is next k = same_change (next_changed position disk.items) next (next_item 0 disk.items st.held.numbered) k

    -- it is the last item of its row
    pub next_stands : (i : Stored) → next_changed position disk.items ≡ Some i → current_of disk.items i.entry.row ≡ Some i
    next_stands i is = (subst (IsNextItem disk.items) is (next_item 0 disk.items st.held.numbered)).0
