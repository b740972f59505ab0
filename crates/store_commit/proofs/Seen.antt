-- What is seen of the devices where some rows are hidden.
use Rattle.std.proofs.Common.{◌≡◌, inl, inr, ⊎_elim, ◌⊎◌, ℕ, zero, suc, ◌+◌, ◌<◌, ◌≤◌, ◌++◌, length, get_or, take, max, Bool, true, false, cond, not, List, [], ◌∷◌, Option, Some, None, refl, sym, ◌∙◌, ap, subst, arith}
use Rattle.std.specs.Prelude.{filter, is_some, option_map, unwrap_or, slice_get, IfSome}
use Rattle.std.specs.declared.cmp.Ordering.TheVariants.{Less}
use Rattle.std.specs.declared.cmp.Ordering.{Ordering}
use Rattle.std.specs.Ordering.{nat_cmp, ordering_then}
use Rattle.std.proofs.lemmas.Bool.Decides.{nat_tests}
use Rattle.std.proofs.lemmas.Map.Views.{All-after_first}
use Rattle.row_store.specs.Spelling.{HasStoredSpelling}
use Rattle.std.specs.BTreeMap.{is_at}
use Rattle.std.specs.BTreeSet.{BTreeSet, keys, contains}
use Rattle.std.specs.Map.{lookup}
use Rattle.std.specs.List.{Contains, list_any}
use Rattle.std.proofs.lemmas.Bool.{cases_lt}
use Rattle.std.proofs.lemmas.Map.Entries.{lookup-filter-keys}
use Rattle.std.proofs.lemmas.Map.Lookups.{exact_bytes}
use Rattle.std.proofs.lemmas.List.{take_more}
use Rattle.std.proofs.lemmas.List.Kept.{IsStrictlySortedBy-filter}
use Rattle.std.proofs.lemmas.List.Elements.{All-contains, All-contains_itself, All-filter, filter_passes, Contains-append_left, Contains-push, Contains-push_cases}
use Rattle.disk_trait.specs.Calls.{DiskState}
use Rattle.stab_base.specs.declared.row_version.RowVersion.{RowVersion}
use Rattle.row_store.specs.declared.stored.StoredRow.{StoredRow}
use Rattle.row_store.specs.Data.{TableData, id_cmp, version_cmp, row_of, version_if, version_of, with_row, IsTableVersion, AreChangedSince, IsNextChanged}
use Rattle.store_commit.specs.declared.devs.TableDevs.{TableDevs}
use Rattle.store_commit.specs.declared.scanned.Scanned.{Scanned}
use Rattle.store_commit.specs.Devs.{Devs}
use Rattle.store_commit.specs.There.{shown}
use Rattle.std.specs.Prelude.{Result, Ok, Err, IfOk}
use Rattle.store_commit.specs.declared.fault.CommitFault.{CommitFault}
use Rattle.store_commit.specs.TakesOn.{IsNewestOf, IsStanding}
use Rattle.store_commit.specs.Standing.{devs, seen, hidden_of, NothingHidden}
use Rattle.store_commit.proofs.Lookups.{cases_id, id_itself}

-- ---- look-ups

module _ (is_hidden : List ℕ → Bool) (held : TableData) where
  same_answer : (row k : List ℕ) → is_at (id_cmp row) k ≡ true → not (is_hidden k) ≡ not (is_hidden row)
  same_answer row k at = ⊎_elim (λ same. ap (λ (q : List ℕ). not (is_hidden q)) (sym same)) (λ other. absurd cc) (cases_id row k)

  row_shown : (row : List ℕ) → row_of (shown is_hidden held) row ≡ cond (not (is_hidden row)) (row_of held row) None
  row_shown row = lookup-filter-keys (is_at (id_cmp row)) (λ (k : List ℕ). not (is_hidden k)) (not (is_hidden row)) (λ k at. same_answer row k at) held.rows

  pub row_hidden : (row : List ℕ) → is_hidden row ≡ true → row_of (shown is_hidden held) row ≡ None
  row_hidden row is = row_shown row ∙ ap (λ (b : Bool). cond (not b) (row_of held row) None) is

  pub row_there : (row : List ℕ) → is_hidden row ≡ false → row_of (shown is_hidden held) row ≡ row_of held row
  row_there row is = row_shown row ∙ ap (λ (b : Bool). cond (not b) (row_of held row) None) is

  abbrev version_in : Option StoredRow → Option ℕ
  version_in o = option_map (λ (s : StoredRow). s.version) o

  pub version_there : (row : List ℕ) → is_hidden row ≡ false → version_if (shown is_hidden held) row ≡ version_if held row
  version_there row is = ap version_in (row_there row is)

  pub version_hidden : (row : List ℕ) → is_hidden row ≡ true → version_if (shown is_hidden held) row ≡ None
  version_hidden row is = ap version_in (row_hidden row is)

  -- one that has a version isn't hidden
  pub version_shown : (row : List ℕ) (n : ℕ) → version_if (shown is_hidden held) row ≡ Some n → (is_hidden row ≡ false) × (version_if held row ≡ Some n)
  version_shown row n e = pick (is_hidden row) refl
    where
      pick : (b : Bool) → is_hidden row ≡ b → (is_hidden row ≡ false) × (version_if held row ≡ Some n)
      pick true is = let none : None ≡ Some n = sym (version_hidden row is) ∙ e in absurd cc
      pick false is = (is, sym (version_there row is) ∙ e)

  pub version_of_there : (row : List ℕ) → is_hidden row ≡ false → version_of (shown is_hidden held) row ≡ version_of held row
  version_of_there row is = ap (λ (v : Option ℕ). unwrap_or v 0) (version_there row is)

  pub version_of_hidden : (row : List ℕ) → is_hidden row ≡ true → version_of (shown is_hidden held) row ≡ 0
  version_of_hidden row is = ap (λ (v : Option ℕ). unwrap_or v 0) (version_hidden row is)

-- ---- nothing is hidden

pub all_kept : {X : Type 0} (p : X → Bool) (xs : List X) → ((x : X) → p x ≡ true) → filter p xs ≡ xs
all_kept p [] all = refl
all_kept {X} p (x ∷ xs) all = ap (λ (b : Bool). cond b (x ∷ filter p xs) (filter p xs)) (all x) ∙ ap (λ (l : List X). x ∷ l) (all_kept p xs all)

pub none_in : {K : Type 0} (set : BTreeSet K) (test : K → Bool) → keys set ≡ [] → list_any test set.keys ≡ false
none_in set test none = ap (list_any test) none

pub shown_all : (is_hidden : List ℕ → Bool) (held : TableData) → ((row : List ℕ) → is_hidden row ≡ false) → shown is_hidden held ≡ held
shown_all is_hidden held none = ap (λ (rows : List (List ℕ × StoredRow)). made rows) (all_kept (λ e. not (is_hidden e.0)) held.rows (λ e. ap not (none e.0)))
  where
    made : List (List ℕ × StoredRow) → TableData
    made rows = record { rows = rows; table = held.table; subs = held.subs }

module _ {D : Type 0} (state : D → DiskState) where
  pub seen_all : (table : TableDevs D) → NothingHidden table → seen state table ≡ devs state table
  seen_all table none =
      let d = devs state table in
      ap (λ (held : TableData). made d held) (shown_all (contains id_cmp (hidden_of table)) d.held (λ row. none_in (hidden_of table) (is_at (id_cmp row)) none))
    where
      made : Devs → TableData → Devs
      made d held = record { chunks = d.chunks; held = held; pending = d.pending }

  pub still_seen : (old new : TableDevs D) → devs state new ≡ devs state old → new.scanned ≡ old.scanned → seen state new ≡ seen state old
  still_seen old new same scanned = ap (λ (s : Scanned). made s (devs state new)) scanned ∙ ap (λ (d : Devs). made old.scanned d) same
    where
      made : Scanned → Devs → Devs
      made s d = record { chunks = d.chunks; held = shown (contains id_cmp s.hidden) d.held; pending = d.pending }

-- ---- versions

module _ (is_hidden : List ℕ → Bool) (held : TableData) where
  abbrev at : List ℕ → ℕ → RowVersion
  at row version = record { version = version; row = row }

  -- where these are all rows with a version above 0
  pub newest_there : (rows : List RowVersion) (newest : ℕ) → AreChangedSince held 0 rows → IsNewestOf is_hidden rows newest → IsTableVersion (shown is_hidden held) newest
  newest_there rows newest c n = record {
    greatest = λ row other e. let v = version_shown is_hidden held row other e in least row other v.0 v.1;
    attained = ⊎_elim (λ zero_. inl zero_) (λ a. let o = c.only a.0 a.1 in inr (a.0.row, version_there is_hidden held a.0.row a.2 ∙ (o.1 ∙ ap (λ (m : ℕ). Some m) a.3))) n.attained;
  }
    where
      least : (row : List ℕ) (other : ℕ) → is_hidden row ≡ false → version_if held row ≡ Some other → other ≤ newest
      least row other there e = ⊎_elim (λ lt. n.greatest (at row other) (c.all (at row other) lt e) there) (λ le. omega arith) (cases_lt 0 other)

-- ---- the rows that are there, of those with a version above a position

kept_in : {X : Type 0} (p : X → Bool) (xs : List X) (x : X) → Contains (filter p xs) x → (p x ≡ true) × Contains xs x
kept_in {X} p xs x h = (
  All-contains (λ (y : X). p y ≡ true) (filter p xs) x (filter_passes p xs) h,
  All-contains (Contains xs) (filter p xs) x (All-filter p (Contains xs) xs (All-contains_itself xs)) h,
)

in_kept : {X : Type 0} (p : X → Bool) (xs : List X) (x : X) → Contains xs x → p x ≡ true → Contains (filter p xs) x
in_kept p [] x h yes_ = absurd (omega (arith, h.1))
in_kept {X} p (y ∷ xs) x (zero, lt, is) yes_ = pick (p y) (ap p is ∙ yes_)
  where
    pick : (b : Bool) → b ≡ true → Contains (cond b (y ∷ filter p xs) (filter p xs)) x
    pick true at = (zero, omega arith, is)
    pick false at = absurd cc
in_kept {X} p (y ∷ xs) x (suc k, lt, is) yes_ = pick (p y) (in_kept p xs x (k, omega (arith, lt), is) yes_)
  where
    pick : (b : Bool) → Contains (filter p xs) x → Contains (cond b (y ∷ filter p xs) (filter p xs)) x
    pick true c = (suc c.0, omega (arith, c.1), c.2)
    pick false c = c

not_both : (b : Bool) → not b ≡ true → b ≡ false
not_both true h = absurd cc
not_both false h = refl

pub changed_there : (is_hidden : List ℕ → Bool) (held : TableData) (position : ℕ) (rows : List RowVersion) → AreChangedSince held position rows → AreChangedSince (shown is_hidden held) position (filter (λ (each : RowVersion). not (is_hidden each.row)) rows)
changed_there is_hidden held position rows c = record {
  rising = IsStrictlySortedBy-filter version_cmp there rows c.rising;
  only = λ each h. let k = kept_in there rows each h in let o = c.only each k.1 in (o.0, version_there is_hidden held each.row (not_both (is_hidden each.row) k.0) ∙ o.1);
  all = λ each lt e. let v = version_shown is_hidden held each.row each.version e in in_kept there rows each (c.all each lt v.1) (ap not v.0);
}
  where
    there : RowVersion → Bool
    there each = not (is_hidden each.row)

-- the first of them is the next
pub first_changed : (held : TableData) (position : ℕ) (rows : List RowVersion) → AreChangedSince held position rows → IsNextChanged held position (slice_get rows 0)
first_changed held position [] c = λ row other e. ⊎_elim (λ lt. absurd (none (at row other) (c.all (at row other) lt e))) (λ le. le) (cases_lt position other)
  where
    at : List ℕ → ℕ → RowVersion
    at row version = record { version = version; row = row }

    none : (each : RowVersion) → Contains [] each → ⊥
    none each h = omega (arith, h.1)
first_changed held position (x ∷ rows) c =
    let o = c.only x (zero, omega arith, refl) in
    (o.0, o.1, λ row other e lt. least (record { version = other; row = row }) (c.all (record { version = other; row = row }) lt e))
  where
    not_above : (n m : ℕ) (o : Ordering) → ordering_then (nat_cmp n m) o ≡ Less → n ≤ m
    not_above n m o is = grind (arith, nat_tests)

    least : (each : RowVersion) → Contains (x ∷ rows) each → x.version ≤ each.version
    least each (zero, lt, is) = let same : x.version ≡ each.version = ap (λ (q : RowVersion). q.version) is in omega (arith, same)
    least each (suc k, lt, is) =
        not_above x.version each.version (id_cmp x.row each.row)
        (All-contains (λ (q : RowVersion). version_cmp x q ≡ Less) rows each (All-after_first version_cmp x rows c.rising) (k, omega (arith, lt), is))

-- ---- the greatest so far

pub newest_none : (is_hidden : List ℕ → Bool) → IsNewestOf is_hidden [] 0
newest_none is_hidden = record { greatest = λ each h there. absurd (omega (arith, h.1)); attained = inl refl }

module _ (is_hidden : List ℕ → Bool) (rows : List RowVersion) (i : ℕ) (row e : RowVersion) (newest : ℕ) (lt : i < length rows) (is : row ≡ get_or rows i e) (n : IsNewestOf is_hidden (take i rows) newest) where
  one_more : take (i + 1) rows ≡ take i rows ++ row ∷ []
  one_more = take_more rows i e lt ∙ ap (λ (q : RowVersion). take i rows ++ q ∷ []) (sym is)

  pub newest_hidden : is_hidden row.row ≡ true → IsNewestOf is_hidden (take (i + 1) rows) newest
  newest_hidden hid = subst (λ (l : List RowVersion). IsNewestOf is_hidden l newest) (sym one_more) (record {
    greatest = λ each h there. ⊎_elim (λ before. n.greatest each before there) (λ same. absurd (let yes_ : is_hidden each.row ≡ true = subst (λ (q : RowVersion). is_hidden q.row ≡ true) same hid in cc)) (Contains-push_cases (take i rows) row each h);
    attained = ⊎_elim (λ none. inl none) (λ a. inr (a.0, Contains-append_left (take i rows) (row ∷ []) a.0 a.1, a.2, a.3)) n.attained;
  })

  pub newest_more : is_hidden row.row ≡ false → IsNewestOf is_hidden (take (i + 1) rows) (max row.version newest)
  newest_more there = subst (λ (l : List RowVersion). IsNewestOf is_hidden l (max row.version newest)) (sym one_more) (record {
    greatest = λ each h shown_. ⊎_elim (λ before. let le = n.greatest each before shown_ in omega arith) (λ same. let v : row.version ≡ each.version = ap (λ (q : RowVersion). q.version) same in omega arith) (Contains-push_cases (take i rows) row each h);
    attained = ⊎_elim
        (λ lt. inr (row, Contains-push (take i rows) row, there, omega arith))
        (λ le. ⊎_elim (λ none. inl (omega arith)) (λ a. inr (a.0, Contains-append_left (take i rows) (row ∷ []) a.0 a.1, a.2, omega (arith, a.3))) n.attained)
        (cases_lt newest row.version);
  })

-- ---- a look-up of a row that isn't hidden

pub standing_there : (is_hidden : List ℕ → Bool) (held : TableData) (row : List ℕ) (r : Result (Option StoredRow) CommitFault) → is_hidden row ≡ false → IfOk r (IsStanding held row) → IfOk r (IsStanding (shown is_hidden held) row)
standing_there is_hidden held row (Ok found) there st = record { is = row_there is_hidden held row there ∙ st.is; spelled = st.spelled; short = st.short }
standing_there is_hidden held row (Err e) there st = tt

pub found_spelled : (held : TableData) (row : List ℕ) (r : Result (Option StoredRow) CommitFault) → IfOk r (IsStanding held row) → IfOk r (λ found. IfSome found HasStoredSpelling)
found_spelled held row (Ok found) st = st.spelled
found_spelled held row (Err e) st = tt

pub found_there : (held : TableData) (row : List ℕ) (r : Result (Option StoredRow) CommitFault) → IfOk r (IsStanding held row) → IfOk r (λ found. row_of held row ≡ found)
found_there held row (Ok found) st = st.is
found_there held row (Err e) st = tt
