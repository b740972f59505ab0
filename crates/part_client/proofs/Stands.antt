-- What is kept of a table behind one change.
use Rattle.std.proofs.Common.{◌≡◌, ℕ, Bool, true, false, cond, List, [], ◌∷◌, ◌++◌, Option, Some, None, refl, sym, ap, ◌∙◌, subst, arith}
use Rattle.std.specs.Prelude.{◌==◌, ◌&&◌, ◌||◌, filter, option_map, if◌then◌else◌}
use Rattle.std.specs.List.{find, list_any, list_all}
use Rattle.std.specs.BTreeMap as tree
use Rattle.std.specs.BTreeMap.{is_at}
use Rattle.std.specs.BTreeSet as set
use Rattle.std.proofs.lemmas.Bool.{and_parts}
use Rattle.std.proofs.lemmas.Bool.Decides.{nat_tests}
use Rattle.table_model.specs.History.{same_row}
use Rattle.step_tables.specs.Client.{row_cmp}
use Rattle.step_tables.proofs.Lists.{same_row-is}
use Rattle.part_tables.specs.ClientParts.{Answering, ClientTaken, is_of_table, without_table}
use Rattle.part_tables.specs.ClientParts as at_client
use Rattle.part_tables.specs.Arriving.{Arriving, WholeRow, is_of_row, without_row, same_torn, with_torn, without_torn, torn_by}
use Rattle.part_client.specs.declared.pulls.Pulling.{Pulling}
use Rattle.part_client.specs.declared.rows.TornRow.{TornRow}
use Rattle.part_client.specs.declared.table.TableParts.{TableParts}
use Rattle.part_client.specs.Weighing.{WholeTaken, answering_of, whole_of}
use Rattle.part_client.specs.Calls.{pull_settled, row_settled, mended}
use Rattle.part_client.specs.Keeping.{KeepsPull, KeepsRows, KeepsTorn, KeepsIn}
use Rattle.part_contents.proofs.Filters.{none_left, none_found, none_among, filter_first, find_first, others_stay, others_found, others_among, other_find}

pub same_number : (n : ℕ) → (n == n) ≡ true
same_number n = grind (arith, nat_tests)

apart_left : (a b : Bool) → a ≡ false → (a && b) ≡ false
apart_left true b h = absurd (let bad : true ≡ false = h in cc)
apart_left false b h = refl

apart_right : (a b : Bool) → b ≡ false → (a && b) ≡ false
apart_right true b h = h
apart_right false b h = refl

-- ---- tests of another row, and of another table

pub other_row : (table : ℕ) (row q : List ℕ) → same_row row q ≡ false → (x : WholeRow) → is_of_row table row x ≡ true → is_of_row table q x ≡ false
other_row table row q other x is =
    let there = and_parts (x.head.table == table) (same_row x.head.row row) is in
    apart_right (x.head.table == table) (same_row x.head.row q) (subst (λ (r : List ℕ). same_row r q ≡ false) (sym (same_row-is x.head.row row there.1)) other)

other_torn : (table : ℕ) (row q : List ℕ) → same_row row q ≡ false → (x : ℕ × List ℕ) → same_torn table row x ≡ true → same_torn table q x ≡ false
other_torn table row q other x is =
    let there = and_parts (x.0 == table) (same_row x.1 row) is in
    apart_right (x.0 == table) (same_row x.1 q) (subst (λ (r : List ℕ). same_row r q ≡ false) (sym (same_row-is x.1 row there.1)) other)

other_number : (n table other : ℕ) → (n == table) ≡ true → (other == table) ≡ false → (n == other) ≡ false
other_number n table other is apart = grind (arith, nat_tests)

-- ---- the answer to a pull

module _ (table : ℕ) where
  pub no_pull : (pulls : List Answering) → KeepsPull table (without_table table pulls) None
  no_pull pulls = none_left (is_of_table table) pulls

  pub pull_put : (pulls : List Answering) (x : Pulling) → is_of_table table (answering_of x) ≡ true → KeepsPull table (answering_of x ∷ without_table table pulls) (Some x)
  pull_put pulls x is = filter_first (is_of_table table) (answering_of x) pulls is

  -- ---- rows

  module _ (row : List ℕ) (old new : tree.BTreeMap (List ℕ) TornRow) (rows : List WholeRow) (keeps : KeepsRows table rows old) where
    pub row_gone : ((q : List ℕ) → tree.get row_cmp new q ≡ cond (is_at (row_cmp row) q) None (tree.get row_cmp old q)) → KeepsRows table (without_row table row rows) new
    row_gone at q = one (same_row row q) refl
      where
        one : (b : Bool) → same_row row q ≡ b → find (is_of_row table q) (without_row table row rows) ≡ option_map whole_of (tree.get row_cmp new q)
        one true is =
            subst (λ (r : List ℕ). find (is_of_row table r) (without_row table row rows) ≡ None) (same_row-is row q is) (none_found (is_of_row table row) rows)
            ∙ ap (option_map whole_of) (sym (at q ∙ ap (λ (b : Bool). cond b None (tree.get row_cmp old q)) is))
        one false is =
            others_found (is_of_row table row) (is_of_row table q) (other_row table row q is) rows
            ∙ (keeps q ∙ ap (option_map whole_of) (sym (at q ∙ ap (λ (b : Bool). cond b None (tree.get row_cmp old q)) is)))

    pub row_put : (x : TornRow) → is_of_row table row (whole_of x) ≡ true → ((q : List ℕ) → tree.get row_cmp new q ≡ cond (is_at (row_cmp row) q) (Some x) (tree.get row_cmp old q))
        → KeepsRows table (whole_of x ∷ without_row table row rows) new
    row_put x its at q = one (same_row row q) refl
      where
        one : (b : Bool) → same_row row q ≡ b → find (is_of_row table q) (whole_of x ∷ without_row table row rows) ≡ option_map whole_of (tree.get row_cmp new q)
        one true is =
            subst (λ (r : List ℕ). find (is_of_row table r) (whole_of x ∷ without_row table row rows) ≡ Some (whole_of x)) (same_row-is row q is)
            (find_first (is_of_row table row) (whole_of x) (without_row table row rows) its)
            ∙ ap (option_map whole_of) (sym (at q ∙ ap (λ (b : Bool). cond b (Some x) (tree.get row_cmp old q)) is))
        one false is =
            other_find (is_of_row table row) (is_of_row table q) (other_row table row q is) (whole_of x) (without_row table row rows) its
            ∙ (others_found (is_of_row table row) (is_of_row table q) (other_row table row q is) rows
            ∙ (keeps q ∙ ap (option_map whole_of) (sym (at q ∙ ap (λ (b : Bool). cond b (Some x) (tree.get row_cmp old q)) is))))

  -- ---- torn rows

  pub torn_more : (torn : List (ℕ × List ℕ)) (row q : List ℕ) → list_any (same_torn table q) (with_torn table row torn) ≡ cond (same_row row q) true (list_any (same_torn table q) torn)
  torn_more torn row q = one (list_any (same_torn table row) torn) refl (same_row row q) refl
    where
      here : (b : Bool) → same_row row q ≡ b → same_torn table q (table, row) ≡ b
      here b is = ap (λ (c : Bool). c && same_row row q) (same_number table) ∙ is

      one : (b : Bool) → list_any (same_torn table row) torn ≡ b → (c : Bool) → same_row row q ≡ c
          → list_any (same_torn table q) (if list_any (same_torn table row) torn then torn else (table, row) ∷ torn) ≡ cond (same_row row q) true (list_any (same_torn table q) torn)
      one true is true same =
          ap (λ (b : Bool). list_any (same_torn table q) (if b then torn else (table, row) ∷ torn)) is
          ∙ (subst (λ (r : List ℕ). list_any (same_torn table r) torn ≡ true) (same_row-is row q same) is ∙ ap (λ (b : Bool). cond b true (list_any (same_torn table q) torn)) (sym same))
      one true is false same = ap (λ (b : Bool). list_any (same_torn table q) (if b then torn else (table, row) ∷ torn)) is ∙ ap (λ (b : Bool). cond b true (list_any
          (same_torn table q) torn)) (sym same)
      one false is c same =
          ap (λ (b : Bool). list_any (same_torn table q) (if b then torn else (table, row) ∷ torn)) is
          ∙ (ap (λ (b : Bool). b || list_any (same_torn table q) torn) (here c same) ∙ (either c (list_any (same_torn table q) torn) ∙ ap (λ (b : Bool). cond b true (list_any
          (same_torn table q) torn)) (sym same)))
        where
          either : (a b : Bool) → (a || b) ≡ cond a true b
          either true b = refl
          either false b = refl

  module _ (row : List ℕ) (old new : set.BTreeSet (List ℕ)) (torn : List (ℕ × List ℕ)) (keeps : KeepsTorn table torn old) where
    pub torn_put : ((q : List ℕ) → set.contains row_cmp new q ≡ cond (is_at (row_cmp row) q) true (set.contains row_cmp old q)) → KeepsTorn table (with_torn table row torn) new
    torn_put at q = torn_more torn row q ∙ (ap (λ (b : Bool). cond (same_row row q) true b) (keeps q) ∙ sym (at q))

    pub torn_gone : ((q : List ℕ) → set.contains row_cmp new q ≡ cond (is_at (row_cmp row) q) false (set.contains row_cmp old q)) → KeepsTorn table (without_torn table row torn) new
    torn_gone at q = one (same_row row q) refl
      where
        one : (b : Bool) → same_row row q ≡ b → list_any (same_torn table q) (without_torn table row torn) ≡ set.contains row_cmp new q
        one true is =
            subst (λ (r : List ℕ). list_any (same_torn table r) (without_torn table row torn) ≡ false) (same_row-is row q is) (none_among (same_torn table row) torn)
            ∙ sym (at q ∙ ap (λ (b : Bool). cond b false (set.contains row_cmp old q)) is)
        one false is =
            others_among (same_torn table row) (same_torn table q) (other_torn table row q is) torn
            ∙ (keeps q ∙ sym (at q ∙ ap (λ (b : Bool). cond b false (set.contains row_cmp old q)) is))

-- ---- other tables

pub record Elsewhere (table : ℕ) (a b : Arriving) : Type 0 where
  pub pulls : (other : ℕ) → (other == table) ≡ false → filter (is_of_table other) b.pulls ≡ filter (is_of_table other) a.pulls
  pub rows : (other : ℕ) → (other == table) ≡ false → (row : List ℕ) → find (is_of_row other row) b.rows ≡ find (is_of_row other row) a.rows
  pub torn : (other : ℕ) → (other == table) ≡ false → (row : List ℕ) → list_any (same_torn other row) b.torn ≡ list_any (same_torn other row) a.torn

pub still_there : (table : ℕ) (a b : Arriving) → Elsewhere table a b → (other : ℕ) → (other == table) ≡ false → (o : Option TableParts) → KeepsIn other a o → KeepsIn other b o
still_there table a b e other apart None h = record {
  pull = e.pulls other apart ∙ h.pull;
  rows = λ row. e.rows other apart row ∙ h.rows row;
  torn = λ row. e.torn other apart row ∙ h.torn row;
}
still_there table a b e other apart (Some it) h = record {
  pull = e.pulls other apart ∙ h.pull;
  rows = λ row. e.rows other apart row ∙ h.rows row;
  torn = λ row. e.torn other apart row ∙ h.torn row;
}

module _ (table other : ℕ) (apart : (other == table) ≡ false) where
  pub pull_apart : (x : Answering) → is_of_table table x ≡ true → is_of_table other x ≡ false
  pull_apart x is = other_number x.head.table table other is apart

  pub row_apart : (row q : List ℕ) (x : WholeRow) → is_of_row table row x ≡ true → is_of_row other q x ≡ false
  row_apart row q x is =
      let there = and_parts (x.head.table == table) (same_row x.head.row row) is in apart_left (x.head.table == other) (same_row x.head.row q) (other_number x.head.table table other there.0 apart)

  torn_apart : (row q : List ℕ) (x : ℕ × List ℕ) → same_torn table row x ≡ true → same_torn other q x ≡ false
  torn_apart row q x is = let there = and_parts (x.0 == table) (same_row x.1 row) is in apart_left (x.0 == other) (same_row x.1 q) (other_number x.0 table other there.0 apart)

  here_apart : (row q : List ℕ) → same_torn other q (table, row) ≡ false
  here_apart row q = apart_left (table == other) (same_row row q) (other_number table table other (same_number table) apart)

  none_else : (xs ys : List Answering) → list_all (is_of_table table) xs ≡ true → filter (is_of_table other) (xs ++ ys) ≡ filter (is_of_table other) ys
  none_else [] ys all = refl
  none_else (x ∷ xs) ys all =
      let parts = and_parts (is_of_table table x) (list_all (is_of_table table) xs) all in
      ap (λ (b : Bool). cond b (x ∷ filter (is_of_table other) (xs ++ ys)) (filter (is_of_table other) (xs ++ ys))) (pull_apart x parts.0) ∙ none_else xs ys parts.1

  none_more : (row q : List ℕ) (xs ys : List WholeRow) → list_all (is_of_row table row) xs ≡ true → find (is_of_row other q) (xs ++ ys) ≡ find (is_of_row other q) ys
  none_more row q [] ys all = refl
  none_more row q (x ∷ xs) ys all =
      let parts = and_parts (is_of_row table row x) (list_all (is_of_row table row) xs) all in
      ap (λ (b : Bool). cond b (Some x) (find (is_of_row other q) (xs ++ ys))) (row_apart row q x parts.0) ∙ none_more row q xs ys parts.1

  pub torn_else : (row q : List ℕ) (torn : List (ℕ × List ℕ)) (b : Bool) → list_any (same_torn other q) (if b then torn else (table, row) ∷ torn) ≡ list_any (same_torn other q) torn
  torn_else row q torn true = refl
  torn_else row q torn false = ap (λ (b : Bool). b || list_any (same_torn other q) torn) (here_apart row q)

  torn_pulled : (q : List ℕ) (taken : at_client.Taken) (torn : List (ℕ × List ℕ)) → list_any (same_torn other q) (torn_by table taken torn) ≡ list_any (same_torn other q) torn
  torn_pulled q (at_client.Whole message) torn = refl
  torn_pulled q (at_client.Tears row) torn = torn_else row q torn (list_any (same_torn table row) torn)
  torn_pulled q at_client.Waits torn = refl

  torn_mended : (row q : List ℕ) (taken : at_client.Taken) (torn : List (ℕ × List ℕ)) → list_any (same_torn other q) (mended table row taken torn) ≡ list_any (same_torn other q) torn
  torn_mended row q (at_client.Whole message) torn = others_among (same_torn table row) (same_torn other q) (torn_apart row q) torn
  torn_mended row q (at_client.Tears gone) torn = refl
  torn_mended row q at_client.Waits torn = refl

pub nothing_else : (table : ℕ) (a : Arriving) → Elsewhere table a a
nothing_else table a = record { pulls = λ other apart. refl; rows = λ other apart row. refl; torn = λ other apart row. refl }

pub pull_else : (table : ℕ) (a : Arriving) (w : ClientTaken) → list_all (is_of_table table) w.answerings ≡ true → Elsewhere table a (pull_settled table a w).arriving
pull_else table a w all = record {
  pulls = λ other apart. none_else table other apart w.answerings (without_table table a.pulls) all ∙ others_stay (is_of_table table) (is_of_table other) (pull_apart table other apart) a.pulls;
  rows = λ other apart row. refl;
  torn = λ other apart row. torn_pulled table other apart row w.taken a.torn;
}

pub row_else : (table : ℕ) (row : List ℕ) (a : Arriving) (w : WholeTaken) → list_all (is_of_row table row) w.rows ≡ true → Elsewhere table a (row_settled table row a w).arriving
row_else table row a w all = record {
  pulls = λ other apart. refl;
  rows = λ other apart q. none_more table other apart row q w.rows (without_row table row a.rows) all
      ∙ others_found (is_of_row table row) (is_of_row other q) (row_apart table other apart row q) a.rows;
  torn = λ other apart q. torn_mended table other apart row q w.taken a.torn;
}
