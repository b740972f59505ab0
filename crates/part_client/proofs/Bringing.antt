-- A fragment to the client: it goes to the answer to a pull that waits for it, else to the row that does.
use Rattle.std.proofs.Common.{◌≡◌, ℕ, Bool, true, false, cond, List, [], ◌∷◌, Option, Some, None, refl, sym, ap, ◌∙◌, subst, inr}
use Rattle.std.specs.Prelude.{◌==◌, ◌&&◌, ◌||◌, filter, option_map, is_some, if◌then◌else◌, Result, IfOk, OnErr}
use Rattle.std.specs.List.{find}
use Rattle.std.specs.BTreeMap as tree
use Rattle.std.specs.BTreeMap.{is_at, WritesThrough}
use Rattle.std.proofs.lemmas.Result.{IfOk-weaker}
use Rattle.table_model.specs.History.{same_row}
use Rattle.assemblies.specs.Gathering.{taken, takes, is_whole}
use Rattle.step_tables.specs.Client.{row_cmp}
use Rattle.step_tables.specs.ClientMoves.{TableDisk}
use Rattle.step_tables.proofs.Lists.{same_row-is}
use Rattle.part_tables.specs.Parts.{Fragment, BringsDown}
use Rattle.part_tables.specs.ClientParts.{Answering, Waits, is_of_table, without_table, waits_for}
use Rattle.part_tables.specs.Arriving.{Arriving, Arrived, WholeRow, is_of_row, without_row, of_pull, is_awaited, waits_whole, arrived}
use Rattle.part_tables.specs.Arriving as arrivals
use Rattle.part_client.specs.declared.held.RowHeld.{RowHeld}
use Rattle.part_client.specs.declared.pulls.Pulling.{Pulling}
use Rattle.part_client.specs.declared.rows.TornRow.{TornRow}
use Rattle.part_client.specs.declared.table.TableParts.{TableParts}
use Rattle.part_client.specs.declared.taken.Taken.{Taken}
use Rattle.part_client.specs.declared.taken.Taken.TheVariants as takens
use Rattle.part_client.specs.Gathered.{GatheredRow, with_chunk}
use Rattle.part_client.specs.Held.{IsHeldOf}
use Rattle.part_client.specs.Weighing.{answering_of, whole_of}
use Rattle.part_client.specs.Calls.{waits, is_pull_for, is_pull_whole, is_row_whole, may_complete, may_end, is_of_version, needs_row, pulls_grown, rows_grown, is_waited, grown_pull, grown_row}
use Rattle.part_client.specs.Keeping.{KeepsPull, KeepsRows, KeepsTable, IsTakenAt, IsLeft}
use Rattle.part_contents.proofs.Filters.{filter_first, find_first, without_first, without_twice, find_of_filter, passes, other_find, others_found}
use Rattle.part_client.proofs.Stands.{other_row}
use Rattle.part_client.proofs.Settled.{pull_found, taken_as, nothing_changes, err_weaker}
use Rattle.part_client.proofs.Arrivals.{pull_brought, not_pulled, row_brought, row_unmoved, no_row}

both_ways : (a b c : Bool) → ((a && b) && c) ≡ (a && (b && c))
both_ways true b c = refl
both_ways false b c = refl

or_right : (a b : Bool) → b ≡ true → (a || b) ≡ true
or_right true b e = refl
or_right false b e = e

no_left : (a b c : Bool) → (a && b) ≡ false → (a && (b && c)) ≡ false
no_left true true c e = absurd (let bad : true ≡ false = e in cc)
no_left true false c e = refl
no_left false b c e = refl

-- ---- a chunk that comes

-- of the answer to a pull
pub pull_grows : (f : Fragment) (xs : List Answering) (x : Pulling) (came : GatheredRow) → filter (is_of_table f.table) xs ≡ answering_of x ∷ []
    → came ≡ (if waits f x.came then with_chunk f.column f.place f.bytes x.came else x.came)
    → filter (is_of_table f.table) (pulls_grown f xs (Some (answering_of x))) ≡ answering_of (record { head = x.head; came = came }) ∷ []
pull_grows f xs x came keeps is = one (waits f x.came) refl
  where
    there : is_of_table f.table (answering_of x) ≡ true
    there = passes (is_of_table f.table) xs (answering_of x) (find_of_filter (is_of_table f.table) xs (Some (answering_of x)) keeps)

    test : waits_for f (answering_of x) ≡ waits f x.came
    test = sym (both_ways (same_row x.came.row.row f.row) (x.came.row.version == f.key) (takes f.column f.place f.bytes x.came.slots))

    grown : Answering
    grown = answering_of (record { head = x.head; came = with_chunk f.column f.place f.bytes x.came })

    one : (b : Bool) → waits f x.came ≡ b → filter (is_of_table f.table) (pulls_grown f xs (Some (answering_of x))) ≡ answering_of (record { head = x.head; came = came }) ∷ []
    one true w =
        ap (λ (b : Bool). filter (is_of_table f.table) (if b then grown ∷ without_table f.table xs else xs)) (test ∙ w)
        ∙ (filter_first (is_of_table f.table) grown xs there
        ∙ ap (λ (g : GatheredRow). answering_of (record { head = x.head; came = g }) ∷ []) (sym (is ∙ ap (λ (b : Bool). if b then with_chunk f.column f.place f.bytes x.came else x.came) w)))
    one false w =
        ap (λ (b : Bool). filter (is_of_table f.table) (if b then grown ∷ without_table f.table xs else xs)) (test ∙ w)
        ∙ (keeps ∙ ap (λ (g : GatheredRow). answering_of (record { head = x.head; came = g }) ∷ []) (sym (is ∙ ap (λ (b : Bool). if b then with_chunk f.column f.place f.bytes x.came else x.came) w)))

-- of a row that was asked for whole
module _ (f : Fragment) (xs : List WholeRow) (old new : tree.BTreeMap (List ℕ) TornRow) (x : TornRow) (came : GatheredRow) (keeps : KeepsRows f.table xs old) (at : Some x ≡ tree.get row_cmp old f.row)
    (wrote : WritesThrough row_cmp (row_cmp f.row) old (record { head = x.head; came = came }) new)
    (is : came ≡ (if waits f x.came then with_chunk f.column f.place f.bytes x.came else x.came)) where
  abbrev grown_whole : WholeRow
  grown_whole = whole_of (record { head = x.head; came = with_chunk f.column f.place f.bytes x.came })

  row_found : find (is_of_row f.table f.row) xs ≡ Some (whole_of x)
  row_found = keeps f.row ∙ ap (option_map whole_of) (sym at)

  row_its : is_of_row f.table f.row (whole_of x) ≡ true
  row_its = passes (is_of_row f.table f.row) xs (whole_of x) row_found

  row_test : waits_whole f (whole_of x) ≡ waits f x.came
  row_test = sym (both_ways (same_row x.came.row.row f.row) (x.came.row.version == f.key) (takes f.column f.place f.bytes x.came.slots))

  new_at : (q : List ℕ) → tree.get row_cmp new q ≡ cond (is_at (row_cmp f.row) q) (Some (record { head = x.head; came = came })) (tree.get row_cmp old q)
  new_at = (wrote.3 (ap is_some (sym at))).0

  -- where its row is looked for, and another
  grown_at : (q : List ℕ) (b : Bool) → same_row f.row q ≡ b → find (is_of_row f.table q) (grown_whole ∷ without_row f.table f.row xs) ≡ cond b (Some grown_whole) (option_map whole_of
      (tree.get row_cmp old q))
  grown_at q true same =
      subst (λ (r : List ℕ). find (is_of_row f.table r) (grown_whole ∷ without_row f.table f.row xs) ≡ Some grown_whole) (same_row-is f.row q same)
      (find_first (is_of_row f.table f.row) grown_whole (without_row f.table f.row xs) row_its)
  grown_at q false same =
      other_find (is_of_row f.table f.row) (is_of_row f.table q) (other_row f.table f.row q same) grown_whole (without_row f.table f.row xs) row_its
      ∙ (others_found (is_of_row f.table f.row) (is_of_row f.table q) (other_row f.table f.row q same) xs ∙ keeps q)

  still_at : (q : List ℕ) (b : Bool) → same_row f.row q ≡ b → find (is_of_row f.table q) xs ≡ cond b (Some (whole_of x)) (option_map whole_of (tree.get row_cmp old q))
  still_at q true same = subst (λ (r : List ℕ). find (is_of_row f.table r) xs ≡ Some (whole_of x)) (same_row-is f.row q same) row_found
  still_at q false same = keeps q

  behind_at : (q : List ℕ) (b : Bool) → same_row f.row q ≡ b → (g : GatheredRow) → came ≡ g
      → cond b (Some (whole_of (record { head = x.head; came = g }))) (option_map whole_of (tree.get row_cmp old q)) ≡ option_map whole_of (tree.get row_cmp new q)
  behind_at q true same g e =
      ap (λ (h : GatheredRow). Some (whole_of (record { head = x.head; came = h }))) (sym e)
      ∙ ap (option_map whole_of) (sym (new_at q ∙ ap (λ (b : Bool). cond b (Some (record { head = x.head; came = came })) (tree.get row_cmp old q)) same))
  behind_at q false same g e = ap (option_map whole_of) (sym (new_at q ∙ ap (λ (b : Bool). cond b (Some (record { head = x.head; came = came })) (tree.get row_cmp old q)) same))

  grows_by : (b : Bool) → waits f x.came ≡ b → (q : List ℕ) → find (is_of_row f.table q) (rows_grown f xs (Some (whole_of x))) ≡ option_map whole_of (tree.get row_cmp new q)
  grows_by true w q =
      ap (λ (b : Bool). find (is_of_row f.table q) (if b then grown_whole ∷ without_row f.table f.row xs else xs)) (row_test ∙ w)
      ∙ (grown_at q (same_row f.row q) refl
      ∙ behind_at q (same_row f.row q) refl (with_chunk f.column f.place f.bytes x.came) (is ∙ ap (λ (b : Bool). if b then with_chunk f.column f.place f.bytes x.came else x.came) w))
  grows_by false w q =
      ap (λ (b : Bool). find (is_of_row f.table q) (if b then grown_whole ∷ without_row f.table f.row xs else xs)) (row_test ∙ w)
      ∙ (still_at q (same_row f.row q) refl
      ∙ behind_at q (same_row f.row q) refl x.came (is ∙ ap (λ (b : Bool). if b then with_chunk f.column f.place f.bytes x.came else x.came) w))

  pub row_grows : KeepsRows f.table (rows_grown f xs (option_map whole_of (tree.get row_cmp old f.row))) new
  row_grows q = ap (λ (o : Option TornRow). find (is_of_row f.table q) (rows_grown f xs (option_map whole_of o))) (sym at) ∙ grows_by (waits f x.came) refl q

-- ---- the answer to a pull waited for it

awaited_one : (f : Fragment) (o : Option Answering) → is_awaited f o ≡ true → (x : Answering) × (o ≡ Some x) × (waits_for f x ≡ true)
awaited_one f None e = absurd (let bad : false ≡ true = e in cc)
awaited_one f (Some x) e = (x, refl, e)

module _ (a : Arriving) (it : TableParts) (f : Fragment) (k : KeepsTable f.table a it) (new : Option Pulling)
    (grown : KeepsPull f.table (pulls_grown f a.pulls (option_map answering_of it.pull)) new) where
  abbrev parts : TableParts
  parts = record { pull = new; rows = it.rows; torn = it.torn }

  module _ (took : is_awaited f (option_map answering_of it.pull) ≡ true) where
    one : (x : Answering) × (option_map answering_of it.pull ≡ Some x) × (waits_for f x ≡ true)
    one = awaited_one f (option_map answering_of it.pull) took

    abbrev behind : Answering
    behind = record one.0 { slots = taken f.column f.place f.bytes one.0.slots }

    found : find (is_of_table f.table) a.pulls ≡ Some one.0
    found = pull_found f.table a it k ∙ one.1

    its : is_of_table f.table one.0 ≡ true
    its = passes (is_of_table f.table) a.pulls one.0 found

    abbrev with_behind : Arriving
    with_behind = record a { pulls = behind ∷ without_table f.table a.pulls }

    keeps : KeepsTable f.table with_behind parts
    keeps = record {
      pull = subst (λ (l : List Answering). KeepsPull f.table l new)
          (ap (pulls_grown f a.pulls) one.1 ∙ ap (λ (b : Bool). if b then behind ∷ without_table f.table a.pulls else a.pulls) one.2) grown;
      rows = k.rows;
      torn = k.torn;
    }

    found_behind : find (is_of_table f.table) (behind ∷ without_table f.table a.pulls) ≡ Some behind
    found_behind = find_first (is_of_table f.table) behind (without_table f.table a.pulls) its

    module _ (opened : TableDisk) (view : RowHeld) (h : needs_row a (BringsDown f) ≡ true → IsHeldOf opened f.row view)
        (last : is_pull_whole (option_map answering_of new) ≡ true → may_complete f (option_map answering_of it.pull) ≡ true) where
      held_then : is_whole behind.slots ≡ true → IsHeldOf opened f.row view
      held_then whole =
          let now : option_map answering_of new ≡ Some behind = sym (pull_found f.table with_behind parts keeps) ∙ found_behind in
          let may : may_complete f (find (is_of_table f.table) a.pulls) ≡ true = ap (may_complete f) (pull_found f.table a it k) ∙ last (ap is_pull_whole now ∙ whole) in
          h (ap (λ (b : Bool). b || may_end f (find (is_of_row f.table f.row) a.rows)) may)

      pub pull_comes : {Y : Type 0} (r : Result Taken Y) (left : TableParts)
          → ((b : Arriving) (x : Answering) → KeepsTable f.table b parts → find (is_of_table f.table) b.pulls ≡ Some x → (is_whole x.slots ≡ true → IsHeldOf opened f.row view)
          → IfOk r (IsTakenAt f.table (of_pull f.table b (grown_pull opened f.table f.row b.pulls x)) left))
          → IfOk r (IsTakenAt f.table (arrived opened a (BringsDown f)) left)
      pull_comes r left complete = IfOk-weaker r _ _ (λ told got. taken_as f.table _ _ left told (pull_brought opened a f one.0 found one.2) got)
          (complete with_behind behind keeps found_behind held_then)

    pub pull_left : {X Y : Type 0} (r : Result X Y) (left : TableParts)
        → ((b : Arriving) → KeepsTable f.table b parts → OnErr r (KeepsTable f.table (record b { pulls = without_table f.table b.pulls }) left)) → OnErr r (IsLeft f.table a (BringsDown f) left)
    pull_left r left complete =
        err_weaker r _ _ (λ kept. inr (subst (λ (b : Arriving). KeepsTable f.table b left)
        (ap (λ (l : List Answering). record a { pulls = l }) (without_first (is_of_table f.table) behind (without_table f.table a.pulls) its ∙ without_twice (is_of_table f.table) a.pulls)
        ∙ ap (λ (b : Bool). if b then record a { pulls = without_table f.table a.pulls } else record a { rows = without_row f.table f.row a.rows }) (sym (ap (is_awaited f) found ∙ one.2))) kept))
        (complete with_behind keeps)

  -- ---- it didn't

  module _ (missed : is_awaited f (option_map answering_of it.pull) ≡ false) where
    not_grown : (o : Option Answering) → is_awaited f o ≡ false → pulls_grown f a.pulls o ≡ a.pulls
    not_grown None e = refl
    not_grown (Some x) e = ap (λ (b : Bool). if b then record x { slots = taken f.column f.place f.bytes x.slots } ∷ without_table f.table a.pulls else a.pulls) e

    pub still_keeps : KeepsTable f.table a parts
    still_keeps = record {
      pull = subst (λ (l : List Answering). KeepsPull f.table l new) (not_grown (option_map answering_of it.pull) missed) grown;
      rows = k.rows;
      torn = k.torn;
    }

-- ---- the row may take it

module _ (a : Arriving) (it : TableParts) (f : Fragment) (k : KeepsTable f.table a it) (missed : is_awaited f (option_map answering_of it.pull) ≡ false) where
  pub to_the_row : (opened : TableDisk) → arrived opened a (BringsDown f) ≡ arrivals.brought_to opened a f (find (is_of_row f.table f.row) a.rows)
  to_the_row opened = not_pulled opened a f (ap (is_awaited f) (pull_found f.table a it k) ∙ missed)

  pub row_comes : {Y : Type 0} (opened : TableDisk) (r : Result Taken Y) (left : TableParts) → IfOk r (IsTakenAt f.table (arrivals.brought_to opened a f (find (is_of_row f.table f.row) a.rows)) left)
      → IfOk r (IsTakenAt f.table (arrived opened a (BringsDown f)) left)
  row_comes opened r left got = IfOk-weaker r _ _ (λ told got. taken_as f.table _ _ left told (sym (to_the_row opened)) got) got

  pub row_needs : (opened : TableDisk) (view : RowHeld) → (needs_row a (BringsDown f) ≡ true → IsHeldOf opened f.row view) → may_end f (find (is_of_row f.table f.row) a.rows) ≡ true
      → IsHeldOf opened f.row view
  row_needs opened view h may = h (or_right (may_complete f (find (is_of_table f.table) a.pulls)) (may_end f (find (is_of_row f.table f.row) a.rows)) may)

  pub row_left : {X Y : Type 0} (r : Result X Y) (left : TableParts) → OnErr r (KeepsTable f.table (record a { rows = without_row f.table f.row a.rows }) left)
      → OnErr r (IsLeft f.table a (BringsDown f) left)
  row_left r left got = err_weaker r _ _ (λ kept. inr (subst (λ (b : Arriving). KeepsTable f.table b left)
      (ap (λ (b : Bool). if b then record a { pulls = without_table f.table a.pulls } else record a { rows = without_row f.table f.row a.rows }) (sym (ap (is_awaited f)
      (pull_found f.table a it k) ∙ missed))) kept)) got

-- an answer of another row or version doesn't wait for it
pub not_for : (f : Fragment) (o : Option Answering) → is_pull_for f o ≡ false → is_awaited f o ≡ false
not_for f None e = refl
not_for f (Some x) e = no_left (same_row x.row.row f.row) (x.row.version == f.key) (takes f.column f.place f.bytes x.slots) e

-- nor does a row
pub other_version : (opened : TableDisk) (a : Arriving) (f : Fragment) (o : Option WholeRow) → find (is_of_row f.table f.row) a.rows ≡ o → is_of_version f o ≡ false
    → arrivals.brought_to opened a f (find (is_of_row f.table f.row) a.rows) ≡ record { taken = Waits; arriving = a }
other_version opened a f None there e = no_row opened a f there
other_version opened a f (Some x) there e = row_unmoved opened a f x there (no_left (same_row x.row.row f.row) (x.row.version == f.key) (takes f.column f.place f.bytes x.slots) e)

-- ---- the row waited for it

waited_one : (f : Fragment) (o : Option WholeRow) → is_waited f o ≡ true → (x : WholeRow) × (o ≡ Some x) × (waits_whole f x ≡ true)
waited_one f None e = absurd (let bad : false ≡ true = e in cc)
waited_one f (Some x) e = (x, refl, e)

module _ (a : Arriving) (it : TableParts) (f : Fragment) (k : KeepsTable f.table a it) (new : tree.BTreeMap (List ℕ) TornRow)
    (grown : KeepsRows f.table (rows_grown f a.rows (option_map whole_of (tree.get row_cmp it.rows f.row))) new) where
  abbrev parts_then : TableParts
  parts_then = record { pull = it.pull; rows = new; torn = it.torn }

  module _ (took : is_waited f (option_map whole_of (tree.get row_cmp it.rows f.row)) ≡ true) where
    one_row : (x : WholeRow) × (option_map whole_of (tree.get row_cmp it.rows f.row) ≡ Some x) × (waits_whole f x ≡ true)
    one_row = waited_one f (option_map whole_of (tree.get row_cmp it.rows f.row)) took

    abbrev row_behind : WholeRow
    row_behind = record one_row.0 { slots = taken f.column f.place f.bytes one_row.0.slots }

    found_row : find (is_of_row f.table f.row) a.rows ≡ Some one_row.0
    found_row = k.rows f.row ∙ one_row.1

    its_row : is_of_row f.table f.row one_row.0 ≡ true
    its_row = passes (is_of_row f.table f.row) a.rows one_row.0 found_row

    abbrev with_row_behind : Arriving
    with_row_behind = record a { rows = row_behind ∷ without_row f.table f.row a.rows }

    keeps_then : KeepsTable f.table with_row_behind parts_then
    keeps_then = record {
      pull = k.pull;
      rows = subst (λ (l : List WholeRow). KeepsRows f.table l new)
          (ap (rows_grown f a.rows) one_row.1 ∙ ap (λ (b : Bool). if b then row_behind ∷ without_row f.table f.row a.rows else a.rows) one_row.2) grown;
      torn = k.torn;
    }

    found_then : find (is_of_row f.table f.row) (row_behind ∷ without_row f.table f.row a.rows) ≡ Some row_behind
    found_then = find_first (is_of_row f.table f.row) row_behind (without_row f.table f.row a.rows) its_row

    module _ (opened : TableDisk) (view : RowHeld) (h : may_end f (find (is_of_row f.table f.row) a.rows) ≡ true → IsHeldOf opened f.row view)
        (last : is_row_whole (option_map whole_of (tree.get row_cmp new f.row)) ≡ true → may_end f (option_map whole_of (tree.get row_cmp it.rows f.row)) ≡ true) where
      row_held_then : is_whole row_behind.slots ≡ true → IsHeldOf opened f.row view
      row_held_then whole =
          let now : option_map whole_of (tree.get row_cmp new f.row) ≡ Some row_behind = sym (keeps_then.rows f.row) ∙ found_then in
          h (ap (may_end f) (k.rows f.row) ∙ last (ap is_row_whole now ∙ whole))

      pub row_comes_whole : {Y : Type 0} (r : Result Taken Y) (left : TableParts)
          → ((b : Arriving) (x : WholeRow) → KeepsTable f.table b parts_then → find (is_of_row f.table f.row) b.rows ≡ Some x → (is_whole x.slots ≡ true → IsHeldOf opened f.row view)
          → IfOk r (IsTakenAt f.table (grown_row opened f.table f.row b x) left))
          → IfOk r (IsTakenAt f.table (arrivals.brought_to opened a f (find (is_of_row f.table f.row) a.rows)) left)
      row_comes_whole r left complete =
          IfOk-weaker r _ _ (λ told got. taken_as f.table _ _ left told (row_brought opened a f one_row.0 found_row one_row.2) got)
          (complete with_row_behind row_behind keeps_then found_then row_held_then)

    pub row_is_left : {X Y : Type 0} (r : Result X Y) (left : TableParts)
        → ((b : Arriving) → KeepsTable f.table b parts_then → OnErr r (KeepsTable f.table (record b { rows = without_row f.table f.row b.rows }) left))
        → OnErr r (KeepsTable f.table (record a { rows = without_row f.table f.row a.rows }) left)
    row_is_left r left complete =
        err_weaker r _ _ (λ kept. subst (λ (b : Arriving). KeepsTable f.table b left) (ap (λ (l : List WholeRow). record a { rows = l }) (without_first (is_of_row f.table f.row) row_behind
        (without_row f.table f.row a.rows) its_row ∙ without_twice (is_of_row f.table f.row) a.rows)) kept)
        (complete with_row_behind keeps_then)

  module _ (missed : is_waited f (option_map whole_of (tree.get row_cmp it.rows f.row)) ≡ false) where
    rows_stay : (o : Option WholeRow) → is_waited f o ≡ false → rows_grown f a.rows o ≡ a.rows
    rows_stay None e = refl
    rows_stay (Some x) e = ap (λ (b : Bool). if b then record x { slots = taken f.column f.place f.bytes x.slots } ∷ without_row f.table f.row a.rows else a.rows) e

    keeps_still : KeepsTable f.table a parts_then
    keeps_still = record {
      pull = k.pull;
      rows = subst (λ (l : List WholeRow). KeepsRows f.table l new) (rows_stay (option_map whole_of (tree.get row_cmp it.rows f.row)) missed) grown;
      torn = k.torn;
    }

    unmoved : (opened : TableDisk) (o : Option WholeRow) → find (is_of_row f.table f.row) a.rows ≡ o → is_waited f o ≡ false
        → arrivals.brought_to opened a f (find (is_of_row f.table f.row) a.rows) ≡ record { taken = Waits; arriving = a }
    unmoved opened None there e = no_row opened a f there
    unmoved opened (Some x) there e = row_unmoved opened a f x there e

    pub row_missed : (opened : TableDisk) → IsTakenAt f.table (arrivals.brought_to opened a f (find (is_of_row f.table f.row) a.rows)) parts_then takens.Waits
    row_missed opened = taken_as f.table _ _ parts_then _ (sym (unmoved opened (option_map whole_of (tree.get row_cmp it.rows f.row)) (k.rows f.row) missed))
        (nothing_changes f.table a parts_then keeps_still)
