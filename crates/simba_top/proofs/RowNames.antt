-- The rows that a script names, with those of one event more.
use Rattle.std.proofs.Common.{◌≡◌, ℕ, ◌<◌, ◌≤◌, Bool, true, false, eqb, cond, List, [], ◌∷◌, ◌++◌, length, Option, Some, None, Result, Ok, Err, refl, sym, ap, subst, ◌∙◌, inl, inr, arith}
use Rattle.std.specs.Prelude.{◌⊎◌, OnOk, IfErr}
use Rattle.std.specs.declared.cmp.Ordering.{Ordering}
use Rattle.std.specs.declared.cmp.Ordering.TheVariants.{Less, Equal, Greater}
use Rattle.std.specs.Ordering.{nat_cmp, match_ordering}
use Rattle.std.specs.Cmp.Lexicographic.{slice_cmp}
use Rattle.std.specs.BTreeSet.{insert_key}
use Rattle.std.proofs.lemmas.Bool.{eqb-true}
use Rattle.table_model.specs.declared.event.Event.{Event}
use Rattle.simba_top.specs.declared.row_names.RowNames.{RowNames}
use Rattle.simba_top.specs.declared.row_names.TheConstants.{MOST_ROWS}
use Rattle.simba_top.specs.declared.stop.Stop.{Stop}
use Rattle.simba_top.specs.declared.stop.Stop.TheVariants.{Memory, Limit}
use Rattle.simba_top.specs.RowNames.{row_in, with_row, rows_after, rows_named, rows_in, HasRows, FewRows, IsRowCause}

rows_after-push : (table : ℕ) (rows : List (List ℕ)) (script : List Event) (event : Event)
    → rows_after table rows (script ++ event ∷ []) ≡ with_row (row_in event) table (rows_after table rows script)
rows_after-push table rows [] event = refl
rows_after-push table rows (first ∷ script) event = rows_after-push table (with_row (row_in first) table rows) script event

pub rows_named-push : (table : ℕ) (script : List Event) (event : Event)
    → rows_named table (script ++ event ∷ []) ≡ with_row (row_in event) table (rows_named table script)
rows_named-push table script event = rows_after-push table [] script event

-- an event that names no row
module _ (script : List Event) (event : Event) (none : row_in event ≡ None) where
  same : (table : ℕ) → rows_named table script ≡ rows_named table (script ++ event ∷ [])
  same table = sym (rows_named-push table script event ∙ ap (λ (named : Option (ℕ × List ℕ)). with_row named table (rows_named table script)) none)

  pub none_named : (names : RowNames) → HasRows script names → HasRows (script ++ event ∷ []) names
  none_named names has table = has table ∙ same table

  pub none_too_many : FewRows script → FewRows (script ++ event ∷ [])
  none_too_many few table = subst (λ (rows : List (List ℕ)). length rows ≤ MOST_ROWS) (same table) (few table)

-- an event that names a row
module _ (script : List Event) (event : Event) (table : ℕ) (row : List ℕ) (old new : RowNames) (is : row_in event ≡ Some (table, row))
    (added : (q : ℕ) → rows_in new q ≡ with_row (Some (table, row)) q (rows_in old q)) (has : HasRows script old) where
  pub row_named : HasRows (script ++ event ∷ []) new
  row_named q =
      added q ∙ ap (λ (rows : List (List ℕ)). with_row (Some (table, row)) q rows) (has q)
      ∙ sym (rows_named-push q script event ∙ ap (λ (named : Option (ℕ × List ℕ)). with_row named q (rows_named q script)) is)

  others : (q : ℕ) (b : Bool) → eqb table q ≡ b → length (rows_in new table) ≤ MOST_ROWS → FewRows script → length (rows_named q (script ++ event ∷ [])) ≤ MOST_ROWS
  others q true here fits few =
      subst (λ (rows : List (List ℕ)). length rows ≤ MOST_ROWS) (row_named q)
      (subst (λ (t : ℕ). length (rows_in new t) ≤ MOST_ROWS) (eqb-true table q here) fits)
  others q false here fits few =
      subst (λ (rows : List (List ℕ)). length rows ≤ MOST_ROWS)
      (sym (has q) ∙ sym (added q ∙ ap (λ b. cond b (insert_key (slice_cmp nat_cmp) (rows_in old q) row) (rows_in old q)) here) ∙ row_named q)
      (few q)

  pub row_fits : length (rows_in new table) ≤ MOST_ROWS → FewRows script → FewRows (script ++ event ∷ [])
  row_fits fits few q = others q (eqb table q) refl fits few

-- what adding a row of a table answers
module _ (script : List Event) (event : Event) (table : ℕ) (row : List ℕ) (old new : RowNames) (result : Result (Unit {0}) Stop)
    (is : row_in event ≡ Some (table, row)) (has : HasRows script old)
    (rows : OnOk result ((q : ℕ) → rows_in new q ≡ with_row (Some (table, row)) q (rows_in old q))) where
  pub added_rows : OnOk result (HasRows (script ++ event ∷ []) new)
  added_rows = go result rows
    where
      go : (r : Result (Unit {0}) Stop) → OnOk r ((q : ℕ) → rows_in new q ≡ with_row (Some (table, row)) q (rows_in old q))
          → OnOk r (HasRows (script ++ event ∷ []) new)
      go (Ok done) added = row_named script event table row old new is added has
      go (Err stop) added = tt

  pub added_few : OnOk result (length (rows_in new table) ≤ MOST_ROWS) → FewRows script → OnOk result (FewRows (script ++ event ∷ []))
  added_few fits few = go result rows fits
    where
      go : (r : Result (Unit {0}) Stop) → OnOk r ((q : ℕ) → rows_in new q ≡ with_row (Some (table, row)) q (rows_in old q))
          → OnOk r (length (rows_in new table) ≤ MOST_ROWS) → OnOk r (FewRows (script ++ event ∷ []))
      go (Ok done) added fits = row_fits script event table row old new is added has fits few
      go (Err stop) added fits = tt

  named_here : with_row (Some (table, row)) table (rows_in old table) ≡ rows_named table (script ++ event ∷ [])
  named_here = ap (λ (rows : List (List ℕ)). with_row (Some (table, row)) table rows) (has table)
      ∙ sym (rows_named-push table script event ∙ ap (λ (named : Option (ℕ × List ℕ)). with_row named table (rows_named table script)) is)

  pub added_cause : IfErr result (λ stop. (stop ≡ Memory) ⊎ ((stop ≡ Limit 9) × (MOST_ROWS < length (with_row (Some (table, row)) table (rows_in old table)))))
      → IfErr result (IsRowCause script event)
  added_cause cause = go result cause
    where
      go : (r : Result (Unit {0}) Stop)
          → IfErr r (λ stop. (stop ≡ Memory) ⊎ ((stop ≡ Limit 9) × (MOST_ROWS < length (with_row (Some (table, row)) table (rows_in old table)))))
          → IfErr r (IsRowCause script event)
      go (Ok done) cause = tt
      go (Err stop) (inl memory) = subst (λ (s : Stop). IsRowCause script event s) (sym memory) tt
      go (Err stop) (inr limit) =
          subst (λ (s : Stop). IsRowCause script event s) (sym limit.0)
          (refl, (table, subst (λ (rows : List (List ℕ)). MOST_ROWS < length rows) named_here limit.1))

-- rows stay named

insert_longer : (o : Ordering) (rest : List (List ℕ)) (x k : List ℕ) (xs : List (List ℕ)) → length xs ≤ length rest
    → length (x ∷ xs) ≤ length (match_ordering o (k ∷ x ∷ xs) (x ∷ xs) (x ∷ rest))
insert_longer Less rest x k xs longer = omega arith
insert_longer Equal rest x k xs longer = omega arith
insert_longer Greater rest x k xs longer = omega (arith, longer)

insert_grows : (rows : List (List ℕ)) (row : List ℕ) → length rows ≤ length (insert_key (slice_cmp nat_cmp) rows row)
insert_grows [] row = omega arith
insert_grows (first ∷ rows) row =
    insert_longer (slice_cmp nat_cmp row first) (insert_key (slice_cmp nat_cmp) rows row) first row rows (insert_grows rows row)

one_grows : (b : Bool) (rows : List (List ℕ)) (row : List ℕ) → length rows ≤ length (cond b (insert_key (slice_cmp nat_cmp) rows row) rows)
one_grows true rows row = insert_grows rows row
one_grows false rows row = omega arith

with_row_grows : (named : Option (ℕ × List ℕ)) (table : ℕ) (rows : List (List ℕ)) → length rows ≤ length (with_row named table rows)
with_row_grows None table rows = omega arith
with_row_grows (Some named) table rows = one_grows (eqb named.0 table) rows named.1

rows_after_grow : (table : ℕ) (rows : List (List ℕ)) (script : List Event) → length rows ≤ length (rows_after table rows script)
rows_after_grow table rows [] = omega arith
rows_after_grow table rows (event ∷ script) =
    omega (arith, with_row_grows (row_in event) table rows, rows_after_grow table (with_row (row_in event) table rows) script)

rows_after-append : (table : ℕ) (rows : List (List ℕ)) (script more : List Event)
    → rows_after table rows (script ++ more) ≡ rows_after table (rows_after table rows script) more
rows_after-append table rows [] more = refl
rows_after-append table rows (event ∷ script) more = rows_after-append table (with_row (row_in event) table rows) script more

-- a script that names few rows names no more in its first events
pub rows_grow : (table : ℕ) (script more : List Event) → length (rows_named table script) ≤ length (rows_named table (script ++ more))
rows_grow table script more =
    subst (λ (rows : List (List ℕ)). length (rows_named table script) ≤ length rows) (sym (rows_after-append table [] script more))
    (rows_after_grow table (rows_named table script) more)
