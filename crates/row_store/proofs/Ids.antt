-- Each row that payloads put has an id of sixteen bytes.
use Rattle.std.proofs.Common.{◌≡◌, ℕ, Bool, true, false, cond, List, [], ◌∷◌, length, Option, Some, Result, Ok, Err, refl, sym, ◌∙◌, ap, subst}
use Rattle.std.specs.Prelude.{fold}
use Rattle.std.specs.declared.cmp.Ordering.{Ordering}
use Rattle.std.specs.declared.cmp.Ordering.TheVariants.{Less, Equal, Greater}
use Rattle.std.specs.Ordering.{is_eq}
use Rattle.std.specs.BTreeMap.{is_at}
use Rattle.std.proofs.lemmas.Map.Lookups.{exact_bytes}
use Rattle.spare_map.proofs.Changes.{lookup-changed}
use Rattle.row_value.specs.declared.schema.Schema.{Schema}
use Rattle.row_store.specs.declared.stored.StoredRow.{StoredRow}
use Rattle.row_store.specs.declared.stored.SubChange.{SubChange}
use Rattle.row_store.specs.Reading.{Said, SaysRow, SaysTable, SaysSub, SaysNothing, said_by, said_row, said_table, said_sub, row_in, table_in, sub_in}
use Rattle.row_store.specs.Data.{TableData, id_cmp, row_of, with_row, step, data_of, nothing_held}
use Rattle.row_store.proofs.Versions.{id_cmp_total}
use Rattle.row_store.proofs.Found.{row_sixteen}

not_a_row : (t : Result (Schema × ℕ) ℕ) (u : Result SubChange ℕ) (stored : StoredRow) → said_table t (said_sub u) ≡ SaysRow stored → ⊥
not_a_row (Ok table) u stored e = cc
not_a_row (Err left) (Ok change) stored e = cc
not_a_row (Err left) (Err more) stored e = cc

says_row : (r : Result StoredRow ℕ) (t : Result (Schema × ℕ) ℕ) (u : Result SubChange ℕ) (stored : StoredRow) → said_row r (said_table t (said_sub u)) ≡ SaysRow stored → r ≡ Ok stored
says_row (Ok found) t u stored e = let same : found ≡ stored = cc in ap (λ (s : StoredRow). Ok s) same
says_row (Err left) t u stored e = absurd (not_a_row t u stored e)

said_sixteen : (payload : List ℕ) (stored : StoredRow) → said_by payload ≡ SaysRow stored → length stored.row ≡ 16
unfolding said_by
said_sixteen payload stored e = row_sixteen payload stored (says_row (row_in payload) (table_in payload) (sub_in payload) stored e)

is_equal : (o : Ordering) → is_eq o ≡ true → o ≡ Equal
is_equal Less h = absurd cc
is_equal Equal h = refl
is_equal Greater h = absurd cc

abbrev HaveIds : TableData → Type 0
HaveIds held = (row : List ℕ) (stored : StoredRow) → row_of held row ≡ Some stored → length row ≡ 16

put_ids : (held : TableData) (put : StoredRow) → length put.row ≡ 16 → HaveIds held → HaveIds (with_row held put)
put_ids held put long all row stored at =
    let some : Option StoredRow = Some put in
    pick (is_at (id_cmp put.row) row) refl (sym (lookup-changed id_cmp id_cmp_total held.rows put.row some row) ∙ at)
  where
    pick : (b : Bool) → is_at (id_cmp put.row) row ≡ b → cond b (Some put) (row_of held row) ≡ Some stored → length row ≡ 16
    pick true is e = subst (λ (r : List ℕ). length r ≡ 16) (exact_bytes put.row row (is_equal (id_cmp put.row row) is)) long
    pick false is e = all row stored e

step_ids : (held : TableData) (said : Said) → ((stored : StoredRow) → said ≡ SaysRow stored → length stored.row ≡ 16) → HaveIds held → HaveIds (step held said)
step_ids held (SaysRow stored) new all = put_ids held stored (new stored refl) all
step_ids held (SaysTable schema state) new all = all
step_ids held (SaysSub change) new all = all
step_ids held SaysNothing new all = all

fold_ids : (ps : List (List ℕ)) (held : TableData) → HaveIds held → HaveIds (fold (λ held payload. step held (said_by payload)) held ps)
fold_ids [] held all = all
fold_ids (p ∷ ps) held all = fold_ids ps (step held (said_by p)) (step_ids held (said_by p) (said_sixteen p) all)

pub data_ids : (ps : List (List ℕ)) (row : List ℕ) (stored : StoredRow) → row_of (data_of ps) row ≡ Some stored → length row ≡ 16
unfolding data_of
data_ids ps = fold_ids ps nothing_held (λ row stored at. absurd cc)
