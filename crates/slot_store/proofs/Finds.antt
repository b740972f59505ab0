-- Finding rows and tables in memory.
use Rattle.std.proofs.Common.{◌≡◌, ◌≤◌, ◌<◌, ℕ, true, zero, suc, ◌+◌, List, [], ◌∷◌, ◌++◌, length, take, get_or, Option, Some, None, Result, Ok, Err, refl, sym, ◌∙◌, ap, subst, arith}
use Rattle.std.specs.Prelude.{option_map, is_some, map, IfNone, IfSome, IfOk}
use Rattle.std.specs.BTreeMap.{is_at}
use Rattle.std.specs.Map.{lookup}
use Rattle.std.specs.Ordering.{nat_cmp}
use Rattle.std.proofs.lemmas.List.{map-append, take_more}
use Rattle.vault.specs.Limit.{payload_most}
use Rattle.vault.specs.File.{AllShort}
use Rattle.spare_map.specs.Late.{entries_of}
use Rattle.spare_map.specs.Values.{AllValues, with_values}
use Rattle.spare_map.proofs.Values.{lookup_with, value_found}
use Rattle.slot_store.specs.declared.held.RowKey.{RowKey}
use Rattle.slot_store.specs.declared.held.RowSlots.{RowSlots}
use Rattle.slot_store.specs.declared.held.TableRecord.{TableRecord}
use Rattle.slot_store.specs.declared.memory.SlotMemory.{SlotMemory}
use Rattle.slot_store.specs.declared.schemas.RecordPlace.{RecordPlace}
use Rattle.slot_store.specs.Data.{key_cmp, key_at, data_of, slots_of, record_of, records_of, AreRowsOf}
use Rattle.slot_store.specs.Memory.{row_at, IsPlace, AreKeys, AreIdsOf, record_at, IsWhole, Fits}
use Rattle.slot_store.proofs.Keys.{Stands, AllStand, all_kept, stands_at}
use Rattle.slot_store.proofs.Ids.{Places}

abbrev index_in : SlotMemory → ℕ → List ℕ → Option ℕ
index_in memory table row = lookup (is_at (key_cmp (key_at table row))) (entries_of key_cmp memory.places)

keys_are : (g : ℕ → RowSlots) (es : Places) → AllStand (with_values g es) → AreKeys es
keys_are g [] h = tt
keys_are g (e ∷ es) h =
    let key = h.0.key in
    let most = h.0.limits.table.most in
    let table : e.0.table ≡ (g e.1).table = ap (λ (k : RowKey). k.table) key in
    ((ap (λ (k : RowKey). length k.row) key ∙ h.0.limits.row, omega (arith, table, most)), keys_are g es h.1)

some_map : {A B : Type 0} (f : A → B) (o : Option A) → is_some (option_map f o) ≡ is_some o
some_map f None = refl
some_map f (Some x) = refl

values_are : (g : RecordPlace → TableRecord) (fs : List (ℕ × RecordPlace)) → map (λ (e : ℕ × TableRecord). e.1) (with_values g fs) ≡ map (λ (e : ℕ × RecordPlace). g e.1) fs
values_are g [] = refl
values_are g (e ∷ fs) = ap (λ (l : List TableRecord). g e.1 ∷ l) (values_are g fs)

-- an answer that is one value, where that is another's
pub ok_as : {A E : Type 0} {x y : A} (r : Result A E) → IfOk r (λ a. a ≡ x) → x ≡ y → IfOk r (λ a. a ≡ y)
ok_as (Ok a) is same = is ∙ same
ok_as (Err e) is same = tt

value_at : {K V : Type 0} (P : V → Type 0) (es : List (K × V)) (i : ℕ) (d : K × V) → AllValues P es → i < length es → P (get_or es i d).1
value_at P [] i d h lt = absurd (omega arith)
value_at P (e ∷ es) zero d h lt = h.0
value_at P (e ∷ es) (suc i) d h lt = value_at P es i d h.1 (omega arith)

-- a list that is made of the values one by one
pub made_of_more : {K V W : Type 0} (P : V → Type 0) (f : V → W) (es : List (K × V)) (i : ℕ) (d : K × V) (made new : List W) → AllValues P es → i < length es
    → made ≡ map (λ (e : K × V). f e.1) (take i es) → (P (get_or es i d).1 → new ≡ made ++ f (get_or es i d).1 ∷ []) → new ≡ map (λ (e : K × V). f e.1) (take (i + 1) es)
made_of_more {K} {V} {W} P f es i d made new all lt is to =
    let g : K × V → W = λ e. f e.1 in
    to (value_at P es i d all lt)
    ∙ (ap (λ (l : List W). l ++ f (get_or es i d).1 ∷ []) is
    ∙ (sym (map-append g (take i es) (get_or es i d ∷ [])) ∙ ap (map g) (sym (take_more es i d lt))))

-- a row that is found is the one that was looked for
pub found_stands : (ps : List (List ℕ)) (table : ℕ) (row : List ℕ) (found : RowSlots) → slots_of (data_of ps) table row ≡ Some found → Stands (key_at table row) found
found_stands ps table row found is = stands_at (data_of ps).rows (key_at table row) found (all_kept ps).rows is

module _ (memory : SlotMemory) (ps : List (List ℕ)) (fit : Fits memory ps) where
  row_is : (table : ℕ) (row : List ℕ) (found : Option ℕ) → found ≡ index_in memory table row → slots_of (data_of ps) table row ≡ option_map (row_at ps) found
  row_is table row found is =
      ap (λ (rows : List (RowKey × RowSlots)). lookup (is_at (key_cmp (key_at table row))) rows) fit.rows
      ∙ (lookup_with (row_at ps) (is_at (key_cmp (key_at table row))) (entries_of key_cmp memory.places) ∙ ap (option_map (row_at ps)) (sym is))

  pub none_is : (table : ℕ) (row : List ℕ) (found : Option ℕ) → found ≡ index_in memory table row → IfNone found (slots_of (data_of ps) table row ≡ None)
  none_is table row None is = row_is table row None is
  none_is table row (Some index) is = tt

  pub some_is : (table : ℕ) (row : List ℕ) (found : Option ℕ) → found ≡ index_in memory table row → IfSome found (λ index. slots_of (data_of ps) table row ≡ Some (row_at ps index))
  some_is table row None is = tt
  some_is table row (Some index) is = row_is table row (Some index) is

  pub place_at : (table : ℕ) (row : List ℕ) (found : Option ℕ) → found ≡ index_in memory table row → IfSome found (IsPlace ps)
  place_at table row None is = tt
  place_at table row (Some index) is = value_found (IsPlace ps) (is_at (key_cmp (key_at table row))) (entries_of key_cmp memory.places) index fit.places (sym is)

  pub are_keys : AreKeys (entries_of key_cmp memory.places)
  are_keys = keys_are (row_at ps) (entries_of key_cmp memory.places) (subst AllStand fit.rows (all_kept ps).rows)

  some_same : (table : ℕ) (row : List ℕ) → is_some (slots_of (data_of ps) table row) ≡ is_some (index_in memory table row)
  some_same table row = ap is_some (row_is table row (index_in memory table row) refl) ∙ some_map (row_at ps) (index_in memory table row)

  pub rows_are : (table : ℕ) (rows : List (List ℕ)) → AreIdsOf (entries_of key_cmp memory.places) table rows → AreRowsOf (data_of ps) table rows
  rows_are table rows h = record {
    rising = h.rising;
    only = λ row there. some_same table row ∙ h.only row there;
    all = λ row there. h.all row (sym (some_same table row) ∙ there);
  }

  pub record_is : (table : ℕ) → record_of (data_of ps) table ≡ option_map (record_at memory.schemas.items) (lookup (is_at (nat_cmp table)) (entries_of nat_cmp memory.records))
  record_is table =
      ap (λ (tables : List (ℕ × TableRecord)). lookup (is_at (nat_cmp table)) tables) fit.tables
      ∙ lookup_with (record_at memory.schemas.items) (is_at (nat_cmp table)) (entries_of nat_cmp memory.records)

  pub record_whole : (table : ℕ) (found : TableRecord) → record_of (data_of ps) table ≡ Some found → IsWhole ps found
  record_whole table found is = value_found (IsWhole ps) (is_at (nat_cmp table)) (data_of ps).tables found fit.whole is

  pub records_are : records_of (data_of ps) ≡ map (λ (e : ℕ × RecordPlace). record_at memory.schemas.items e.1) (entries_of nat_cmp memory.records)
  records_are = ap (λ (tables : List (ℕ × TableRecord)). map (λ (e : ℕ × TableRecord). e.1) tables) fit.tables ∙ values_are (record_at memory.schemas.items) (entries_of nat_cmp memory.records)

-- a payload of a vault is short
pub short_at : (ps : List (List ℕ)) (i : ℕ) → AllShort ps → i < length ps → length (get_or ps i []) ≤ payload_most
short_at [] i short within = absurd (omega arith)
short_at (p ∷ ps) zero short within = short.0
short_at (p ∷ ps) (suc i) short within = short_at ps i short.1 (omega arith)
