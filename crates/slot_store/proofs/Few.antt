-- What a few payloads come to, and what a put changes.
use Rattle.std.proofs.Common.{◌≡◌, ◌⊎◌, inl, inr, ℕ, Bool, true, false, cond, List, [], ◌∷◌, Option, Some, None, refl, sym, ◌∙◌, ap, subst}
use Rattle.std.specs.Prelude.{max}
use Rattle.std.specs.declared.cmp.Ordering.{Ordering}
use Rattle.std.specs.declared.cmp.Ordering.TheVariants.{Less, Equal, Greater}
use Rattle.std.specs.Ordering.{match_ordering, is_eq, nat_cmp}
use Rattle.std.specs.Cmp.{IsTotalOrder, nat_cmp_total, eq_by_cmp_equiv}
use Rattle.std.specs.BTreeMap.{insert_entry, is_at}
use Rattle.std.specs.Map.{lookup}
use Rattle.std.proofs.Math.Nat.{zero-max}
use Rattle.std.proofs.lemmas.Map.Lookups.{exact_unsigned}
use Rattle.spare_map.proofs.Changes.{lookup-changed}
use Rattle.value_codec.specs.Reading.{byte_at}
use Rattle.slot_store.specs.declared.held.RowKey.{RowKey}
use Rattle.slot_store.specs.declared.held.RowSlots.{RowSlots}
use Rattle.slot_store.specs.declared.held.TableRecord.{TableRecord}
use Rattle.slot_store.specs.Spelling.{HasRowSpelling, row_payload, HasRecordSpelling, record_payload}
use Rattle.slot_store.specs.Reading.{Said, SaysRow, SaysTable, said_by, row_in, record_in, tag_at}
use Rattle.slot_store.specs.Data.{SlotData, key_cmp, key_at, key_of, step, nothing_held, with_slots, with_record, data_of, slots_of, record_of}
use Rattle.slot_store.proofs.Again.{says_row, says_table}
use Rattle.slot_store.proofs.Keys.{key_cmp_total, one_key, equal_is}

-- ---- a few payloads

pub none_held : data_of [] ≡ nothing_held
unfolding data_of
none_held = refl

pub passed_over : data_of ((3 ∷ []) ∷ [] ∷ []) ≡ nothing_held
unfolding data_of said_by row_in record_in tag_at byte_at
passed_over = refl

one_said : (p : List ℕ) (said : Said) → said_by p ≡ said → data_of (p ∷ []) ≡ step nothing_held said
unfolding data_of
one_said p said is = ap (step nothing_held) is

two_said : (p q : List ℕ) (a b : Said) → said_by p ≡ a → said_by q ≡ b → data_of (p ∷ q ∷ []) ≡ step (step nothing_held a) b
unfolding data_of
two_said p q a b is be = ap (λ (s : Said). step (step nothing_held s) (said_by q)) is ∙ ap (step (step nothing_held a)) be

pub one_row : (x : RowSlots) → HasRowSpelling x → data_of (row_payload x ∷ []) ≡ record { rows = (key_of x, x) ∷ []; tables = []; last = x.last }
one_row x h = one_said (row_payload x) (SaysRow x) (says_row x h) ∙ ap (λ (n : ℕ). record { rows = (key_of x, x) ∷ []; tables = []; last = n }) (zero-max x.last)

pub one_table : (x : TableRecord) → HasRecordSpelling x → data_of (record_payload x ∷ []) ≡ record { rows = []; tables = (x.table, x) ∷ []; last = 0 }
one_table x h = one_said (record_payload x) (SaysTable x) (says_table x h)

itself : {K : Type 0} (R : K → K → Ordering) (total : IsTotalOrder R) (k : K) → R k k ≡ Equal
itself R total k = equal_is (R k k) ((eq_by_cmp_equiv total).refl k)

-- a value under the key that is there
module _ {K V : Type 0} (R : K → K → Ordering) (total : IsTotalOrder R) where
  put_twice : (k q : K) (v w : V) → k ≡ q → insert_entry R ((k, v) ∷ []) q w ≡ (k, w) ∷ []
  put_twice k q v w same =
      let at : R q k ≡ Equal = ap (λ (l : K). R l k) (sym same) ∙ itself R total k in
      ap (λ (r : Ordering). match_ordering r ((q, w) ∷ (k, v) ∷ []) ((k, w) ∷ []) ((k, v) ∷ insert_entry R [] q w)) at

  pub put_found : (es : List (K × V)) (k : K) (v : V) → lookup (is_at (R k)) (insert_entry R es k v) ≡ Some v
  put_found es k v =
      let some : Option V = Some v in
      lookup-changed R total es k some k ∙ ap (λ (o : Ordering). cond (is_eq o) some (lookup (is_at (R k)) es)) (itself R total k)

  pub others_found : (es : List (K × V)) (k q : K) (v : V) → (R k q ≡ Equal → ⊥) → lookup (is_at (R q)) (insert_entry R es k v) ≡ lookup (is_at (R q)) es
  others_found es k q v apart =
      let some : Option V = Some v in
      lookup-changed R total es k some q ∙ split (is_at (R k) q) (λ at. apart (equal_is (R k q) at))
    where
      split : (b : Bool) → (b ≡ true → ⊥) → cond b (Some v) (lookup (is_at (R q)) es) ≡ lookup (is_at (R q)) es
      split true h = absurd (h refl)
      split false h = refl

pub row_twice : (x y : RowSlots) → HasRowSpelling x → HasRowSpelling y → key_of x ≡ key_of y
    → data_of (row_payload x ∷ row_payload y ∷ []) ≡ record { rows = (key_of x, y) ∷ []; tables = []; last = max x.last y.last }
row_twice x y h k same =
    two_said (row_payload x) (row_payload y) (SaysRow x) (SaysRow y) (says_row x h) (says_row y k)
    ∙ ap (λ (n : ℕ). record { rows = insert_entry key_cmp ((key_of x, x) ∷ []) (key_of y) y; tables = []; last = max n y.last }) (zero-max x.last)
    ∙ ap (λ (rows : List (RowKey × RowSlots)). record { rows = rows; tables = []; last = max x.last y.last }) (put_twice key_cmp key_cmp_total (key_of x) (key_of y) x y same)

pub table_twice : (x y : TableRecord) → HasRecordSpelling x → HasRecordSpelling y → x.table ≡ y.table
    → data_of (record_payload x ∷ record_payload y ∷ []) ≡ record { rows = []; tables = (x.table, y) ∷ []; last = 0 }
table_twice x y h k same =
    two_said (record_payload x) (record_payload y) (SaysTable x) (SaysTable y) (says_table x h) (says_table y k)
    ∙ ap (λ (tables : List (ℕ × TableRecord)). record { rows = []; tables = tables; last = 0 }) (put_twice nat_cmp nat_cmp_total x.table y.table x y same)

-- ---- one put more

pub row_put : (held : SlotData) (x : RowSlots) → slots_of (with_slots held x) x.table x.row ≡ Some x
row_put held x = put_found key_cmp key_cmp_total held.rows (key_of x) x

pub other_row : (held : SlotData) (x : RowSlots) (table : ℕ) (row : List ℕ) → (key_of x ≡ key_at table row → ⊥) → slots_of (with_slots held x) table row ≡ slots_of held table row
other_row held x table row apart = others_found key_cmp key_cmp_total held.rows (key_of x) (key_at table row) x (λ at. apart (one_key (key_of x) (key_at table row) at))

pub table_put : (held : SlotData) (x : TableRecord) → record_of (with_record held x) x.table ≡ Some x
table_put held x = put_found nat_cmp nat_cmp_total held.tables x.table x

pub other_table : (held : SlotData) (x : TableRecord) (table : ℕ) → (x.table ≡ table → ⊥) → record_of (with_record held x) table ≡ record_of held table
other_table held x table apart = others_found nat_cmp nat_cmp_total held.tables x.table table x (λ at. apart (exact_unsigned x.table table at))
