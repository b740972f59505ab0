-- The rows of a table among the keys of a set.
use Rattle.std.proofs.Common.{◌≡◌, ◌⊎◌, inl, inr, ℕ, zero, suc, ◌+◌, ◌<◌, Bool, true, false, cond, not, List, [], ◌∷◌, length, refl, sym, ◌∙◌, ap, subst, arith}
use Rattle.std.specs.Prelude.{◌==◌, ◌&&◌, ◌||◌, nat_le, map, filter}
use Rattle.std.specs.declared.cmp.Ordering.{Ordering}
use Rattle.std.specs.declared.cmp.Ordering.TheVariants.{Less, Equal, Greater}
use Rattle.std.specs.declared.ops.Bound.TheVariants.{Included, Excluded}
use Rattle.std.specs.Ordering.{is_eq, is_le, nat_cmp, ordering_then}
use Rattle.std.specs.Cmp.{nat_cmp_total, eq_by_cmp_equiv}
use Rattle.std.specs.BTreeMap.{is_at}
use Rattle.std.specs.BTreeMap.Range.{range_contains}
use Rattle.std.specs.BTreeSet.{BTreeSet, contains, keys, keys_between}
use Rattle.std.specs.List.{list_any, AllByRecursion}
use Rattle.std.specs.List.Sorted.{IsStrictlySortedBy}
use Rattle.std.proofs.lemmas.Bool.Decides.{nat_tests}
use Rattle.std.proofs.lemmas.List.Kept.{IsStrictlySortedBy-filter}
use Rattle.slot_store.specs.declared.held.RowKey.{RowKey}
use Rattle.slot_store.specs.Data.{id_cmp, key_cmp, key_at}
use Rattle.slot_store.proofs.Keys.{id_cmp_total, equal_is, one_key}
use Rattle.client_node.specs.NotedRows.{AreNotedRows, zeros, rows_among}

le_then : (o i : Ordering) → is_le i ≡ true → is_le (ordering_then o i) ≡ is_le o
le_then Less i le = refl
le_then Equal i le = le
le_then Greater i le = refl

le_number : (a b : ℕ) → is_le (nat_cmp a b) ≡ nat_le a b
le_number a b = grind (arith, nat_tests)

-- an id of zeros is the least of its length
zeros_least : (n : ℕ) (row : List ℕ) → length row ≡ n → is_le (id_cmp (zeros n) row) ≡ true
zeros_least zero [] len = refl
zeros_least zero (x ∷ row) len = absurd (omega (arith, len))
zeros_least (suc n) [] len = absurd (omega (arith, len))
zeros_least (suc n) (x ∷ row) len =
    let none : nat_le 0 x ≡ true = grind (arith, nat_tests) in
    le_then (nat_cmp 0 x) (id_cmp (zeros n) row) (zeros_least n row (omega (arith, len))) ∙ (le_number 0 x ∙ none)

either_is : (a b : Bool) → (a || b) ≡ true → (a ≡ true) ⊎ (b ≡ true)
either_is true b e = inl refl
either_is false b e = inr e

or_right : (a b : Bool) → b ≡ true → (a || b) ≡ true
or_right true b e = refl
or_right false b e = e

module _ (table next : ℕ) (next_is : next ≡ table + 1) (first : List ℕ) (zero_id : first ≡ zeros 16) where
  abbrev from : RowKey
  from = key_at table first

  abbrev end : RowKey
  end = key_at next first

  abbrev between : RowKey → Bool
  between key = range_contains key_cmp (Included from) (Excluded end) key

  abbrev of_table : RowKey → Bool
  of_table key = key.table == table

  same_number : (n : ℕ) → nat_cmp n n ≡ Equal
  same_number n = equal_is (nat_cmp n n) ((eq_by_cmp_equiv nat_cmp_total).refl n)

  below_next : nat_cmp next table ≡ Greater
  below_next = grind (arith, nat_tests)

  -- a key of the table lies between
  its_between : (row : List ℕ) → length row ≡ 16 → between (key_at table row) ≡ true
  its_between row len =
      let least : is_le (id_cmp first row) ≡ true = subst (λ (z : List ℕ). is_le (id_cmp z row) ≡ true) (sym zero_id) (zeros_least 16 row len) in
      let above : is_le (key_cmp from (key_at table row)) ≡ true = ap (λ (o : Ordering). is_le (ordering_then o (id_cmp first row))) (same_number table) ∙ least in
      let below : is_le (key_cmp end (key_at table row)) ≡ false = ap (λ (o : Ordering). is_le (ordering_then o (id_cmp first row))) below_next in
      ap (λ (b : Bool). b && not (is_le (key_cmp end (key_at table row)))) above ∙ ap not below

  its_table : of_table (key_at table first) ≡ true
  its_table = grind (arith, nat_tests)

  abbrev rows_of : List RowKey → List (List ℕ)
  rows_of ks = map (λ (key : RowKey). key.row) (filter of_table (filter between ks))

  -- a key that is kept
  kept_first : (row : List ℕ) (ks : List RowKey) (b q : Bool) (k : RowKey) → b ≡ true → q ≡ true → is_at (id_cmp row) k.row ≡ true
      → list_any (is_at (id_cmp row)) (map (λ (key : RowKey). key.row) (cond q (k ∷ ks) ks)) ≡ true
  kept_first row ks b q k is also at = ap (λ (c : Bool). list_any (is_at (id_cmp row)) (map (λ (key : RowKey). key.row) (cond c (k ∷ ks) ks))) also ∙ ap (λ (c : Bool). c || list_any (is_at (id_cmp row)) (map (λ (key : RowKey). key.row) ks)) at

  kept_later : (row : List ℕ) (q : Bool) (k : RowKey) (ks : List RowKey) → list_any (is_at (id_cmp row)) (map (λ (key : RowKey). key.row) ks) ≡ true → list_any (is_at (id_cmp row)) (map (λ (key : RowKey). key.row) (cond q (k ∷ ks) ks)) ≡ true
  kept_later row true k ks any = or_right (is_at (id_cmp row) k.row) (list_any (is_at (id_cmp row)) (map (λ (key : RowKey). key.row) ks)) any
  kept_later row false k ks any = any

  filtered : (b : Bool) (k : RowKey) (ks : List RowKey) → filter of_table (cond b (k ∷ ks) ks) ≡ cond b (cond (of_table k) (k ∷ filter of_table ks) (filter of_table ks)) (filter of_table ks)
  filtered true k ks = refl
  filtered false k ks = refl

  kept_both : (row : List ℕ) (b q : Bool) (k : RowKey) (ks : List RowKey) → list_any (is_at (id_cmp row)) (map (λ (key : RowKey). key.row) ks) ≡ true
      → list_any (is_at (id_cmp row)) (map (λ (key : RowKey). key.row) (cond b (cond q (k ∷ ks) ks) ks)) ≡ true
  kept_both row true q k ks any = kept_later row q k ks any
  kept_both row false q k ks any = any

  pub all_noted : (row : List ℕ) → length row ≡ 16 → (ks : List RowKey) → list_any (is_at (key_cmp (key_at table row))) ks ≡ true → list_any (is_at (id_cmp row)) (rows_of ks) ≡ true
  all_noted row len [] any = absurd cc
  all_noted row len (k ∷ ks) any = pick (either_is (is_at (key_cmp (key_at table row)) k) (list_any (is_at (key_cmp (key_at table row))) ks) any) (all_noted row len ks)
    where
      same_row : is_at (id_cmp row) row ≡ true
      same_row = (eq_by_cmp_equiv id_cmp_total).refl row

      pick : (is_at (key_cmp (key_at table row)) k ≡ true) ⊎ (list_any (is_at (key_cmp (key_at table row))) ks ≡ true) → (list_any (is_at (key_cmp (key_at table row))) ks ≡ true → list_any (is_at (id_cmp row)) (rows_of ks) ≡ true)
          → list_any (is_at (id_cmp row)) (rows_of (k ∷ ks)) ≡ true
      pick (inl at) more =
          let same : key_at table row ≡ k = one_key (key_at table row) k (equal_is (key_cmp (key_at table row) k) at) in
          let in_range : between k ≡ true = subst (λ (x : RowKey). between x ≡ true) same (its_between row len) in
          let in_table : of_table k ≡ true = subst (λ (x : RowKey). of_table x ≡ true) same its_table in
          let at_row : is_at (id_cmp row) k.row ≡ true = subst (λ (x : RowKey). is_at (id_cmp row) x.row ≡ true) same same_row in
          ap (λ (l : List RowKey). list_any (is_at (id_cmp row)) (map (λ (key : RowKey). key.row) l)) (filtered (between k) k (filter between ks) ∙ ap (λ (b : Bool). cond b (cond (of_table k) (k ∷ filter of_table (filter between ks)) (filter of_table (filter between ks))) (filter of_table (filter between ks))) in_range)
          ∙ kept_first row (filter of_table (filter between ks)) (between k) (of_table k) k in_range in_table at_row
      pick (inr later) more =
          ap (λ (l : List RowKey). list_any (is_at (id_cmp row)) (map (λ (key : RowKey). key.row) l)) (filtered (between k) k (filter between ks)) ∙ kept_both row (between k) (of_table k) k (filter of_table (filter between ks)) (more later)

  -- ---- in rising order

  abbrev OfTable : RowKey → Type 0
  OfTable key = key.table ≡ table

  kept_of : (b : Bool) (key : RowKey) (ks : List RowKey) → (b ≡ true → OfTable key) → AllByRecursion OfTable ks → AllByRecursion OfTable (cond b (key ∷ ks) ks)
  kept_of true key ks is all = (is refl, all)
  kept_of false key ks is all = all

  number_is : (a b : ℕ) → (a == b) ≡ true → a ≡ b
  number_is a b e = grind (arith, nat_tests)

  all_of_table : (ks : List RowKey) → AllByRecursion OfTable (filter of_table ks)
  all_of_table [] = tt
  all_of_table (k ∷ ks) = kept_of (of_table k) k (filter of_table ks) (λ is. number_is k.table table is) (all_of_table ks)

  less_id : (a b : RowKey) → OfTable a → OfTable b → key_cmp a b ≡ Less → id_cmp a.row b.row ≡ Less
  less_id a b of_a of_b less =
      let same : nat_cmp a.table b.table ≡ Equal = ap (λ (n : ℕ). nat_cmp a.table n) (of_b ∙ sym of_a) ∙ same_number a.table in
      ap (λ (o : Ordering). ordering_then o (id_cmp a.row b.row)) (sym same) ∙ less

  below_all : (key : RowKey) (ks : List RowKey) → OfTable key → AllByRecursion OfTable ks → AllByRecursion (λ (k : RowKey). key_cmp key k ≡ Less) ks → AllByRecursion (λ (r : List ℕ). id_cmp key.row r ≡ Less) (map (λ (k : RowKey). k.row) ks)
  below_all key [] of all below = tt
  below_all key (k ∷ ks) of all below = (less_id key k of all.0 below.0, below_all key ks of all.1 below.1)

  rows_rising : (ks : List RowKey) → AllByRecursion OfTable ks → IsStrictlySortedBy key_cmp ks → IsStrictlySortedBy id_cmp (map (λ (k : RowKey). k.row) ks)
  unfolding IsStrictlySortedBy
  rows_rising [] all sorted = tt
  rows_rising (k ∷ ks) all sorted = (below_all k ks all.0 all.1 sorted.0, rows_rising ks all.1 sorted.1)

  pub are_noted : (set : BTreeSet RowKey) (rows : List (List ℕ)) → rows ≡ rows_of (keys set) → IsStrictlySortedBy key_cmp (keys set) → AreNotedRows set table rows
  are_noted set rows is sorted = record {
    rising = subst (IsStrictlySortedBy id_cmp) (sym is)
        (rows_rising (filter of_table (filter between (keys set))) (all_of_table (filter between (keys set))) (IsStrictlySortedBy-filter key_cmp of_table (filter between (keys set)) (IsStrictlySortedBy-filter key_cmp between (keys set) sorted)));
    all = λ row len there. ap (list_any (is_at (id_cmp row))) is ∙ all_noted row len (keys set) there;
  }

-- ---- between the first keys of a table and of the next

least_number : (table : ℕ) → nat_cmp table (table + 1) ≡ Less
least_number table = grind (arith, nat_tests)

pub bounds_rise : (table : ℕ) (first end : RowKey) → first ≡ key_at table (zeros 16) → end ≡ key_at (table + 1) (zeros 16) → key_cmp first end ≡ Less
bounds_rise table first end f e =
    ap (λ (k : RowKey). key_cmp k end) f ∙ (ap (key_cmp (key_at table (zeros 16))) e ∙ ap (λ (o : Ordering). ordering_then o (id_cmp (zeros 16) (zeros 16))) (least_number table))

pub noted_between : (table : ℕ) (first end : RowKey) → first ≡ key_at table (zeros 16) → end ≡ key_at (table + 1) (zeros 16) → (set : BTreeSet RowKey) (rows : List (List ℕ)) → rows ≡ rows_among table (keys_between key_cmp (Included first) (Excluded end) set)
    → IsStrictlySortedBy key_cmp (keys set) → AreNotedRows set table rows
noted_between table first end f e set rows is sorted =
    are_noted table (table + 1) refl (zeros 16) refl set rows
    (is ∙ (ap (λ (k : RowKey). rows_among table (keys_between key_cmp (Included k) (Excluded end) set)) f ∙ ap (λ (k : RowKey). rows_among table (keys_between key_cmp (Included (key_at table (zeros 16))) (Excluded k) set)) e)) sorted
