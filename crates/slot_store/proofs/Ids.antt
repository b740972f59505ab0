-- The ids of a table's rows.
use Rattle.std.proofs.Common.{◌≡◌, ◌⊎◌, inl, inr, ⊎_elim, ℕ, zero, suc, ◌+◌, ◌^◌, ◌<◌, ◌≤◌, Bool, true, false, cond, not, List, [], ◌∷◌, length, Option, Some, None, refl, sym, ◌∙◌, ap, subst, arith}
use Rattle.std.specs.Prelude.{◌==◌, ◌&&◌, ◌||◌, nat_le, min, is_some, map, filter}
use Rattle.std.specs.declared.cmp.Ordering.{Ordering}
use Rattle.std.specs.declared.cmp.Ordering.TheVariants.{Less, Equal, Greater}
use Rattle.std.specs.Ordering.{is_eq, is_le, nat_cmp, ordering_then}
use Rattle.std.specs.Cmp.{IsEquivalence, eq_by_cmp_equiv}
use Rattle.std.specs.BTreeMap.{is_at}
use Rattle.std.specs.Map.{lookup, keys_of}
use Rattle.std.specs.List.{list_any, AllByRecursion}
use Rattle.std.specs.List.Sorted.{IsStrictlySortedBy}
use Rattle.std.proofs.lemmas.Bool.{cases_lt}
use Rattle.std.proofs.Math.Nat.{min-eq_left, min-eq_right}
use Rattle.std.proofs.lemmas.Bool.Decides.{nat_tests}
use Rattle.std.proofs.lemmas.List.Kept.{IsStrictlySortedBy-filter}
use Rattle.std.proofs.lemmas.Map.Lookups.{exact_bytes}
use Rattle.std.proofs.lemmas.Map.Views.{Contains-from_any, list_any-from_Contains}
use Rattle.slot_store.specs.declared.held.RowKey.{RowKey}
use Rattle.slot_store.specs.Limit.{tables_most}
use Rattle.slot_store.specs.Data.{id_cmp, key_cmp, key_at}
use Rattle.slot_store.specs.Memory.{AreKeys, AreIdsOf}
use Rattle.slot_store.proofs.Keys.{id_cmp_total, equal_is}

abbrev pub Places : Type 0
Places = List (RowKey × ℕ)

abbrev same_id : List ℕ → List ℕ → Bool
same_id a b = is_eq (id_cmp a b)

id_laws : IsEquivalence same_id
id_laws = eq_by_cmp_equiv id_cmp_total

exact_id : (a b : List ℕ) → same_id a b ≡ true → a ≡ b
exact_id a b e = exact_bytes a b (equal_is (id_cmp a b) e)

-- ---- the keys from the table's first id on, below that of the next table

abbrev pub zeros : ℕ → List ℕ
zeros zero = []
zeros (suc n) = 0 ∷ zeros n

le_then : (o i : Ordering) → is_le i ≡ true → is_le (ordering_then o i) ≡ is_le o
le_then Less i le = refl
le_then Equal i le = le
le_then Greater i le = refl

le_number : (a b : ℕ) → is_le (nat_cmp a b) ≡ nat_le a b
le_number a b = grind (arith, nat_tests)

-- an id of zeros is the least of its length
pub zeros_least : (n : ℕ) (row : List ℕ) → length row ≡ n → is_le (id_cmp (zeros n) row) ≡ true
zeros_least zero [] len = refl
zeros_least zero (x ∷ row) len = absurd (omega (arith, len))
zeros_least (suc n) [] len = absurd (omega (arith, len))
zeros_least (suc n) (x ∷ row) len =
    let none : nat_le 0 x ≡ true = grind (arith, nat_tests) in
    le_then (nat_cmp 0 x) (id_cmp (zeros n) row) (zeros_least n row (omega (arith, len))) ∙ (le_number 0 x ∙ none)

-- the table behind this one, or this one where there is none behind it
abbrev pub IsNext : ℕ → ℕ → Type 0
IsNext table next = (next ≡ table + 1) ⊎ ((next ≡ table) × (tables_most < table))

abbrev pub is_between : RowKey → RowKey → RowKey → Bool
is_between from end key = is_le (key_cmp from key) && not (is_le (key_cmp end key))

one_between : (table next n : ℕ) → IsNext table next → n ≤ tables_most → (nat_le table n && not (nat_le next n)) ≡ (table == n)
one_between table next n (inl is) most = grind (arith, nat_tests)
one_between table next n (inr is) most =
    let same = is.0 in
    let above = is.1 in
    grind (arith, nat_tests)

module _ (table next : ℕ) (is_next : IsNext table next) (first : List ℕ) (zero_id : first ≡ zeros 16) where
  abbrev p : RowKey → Bool
  p key = is_between (key_at table first) (key_at next first) key

  of_table : (key : RowKey) → length key.row ≡ 16 → key.table ≤ tables_most → p key ≡ (table == key.table)
  of_table key len most =
      let least : is_le (id_cmp first key.row) ≡ true = subst (λ (z : List ℕ). is_le (id_cmp z key.row) ≡ true) (sym zero_id) (zeros_least 16 key.row len) in
      let from : is_le (key_cmp (key_at table first) key) ≡ nat_le table key.table = le_then (nat_cmp table key.table) (id_cmp first key.row) least ∙ le_number table key.table in
      let to : is_le (key_cmp (key_at next first) key) ≡ nat_le next key.table = le_then (nat_cmp next key.table) (id_cmp first key.row) least ∙ le_number next key.table in
      ap (λ (b : Bool). b && not (is_le (key_cmp (key_at next first) key))) from ∙ (ap (λ (b : Bool). nat_le table key.table && not b) to ∙ one_between table next key.table is_next most)

  -- ---- which ids are there

  both_at : (o i : Ordering) → is_eq (ordering_then o i) ≡ is_eq o && is_eq i
  both_at Less i = refl
  both_at Equal i = refl
  both_at Greater i = refl

  same_number : (a b : ℕ) → is_eq (nat_cmp a b) ≡ (a == b)
  same_number a b = grind (arith, nat_tests)

  abbrev ids : List RowKey → List (List ℕ)
  ids keys = map (λ (key : RowKey). key.row) keys

  any_if : (b s : Bool) (row : List ℕ) (key : RowKey) (keys : List RowKey) → same_id row key.row ≡ s
      → list_any (same_id row) (ids (cond b (key ∷ keys) keys)) ≡ cond b (s || list_any (same_id row) (ids keys)) (list_any (same_id row) (ids keys))
  any_if true s row key keys same = ap (λ (c : Bool). c || list_any (same_id row) (ids keys)) same
  any_if false s row key keys same = refl

  some_if : (b : Bool) (v w : Option ℕ) → is_some (cond b v w) ≡ cond b (is_some v) (is_some w)
  some_if true v w = refl
  some_if false v w = refl

  split : (b s r : Bool) → cond b (s || r) r ≡ cond (b && s) true r
  split true true r = refl
  split true false r = refl
  split false s r = refl

  pub any_is : (row : List ℕ) (es : Places) → AreKeys es → list_any (same_id row) (ids (filter p (keys_of es))) ≡ is_some (lookup (is_at (key_cmp (key_at table row))) es)
  any_is row [] h = refl
  any_is row (e ∷ es) h =
      let rest = lookup (is_at (key_cmp (key_at table row))) es in
      let s = same_id row e.0.row in
      let here : is_at (key_cmp (key_at table row)) e.0 ≡ (table == e.0.table) && s = both_at (nat_cmp table e.0.table) (id_cmp row e.0.row)
      ∙ ap (λ (b : Bool). b && s) (same_number table e.0.table) in
      any_if (p e.0) s row e.0 (filter p (keys_of es)) refl
      ∙ (ap (λ (b : Bool). cond b (s || list_any (same_id row) (ids (filter p (keys_of es)))) (list_any (same_id row) (ids (filter p (keys_of es))))) (of_table e.0 h.0.0 h.0.1)
      ∙ (ap (λ (r : Bool). cond (table == e.0.table) (s || r) r) (any_is row es h.1)
      ∙ (split (table == e.0.table) s (is_some rest)
      ∙ (ap (λ (b : Bool). cond b true (is_some rest)) (sym here)
      ∙ sym (some_if (is_at (key_cmp (key_at table row)) e.0) (Some e.1) rest)))))

  -- ---- in rising order

  abbrev OfTable : RowKey → Type 0
  OfTable key = table ≡ key.table

  kept_of : (b : Bool) (key : RowKey) (keys : List RowKey) → (b ≡ true → OfTable key) → AllByRecursion OfTable keys → AllByRecursion OfTable (cond b (key ∷ keys) keys)
  kept_of true key keys is all = (is refl, all)
  kept_of false key keys is all = all

  number_is : (a b : ℕ) → (a == b) ≡ true → a ≡ b
  number_is a b e = grind (arith, nat_tests)

  all_of_table : (es : Places) → AreKeys es → AllByRecursion OfTable (filter p (keys_of es))
  all_of_table [] h = tt
  all_of_table (e ∷ es) h = kept_of (p e.0) e.0 (filter p (keys_of es)) (λ is. number_is table e.0.table (sym (of_table e.0 h.0.0 h.0.1) ∙ is)) (all_of_table es h.1)

  equal_number : (n : ℕ) → nat_cmp n n ≡ Equal
  equal_number n = equal_is (nat_cmp n n) (same_number n n ∙ grind (arith, nat_tests))

  less_id : (a b : RowKey) → OfTable a → OfTable b → key_cmp a b ≡ Less → id_cmp a.row b.row ≡ Less
  less_id a b of_a of_b less =
      let same : nat_cmp a.table b.table ≡ Equal = ap (λ (n : ℕ). nat_cmp a.table n) (sym of_b ∙ of_a) ∙ equal_number a.table in
      ap (λ (o : Ordering). ordering_then o (id_cmp a.row b.row)) (sym same) ∙ less

  below_all : (key : RowKey) (keys : List RowKey) → OfTable key → AllByRecursion OfTable keys → AllByRecursion (λ (k : RowKey). key_cmp key k ≡ Less) keys
      → AllByRecursion (λ (r : List ℕ). id_cmp key.row r ≡ Less) (ids keys)
  below_all key [] of all below = tt
  below_all key (k ∷ keys) of all below = (less_id key k of all.0 below.0, below_all key keys of all.1 below.1)

  pub ids_rising : (keys : List RowKey) → AllByRecursion OfTable keys → IsStrictlySortedBy key_cmp keys → IsStrictlySortedBy id_cmp (ids keys)
  unfolding IsStrictlySortedBy
  ids_rising [] all sorted = tt
  ids_rising (k ∷ keys) all sorted = (below_all k keys all.0 all.1 sorted.0, ids_rising keys all.1 sorted.1)

  pub are_ids : (es : Places) (keys : List RowKey) (rows : List (List ℕ)) → AreKeys es → keys ≡ filter p (keys_of es) → IsStrictlySortedBy key_cmp keys → rows ≡ ids keys → AreIdsOf es table rows
  are_ids es keys rows h is sorted from =
      let all : AllByRecursion OfTable keys = subst (AllByRecursion OfTable) (sym is) (all_of_table es h) in
      let any : (row : List ℕ) → list_any (same_id row) rows ≡ is_some (lookup (is_at (key_cmp (key_at table row))) es) = λ row. ap (list_any (same_id row)) (from ∙ ap ids is) ∙ any_is row es h in
      record {
        rising = subst (IsStrictlySortedBy id_cmp) (sym from) (ids_rising keys all sorted);
        only = λ row there. sym (any row) ∙ list_any-from_Contains id_laws row rows there;
        all = λ row there. Contains-from_any exact_id row rows (any row ∙ there);
      }

pub next_is : (table next : ℕ) → table < 2 ^ 32 → next ≡ min (table + 1) 4294967295 → IsNext table next
next_is table next fits is = elim (cases_lt table 4294967295) [
  | inl lt ↦ let within : table + 1 ≤ 4294967295 = omega (arith, lt) in inl (is ∙ min-eq_left within)
  | inr le ↦
      let all : 4294967295 ≤ table + 1 = omega (arith, le) in
      inr (is ∙ (min-eq_right all ∙ omega (arith, le, fits)), omega (arith, le))
]
