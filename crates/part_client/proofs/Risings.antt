-- Rows by rising id, and what a pull of a table asks for.
use Rattle.std.proofs.Common.{◌≡◌, ◌⊎◌, ℕ, Bool, true, false, cond, List, [], ◌∷◌, ◌++◌, map, Option, Some, None, refl, sym, ap, ◌∙◌, subst, inl, inr, ⊎_elim, true≢false}
use Rattle.std.specs.Prelude.{◌==◌, ◌&&◌, ◌||◌, filter, is_some, option_map, option_to_list}
use Rattle.std.specs.List.{find, list_any, AllByRecursion}
use Rattle.std.specs.List.Sorted.{IsStrictlySortedBy}
use Rattle.std.specs.declared.cmp.Ordering.{Ordering}
use Rattle.std.specs.declared.cmp.Ordering.TheVariants.{Less, Equal, Greater}
use Rattle.std.specs.Ordering.{is_eq, match_ordering, ordering_reverse}
use Rattle.std.specs.Cmp.Lexicographic.{nat_list_cmp_total}
use Rattle.std.specs.BTreeMap as tree
use Rattle.std.specs.BTreeMap.{is_at}
use Rattle.std.specs.BTreeSet as set
use Rattle.std.specs.BTreeSet.{insert_key}
use Rattle.std.proofs.lemmas.List.Folds.{list_any-append}
use Rattle.table_model.specs.History.{same_row}
use Rattle.step_tables.specs.Client.{row_cmp}
use Rattle.step_tables.proofs.Lists.{same_row-is, same_row-refl}
use Rattle.part_tables.specs.ClientParts.{Answering, is_of_table}
use Rattle.part_tables.specs.Arriving.{Arriving, WholeRow, is_of_row, same_torn, with_all_torn, rising_rows, unfinished, asking, torn_rows}
use Rattle.part_client.specs.declared.pulls.Pulling.{Pulling}
use Rattle.part_client.specs.declared.table.TableParts.{TableParts}
use Rattle.part_client.specs.Weighing.{answering_of, whole_of}
use Rattle.part_client.specs.Keeping.{KeepsTable, KeepsTorn, HasNothing}
use Rattle.part_client.specs.Asking.{is_pulled_row, HasUnfinished}
use Rattle.part_contents.proofs.Filters.{none_left}
use Rattle.part_client.proofs.Stands.{torn_more}

-- ---- members of lists of rows

abbrev In : List ℕ → List (List ℕ) → Type 0
In q [] = ⊥
In q (x ∷ xs) = (q ≡ x) ⊎ In q xs

abbrev has : List ℕ → List (List ℕ) → Bool
has q rows = list_any (is_at (row_cmp q)) rows

in_list : (q : List ℕ) (xs : List (List ℕ)) → has q xs ≡ true → In q xs
in_list q [] e = absurd (let bad : false ≡ true = e in cc)
in_list q (x ∷ xs) e = one (same_row q x) refl e (in_list q xs)
  where
    one : (b : Bool) → same_row q x ≡ b → (b || has q xs) ≡ true → (has q xs ≡ true → In q xs) → (q ≡ x) ⊎ In q xs
    one true is h more = inl (same_row-is q x is)
    one false is h more = inr (more h)

list_in : (q : List ℕ) (xs : List (List ℕ)) → In q xs → has q xs ≡ true
list_in q [] e = absurd e
list_in q (x ∷ xs) (inl same) = ap (λ (b : Bool). b || has q xs) (subst (λ (r : List ℕ). same_row q r ≡ true) same (same_row-refl q))
list_in q (x ∷ xs) (inr more) = ap (λ (b : Bool). same_row q x || b) (list_in q xs more) ∙ either (same_row q x)
  where
    either : (b : Bool) → (b || true) ≡ true
    either true = refl
    either false = refl

-- ---- in rising order

all_behind : (k x : List ℕ) (xs : List (List ℕ)) → row_cmp k x ≡ Less → AllByRecursion (λ y. row_cmp x y ≡ Less) xs → AllByRecursion (λ y. row_cmp k y ≡ Less) xs
all_behind k x [] less all = tt
all_behind k x (y ∷ ys) less all = (nat_list_cmp_total.trans k x y less all.0, all_behind k x ys less all.1)

all_insert : (x k : List ℕ) (ks : List (List ℕ)) → row_cmp x k ≡ Less → AllByRecursion (λ y. row_cmp x y ≡ Less) ks → AllByRecursion (λ y. row_cmp x y ≡ Less) (insert_key row_cmp ks k)
all_insert x k [] less all = (less, tt)
all_insert x k (y ∷ ys) less all = pick (row_cmp k y) (all_insert x k ys less all.1)
  where
    pick : (o : Ordering) → AllByRecursion (λ z. row_cmp x z ≡ Less) (insert_key row_cmp ys k)
        → AllByRecursion (λ z. row_cmp x z ≡ Less) (match_ordering o (k ∷ y ∷ ys) (y ∷ ys) (y ∷ insert_key row_cmp ys k))
    pick Less more = (less, all)
    pick Equal more = all
    pick Greater more = (all.0, more)

sorted_insert : (k : List ℕ) (ks : List (List ℕ)) → IsStrictlySortedBy row_cmp ks → IsStrictlySortedBy row_cmp (insert_key row_cmp ks k)
unfolding IsStrictlySortedBy
sorted_insert k [] s = (tt, tt)
sorted_insert k (x ∷ xs) s = pick (row_cmp k x) refl (sorted_insert k xs s.1)
  where
    pick : (o : Ordering) → row_cmp k x ≡ o → IsStrictlySortedBy row_cmp (insert_key row_cmp xs k)
        → IsStrictlySortedBy row_cmp (match_ordering o (k ∷ x ∷ xs) (x ∷ xs) (x ∷ insert_key row_cmp xs k))
    pick Less is more = ((is, all_behind k x xs is s.0), s)
    pick Equal is more = s
    pick Greater is more = (all_insert x k xs (nat_list_cmp_total.antisymm x k ∙ ap ordering_reverse is) s.0, more)

rising_sorted : (rows : List (List ℕ)) → IsStrictlySortedBy row_cmp (rising_rows rows)
unfolding IsStrictlySortedBy
rising_sorted [] = tt
rising_sorted (row ∷ rows) = sorted_insert row (rising_rows rows) (rising_sorted rows)

has_insert : (q k : List ℕ) (ks : List (List ℕ)) → has q (insert_key row_cmp ks k) ≡ (same_row q k || has q ks)
has_insert q k [] = refl
has_insert q k (x ∷ xs) = pick (row_cmp k x) refl (has_insert q k xs)
  where
    twice : (a b : Bool) → (a || b) ≡ (a || (a || b))
    twice true b = refl
    twice false b = refl

    swap : (a b c : Bool) → (a || (b || c)) ≡ (b || (a || c))
    swap true true c = refl
    swap true false c = refl
    swap false b c = refl

    pick : (o : Ordering) → row_cmp k x ≡ o → has q (insert_key row_cmp xs k) ≡ (same_row q k || has q xs)
        → has q (match_ordering o (k ∷ x ∷ xs) (x ∷ xs) (x ∷ insert_key row_cmp xs k)) ≡ (same_row q k || (same_row q x || has q xs))
    pick Less is more = refl
    pick Equal is more = twice (same_row q x) (has q xs) ∙ ap (λ (r : List ℕ). same_row q r || (same_row q x || has q xs)) (sym (same_row-is k x (ap is_eq is)))
    pick Greater is more = ap (λ (b : Bool). same_row q x || b) more ∙ swap (same_row q x) (same_row q k) (has q xs)

has_rising : (q : List ℕ) (rows : List (List ℕ)) → has q (rising_rows rows) ≡ has q rows
has_rising q [] = refl
has_rising q (row ∷ rows) = has_insert q row (rising_rows rows) ∙ ap (λ (b : Bool). same_row q row || b) (has_rising q rows)

-- ---- one list of given rows in rising order

first_less : (x q : List ℕ) (xs : List (List ℕ)) → AllByRecursion (λ y. row_cmp x y ≡ Less) xs → In q xs → row_cmp x q ≡ Less
first_less x q [] all a = absurd a
first_less x q (y ∷ xs) all (inl same) = ap (row_cmp x) same ∙ all.0
first_less x q (y ∷ xs) all (inr more) = first_less x q xs all.1 more

not_less_itself : (x : List ℕ) → row_cmp x x ≡ Less → ⊥
not_less_itself x less = let equal = same_row-refl x in let no_ : false ≡ true = sym (ap is_eq less) ∙ equal in true≢false (sym no_)

one_list : (xs ys : List (List ℕ)) → IsStrictlySortedBy row_cmp xs → IsStrictlySortedBy row_cmp ys → ((q : List ℕ) → In q xs → In q ys) → ((q : List ℕ) → In q ys → In q xs) → xs ≡ ys
unfolding IsStrictlySortedBy
one_list [] [] s t to from = refl
one_list [] (y ∷ ys) s t to from = absurd (from y (inl refl))
one_list (x ∷ xs) [] s t to from = absurd (to x (inl refl))
one_list (x ∷ xs) (y ∷ ys) s t to from =
    let first : x ≡ y = heads (to x (inl refl)) (from y (inl refl)) in
    let rest : xs ≡ ys = one_list xs ys s.1 t.1
    (λ q a. ⊎_elim (λ same. absurd (not_less_itself x (first_less x x xs s.0 (subst (λ (n : List ℕ). In n xs) (same ∙ sym first) a)))) (λ more. more) (to q (inr a)))
    (λ q a. ⊎_elim (λ same. absurd (not_less_itself y (first_less y y ys t.0 (subst (λ (n : List ℕ). In n ys) (same ∙ first) a)))) (λ more. more) (from q (inr a))) in
    cc
  where
    heads : (x ≡ y) ⊎ In x ys → (y ≡ x) ⊎ In y xs → x ≡ y
    heads (inl same) h = same
    heads (inr a) (inl same) = sym same
    heads (inr a) (inr b) = absurd (not_less_itself x (nat_list_cmp_total.trans x y x (first_less x y xs s.0 b) (first_less y x ys t.0 a)))

rising_is : (xs rows : List (List ℕ)) → IsStrictlySortedBy row_cmp xs → ((q : List ℕ) → has q xs ≡ has q rows) → xs ≡ rising_rows rows
rising_is xs rows s same = one_list xs (rising_rows rows) s (rising_sorted rows)
    (λ q a. in_list q (rising_rows rows) (has_rising q rows ∙ (sym (same q) ∙ list_in q xs a)))
    (λ q a. in_list q xs (same q ∙ (sym (has_rising q rows) ∙ list_in q (rising_rows rows) a)))

-- ---- what a pull of a table asks for

turned : (a b : List ℕ) → same_row a b ≡ same_row b a
turned a b = one (same_row a b) refl (same_row b a) refl
  where
    one : (c : Bool) → same_row a b ≡ c → (d : Bool) → same_row b a ≡ d → same_row a b ≡ same_row b a
    one true is d be = is ∙ sym (subst (λ (r : List ℕ). same_row r a ≡ true) (same_row-is a b is) (same_row-refl a))
    one false is true be = absurd (true≢false (sym (subst (λ (r : List ℕ). same_row r b ≡ true) (same_row-is b a be) (same_row-refl b)) ∙ is))
    one false is false be = is ∙ sym be

module _ (table : ℕ) where
  pulled_rows : (q : List ℕ) (pull : Option Pulling) → has q (map (λ (x : Answering). x.row.row) (option_to_list (option_map answering_of pull))) ≡ is_pulled_row pull q
  pulled_rows q None = refl
  pulled_rows q (Some x) = or_false (same_row q x.came.row.row)
    where
      or_false : (b : Bool) → (b || false) ≡ b
      or_false true = refl
      or_false false = refl

  asked_rows : (q : List ℕ) (rows : List WholeRow) → has q (map (λ (x : WholeRow). x.head.row) (filter (λ (x : WholeRow). x.head.table == table) rows)) ≡ is_some (find (is_of_row table q) rows)
  asked_rows q [] = refl
  asked_rows q (x ∷ rows) = one (x.head.table == table) refl (same_row x.head.row q) refl (asked_rows q rows)
    where
      here : Bool → Bool → Bool
      here b c = is_some (cond (b && c) (Some x) (find (is_of_row table q) rows))

      one : (b : Bool) → (x.head.table == table) ≡ b → (c : Bool) → same_row x.head.row q ≡ c
          → has q (map (λ (x : WholeRow). x.head.row) (filter (λ (x : WholeRow). x.head.table == table) rows)) ≡ is_some (find (is_of_row table q) rows)
          → has q (map (λ (x : WholeRow). x.head.row) (filter (λ (x : WholeRow). x.head.table == table) (x ∷ rows))) ≡ is_some (find (is_of_row table q) (x ∷ rows))
      one false at c is more =
          ap (λ (b : Bool). has q (map (λ (x : WholeRow). x.head.row) (cond b (x ∷ filter (λ (x : WholeRow). x.head.table == table) rows) (filter (λ (x : WholeRow). x.head.table == table) rows)))) at
          ∙ (more ∙ ap (λ (b : Bool). here b (same_row x.head.row q)) (sym at))
      one true at c is more =
          ap (λ (b : Bool). has q (map (λ (x : WholeRow). x.head.row) (cond b (x ∷ filter (λ (x : WholeRow). x.head.table == table) rows) (filter (λ (x : WholeRow). x.head.table == table) rows)))) at
          ∙ (ap (λ (b : Bool). same_row q x.head.row || b) more
          ∙ (ap (λ (b : Bool). b || is_some (find (is_of_row table q) rows)) (turned q x.head.row ∙ is)
          ∙ (either c ∙ (ap (here true) (sym is) ∙ ap (λ (b : Bool). here b (same_row x.head.row q)) (sym at)))))
        where
          either : (c : Bool) → (c || is_some (find (is_of_row table q) rows)) ≡ here true c
          either true = refl
          either false = refl

  torn_ones : (q : List ℕ) (torn : List (ℕ × List ℕ)) → has q (map (λ (t : ℕ × List ℕ). t.1) (filter (λ (t : ℕ × List ℕ). t.0 == table) torn)) ≡ list_any (same_torn table q) torn
  torn_ones q [] = refl
  torn_ones q (t ∷ torn) = one (t.0 == table) refl (torn_ones q torn)
    where
      one : (b : Bool) → (t.0 == table) ≡ b → has q (map (λ (t : ℕ × List ℕ). t.1) (filter (λ (t : ℕ × List ℕ). t.0 == table) torn)) ≡ list_any (same_torn table q) torn
          → has q (map (λ (t : ℕ × List ℕ). t.1) (filter (λ (t : ℕ × List ℕ). t.0 == table) (t ∷ torn))) ≡ list_any (same_torn table q) (t ∷ torn)
      one false at more =
          ap (λ (b : Bool). has q (map (λ (t : ℕ × List ℕ). t.1) (cond b (t ∷ filter (λ (t : ℕ × List ℕ). t.0 == table) torn) (filter (λ (t : ℕ × List ℕ). t.0 == table) torn)))) at
          ∙ (more ∙ ap (λ (b : Bool). (b && same_row t.1 q) || list_any (same_torn table q) torn) (sym at))
      one true at more =
          ap (λ (b : Bool). has q (map (λ (t : ℕ × List ℕ). t.1) (cond b (t ∷ filter (λ (t : ℕ × List ℕ). t.0 == table) torn) (filter (λ (t : ℕ × List ℕ). t.0 == table) torn)))) at
          ∙ (ap (λ (b : Bool). same_row q t.1 || b) more
          ∙ (ap (λ (b : Bool). b || list_any (same_torn table q) torn) (turned q t.1) ∙ ap (λ (b : Bool). (b && same_row t.1 q) || list_any (same_torn table q) torn) (sym at)))

  all_torn : (q : List ℕ) (rows : List (List ℕ)) (torn : List (ℕ × List ℕ)) → list_any (same_torn table q) (with_all_torn table rows torn) ≡ (has q rows || list_any (same_torn table q) torn)
  all_torn q [] torn = refl
  all_torn q (row ∷ rows) torn =
      torn_more table (with_all_torn table rows torn) row q
      ∙ (ap (λ (b : Bool). cond (same_row row q) true b) (all_torn q rows torn) ∙ (ap (λ (b : Bool). cond b true (has q rows || list_any (same_torn table q) torn)) (turned row q) ∙ either
      (same_row q row) (has q rows) (list_any (same_torn table q) torn)))
    where
      either : (a b c : Bool) → cond a true (b || c) ≡ ((a || b) || c)
      either true b c = refl
      either false b c = refl

  module _ (a : Arriving) (it : TableParts) (keeps : KeepsTable table a it) (tears : set.BTreeSet (List ℕ)) (waits : HasUnfinished it tears) where
    has_tears : (q : List ℕ) → has q (set.keys tears)
        ≡ has q (map (λ (x : Answering). x.row.row) (filter (is_of_table table) a.pulls) ++ map (λ (x : WholeRow). x.head.row) (filter (λ (x : WholeRow). x.head.table == table) a.rows))
    has_tears q =
        waits q
        ∙ (swap (is_some (tree.get row_cmp it.rows q)) (is_pulled_row it.pull q)
        ∙ (ap (λ (b : Bool). b || is_some (tree.get row_cmp it.rows q)) (sym (ap (λ (l : List Answering). has q (map (λ (x : Answering). x.row.row) l)) keeps.pull ∙ pulled_rows q it.pull))
        ∙ (ap (λ (b : Bool). has q (map (λ (x : Answering). x.row.row) (filter (is_of_table table) a.pulls)) || b) (sym (asked_rows q a.rows ∙ (ap is_some (keeps.rows q) ∙ mapped whole_of
        (tree.get row_cmp it.rows q))))
        ∙ sym (list_any-append (is_at (row_cmp q)) (map (λ (x : Answering). x.row.row) (filter (is_of_table table) a.pulls)) (map (λ (x : WholeRow). x.head.row) (filter (λ
        (x : WholeRow). x.head.table == table) a.rows))))))
      where
        swap : (b c : Bool) → (b || c) ≡ (c || b)
        swap true true = refl
        swap true false = refl
        swap false true = refl
        swap false false = refl

        mapped : {X Y : Type 0} (f : X → Y) (o : Option X) → is_some (option_map f o) ≡ is_some o
        mapped f None = refl
        mapped f (Some x) = refl

    pub tears_are : IsStrictlySortedBy row_cmp (set.keys tears) → set.keys tears ≡ unfinished table a
    tears_are sorted = rising_is (set.keys tears) _ sorted has_tears

    module _ (sorted : IsStrictlySortedBy row_cmp (set.keys tears)) (torn : set.BTreeSet (List ℕ)) (both : (q : List ℕ)
        → set.contains row_cmp torn q ≡ (set.contains row_cmp it.torn q || set.contains row_cmp tears q)) where
      pub torn_are : KeepsTorn table (with_all_torn table (unfinished table a) a.torn) torn
      torn_are q =
          all_torn q (unfinished table a) a.torn
          ∙ (ap (λ (b : Bool). has q (unfinished table a) || b) (keeps.torn q)
          ∙ (ap (λ (l : List (List ℕ)). has q l || set.contains row_cmp it.torn q) (sym (tears_are sorted)) ∙ (swap (has q (set.keys tears)) (set.contains row_cmp it.torn q) ∙ sym (both q))))
        where
          swap : (b c : Bool) → (b || c) ≡ (c || b)
          swap true true = refl
          swap true false = refl
          swap false true = refl
          swap false false = refl

      pub asks_are : IsStrictlySortedBy row_cmp (set.keys torn) → set.keys torn ≡ torn_rows table (asking table a)
      asks_are rising = rising_is (set.keys torn) _ rising (λ q. sym (torn_ones q (with_all_torn table (unfinished table a) a.torn) ∙ torn_are q))

      pub asked : KeepsTable table (asking table a) (record { pull = None; rows = it.rows; torn = torn })
      asked = record { pull = none_left (is_of_table table) a.pulls; rows = keeps.rows; torn = torn_are }

-- ---- where nothing is kept, nothing is asked for

none_sorted : IsStrictlySortedBy row_cmp []
unfolding IsStrictlySortedBy
none_sorted = tt

module _ (table : ℕ) (a : Arriving) (h : HasNothing table a) where
  none_has : (q : List ℕ) → has q (map (λ (x : Answering). x.row.row) (filter (is_of_table table) a.pulls) ++ map (λ (x : WholeRow). x.head.row) (filter (λ
      (x : WholeRow). x.head.table == table) a.rows)) ≡ false
  none_has q =
      ap (λ (l : List Answering). has q (map (λ (x : Answering). x.row.row) l ++ map (λ (x : WholeRow). x.head.row) (filter (λ (x : WholeRow). x.head.table == table) a.rows))) h.pull
      ∙ (asked_rows table q a.rows ∙ ap is_some (h.rows q))

  pub no_tears : [] ≡ unfinished table a
  no_tears = rising_is [] _ none_sorted (λ q. sym (none_has q))

  none_torn : (q : List ℕ) → list_any (same_torn table q) (with_all_torn table (unfinished table a) a.torn) ≡ false
  none_torn q =
      all_torn table q (unfinished table a) a.torn
      ∙ (ap (λ (b : Bool). has q (unfinished table a) || b) (h.torn q) ∙ ap (λ (l : List (List ℕ)). has q l || false) (sym no_tears))

  pub no_asks : [] ≡ torn_rows table (asking table a)
  no_asks = rising_is [] _ none_sorted (λ q. sym (torn_ones table q (with_all_torn table (unfinished table a) a.torn) ∙ none_torn q))

  pub still_none : HasNothing table (asking table a)
  still_none = record { pull = none_left (is_of_table table) a.pulls; rows = h.rows; torn = none_torn }

-- ---- sets of rows, one more row at a time

module _ (q row : List ℕ) where
  pub one_added : (next : List (List ℕ)) (new old target : Bool) → new ≡ cond (is_at (row_cmp row) q) true old → (old || has q (row ∷ next)) ≡ target → (new || has q next) ≡ target
  one_added next new old target is so_far = ap (λ (b : Bool). b || has q next) (is ∙ ap (λ (b : Bool). cond b true old) (turned row q)) ∙ (swap (same_row q row) old (has q next) ∙ so_far)
    where
      swap : (a b c : Bool) → (cond a true b || c) ≡ (b || (a || c))
      swap true true c = refl
      swap true false c = refl
      swap false b c = refl

  pub one_put : (new old : Bool) → new ≡ cond (is_at (row_cmp row) q) true old → new ≡ (old || is_at (row_cmp q) row)
  one_put new old is = is ∙ (ap (λ (b : Bool). cond b true old) (turned row q) ∙ either (same_row q row) old)
    where
      either : (a b : Bool) → cond a true b ≡ (b || a)
      either true true = refl
      either true false = refl
      either false true = refl
      either false false = refl

pub all_added : (q : List ℕ) (left : List (List ℕ)) (new target : Bool) → left ≡ [] → (new || has q left) ≡ target → new ≡ target
all_added q left new target none so_far = sym (or_false new) ∙ (ap (λ (l : List (List ℕ)). new || has q l) (sym none) ∙ so_far)
  where
    or_false : (b : Bool) → (b || false) ≡ b
    or_false true = refl
    or_false false = refl
