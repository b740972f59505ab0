-- Names of chunks: the tests of two models agree, lists of names that lack some, and names in rising order.
use Rattle.std.proofs.Common.{◌≡◌, inl, inr, ⊎_elim, ◌⊎◌, Bool, true, false, cond, List, [], ◌∷◌, ◌++◌, refl, sym, ◌∙◌, ap, subst, true≢false}
use Rattle.std.specs.Prelude.{◌||◌, not, filter, map}
use Rattle.std.specs.List.{AllByRecursion, list_any}
use Rattle.std.specs.List.Sorted.{IsStrictlySortedBy}
use Rattle.std.specs.declared.cmp.Ordering.{Ordering}
use Rattle.std.specs.declared.cmp.Ordering.TheVariants.{Less, Equal, Greater}
use Rattle.std.specs.Ordering.{nat_cmp, is_eq, match_ordering, ordering_reverse}
use Rattle.std.specs.Cmp.{IsTotalOrder, nat_cmp_total, unsigned_tied, both_tied}
use Rattle.std.specs.BTreeMap.{insert_entry, is_at}
use Rattle.std.specs.BTreeSet.{insert_key}
use Rattle.std.proofs.lemmas.Cmp.{then_total, on_total}
use Rattle.stab_base.specs.declared.chunk_name.ChunkName.{ChunkName}
use Rattle.chunk_store.specs.Payload.{name_cmp}
use Rattle.store_commit.specs.NamedChunks.{Among, AreDifferent}
use Rattle.store_commit.specs.NamedChunks.{is_among}
use Rattle.store_commit.proofs.Lookups.{name_itself}
use Rattle.store_commit.proofs.Leftovers.{among_filter, filter_among, among_insert, insert_among, rising_different}
use Rattle.store_commit.proofs.Replacing.{among_not, not_among}
use Rattle.step_tables.specs.Chunks.{same_name, without_names, rising}
use Rattle.step_tables.specs.Chunks as chunks

-- ---- members of lists

pub left_among : {X : Type 0} (x : X) (xs ys : List X) → Among x xs → Among x (xs ++ ys)
left_among x [] ys a = absurd a
left_among x (y ∷ xs) ys (inl same) = inl same
left_among x (y ∷ xs) ys (inr more) = inr (left_among x xs ys more)

pub right_among : {X : Type 0} (x : X) (xs ys : List X) → Among x ys → Among x (xs ++ ys)
right_among x [] ys a = a
right_among x (y ∷ xs) ys a = inr (right_among x xs ys a)

pub either_among : {X : Type 0} (x : X) (xs ys : List X) → Among x (xs ++ ys) → Among x xs ⊎ Among x ys
either_among x [] ys a = inr a
either_among x (y ∷ xs) ys (inl same) = inl (inl same)
either_among x (y ∷ xs) ys (inr more) = ⊎_elim (λ l. inl (inr l)) (λ r. inr r) (either_among x xs ys more)

pub mapped_among : {X Y : Type 0} (f : X → Y) (x : X) (xs : List X) → Among x xs → Among (f x) (map f xs)
mapped_among f x [] a = absurd a
mapped_among f x (y ∷ xs) (inl same) = inl (ap f same)
mapped_among f x (y ∷ xs) (inr more) = inr (mapped_among f x xs more)

pub among_mapped : {X Y : Type 0} (f : X → Y) (y : Y) (xs : List X) → Among y (map f xs) → (x : X) × Among x xs × (y ≡ f x)
among_mapped f y [] a = absurd a
among_mapped f y (x ∷ xs) (inl same) = (x, inl refl, same)
among_mapped f y (x ∷ xs) (inr more) = let r = among_mapped f y xs more in (r.0, inr r.1, r.2)

pub none_among : {X : Type 0} (xs : List X) → ((x : X) → Among x xs → ⊥) → xs ≡ []
none_among [] none = refl
none_among (x ∷ xs) none = absurd (none x (inl refl))

pub different_filter : {X : Type 0} (p : X → Bool) (xs : List X) → AreDifferent xs → AreDifferent (filter p xs)
different_filter p [] d = tt
different_filter {X} p (x ∷ xs) d = pick (p x) (different_filter p xs d.1)
  where
    pick : (b : Bool) → AreDifferent (filter p xs) → AreDifferent (cond b (x ∷ filter p xs) (filter p xs))
    pick true more = ((λ a. d.0 (among_filter p x xs a).1), more)
    pick false more = more

-- ---- the tests of a name

pub same_tests : (a b : ChunkName) → same_name a b ≡ is_at (name_cmp a) b
same_tests a b =
    both_tied _ _ (nat_cmp a.version b.version) (nat_cmp a.ordinal b.ordinal) (sym (unsigned_tied a.version b.version)) (sym (unsigned_tied a.ordinal b.ordinal))

pub among_tests : (name : ChunkName) (names : List ChunkName) → chunks.is_among names name ≡ is_among name names
among_tests name [] = refl
among_tests name (n ∷ names) =
    ap (λ (b : Bool). b || list_any (same_name name) names) (same_tests name n) ∙ ap (λ (b : Bool). is_at (name_cmp name) n || b) (among_tests name names)

pub in_names : (name : ChunkName) (names : List ChunkName) → Among name names → chunks.is_among names name ≡ true
in_names name names a = among_tests name names ∙ split (is_among name names) refl
  where
    split : (b : Bool) → is_among name names ≡ b → is_among name names ≡ true
    split true is = is
    split false is = absurd (among_not name names is a)

pub not_in_names : (name : ChunkName) (names : List ChunkName) → (Among name names → ⊥) → chunks.is_among names name ≡ false
not_in_names name names none = among_tests name names ∙ not_among name names none

-- ---- lists that lack some names

pub among_without : (gone names : List ChunkName) (name : ChunkName) → Among name (without_names gone names) → Among name names × (Among name gone → ⊥)
among_without gone names name a =
    let r = among_filter (λ (n : ChunkName). not (chunks.is_among gone n)) name names a in
    (r.1, λ in_gone. true≢false (sym r.0 ∙ ap not (in_names name gone in_gone)))

pub without_among : (gone names : List ChunkName) (name : ChunkName) → Among name names → (Among name gone → ⊥) → Among name (without_names gone names)
without_among gone names name a none = filter_among (λ (n : ChunkName). not (chunks.is_among gone n)) name names (ap not (not_in_names name gone none)) a

pub without_all : (gone names : List ChunkName) → ((name : ChunkName) → Among name names → Among name gone) → without_names gone names ≡ []
without_all gone names all = none_among (without_names gone names) (λ name a. let r = among_without gone names name a in r.1 (all name r.0))

-- ---- names in rising order

name_cmp_total : IsTotalOrder name_cmp
name_cmp_total = then_total (on_total (λ (name : ChunkName). name.version) nat_cmp_total) (on_total (λ (name : ChunkName). name.ordinal) nat_cmp_total)

abbrev keys : List (ChunkName × Unit {0}) → List ChunkName
keys xs = map (λ (x : ChunkName × Unit {0}). x.0) xs

keys_insert : (es : List (ChunkName × Unit {0})) (k : ChunkName)
    → map (λ (e : ChunkName × Unit {0}). e.0) (insert_entry name_cmp es k tt) ≡ insert_key name_cmp (map (λ (e : ChunkName × Unit {0}). e.0) es) k
keys_insert [] k = refl
keys_insert (e ∷ es) k = pick (name_cmp k e.0) (keys_insert es k)
  where
    pick : (o : Ordering) → keys (insert_entry name_cmp es k tt) ≡ insert_key name_cmp (keys es) k
        → keys (match_ordering o ((k, tt) ∷ e ∷ es) ((e.0, tt) ∷ es) (e ∷ insert_entry name_cmp es k tt)) ≡ match_ordering o (k ∷ e.0 ∷ keys es) (e.0 ∷ keys es) (e.0 ∷ insert_key name_cmp (keys es) k)
    pick Less more = refl
    pick Equal more = refl
    pick Greater more = ap (λ (l : List ChunkName). e.0 ∷ l) more

rising_one : (name : ChunkName) (names : List ChunkName) → rising (name ∷ names) ≡ insert_key name_cmp (rising names) name
rising_one name names = keys_insert _ name

pub among_rising : (name : ChunkName) (names : List ChunkName) → Among name (rising names) → Among name names
among_rising name [] a = absurd a
among_rising name (n ∷ names) a =
    ⊎_elim (λ same. inl same) (λ more. inr (among_rising name names more)) (among_insert name n (rising names) (subst (λ (l : List ChunkName). Among name l) (rising_one n names) a))

pub rising_among : (name : ChunkName) (names : List ChunkName) → Among name names → Among name (rising names)
rising_among name [] a = absurd a
rising_among name (n ∷ names) a =
    subst (λ (l : List ChunkName). Among name l) (sym (rising_one n names)) (insert_among name n (rising names) (⊎_elim (λ same. inl same) (λ more. inr (rising_among name names more)) a))

all_behind : (k x : ChunkName) (xs : List ChunkName) → name_cmp k x ≡ Less → AllByRecursion (λ y. name_cmp x y ≡ Less) xs → AllByRecursion (λ y. name_cmp k y ≡ Less) xs
all_behind k x [] less all = tt
all_behind k x (y ∷ ys) less all = (name_cmp_total.trans k x y less all.0, all_behind k x ys less all.1)

all_insert : (x k : ChunkName) (ks : List ChunkName) → name_cmp x k ≡ Less → AllByRecursion (λ y. name_cmp x y ≡ Less) ks → AllByRecursion (λ y. name_cmp x y ≡ Less) (insert_key name_cmp ks k)
all_insert x k [] less all = (less, tt)
all_insert x k (y ∷ ys) less all = pick (name_cmp k y) (all_insert x k ys less all.1)
  where
    pick : (o : Ordering) → AllByRecursion (λ z. name_cmp x z ≡ Less) (insert_key name_cmp ys k)
        → AllByRecursion (λ z. name_cmp x z ≡ Less) (match_ordering o (k ∷ y ∷ ys) (y ∷ ys) (y ∷ insert_key name_cmp ys k))
    pick Less more = (less, all)
    pick Equal more = all
    pick Greater more = (all.0, more)

sorted_insert : (k : ChunkName) (ks : List ChunkName) → IsStrictlySortedBy name_cmp ks → IsStrictlySortedBy name_cmp (insert_key name_cmp ks k)
unfolding IsStrictlySortedBy
sorted_insert k [] s = (tt, tt)
sorted_insert k (x ∷ xs) s = pick (name_cmp k x) refl (sorted_insert k xs s.1)
  where
    pick : (o : Ordering) → name_cmp k x ≡ o → IsStrictlySortedBy name_cmp (insert_key name_cmp xs k)
        → IsStrictlySortedBy name_cmp (match_ordering o (k ∷ x ∷ xs) (x ∷ xs) (x ∷ insert_key name_cmp xs k))
    pick Less is more = ((is, all_behind k x xs is s.0), s)
    pick Equal is more = s
    pick Greater is more = (all_insert x k xs (name_cmp_total.antisymm x k ∙ ap ordering_reverse is) s.0, more)

pub rising_sorted : (names : List ChunkName) → IsStrictlySortedBy name_cmp (rising names)
unfolding IsStrictlySortedBy
rising_sorted [] = tt
rising_sorted (n ∷ names) = subst (IsStrictlySortedBy name_cmp) (sym (rising_one n names)) (sorted_insert n (rising names) (rising_sorted names))

pub different_rising : (names : List ChunkName) → AreDifferent (rising names)
different_rising names = rising_different (rising names) (rising_sorted names)

-- ---- one list of given names in rising order

first_less : (x q : ChunkName) (xs : List ChunkName) → AllByRecursion (λ y. name_cmp x y ≡ Less) xs → Among q xs → name_cmp x q ≡ Less
first_less x q [] all a = absurd a
first_less x q (y ∷ xs) all (inl same) = ap (name_cmp x) same ∙ all.0
first_less x q (y ∷ xs) all (inr more) = first_less x q xs all.1 more

not_less_itself : (x : ChunkName) → name_cmp x x ≡ Less → ⊥
not_less_itself x less = let equal = name_itself x in let no_ : false ≡ true = sym (ap is_eq less) ∙ equal in true≢false (sym no_)

pub same_sorted : (xs ys : List ChunkName) → IsStrictlySortedBy name_cmp xs → IsStrictlySortedBy name_cmp ys → ((q : ChunkName) → Among q xs → Among q ys)
    → ((q : ChunkName) → Among q ys → Among q xs) → xs ≡ ys
unfolding IsStrictlySortedBy
same_sorted [] [] s t to from = refl
same_sorted [] (y ∷ ys) s t to from = absurd (from y (inl refl))
same_sorted (x ∷ xs) [] s t to from = absurd (to x (inl refl))
same_sorted (x ∷ xs) (y ∷ ys) s t to from =
    let first : x ≡ y = heads (to x (inl refl)) (from y (inl refl)) in
    let rest : xs ≡ ys = same_sorted xs ys s.1 t.1
    (λ q a. ⊎_elim (λ same. absurd (not_less_itself x (first_less x x xs s.0 (subst (λ (n : ChunkName). Among n xs) (same ∙ sym first) a)))) (λ more. more) (to q (inr a)))
    (λ q a. ⊎_elim (λ same. absurd (not_less_itself y (first_less y y ys t.0 (subst (λ (n : ChunkName). Among n ys) (same ∙ first) a)))) (λ more. more) (from q (inr a))) in
    cc
  where
    heads : (x ≡ y) ⊎ Among x ys → (y ≡ x) ⊎ Among y xs → x ≡ y
    heads (inl same) h = same
    heads (inr a) (inl same) = sym same
    heads (inr a) (inr b) = absurd (not_less_itself x (name_cmp_total.trans x y x (first_less x y xs s.0 b) (first_less y x ys t.0 a)))
