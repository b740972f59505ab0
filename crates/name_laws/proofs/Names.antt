-- Names of chunks: members of lists, lists of names that lack some, and names in rising order.
use Rattle.std.proofs.Common.{◌≡◌, ◌⊎◌, inl, inr, ⊎_elim, ℕ, suc, ◌≤◌, Bool, true, false, cond, List, [], ◌∷◌, ◌++◌, length, refl, sym, ◌∙◌, ap, subst, arith, true≢false}
use Rattle.std.specs.Prelude.{◌||◌, not, filter, map}
use Rattle.std.specs.List.{AllByRecursion, list_any, list_all}
use Rattle.std.specs.declared.cmp.Ordering.{Ordering}
use Rattle.std.specs.declared.cmp.Ordering.TheVariants.{Less, Equal, Greater}
use Rattle.std.specs.Ordering.{nat_cmp, ordering_then, match_ordering}
use Rattle.std.specs.BTreeMap.{insert_entry}
use Rattle.std.specs.BTreeSet.{insert_key}
use Rattle.std.proofs.lemmas.Bool.{and_parts}
use Rattle.std.proofs.lemmas.Bool.Decides.{nat_tests}
use Rattle.stab_base.specs.declared.chunk_name.ChunkName.{ChunkName}
use Rattle.step_tables.specs.Chunks.{name_cmp, same_name, is_among, without_names, rising}
use Rattle.world_tables.specs.Chunks.{IsBefore, Rise}

-- ---- members of lists

abbrev pub Among : {X : Type 0} → X → List X → Type 0
Among x [] = ⊥
Among x (y ∷ ys) = (x ≡ y) ⊎ Among x ys

-- each once
abbrev pub AreDifferent : {X : Type 0} → List X → Type 0
AreDifferent [] = Unit {0}
AreDifferent (x ∷ xs) = (Among x xs → ⊥) × AreDifferent xs

pub left_among : {X : Type 0} (x : X) (xs ys : List X) → Among x xs → Among x (xs ++ ys)
left_among x [] ys a = absurd a
left_among x (y ∷ xs) ys (inl same) = inl same
left_among x (y ∷ xs) ys (inr more) = inr (left_among x xs ys more)

pub right_among : {X : Type 0} (x : X) (xs ys : List X) → Among x ys → Among x (xs ++ ys)
right_among x [] ys a = a
right_among x (y ∷ xs) ys a = inr (right_among x xs ys a)

pub either_among : {X : Type 0} (x : X) (xs ys : List X) → Among x (xs ++ ys) → Among x xs ⊎ Among x ys
either_among x [] ys a = inr a
either_among x (y ∷ xs) ys (inl same) = inl (inl same)
either_among x (y ∷ xs) ys (inr more) = ⊎_elim (λ l. inl (inr l)) (λ r. inr r) (either_among x xs ys more)

pub mapped_among : {X Y : Type 0} (f : X → Y) (x : X) (xs : List X) → Among x xs → Among (f x) (map f xs)
mapped_among f x [] a = absurd a
mapped_among f x (y ∷ xs) (inl same) = inl (ap f same)
mapped_among f x (y ∷ xs) (inr more) = inr (mapped_among f x xs more)

pub among_mapped : {X Y : Type 0} (f : X → Y) (y : Y) (xs : List X) → Among y (map f xs) → (x : X) × Among x xs × (y ≡ f x)
among_mapped f y [] a = absurd a
among_mapped f y (x ∷ xs) (inl same) = (x, inl refl, same)
among_mapped f y (x ∷ xs) (inr more) = let r = among_mapped f y xs more in (r.0, inr r.1, r.2)

pub none_among : {X : Type 0} (xs : List X) → ((x : X) → Among x xs → ⊥) → xs ≡ []
none_among [] none = refl
none_among (x ∷ xs) none = absurd (none x (inl refl))

pub among_filter : {X : Type 0} (p : X → Bool) (q : X) (xs : List X) → Among q (filter p xs) → (p q ≡ true) × Among q xs
among_filter p q [] h = absurd h
among_filter {X} p q (x ∷ xs) h = pick (among_filter p q xs) (p x) refl h
  where
    pick : (Among q (filter p xs) → (p q ≡ true) × Among q xs) → (b : Bool) → p x ≡ b → Among q (cond b (x ∷ filter p xs) (filter p xs)) → (p q ≡ true) × Among q (x ∷ xs)
    pick go true is a = ⊎_elim (λ same. (ap p same ∙ is, inl same)) (λ more. let r = go more in (r.0, inr r.1)) a
    pick go false is a = let r = go a in (r.0, inr r.1)

pub filter_among : {X : Type 0} (p : X → Bool) (q : X) (xs : List X) → p q ≡ true → Among q xs → Among q (filter p xs)
filter_among p q [] is h = absurd h
filter_among {X} p q (x ∷ xs) is h = pick (filter_among p q xs is) (p x) refl h
  where
    pick : (Among q xs → Among q (filter p xs)) → (b : Bool) → p x ≡ b → Among q (x ∷ xs) → Among q (cond b (x ∷ filter p xs) (filter p xs))
    pick go true at a = ⊎_elim (λ same. inl same) (λ more. inr (go more)) a
    pick go false at a = ⊎_elim (λ same. absurd (true≢false (sym is ∙ (ap p same ∙ at)))) go a

pub different_filter : {X : Type 0} (p : X → Bool) (xs : List X) → AreDifferent xs → AreDifferent (filter p xs)
different_filter p [] d = tt
different_filter {X} p (x ∷ xs) d = pick (p x) (different_filter p xs d.1)
  where
    pick : (b : Bool) → AreDifferent (filter p xs) → AreDifferent (cond b (x ∷ filter p xs) (filter p xs))
    pick true more = ((λ a. d.0 (among_filter p x xs a).1), more)
    pick false more = more

-- ---- tests of lists

pub any_true : {X : Type 0} (p : X → Bool) (x : X) (xs : List X) → Among x xs → p x ≡ true → list_any p xs ≡ true
any_true p x [] a is = absurd a
any_true p x (y ∷ xs) (inl same) is = or_left (p y) (list_any p xs) (ap p (sym same) ∙ is)
  where
    or_left : (a b : Bool) → a ≡ true → (a || b) ≡ true
    or_left true b e = refl
    or_left false b e = absurd cc
any_true p x (y ∷ xs) (inr more) is = or_right (p y) (list_any p xs) (any_true p x xs more is)
  where
    or_right : (a b : Bool) → b ≡ true → (a || b) ≡ true
    or_right true b e = refl
    or_right false b e = e

pub true_any : {X : Type 0} (p : X → Bool) (xs : List X) → list_any p xs ≡ true → (x : X) × Among x xs × (p x ≡ true)
true_any p [] is = absurd cc
true_any {X} p (y ∷ xs) is = pick (λ more. true_any p xs more) (p y) refl is
  where
    pick : (list_any p xs ≡ true → (x : X) × Among x xs × (p x ≡ true)) → (b : Bool) → p y ≡ b → (b || list_any p xs) ≡ true → (x : X) × Among x (y ∷ xs) × (p x ≡ true)
    pick rest true here e = (y, inl refl, here)
    pick rest false here e = let r = rest e in (r.0, inr r.1, r.2)

pub all_true : {X : Type 0} (p : X → Bool) (x : X) (xs : List X) → Among x xs → list_all p xs ≡ true → p x ≡ true
all_true p x [] a is = absurd a
all_true p x (y ∷ xs) (inl same) is = ap p same ∙ (and_parts (p y) (list_all p xs) is).0
all_true p x (y ∷ xs) (inr more) is = all_true p x xs more (and_parts (p y) (list_all p xs) is).1

-- ---- lists of different members are as long as each other where they have the same ones

-- a list with one member taken out
pub record IsTakenOut {X : Type 0} (x : X) (xs : List X) : Type 0 where
  pub rest : List X
  pub counted : length xs ≡ suc (length rest)
  pub kept : (q : X) → Among q xs → (q ≡ x) ⊎ Among q rest

take_out : {X : Type 0} (x : X) (xs : List X) → Among x xs → IsTakenOut x xs
take_out x [] a = absurd a
take_out x (y ∷ xs) (inl same) = record { rest = xs; counted = refl; kept = λ q a. ⊎_elim (λ e. inl (e ∙ sym same)) (λ more. inr more) a }
take_out x (y ∷ xs) (inr more) =
    let t = take_out x xs more in
    record { rest = y ∷ t.rest; counted = ap suc t.counted; kept = λ q a. ⊎_elim (λ e. inr (inl e)) (λ b. ⊎_elim (λ e. inl e) (λ c. inr (inr c)) (t.kept q b)) a }

pub no_longer : {X : Type 0} (xs ys : List X) → AreDifferent xs → ((q : X) → Among q xs → Among q ys) → length xs ≤ length ys
no_longer [] ys d to = omega arith
no_longer {X} (x ∷ xs) ys d to =
    let t = take_out x ys (to x (inl refl)) in
    let rest : length xs ≤ length t.rest = no_longer xs t.rest d.1
    (λ q a. ⊎_elim (λ e. absurd (d.0 (subst (λ (y : X). Among y xs) e a))) (λ b. b) (t.kept q (to q (inr a)))) in
    let counted = t.counted in
    omega arith

pub as_long : {X : Type 0} (xs ys : List X) → AreDifferent xs → AreDifferent ys → ((q : X) → Among q xs → Among q ys) → ((q : X) → Among q ys → Among q xs) → length xs ≡ length ys
as_long xs ys d e to from = let a = no_longer xs ys d to in let b = no_longer ys xs e from in omega arith

-- ---- the test of a name

pub same_is : (a b : ChunkName) → same_name a b ≡ true → a ≡ b
same_is a b is = grind (arith, nat_tests, is)

pub same_itself : (a : ChunkName) → same_name a a ≡ true
same_itself a = grind (arith, nat_tests)

pub in_names : (name : ChunkName) (names : List ChunkName) → Among name names → is_among names name ≡ true
in_names name [] a = absurd a
in_names name (n ∷ names) (inl same) =
    ap (λ (b : Bool). b || list_any (same_name name) names) (subst (λ (x : ChunkName). same_name name x ≡ true) same (same_itself name))
in_names name (n ∷ names) (inr more) = or_right (same_name name n) (list_any (same_name name) names) (in_names name names more)
  where
    or_right : (a b : Bool) → b ≡ true → (a || b) ≡ true
    or_right true b is = refl
    or_right false b is = is

-- ---- lists that lack some names

pub among_without : (gone names : List ChunkName) (name : ChunkName) → Among name (without_names gone names) → Among name names × (Among name gone → ⊥)
among_without gone names name a =
    let r = among_filter (λ (n : ChunkName). not (is_among gone n)) name names a in
    (r.1, λ in_gone. true≢false (sym r.0 ∙ ap not (in_names name gone in_gone)))

pub without_all : (gone names : List ChunkName) → ((name : ChunkName) → Among name names → Among name gone) → without_names gone names ≡ []
without_all gone names all = none_among (without_names gone names) (λ name a. let r = among_without gone names name a in r.1 (all name r.0))

-- ---- names in rising order

both_equal : (a b c d : ℕ) → ordering_then (nat_cmp a b) (nat_cmp c d) ≡ Equal → (a ≡ b) × (c ≡ d)
both_equal a b c d is = grind (arith, nat_tests)

-- names that compare as equal are one
equal_is : (a b : ChunkName) → name_cmp a b ≡ Equal → a ≡ b
equal_is a b is = let e = both_equal a.version b.version a.ordinal b.ordinal is in grind (arith, e.0, e.1)

less_before : (a b : ChunkName) → name_cmp a b ≡ Less → IsBefore a b
less_before a b is = grind (arith, nat_tests)

greater_before : (a b : ChunkName) → name_cmp a b ≡ Greater → IsBefore b a
greater_before a b is = grind (arith, nat_tests)

before_both : (a b c : ChunkName) → IsBefore a b → IsBefore b c → IsBefore a c
before_both a b c p q = grind (arith, p, q)

not_before_itself : (a : ChunkName) → IsBefore a a → ⊥
not_before_itself a (inl less) = absurd (omega arith)
not_before_itself a (inr e) = absurd (let less = e.1 in omega arith)

abbrev keys : List (ChunkName × Unit {0}) → List ChunkName
keys xs = map (λ (x : ChunkName × Unit {0}). x.0) xs

keys_insert : (es : List (ChunkName × Unit {0})) (k : ChunkName)
    → map (λ (e : ChunkName × Unit {0}). e.0) (insert_entry name_cmp es k tt) ≡ insert_key name_cmp (map (λ (e : ChunkName × Unit {0}). e.0) es) k
keys_insert [] k = refl
keys_insert (e ∷ es) k = pick (name_cmp k e.0) (keys_insert es k)
  where
    pick : (o : Ordering) → keys (insert_entry name_cmp es k tt) ≡ insert_key name_cmp (keys es) k
        → keys (match_ordering o ((k, tt) ∷ e ∷ es) ((e.0, tt) ∷ es) (e ∷ insert_entry name_cmp es k tt)) ≡ match_ordering o (k ∷ e.0 ∷ keys es) (e.0 ∷ keys es) (e.0 ∷ insert_key name_cmp (keys es) k)
    pick Less more = refl
    pick Equal more = refl
    pick Greater more = ap (λ (l : List ChunkName). e.0 ∷ l) more

pub rising_one : (name : ChunkName) (names : List ChunkName) → rising (name ∷ names) ≡ insert_key name_cmp (rising names) name
rising_one name names = keys_insert _ name

pub among_insert : (q k : ChunkName) (ks : List ChunkName) → Among q (insert_key name_cmp ks k) → (q ≡ k) ⊎ Among q ks
among_insert q k [] h = h
among_insert q k (x ∷ xs) h = pick (among_insert q k xs) (name_cmp k x) h
  where
    pick : (Among q (insert_key name_cmp xs k) → (q ≡ k) ⊎ Among q xs) → (o : Ordering) → Among q (match_ordering o (k ∷ x ∷ xs) (x ∷ xs) (x ∷ insert_key name_cmp xs k)) → (q ≡ k) ⊎ Among q (x ∷ xs)
    pick go Less a = a
    pick go Equal a = inr a
    pick go Greater a = ⊎_elim (λ same. inr (inl same)) (λ more. ⊎_elim (λ same. inl same) (λ rest. inr (inr rest)) (go more)) a

pub insert_among : (q k : ChunkName) (ks : List ChunkName) → (q ≡ k) ⊎ Among q ks → Among q (insert_key name_cmp ks k)
insert_among q k [] h = h
insert_among q k (x ∷ xs) h = pick (insert_among q k xs) (name_cmp k x) refl h
  where
    pick : ((q ≡ k) ⊎ Among q xs → Among q (insert_key name_cmp xs k)) → (o : Ordering) → name_cmp k x ≡ o → (q ≡ k) ⊎ Among q (x ∷ xs)
        → Among q (match_ordering o (k ∷ x ∷ xs) (x ∷ xs) (x ∷ insert_key name_cmp xs k))
    pick go Less is a = a
    pick go Equal is a = ⊎_elim (λ same. inl (same ∙ equal_is k x is)) (λ more. more) a
    pick go Greater is a = ⊎_elim (λ same. inr (go (inl same))) (λ more. ⊎_elim (λ same. inl same) (λ rest. inr (go (inr rest))) more) a

pub among_rising : (name : ChunkName) (names : List ChunkName) → Among name (rising names) → Among name names
among_rising name [] a = absurd a
among_rising name (n ∷ names) a =
    ⊎_elim (λ same. inl same) (λ more. inr (among_rising name names more)) (among_insert name n (rising names) (subst (λ (l : List ChunkName). Among name l) (rising_one n names) a))

pub rising_among : (name : ChunkName) (names : List ChunkName) → Among name names → Among name (rising names)
rising_among name [] a = absurd a
rising_among name (n ∷ names) a =
    subst (λ (l : List ChunkName). Among name l) (sym (rising_one n names)) (insert_among name n (rising names) (⊎_elim (λ same. inl same) (λ more. inr (rising_among name names more)) a))

before_all : (k x : ChunkName) (xs : List ChunkName) → IsBefore k x → AllByRecursion (IsBefore x) xs → AllByRecursion (IsBefore k) xs
before_all k x [] less all = tt
before_all k x (y ∷ ys) less all = (before_both k x y less all.0, before_all k x ys less all.1)

before_insert : (x k : ChunkName) (ks : List ChunkName) → IsBefore x k → AllByRecursion (IsBefore x) ks → AllByRecursion (IsBefore x) (insert_key name_cmp ks k)
before_insert x k [] less all = (less, tt)
before_insert x k (y ∷ ys) less all = pick (name_cmp k y) (before_insert x k ys less all.1)
  where
    pick : (o : Ordering) → AllByRecursion (IsBefore x) (insert_key name_cmp ys k)
        → AllByRecursion (IsBefore x) (match_ordering o (k ∷ y ∷ ys) (y ∷ ys) (y ∷ insert_key name_cmp ys k))
    pick Less more = (less, all)
    pick Equal more = all
    pick Greater more = (all.0, more)

insert_rises : (k : ChunkName) (ks : List ChunkName) → Rise ks → Rise (insert_key name_cmp ks k)
insert_rises k [] s = (tt, tt)
insert_rises k (x ∷ xs) s = pick (name_cmp k x) refl (insert_rises k xs s.1)
  where
    pick : (o : Ordering) → name_cmp k x ≡ o → Rise (insert_key name_cmp xs k) → Rise (match_ordering o (k ∷ x ∷ xs) (x ∷ xs) (x ∷ insert_key name_cmp xs k))
    pick Less is more = ((less_before k x is, before_all k x xs (less_before k x is) s.0), s)
    pick Equal is more = s
    pick Greater is more = (before_insert x k xs (greater_before k x is) s.0, more)

pub rising_rises : (names : List ChunkName) → Rise (rising names)
rising_rises [] = tt
rising_rises (n ∷ names) = subst (λ (l : List ChunkName). Rise l) (sym (rising_one n names)) (insert_rises n (rising names) (rising_rises names))

before_itself : (x q : ChunkName) (xs : List ChunkName) → AllByRecursion (IsBefore x) xs → Among q xs → IsBefore x q
before_itself x q [] all a = absurd a
before_itself x q (y ∷ xs) all (inl same) = subst (λ (n : ChunkName). IsBefore x n) (sym same) all.0
before_itself x q (y ∷ xs) all (inr more) = before_itself x q xs all.1 more

rising_apart : (names : List ChunkName) → Rise names → AreDifferent names
rising_apart [] r = tt
rising_apart (x ∷ xs) r = ((λ a. not_before_itself x (before_itself x x xs r.0 a)), rising_apart xs r.1)

pub different_rising : (names : List ChunkName) → AreDifferent (rising names)
different_rising names = rising_apart (rising names) (rising_rises names)
