-- The numbers of a world's tables, in rising order: a change of one that is there leaves them as they are.
use Rattle.std.proofs.Common.{◌≡◌, ⊎_elim, ℕ, ◌<◌, ◌≤◌, List, [], ◌∷◌, refl, sym, ◌∙◌, ap, subst, arith}
use Rattle.std.specs.List.{AllByRecursion}
use Rattle.std.specs.declared.cmp.Ordering.{Ordering}
use Rattle.std.specs.declared.cmp.Ordering.TheVariants.{Less, Equal, Greater}
use Rattle.std.specs.Ordering.{nat_cmp, match_ordering}
use Rattle.std.specs.Map.{keys_of}
use Rattle.std.specs.BTreeMap.{insert_entry}
use Rattle.std.specs.BTreeSet.{insert_key}
use Rattle.std.proofs.lemmas.Bool.Decides.{nat_tests}
use Rattle.step_tables.specs.Members.{Among}
use Rattle.step_tables.proofs.Lists.{among_none, among_cons}

abbrev pub AreRising : List ℕ → Type 0
AreRising [] = Unit {0}
AreRising (x ∷ xs) = AllByRecursion (λ y. x < y) xs × AreRising xs

keys_insert : {V : Type 0} (es : List (ℕ × V)) (k : ℕ) (v : V) → keys_of (insert_entry nat_cmp es k v) ≡ insert_key nat_cmp (keys_of es) k
keys_insert [] k v = refl
keys_insert {V} (e ∷ es) k v = pick (nat_cmp k e.0) (keys_insert es k v)
  where
    pick : (o : Ordering) → keys_of (insert_entry nat_cmp es k v) ≡ insert_key nat_cmp (keys_of es) k
        → keys_of (match_ordering o ((k, v) ∷ e ∷ es) ((e.0, v) ∷ es) (e ∷ insert_entry nat_cmp es k v))
        ≡ match_ordering o (k ∷ e.0 ∷ keys_of es) (e.0 ∷ keys_of es) (e.0 ∷ insert_key nat_cmp (keys_of es) k)
    pick Less more = refl
    pick Equal more = refl
    pick Greater more = ap (λ (l : List ℕ). e.0 ∷ l) more

less_is : (k x : ℕ) → nat_cmp k x ≡ Less → k < x
less_is k x is = grind (arith, nat_tests)

equal_is : (k x : ℕ) → nat_cmp k x ≡ Equal → k ≡ x
equal_is k x is = grind (arith, nat_tests)

greater_is : (k x : ℕ) → nat_cmp k x ≡ Greater → x < k
greater_is k x is = grind (arith, nat_tests)

all_above : (k x : ℕ) (xs : List ℕ) → k < x → AllByRecursion (λ y. x < y) xs → AllByRecursion (λ y. k < y) xs
all_above k x [] less all = tt
all_above k x (y ∷ ys) less all = (let first = all.0 in omega arith, all_above k x ys less all.1)

above_insert : (x k : ℕ) (ks : List ℕ) → x < k → AllByRecursion (λ y. x < y) ks → AllByRecursion (λ y. x < y) (insert_key nat_cmp ks k)
above_insert x k [] less all = (less, tt)
above_insert x k (y ∷ ys) less all = pick (nat_cmp k y) (above_insert x k ys less all.1)
  where
    pick : (o : Ordering) → AllByRecursion (λ z. x < z) (insert_key nat_cmp ys k) → AllByRecursion (λ z. x < z) (match_ordering o (k ∷ y ∷ ys) (y ∷ ys) (y ∷ insert_key nat_cmp ys k))
    pick Less more = (less, all)
    pick Equal more = all
    pick Greater more = (all.0, more)

insert_rises : (k : ℕ) (ks : List ℕ) → AreRising ks → AreRising (insert_key nat_cmp ks k)
insert_rises k [] s = (tt, tt)
insert_rises k (x ∷ xs) s = pick (nat_cmp k x) refl (insert_rises k xs s.1)
  where
    pick : (o : Ordering) → nat_cmp k x ≡ o → AreRising (insert_key nat_cmp xs k) → AreRising (match_ordering o (k ∷ x ∷ xs) (x ∷ xs) (x ∷ insert_key nat_cmp xs k))
    pick Less is more = ((less_is k x is, all_above k x xs (less_is k x is) s.0), s)
    pick Equal is more = s
    pick Greater is more = (above_insert x k xs (greater_is k x is) s.0, more)

pub insert_keys_rise : {V : Type 0} (es : List (ℕ × V)) (k : ℕ) (v : V) → AreRising (keys_of es) → AreRising (keys_of (insert_entry nat_cmp es k v))
insert_keys_rise es k v s = subst AreRising (sym (keys_insert es k v)) (insert_rises k (keys_of es) s)

first_least : (x q : ℕ) (xs : List ℕ) → AllByRecursion (λ y. x < y) xs → Among xs q → x < q
first_least x q [] all a = absurd (among_none q a)
first_least x q (y ∷ xs) all a = ⊎_elim (λ e. let first = all.0 in omega arith) (λ b. first_least x q xs all.1 b) (among_cons y xs q a)

there_stays : (k : ℕ) (ks : List ℕ) → AreRising ks → Among ks k → insert_key nat_cmp ks k ≡ ks
there_stays k [] s a = absurd (among_none k a)
there_stays k (x ∷ xs) s a = pick (nat_cmp k x) refl (λ b. there_stays k xs s.1 b)
  where
    low : Among (x ∷ xs) k → x ≤ k
    low b = ⊎_elim (λ e. omega arith) (λ more. let less = first_least x k xs s.0 more in omega arith) (among_cons x xs k b)

    pick : (o : Ordering) → nat_cmp k x ≡ o → (Among xs k → insert_key nat_cmp xs k ≡ xs) → match_ordering o (k ∷ x ∷ xs) (x ∷ xs) (x ∷ insert_key nat_cmp xs k) ≡ x ∷ xs
    pick Less is more = absurd (let less = less_is k x is in let least = low a in omega arith)
    pick Equal is more = refl
    pick Greater is more = ⊎_elim (λ e. absurd (let less = greater_is k x is in omega arith)) (λ b. ap (λ (l : List ℕ). x ∷ l) (more b)) (among_cons x xs k a)

pub keys_stay : {V : Type 0} (es : List (ℕ × V)) (k : ℕ) (v : V) → AreRising (keys_of es) → Among (keys_of es) k → keys_of (insert_entry nat_cmp es k v) ≡ keys_of es
keys_stay es k v s a = keys_insert es k v ∙ there_stays k (keys_of es) s a
