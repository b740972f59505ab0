-- Sets of row ids in rising order.
use Rattle.std.proofs.Common.{◌≡◌, inl, inr, ⊎_elim, ◌⊎◌, ℕ, ◌+◌, ◌<◌, ◌≤◌, List, [], ◌∷◌, ◌++◌, refl, sym, ◌∙◌, subst, arith}
use Rattle.std.specs.List.{Contains}
use Rattle.std.specs.declared.cmp.Ordering.{Ordering}
use Rattle.std.specs.declared.cmp.Ordering.TheVariants.{Less, Equal, Greater}
use Rattle.std.specs.Ordering.{match_ordering}
use Rattle.std.specs.BTreeSet.{insert_key}
use Rattle.std.proofs.lemmas.List.Elements.{Contains-append_left, Contains-append_right, Contains-push, Contains-push_cases, Contains-append_cases}
use Rattle.std.proofs.lemmas.Map.Lookups.{exact_bytes}
use Rattle.std.specs.List.Sorted.{IsStrictlySortedBy}
use Rattle.slot_store.specs.Data.{SlotData, id_cmp, AreRowsOf}
use Rattle.client_journal.specs.Asking.{HaveSameIds, HasRowMore}
use Rattle.client_journal.specs.Recover.{Among}

none_in : {X : Type 0} (x : X) → Contains [] x → ⊥
none_in x c = let lt = c.1 in absurd (omega arith)

pub among_of : {X : Type 0} (xs : List X) (x : X) → Contains xs x → Among x xs
among_of [] x c = none_in x c
among_of (y ∷ ys) x c =
    ⊎_elim
    (λ one. ⊎_elim (λ none. absurd (none_in x none)) (λ same. inl (sym same)) (Contains-push_cases [] y x one))
    (λ more. inr (among_of ys x more))
    (Contains-append_cases (y ∷ []) ys x c)

pub contains_of : {X : Type 0} (xs : List X) (x : X) → Among x xs → Contains xs x
contains_of [] x a = absurd a
contains_of (y ∷ ys) x a =
    ⊎_elim
    (λ same. Contains-append_left (y ∷ []) ys x (subst (λ z. Contains (z ∷ []) x) same (Contains-push [] x)))
    (λ more. Contains-append_right (y ∷ []) ys x (contains_of ys x more))
    a

among_insert : (q k : List ℕ) (ks : List (List ℕ)) → Among q (insert_key id_cmp ks k) → (q ≡ k) ⊎ Among q ks
among_insert q k [] h = h
among_insert q k (x ∷ xs) h = pick (among_insert q k xs) (id_cmp k x) h
  where
    pick : (Among q (insert_key id_cmp xs k) → (q ≡ k) ⊎ Among q xs) → (o : Ordering) → Among q (match_ordering o (k ∷ x ∷ xs) (x ∷ xs) (x ∷ insert_key id_cmp xs k)) → (q ≡ k) ⊎ Among q (x ∷ xs)
    pick go_ Less a = a
    pick go_ Equal a = inr a
    pick go_ Greater a = ⊎_elim (λ same. inr (inl same)) (λ more. ⊎_elim (λ same. inl same) (λ rest. inr (inr rest)) (go_ more)) a

insert_among : (q k : List ℕ) (ks : List (List ℕ)) → (q ≡ k) ⊎ Among q ks → Among q (insert_key id_cmp ks k)
insert_among q k [] h = h
insert_among q k (x ∷ xs) h = pick (insert_among q k xs) (id_cmp k x) refl h
  where
    pick : ((q ≡ k) ⊎ Among q xs → Among q (insert_key id_cmp xs k)) → (o : Ordering) → id_cmp k x ≡ o → (q ≡ k) ⊎ Among q (x ∷ xs)
        → Among q (match_ordering o (k ∷ x ∷ xs) (x ∷ xs) (x ∷ insert_key id_cmp xs k))
    pick go_ Less is a = a
    pick go_ Equal is a = ⊎_elim (λ same. inl (same ∙ exact_bytes k x is)) (λ more. more) a
    pick go_ Greater is a = ⊎_elim (λ same. inr (go_ (inl same))) (λ more. ⊎_elim (λ same. inl same) (λ rest. inr (go_ (inr rest))) more) a

pub same_none : HaveSameIds [] []
same_none = record { only = λ id c. c; all = λ id c. c }

pub same_more : (set list : List (List ℕ)) (row : List ℕ) → HaveSameIds set list → HaveSameIds (insert_key id_cmp set row) (list ++ row ∷ [])
same_more set list row s = record {
  only = λ id c.
      ⊎_elim
      (λ same. subst (λ (z : List ℕ). Contains (list ++ row ∷ []) z) (sym same) (Contains-push list row))
      (λ more. Contains-append_left list (row ∷ []) id (s.only id (contains_of set id more)))
      (among_insert id row set (among_of (insert_key id_cmp set row) id c));
  all = λ id c.
      contains_of (insert_key id_cmp set row) id
      (insert_among id row set (⊎_elim (λ old. inr (among_of set id (s.all id old))) (λ same. inl (sym same)) (Contains-push_cases list row id c)));
}

pub rows_more : (before after : SlotData) (table : ℕ) (rows made : List (List ℕ)) (row : List ℕ) → HasRowMore before after table row → HaveSameIds made (rows ++ row ∷ []) → IsStrictlySortedBy id_cmp made → AreRowsOf before table rows → AreRowsOf after table made
rows_more before after table rows made row more same rising are = record {
  rising = rising;
  only = λ id c. more.all id (⊎_elim (λ old. inl (are.only id old)) (λ is. inr (sym is)) (Contains-push_cases rows row id (same.only id c)));
  all = λ id some.
      same.all id (⊎_elim
      (λ old. Contains-append_left rows (row ∷ []) id (are.all id old))
      (λ is. subst (λ (z : List ℕ). Contains (rows ++ row ∷ []) z) (sym is) (Contains-push rows row))
      (more.only id some));
}
