-- Rows in the order of their ids, and a walk over keys among which each row is that counts.
use Rattle.std.proofs.Common.{◌≡◌, ◌⊎◌, inl, inr, ⊎_elim, ℕ, Bool, true, false, cond, List, [], ◌∷◌, Option, Some, None, refl, sym, ◌∙◌, ap, subst}
use Rattle.std.specs.Prelude.{◌||◌}
use Rattle.std.specs.declared.cmp.Ordering.{Ordering}
use Rattle.std.specs.declared.cmp.Ordering.TheVariants.{Less, Equal, Greater}
use Rattle.std.specs.Ordering.{is_eq, ordering_reverse}
use Rattle.std.specs.Cmp.{IsTotalOrder, eq_by_cmp_equiv}
use Rattle.std.specs.Cmp.Lexicographic.{nat_list_cmp_total}
use Rattle.std.specs.List.{list_any, AllByRecursion}
use Rattle.std.specs.List.Sorted.{IsStrictlySortedBy}
use Rattle.std.specs.Map.{lookup, keys_of}
use Rattle.std.specs.BTreeMap.{is_at}
use Rattle.std.proofs.lemmas.Map.Lookups.{exact_bytes}
use Rattle.slot_store.proofs.Keys.{equal_is}
use Rattle.step_tables.specs.Client.{row_cmp}
use Rattle.step_tables.specs.ClientMoves.{Slots, no_slots, or_none}

abbrev pub Rows : Type 0
Rows = List (List ℕ × Slots)

abbrev pub IsBelow : List ℕ → List (List ℕ) → Type 0
IsBelow k ks = AllByRecursion (λ (y : List ℕ). row_cmp k y ≡ Less) ks

-- the slots of a row
abbrev pub slots_in_rows : Rows → List ℕ → Slots
slots_in_rows rows k = or_none (lookup (is_at (row_cmp k)) rows)

same_id : (k : List ℕ) → row_cmp k k ≡ Equal
same_id k = equal_is (row_cmp k k) ((eq_by_cmp_equiv nat_list_cmp_total).refl k)

lower : (k q : List ℕ) (ks : List (List ℕ)) → row_cmp k q ≡ Less → IsBelow q ks → IsBelow k ks
lower k q [] is a = tt
lower k q (y ∷ ks) is a = (nat_list_cmp_total.trans k q y is a.0, lower k q ks is a.1)

-- no row is at a key below them
below_none : (k : List ℕ) (rows : Rows) → IsBelow k (keys_of rows) → lookup (is_at (row_cmp k)) rows ≡ None
below_none k [] b = refl
below_none k (e ∷ rows) b = ap (λ (o : Ordering). cond (is_eq o) (Some e.1) (lookup (is_at (row_cmp k)) rows)) b.0 ∙ below_none k rows b.1

below_not : (k : List ℕ) (ks : List (List ℕ)) → IsBelow k ks → list_any (is_at (row_cmp k)) ks ≡ false
below_not k [] b = refl
below_not k (y ∷ ks) b = ap (λ (o : Ordering). is_eq o || list_any (is_at (row_cmp k)) ks) b.0 ∙ below_not k ks b.1

-- a row is found, and behind it the others are
here_found : (e : List ℕ × Slots) (rows : Rows) → slots_in_rows (e ∷ rows) e.0 ≡ e.1
here_found e rows = ap (λ (o : Ordering). or_none (cond (is_eq o) (Some e.1) (lookup (is_at (row_cmp e.0)) rows))) (same_id e.0)

others_found : (e : List ℕ × Slots) (rows : Rows) (k : List ℕ) → is_at (row_cmp k) e.0 ≡ false → slots_in_rows (e ∷ rows) k ≡ slots_in_rows rows k
others_found e rows k apart = ap (λ (b : Bool). or_none (cond b (Some e.1) (lookup (is_at (row_cmp k)) rows))) apart

above_not : (e k : List ℕ) → row_cmp e k ≡ Less → is_at (row_cmp k) e ≡ false
above_not e k less = ap is_eq (nat_list_cmp_total.antisymm k e ∙ ap ordering_reverse less)

is_same : (k q : List ℕ) → is_at (row_cmp k) q ≡ true → k ≡ q
is_same k q is = exact_bytes k q (equal_is (row_cmp k q) is)

either_is : (a b : Bool) → (a || b) ≡ true → (a ≡ true) ⊎ (b ≡ true)
either_is true b e = inl refl
either_is false b e = inr e

module _ {M : Type 0} (f : List ℕ → Slots → M → M) (z : M) where
  abbrev pub over_rows : Rows → M
  over_rows [] = z
  over_rows (e ∷ rows) = f e.0 e.1 (over_rows rows)

  abbrev pub over_keys : Rows → List (List ℕ) → M
  over_keys rows [] = z
  over_keys rows (k ∷ ks) = f k (slots_in_rows rows k) (over_keys rows ks)

  -- a row that counts for nothing
  abbrev pub IsQuiet : List ℕ → Slots → Type 0
  IsQuiet k s = (m : M) → f k s m ≡ m

  abbrev pub AreNeeded : Rows → List (List ℕ) → Type 0
  AreNeeded rows ks = (r : List ℕ) → IsQuiet r (slots_in_rows rows r) ⊎ (list_any (is_at (row_cmp r)) ks ≡ true)

  module _ (quiet : (k : List ℕ) → IsQuiet k no_slots) where
    none_keys : (ks : List (List ℕ)) → z ≡ over_keys [] ks
    none_keys [] = refl
    none_keys (k ∷ ks) = none_keys ks ∙ sym (quiet k (over_keys [] ks))

    -- keys above a row find the rows behind it
    keys_behind : (e : List ℕ × Slots) (rows : Rows) (ks : List (List ℕ)) → IsBelow e.0 ks → over_keys (e ∷ rows) ks ≡ over_keys rows ks
    keys_behind e rows [] b = refl
    keys_behind e rows (k ∷ ks) b =
        ap (λ (s : Slots). f k s (over_keys (e ∷ rows) ks)) (others_found e rows k (above_not e.0 k b.0)) ∙ ap (f k (slots_in_rows rows k)) (keys_behind e rows ks b.1)

    quiet_at : (k : List ℕ) (s : Slots) → s ≡ no_slots → IsQuiet k s
    quiet_at k s is m = ap (λ (x : Slots). f k x m) is ∙ quiet k m

    module _ (e : List ℕ × Slots) (rows : Rows) (above : IsBelow e.0 (keys_of rows)) where
      -- what is needed of the rows behind
      needed_behind : (ks more : List (List ℕ)) → AreNeeded (e ∷ rows) ks → ((r : List ℕ) → is_at (row_cmp r) e.0 ≡ false → list_any (is_at (row_cmp r)) ks ≡ true → list_any (is_at (row_cmp r)) more ≡ true) → AreNeeded rows more
      needed_behind ks more needed keeps r = pick (is_at (row_cmp r) e.0) refl
        where
          pick : (b : Bool) → is_at (row_cmp r) e.0 ≡ b → IsQuiet r (slots_in_rows rows r) ⊎ (list_any (is_at (row_cmp r)) more ≡ true)
          pick true is =
              let none : lookup (is_at (row_cmp r)) rows ≡ None = below_none r rows (subst (λ (k : List ℕ). IsBelow k (keys_of rows)) (sym (is_same r e.0 is)) above) in
              inl (quiet_at r (slots_in_rows rows r) (ap or_none none))
          pick false apart = ⊎_elim (λ q. inl (subst (IsQuiet r) (others_found e rows r apart) q)) (λ any. inr (keeps r apart any)) (needed r)

      module _ (rec : (ks : List (List ℕ)) → IsStrictlySortedBy row_cmp ks → AreNeeded rows ks → over_rows rows ≡ over_keys rows ks) where
        -- the row isn't among the keys
        skipped : (ks : List (List ℕ)) → IsBelow e.0 ks → IsStrictlySortedBy row_cmp ks → AreNeeded (e ∷ rows) ks → over_rows (e ∷ rows) ≡ over_keys (e ∷ rows) ks
        skipped ks below sorted needed =
            let no : list_any (is_at (row_cmp e.0)) ks ≡ false = below_not e.0 ks below in
            let q : IsQuiet e.0 e.1 = ⊎_elim (λ q. subst (IsQuiet e.0) (here_found e rows) q) (λ any. let wrong : false ≡ true = sym no ∙ any in absurd cc) (needed e.0) in
            q (over_rows rows) ∙ (rec ks sorted (needed_behind ks ks needed (λ r n any. any)) ∙ sym (keys_behind e rows ks below))

        pub step : (ks : List (List ℕ)) → IsStrictlySortedBy row_cmp ks → AreNeeded (e ∷ rows) ks → over_rows (e ∷ rows) ≡ over_keys (e ∷ rows) ks
        unfolding IsStrictlySortedBy
        step [] sorted needed = skipped [] tt sorted needed
        step (k ∷ ks) sorted needed = pick (row_cmp k e.0) refl (step ks sorted.1)
          where
            pick : (o : Ordering) → row_cmp k e.0 ≡ o → (AreNeeded (e ∷ rows) ks → over_rows (e ∷ rows) ≡ over_keys (e ∷ rows) ks) → over_rows (e ∷ rows) ≡ over_keys (e ∷ rows) (k ∷ ks)
            pick Less is more =
                let none : lookup (is_at (row_cmp k)) (e ∷ rows) ≡ None = below_none k (e ∷ rows) (is, lower k e.0 (keys_of rows) is above) in
                let at : slots_in_rows (e ∷ rows) k ≡ no_slots = ap or_none none in
                more (λ r. ⊎_elim (λ q. inl q)
                (λ any. ⊎_elim (λ same. inl (quiet_at r (slots_in_rows (e ∷ rows) r) (ap (slots_in_rows (e ∷ rows)) (is_same r k same) ∙ at))) (λ later. inr later) (either_is (is_at (row_cmp r) k) (list_any (is_at (row_cmp r)) ks) any)) (needed r))
                ∙ sym (quiet_at k (slots_in_rows (e ∷ rows) k) at (over_keys (e ∷ rows) ks))
            pick Equal is more =
                let same : k ≡ e.0 = exact_bytes k e.0 is in
                let below : IsBelow e.0 ks = subst (λ (q : List ℕ). IsBelow q ks) same sorted.0 in
                let left : over_rows rows ≡ over_keys rows ks =
                rec ks sorted.1 (needed_behind (k ∷ ks) ks needed (λ r no any. ⊎_elim (λ at. let yes : is_at (row_cmp r) e.0 ≡ true = subst (λ (q : List ℕ). is_at (row_cmp r) q ≡ true) same at in let wrong : false ≡ true = sym no ∙ yes in absurd cc) (λ later. later) (either_is (is_at (row_cmp r) k) (list_any (is_at (row_cmp r)) ks) any))) in
                ap (f e.0 e.1) (left ∙ sym (keys_behind e rows ks below))
                ∙ (ap (λ (s : Slots). f e.0 s (over_keys (e ∷ rows) ks)) (sym (here_found e rows))
                ∙ ap (λ (q : List ℕ). f q (slots_in_rows (e ∷ rows) q) (over_keys (e ∷ rows) ks)) (sym same))
            pick Greater is more =
                let less : row_cmp e.0 k ≡ Less = nat_list_cmp_total.antisymm e.0 k ∙ ap ordering_reverse is in
                skipped (k ∷ ks) (less, lower e.0 k ks less sorted.0) sorted needed

    -- the rows, in their order, are the keys'
    pub walk : (rows : Rows) (ks : List (List ℕ)) → IsStrictlySortedBy row_cmp (keys_of rows) → IsStrictlySortedBy row_cmp ks → AreNeeded rows ks → over_rows rows ≡ over_keys rows ks
    unfolding IsStrictlySortedBy
    walk [] ks rising sorted needed = none_keys ks
    walk (e ∷ rows) ks rising sorted needed = step e rows rising.0 (λ more s n. walk rows more rising.1 s n) ks sorted needed
