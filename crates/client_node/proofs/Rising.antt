-- Entries in the order of their keys, one put in its place.
use Rattle.std.proofs.Common.{◌≡◌, List, [], ◌∷◌, refl, ap, ◌∙◌}
use Rattle.std.specs.declared.cmp.Ordering.{Ordering}
use Rattle.std.specs.declared.cmp.Ordering.TheVariants.{Less, Equal, Greater}
use Rattle.std.specs.Ordering.{match_ordering, ordering_reverse}
use Rattle.std.specs.Cmp.{IsTotalOrder}
use Rattle.std.specs.List.{AllByRecursion}
use Rattle.std.specs.List.Sorted.{IsStrictlySortedBy}
use Rattle.std.specs.Map.{keys_of}
use Rattle.std.specs.BTreeMap.{insert_entry}

module _ {K : Type 0} {R : K → K → Ordering} (o : IsTotalOrder R) where
  lower : (k q : K) (ks : List K) → R k q ≡ Less → AllByRecursion (λ y. R q y ≡ Less) ks → AllByRecursion (λ y. R k y ≡ Less) ks
  lower k q [] is a = tt
  lower k q (y ∷ ks) is a = (o.trans k q y is a.0, lower k q ks is a.1)

module _ {K V : Type 0} {R : K → K → Ordering} (o : IsTotalOrder R) where
  all_insert : (P : K → Type 0) (es : List (K × V)) (k : K) (v : V) → AllByRecursion P (keys_of es) → P k → AllByRecursion P (keys_of (insert_entry R es k v))
  all_insert P [] k v a p = (p, tt)
  all_insert P (e ∷ es) k v a p = go (R k e.0) (all_insert P es k v a.1 p)
    where
      go : (r : Ordering) → AllByRecursion P (keys_of (insert_entry R es k v))
          → AllByRecursion P (keys_of (match_ordering r ((k, v) ∷ e ∷ es) ((e.0, v) ∷ es) (e ∷ insert_entry R es k v)))
      go Less more = (p, a)
      go Equal more = a
      go Greater more = (a.0, more)

  pub sorted_insert : (es : List (K × V)) (k : K) (v : V) → IsStrictlySortedBy R (keys_of es) → IsStrictlySortedBy R (keys_of (insert_entry R es k v))
  unfolding IsStrictlySortedBy
  sorted_insert [] k v s = (tt, tt)
  sorted_insert (e ∷ es) k v s = go (R k e.0) refl (sorted_insert es k v s.1)
    where
      go : (r : Ordering) → R k e.0 ≡ r → IsStrictlySortedBy R (keys_of (insert_entry R es k v))
          → IsStrictlySortedBy R (keys_of (match_ordering r ((k, v) ∷ e ∷ es) ((e.0, v) ∷ es) (e ∷ insert_entry R es k v)))
      go Less is more = ((is, lower o k e.0 (keys_of es) is s.0), s)
      go Equal is more = s
      go Greater is more = (all_insert (λ q. R e.0 q ≡ Less) es k v s.0 (o.antisymm e.0 k ∙ ap ordering_reverse is), more)
