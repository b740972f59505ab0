-- What a binary search finds among chunks that rise.
use Rattle.std.proofs.Common.{true, false, ◌≡◌, ℕ, zero, suc, ◌<◌, ◌≤◌, List, [], ◌∷◌, get_or, arith, inl, inr}
use Rattle.std.specs.declared.cmp.Ordering.{Ordering}
use Rattle.std.specs.declared.cmp.Ordering.TheVariants.{Less, Equal, Greater}
use Rattle.std.specs.Ordering.{nat_cmp, ordering_then, ordering_index}
use Rattle.std.specs.List.Sorted.{IsNonDecreasingBy, IsPartitionPoint}
use Rattle.std.proofs.lemmas.Bool.{cases_lt}
use Rattle.std.proofs.lemmas.Bool.Decides.{nat_tests}
use Rattle.assemblies.specs.declared.awaiting.Awaited.{Awaited}
use Rattle.assemblies.specs.Places.{IsBefore, Rises}
use Rattle.assemblies.specs.Gathering.{stands_at, NoneStands}
use Rattle.assemblies.proofs.Listing.{at_index, by_index}

module _ (column place : ℕ) where
  -- how a chunk stands to the place
  abbrev pub order_at : Awaited → Ordering
  order_at it = ordering_then (nat_cmp it.column column) (nat_cmp it.place place)

  rank_rises : (a b : Awaited) → IsBefore a b → ordering_index (order_at a) ≤ ordering_index (order_at b)
  rank_rises a b (inl h) = grind (arith, nat_tests)
  rank_rises a b (inr h) = let column : a.column ≡ b.column = h.0 in let place : a.place < b.place = h.1 in grind (arith, nat_tests)

  pub ranks_rise : (list : List Awaited) → Rises list → IsNonDecreasingBy (λ it. ordering_index (order_at it)) list
  ranks_rise [] rises i j d le lt = absurd (omega (arith, lt))
  ranks_rise (a ∷ list) rises zero zero d le lt = omega arith
  ranks_rise (a ∷ list) rises zero (suc j) d le lt = rank_rises a (get_or list j d) (at_index (λ b. IsBefore a b) list rises.0 j d (omega (arith, lt)))
  ranks_rise (a ∷ list) rises (suc i) zero d le lt = absurd (omega (arith, le))
  ranks_rise (a ∷ list) rises (suc i) (suc j) d le lt = ranks_rise list rises.1 i j d (omega (arith, le)) (omega (arith, lt))

  pub equal_stands : (it : Awaited) → order_at it ≡ Equal → stands_at column place it ≡ true
  equal_stands it e = grind (arith, nat_tests)

  less_not : (it : Awaited) → order_at it ≡ Less → stands_at column place it ≡ false
  less_not it e = grind (arith, nat_tests)

  greater_not : (it : Awaited) → order_at it ≡ Greater → stands_at column place it ≡ false
  greater_not it e = grind (arith, nat_tests)

  pub none_stands : (list : List Awaited) (n : ℕ) → IsPartitionPoint (λ it. order_at it ≡ Less) (λ it. order_at it ≡ Greater) list n → NoneStands column place list
  none_stands list n parted = by_index (λ it. stands_at column place it ≡ false) list (λ i d h. elim (cases_lt i n) [
    | inl below ↦ less_not (get_or list i d) (parted.0 i d (omega arith) below)
    | inr above ↦ greater_not (get_or list i d) (parted.1 i d above h)
  ])
