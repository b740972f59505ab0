-- The first place at or after another is the owner's.
use Rattle.std.proofs.Common.{◌≡◌, ℕ, ◌<◌, ◌≤◌, ◌^◌, ◌⊎◌, inl, inr, true, false, true≢false, List, [], ◌∷◌, sym, ap, ◌∙◌, subst, arith}
use Rattle.std.specs.Prelude.{All, IfSome, slice_get}
use Rattle.std.specs.BTreeMap.Range.{IsLeBy}
use Rattle.std.specs.declared.ops.Bound.TheVariants.{Included, Unbounded}
use Rattle.std.specs.Ordering.{nat_cmp, is_gt}
use Rattle.std.specs.FinSet as set
use Rattle.std.specs.BTreeSet as tree
use Rattle.std.specs.BTreeSet.{BTreeSet}
use Rattle.std.proofs.lemmas.Bool.{cases_order}
use Rattle.std.proofs.lemmas.Bool.Decides.{nat_tests}
use Rattle.std.proofs.lemmas.List.Elements.{All-contains}
use Rattle.std.proofs.lemmas.Map.Views.{btree_set_contains_iff}
use Rattle.ring_map.specs.Place.{position_of, store_position, way, place_of, place_cmp}
use Rattle.ring_map.specs.Ring.{ComesFirst, IsOwner}
use Rattle.ring_map.proofs.Places.{IsPlaced, place_total, place_exact, no_later, at_or_after, begins_at}
use Rattle.ring_map.proofs.Rings.{stores_of, on_ring}

-- both ahead
both_ahead : (from a b s o : ℕ) → from ≤ a → from ≤ b → (a < b) ⊎ ((a ≡ b) × (s ≤ o)) → (way from a < way from b) ⊎ ((way from a ≡ way from b) × (s ≤ o))
both_ahead from a b s o at also (inl less) = inl (grind (arith, nat_tests))
both_ahead from a b s o at also (inr same) = inr (ap (way from) same.0, same.1)

-- both behind
both_behind : (from a b s o : ℕ) → a < from → b < from → from < 2 ^ 64 → (a < b) ⊎ ((a ≡ b) × (s ≤ o)) → (way from a < way from b) ⊎ ((way from a ≡ way from b) × (s ≤ o))
both_behind from a b s o at also fits (inl less) = inl (grind (arith, nat_tests))
both_behind from a b s o at also fits (inr same) = inr (ap (way from) same.0, same.1)

-- one ahead, the other behind
ahead : (from a b : ℕ) → a < 2 ^ 64 → from ≤ a → b < from → from < 2 ^ 64 → way from a < way from b
ahead from a b low at behind fits = grind (arith, nat_tests)

at_or_behind : (from a : ℕ) → (from ≤ a) ⊎ (a < from)
at_or_behind from a = elim (cases_order from a) [ inl same ↦ inl (omega arith) | inr (inl less) ↦ inl (omega arith) | inr (inr more) ↦ inr more ]

module _ (places : BTreeSet (ℕ × ℕ)) (all : All IsPlaced places.keys) where
  pub is_placed : (q : ℕ × ℕ) → tree.contains place_cmp places q ≡ true → IsPlaced q
  is_placed q there = All-contains IsPlaced places.keys q all ((btree_set_contains_iff place_total place_exact places q).0 there)

  -- a place in the tree is its Store's
  pub its_place : (p : ℕ × ℕ) → tree.contains place_cmp places p ≡ true → place_of p.1 ≡ p
  its_place p there = ap (λ (x : ℕ). (x, p.1)) (sym (is_placed p there).0)

  pub there_on_ring : (p : ℕ × ℕ) → tree.contains place_cmp places p ≡ true → set.contains (stores_of places) p.1 ≡ true
  there_on_ring p there = on_ring places all p.1 ∙ ap (tree.contains place_cmp places) (its_place p there) ∙ there

  -- a ring with a place is not the empty one
  pub not_empty : (p : ℕ × ℕ) → tree.contains place_cmp places p ≡ true → stores_of places ≡ set.empty → ⊥
  not_empty p there empty = true≢false (sym (there_on_ring p there) ∙ ap (λ s. set.contains s p.1) empty ∙ set.contains-empty nat_cmp p.1)

  in_tree : (other : ℕ) → set.contains (stores_of places) other ≡ true → tree.contains place_cmp places (place_of other) ≡ true
  in_tree other there = sym (on_ring places all other) ∙ there

  module _ (from : ℕ) where
    abbrev pub IsRange : List (ℕ × ℕ) → Type 0
    IsRange range = tree.IsKeyRangeOf place_cmp (Included (from, 0)) Unbounded places range

    pub first_there : (range : List (ℕ × ℕ)) (p : ℕ × ℕ) (rest : List (ℕ × ℕ)) → range ≡ p ∷ rest → IsRange range → tree.contains place_cmp places p ≡ true
    first_there range p rest is lies = (subst (λ r. IfSome (slice_get r 0) (tree.IsKeyInRange place_cmp (Included (from, 0)) Unbounded places)) is lies.1).1

    pub first_at : (range : List (ℕ × ℕ)) (p : ℕ × ℕ) (rest : List (ℕ × ℕ)) → range ≡ p ∷ rest → IsRange range → from ≤ p.0
    first_at range p rest is lies = begins_at from p (subst (λ r. IfSome (slice_get r 0) (tree.IsKeyInRange place_cmp (Included (from, 0)) Unbounded places)) is lies.1).0.0

    pub first_is_least : (range : List (ℕ × ℕ)) (p : ℕ × ℕ) (rest : List (ℕ × ℕ)) → range ≡ p ∷ rest → IsRange range
        → (q : ℕ × ℕ) → from ≤ q.0 → tree.contains place_cmp places q ≡ true → is_gt (place_cmp p q) ≡ false
    first_is_least range p rest is lies q at there =
        subst (λ r. IfSome (slice_get r 0) (λ k. IsLeBy place_cmp k q)) is (lies.2 q (at_or_after from q at, tt) there)

    pub none_there : (range : List (ℕ × ℕ)) → range ≡ [] → IsRange range → (q : ℕ × ℕ) → from ≤ q.0 → tree.contains place_cmp places q ≡ false
    none_there range is lies q at = lies.5 is q (at_or_after from q at, tt)

  module _ (name : List ℕ) (fits : position_of name < 2 ^ 64) (p : ℕ × ℕ) (there : tree.contains place_cmp places p ≡ true) where
    placed : p.0 ≡ store_position p.1
    placed = (is_placed p there).0

    -- the first place at or after the table's
    pub owner_ahead : position_of name ≤ p.0
        → ((q : ℕ × ℕ) → position_of name ≤ q.0 → tree.contains place_cmp places q ≡ true → is_gt (place_cmp p q) ≡ false)
        → IsOwner (stores_of places) name p.1
    owner_ahead at first = record {
      on_ring = there_on_ring p there;
      first = λ other also. no_nearer other (in_tree other also);
    }
      where
        no_nearer : (other : ℕ) → tree.contains place_cmp places (place_of other) ≡ true → ComesFirst (position_of name) p.1 other
        no_nearer other also = elim (at_or_behind (position_of name) (store_position other)) [
          | inl later ↦ both_ahead (position_of name) (store_position p.1) (store_position other) p.1 other (subst (λ n. position_of name ≤ n) placed at) later
              (subst (λ n. (n < store_position other) ⊎ ((n ≡ store_position other) × (p.1 ≤ other))) placed (no_later p (place_of other) (first (place_of other) later also)))
          | inr behind ↦ inl (ahead (position_of name) (store_position p.1) (store_position other) (subst (λ n. n < 2 ^ 64) placed (is_placed p there).1) (subst (λ n. position_of name ≤ n) placed at) behind fits)
        ]

    -- the first place of all, where none is at or after the table's
    pub owner_behind : ((q : ℕ × ℕ) → position_of name ≤ q.0 → tree.contains place_cmp places q ≡ false)
        → ((q : ℕ × ℕ) → tree.contains place_cmp places q ≡ true → is_gt (place_cmp p q) ≡ false)
        → IsOwner (stores_of places) name p.1
    owner_behind nothing first = record {
      on_ring = there_on_ring p there;
      first = λ other also. both_behind (position_of name) (store_position p.1) (store_position other) p.1 other
          (subst (λ n. n < position_of name) placed (behind p there)) (behind (place_of other) (in_tree other also)) fits
          (subst (λ n. (n < store_position other) ⊎ ((n ≡ store_position other) × (p.1 ≤ other))) placed (no_later p (place_of other) (first (place_of other) (in_tree other also))));
    }
      where
        behind : (q : ℕ × ℕ) → tree.contains place_cmp places q ≡ true → q.0 < position_of name
        behind q also = elim (at_or_behind (position_of name) q.0) [
          | inl later ↦ absurd (true≢false (sym also ∙ nothing q later))
          | inr lower ↦ lower
        ]
