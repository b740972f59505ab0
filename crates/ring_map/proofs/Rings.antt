-- The set of Stores that a tree of places stands for.
use Rattle.std.proofs.Common.{◌≡◌, ℕ, Bool, true, false, not, cond, ◌&&◌, ◌||◌, List, [], ◌∷◌, map, refl, sym, ap, ◌∙◌, arith}
use Rattle.std.specs.Prelude.{All}
use Rattle.std.specs.List.{list_any}
use Rattle.std.specs.Ordering.{nat_cmp, eq_by_cmp}
use Rattle.std.specs.Cmp.{nat_cmp_total}
use Rattle.std.specs.FinSet as set
use Rattle.std.specs.FinSet.{nat_cmp-IsAntisymmetric}
use Rattle.std.proofs.lemmas.Bool.Decides.{nat_tests}
use Rattle.std.specs.BTreeMap.{is_at}
use Rattle.std.specs.BTreeSet as tree
use Rattle.std.specs.BTreeSet.{BTreeSet}
use Rattle.std.proofs.lemmas.List.Elements.{All-head, All-tail}
use Rattle.ring_map.specs.Place.{place_of, place_cmp}
use Rattle.ring_map.proofs.Places.{IsPlaced, same_store}

abbrev pub store_of : ℕ × ℕ → ℕ
store_of place = place.1

abbrev pub stores_of : BTreeSet (ℕ × ℕ) → set.FinSet nat_cmp
stores_of places = set.from_list (map store_of places.keys)

pub found_by_place : (q : ℕ) (places : List (ℕ × ℕ)) → All IsPlaced places
    → list_any (eq_by_cmp nat_cmp q) (map store_of places) ≡ list_any (is_at (place_cmp (place_of q))) places
found_by_place q [] all = refl
found_by_place q (p ∷ places) all =
    ap (λ b. b || list_any (eq_by_cmp nat_cmp q) (map store_of places)) (same_store q p (All-head IsPlaced p places all).0)
    ∙ ap (λ b. is_at (place_cmp (place_of q)) p || b) (found_by_place q places (All-tail IsPlaced p places all))

-- a Store is on the ring where its place is in the tree
pub on_ring : (places : BTreeSet (ℕ × ℕ)) → All IsPlaced places.keys → (q : ℕ) → set.contains (stores_of places) q ≡ tree.contains place_cmp places (place_of q)
on_ring places all q = set.contains-from_list nat_cmp_total (map store_of places.keys) q ∙ found_by_place q places.keys all

either : (b c : Bool) → cond b true c ≡ (b || c)
either true c = refl
either false c = refl

neither : (b c : Bool) → cond b false c ≡ (not b && c)
neither true c = refl
neither false c = refl

module _ (old new : BTreeSet (ℕ × ℕ)) (before : All IsPlaced old.keys) (after : All IsPlaced new.keys) (store : ℕ) where
  at_place : (q : ℕ) → is_at (place_cmp (place_of store)) (place_of q) ≡ eq_by_cmp nat_cmp q store
  at_place q = sym (same_store store (place_of q) refl) ∙ swapped q
    where
      swapped : (q : ℕ) → eq_by_cmp nat_cmp store q ≡ eq_by_cmp nat_cmp q store
      swapped q = grind (arith, nat_tests)

  pub joined : tree.Updates place_cmp old new (place_of store) true → stores_of new ≡ set.insert (stores_of old) store
  joined updates = set.same_set nat_cmp_total nat_cmp-IsAntisymmetric _ _ (λ q.
      on_ring new after q ∙ updates.0 (place_of q) ∙ ap (λ b. cond b true (tree.contains place_cmp old (place_of q))) (at_place q)
      ∙ either (eq_by_cmp nat_cmp q store) _ ∙ ap (λ b. eq_by_cmp nat_cmp q store || b) (sym (on_ring old before q))
      ∙ sym (set.contains-insert nat_cmp_total (stores_of old) store q))

  pub left : tree.Updates place_cmp old new (place_of store) false → stores_of new ≡ set.remove (stores_of old) store
  left updates = set.same_set nat_cmp_total nat_cmp-IsAntisymmetric _ _ (λ q.
      on_ring new after q ∙ updates.0 (place_of q) ∙ ap (λ b. cond b false (tree.contains place_cmp old (place_of q))) (at_place q)
      ∙ neither (eq_by_cmp nat_cmp q store) _ ∙ ap (λ b. not (eq_by_cmp nat_cmp q store) && b) (sym (on_ring old before q))
      ∙ sym (set.contains-remove nat_cmp_total (stores_of old) store q))
