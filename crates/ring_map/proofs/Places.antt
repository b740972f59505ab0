-- Places compared.
use Rattle.std.proofs.Common.{◌≡◌, ℕ, ◌<◌, ◌≤◌, ◌^◌, ◌⊎◌, inl, inr, false, arith}
use Rattle.std.specs.Ordering.{nat_cmp, is_gt, eq_by_cmp}
use Rattle.std.specs.Cmp.{IsTotalOrder, nat_cmp_total, then_total, on_total}
use Rattle.std.specs.BTreeMap.{is_at}
use Rattle.std.proofs.lemmas.Bool.Decides.{nat_tests}
use Rattle.std.proofs.lemmas.Map.Lookups.{CmpEqualImpliesEq, exact_pairs, exact_unsigned}
use Rattle.ring_map.specs.Place.{store_position, place_of, place_cmp}

pub place_total : IsTotalOrder place_cmp
place_total = then_total (on_total (λ (p : ℕ × ℕ). p.0) nat_cmp_total) (on_total (λ (p : ℕ × ℕ). p.1) nat_cmp_total)

pub place_exact : CmpEqualImpliesEq place_cmp
place_exact = exact_pairs nat_cmp nat_cmp exact_unsigned exact_unsigned

-- no later: nearer to the beginning, or at the same position with a number that isn't higher
pub no_later : (p q : ℕ × ℕ) → is_gt (place_cmp p q) ≡ false → (p.0 < q.0) ⊎ ((p.0 ≡ q.0) × (p.1 ≤ q.1))
no_later p q h = grind (arith, nat_tests)

-- a place is at or after another where its position is
pub at_or_after : (from : ℕ) (q : ℕ × ℕ) → from ≤ q.0 → is_gt (place_cmp (from, 0) q) ≡ false
at_or_after from q h = grind (arith, nat_tests)

pub begins_at : (from : ℕ) (q : ℕ × ℕ) → is_gt (place_cmp (from, 0) q) ≡ false → from ≤ q.0
begins_at from q h = elim (no_later (from, 0) q h) [ inl less ↦ omega arith | inr same ↦ omega arith ]

abbrev pub IsPlaced : ℕ × ℕ → Type 0
IsPlaced place = (place.0 ≡ store_position place.1) × (place.0 < 2 ^ 64)

-- a Store is told by its place as by its number
pub same_store : (q : ℕ) (p : ℕ × ℕ) → p.0 ≡ store_position p.1 → eq_by_cmp nat_cmp q p.1 ≡ is_at (place_cmp (place_of q)) p
same_store q p placed = grind (arith, nat_tests)
