-- Sums over tables.
use Rattle.std.proofs.Common.{◌≡◌, ⊎_elim, ℕ, zero, suc, ◌<◌, ◌≤◌, refl, subst, arith}
use Rattle.std.proofs.lemmas.Bool.Decides.{eqb_tells}
use Rattle.node_steps.specs.Faults.{sum_to}

pub sum_same : (f g : ℕ → ℕ) (n : ℕ) → ((k : ℕ) → f k ≡ g k) → sum_to f n ≡ sum_to g n
unfolding sum_to
sum_same f g zero same = refl
sum_same f g (suc n) same = let a = sum_same f g n same in let b = same (suc n) in cc

-- of the tables 1 to n alone
pub sum_same_to : (f g : ℕ → ℕ) (n : ℕ) → ((k : ℕ) → 1 ≤ k → k ≤ n → f k ≡ g k) → sum_to f n ≡ sum_to g n
unfolding sum_to
sum_same_to f g zero same = refl
sum_same_to f g (suc n) same = let a = sum_same_to f g n (λ k one most. same k one (omega (arith, most))) in let b = same (suc n) (omega arith) (omega arith) in cc

pub sum_later : (f g : ℕ → ℕ) (n : ℕ) → ((k : ℕ) → f k ≤ g k) → sum_to f n ≤ sum_to g n
unfolding sum_to
sum_later f g zero later = omega arith
sum_later f g (suc n) later = let a = sum_later f g n later in let b = later (suc n) in omega (arith, a, b)

pub sum_rises : (f g : ℕ → ℕ) (n k : ℕ) → ((q : ℕ) → f q ≤ g q) → 1 ≤ k → k ≤ n → f k < g k → sum_to f n < sum_to g n
unfolding sum_to
sum_rises f g zero k later one most up = absurd (omega (arith, one, most))
sum_rises f g (suc n) k later one most up =
    ⊎_elim
    (λ is. let a = sum_later f g n later in let b : f (suc n) < g (suc n) = subst (λ (q : ℕ). f q < g q) is.1 up in omega (arith, a, b))
    (λ apart. let a = sum_rises f g n k later one (below apart.1) up in let b = later (suc n) in omega (arith, a, b))
    (eqb_tells k (suc n))
  where
    below : (k ≡ suc n → ⊥) → k ≤ n
    below apart = grind (arith, most, apart)

pub sum_none : (n : ℕ) → sum_to (λ k. 0) n ≡ 0
unfolding sum_to
sum_none zero = refl
sum_none (suc n) = let a = sum_none n in omega (arith, a)
