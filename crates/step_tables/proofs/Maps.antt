-- Maps that are functions, behind a change.
use Rattle.std.proofs.Common.{◌≡◌, ◌≢◌, ◌⊎◌, ℕ, List, arith}
use Rattle.std.proofs.lemmas.Bool.Decides.{nat_tests}
use Rattle.step_tables.specs.Members.{put, put_at}
use Rattle.step_tables.proofs.Lists.{same_row-refl, same_row_tells}

pub put_here : {X : Type 0} (m : ℕ → X) (k : ℕ) (v : X) → put m k v k ≡ v
put_here m k v = grind (arith, nat_tests)

pub put_apart : {X : Type 0} (m : ℕ → X) (k : ℕ) (v : X) (q : ℕ) → q ≢ k → put m k v q ≡ m q
put_apart m k v q apart = grind (arith, nat_tests)

pub put_cases : {X : Type 0} (m : ℕ → X) (k : ℕ) (v : X) (q : ℕ) → ((q ≡ k) × (put m k v q ≡ v)) ⊎ ((q ≢ k) × (put m k v q ≡ m q))
put_cases m k v q = grind (arith, nat_tests)

pub place_cases : {X : Type 0} (m : ℕ → List ℕ → X) (table : ℕ) (row : List ℕ) (v : X) (t : ℕ) (r : List ℕ)
    → ((t ≡ table) × (r ≡ row) × (put_at m table row v t r ≡ v)) ⊎ (((t ≢ table) ⊎ (r ≢ row)) × (put_at m table row v t r ≡ m t r))
place_cases m table row v t r = grind (arith, nat_tests, same_row_tells r row)

pub place_here : {X : Type 0} (m : ℕ → List ℕ → X) (table : ℕ) (row : List ℕ) (v : X) → put_at m table row v table row ≡ v
place_here m table row v = grind (arith, nat_tests, same_row-refl row)

pub put_twice : {X : Type 0} (m : ℕ → X) (k : ℕ) (v w : X) → put (put m k v) k w ≡ put m k w
put_twice m k v w = grind (arith, nat_tests)

pub place_twice : {X : Type 0} (m : ℕ → List ℕ → X) (table : ℕ) (row : List ℕ) (v w : X) → put_at (put_at m table row v) table row w ≡ put_at m table row w
place_twice m table row v w = grind (arith, nat_tests)
