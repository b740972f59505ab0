-- Numbers that are drawn one after the other, from a number x that each draw changes.
use Rattle.std.specs.Prelude.{ℕ, ◌+◌, ◌*◌, ◌/◌, ◌%◌, ◌^◌}

-- what was made of the numbers drawn, and x behind them
pub record Drawn (A : Type 0) : Type 0 where
  pub made : A
  pub x : ℕ

infixl 10 ◌>>=◌
-- some draws, and then those that go on from what they made
abbrev pub ◌>>=◌ : {A B : Type 0} → (ℕ → Drawn A) → (A → ℕ → Drawn B) → ℕ → Drawn B
(some >>= rest) x = rest (some x).made (some x).x

-- nothing is drawn
abbrev pub gives : {A : Type 0} → A → ℕ → Drawn A
gives made x = record { made = made; x = x }

unfoldable pub next : ℕ → ℕ
next x = (x * 6364136223846793005 + 1442695040888963407) % 2 ^ 64

-- a draw: x is changed, and all but its lower 33 bits are the number
abbrev pub draw : ℕ → Drawn ℕ
draw x = record { made = next x / 2 ^ 33; x = next x }

-- a draw, below k
abbrev pub pick : ℕ → ℕ → Drawn ℕ
pick k = do
  number ← draw
  gives (number % k)

-- a draw, from 1 to k
abbrev pub one_of : ℕ → ℕ → Drawn ℕ
one_of k = do
  number ← pick k
  gives (1 + number)
