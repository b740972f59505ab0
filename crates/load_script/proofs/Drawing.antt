-- Bounds of the numbers that are drawn.
use Rattle.std.proofs.Common.{◌≡◌, ℕ, ◌+◌, ◌*◌, ◌%◌, ◌<◌, ◌≤◌, ◌^◌, refl, arith}
use Rattle.std.proofs.Math.Pow.{shr_lt}
use Rattle.std.proofs.Math.Nat.{add-mod, mod-mod}
use Rattle.load_script.specs.Draws.{next, draw, pick, one_of}

pub next_is : (x : ℕ) → (x * 6364136223846793005 % 2 ^ 64 + 1442695040888963407) % 2 ^ 64 ≡ next x
unfolding next
next_is x =
    rw (add-mod (x * 6364136223846793005 % 2 ^ 64) 1442695040888963407 (2 ^ 64), mod-mod (x * 6364136223846793005) (2 ^ 64), ← add-mod (x * 6364136223846793005) 1442695040888963407 (2 ^ 64)) refl

next_below : (x : ℕ) → next x < 2 ^ 64
unfolding next
next_below x = omega arith

pub draw_below : (x : ℕ) → (draw x).made < 2 ^ 31
draw_below x = shr_lt 31 33 (next_below x)

pub pick_below : (k x : ℕ) → 0 < k → (pick k x).made < k
pick_below k x some = omega arith

pub pick_small : (k x : ℕ) → 0 < k → (pick k x).made < 2 ^ 31
pick_small k x some = omega (arith, draw_below x)

pub one_within : (k x : ℕ) → 0 < k → (one_of k x).made ≤ k
one_within k x some = omega arith
