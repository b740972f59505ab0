-- The length of a payload.
use Rattle.std.specs.Prelude.{◌≡◌, ℕ, ◌<◌, ◌≤◌, Option, Some, None}
use Rattle.vault.specs.Limit.{payload_most}

-- the sum, if it is no more than the longest payload has
abbrev pub IsSum : ℕ → Option ℕ → Type 0
IsSum sum None = payload_most < sum
IsSum sum (Some found) = (found ≡ sum) × (sum ≤ payload_most)
