-- How often a gateway has started, and how many tokens it has drawn since.
use Rattle.std.specs.Prelude.{◌≡◌, ℕ, ◌≤◌, Option, Some, None}
use Rattle.gate_tables.specs.Gate.{Gateway, Running}
use Rattle.gated_tables.specs.Net.{Net, gate_at}

abbrev pub HasDrawnFew : ℕ → Option Running → Type 0
HasDrawnFew most None = Unit {0}
HasDrawnFew most (Some running) = running.drawn ≤ most

-- a gateway hasn't started more often, nor drawn more tokens since
pub record IsFew (most : ℕ) (gateway : Gateway) : Type 0 where
  pub starts : gateway.starts ≤ most
  pub drawn : HasDrawnFew most gateway.running

abbrev pub AreGatesFew : ℕ → Net → Type 0
AreGatesFew most n = (number : ℕ) (gateway : Gateway) → gate_at n number ≡ Some gateway → IsFew most gateway
