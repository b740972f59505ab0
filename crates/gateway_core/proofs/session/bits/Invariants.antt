use Rattle.std.proofs.Common.{◌≡◌}
use Rattle.std.specs.Prelude.{fold}
use Rattle.gate_tables.specs.Timers.{with_bit, bitmap}
use Rattle.gateway_core.proofs.session.bits.Given as goal

abbrev pub invariant-loop-number : goal.invariant-loop-number
invariant-loop-number l = fold with_bit l.bits l.number-iterator ≡ bitmap l.timers.entries
