use Rattle.std.proofs.Common.{◌≡◌}
use Rattle.std.specs.Prelude.{fold}
use Rattle.gate_tables.specs.Timers.{with_bit, bitmap}
use Rattle.gate_tables.specs.Gate.{marked}
use Rattle.gateway_core.proofs.session.bits_with.Given as goal

abbrev pub invariant-loop-number : goal.invariant-loop-number
invariant-loop-number l = fold with_bit l.bits (marked l.table l.number-iterator) ≡ bitmap (marked l.table l.timers.entries)
