use Rattle.std.proofs.Common.{◌≡◌}
use Rattle.script_words.specs.Values.{repeated}
use Rattle.script_words.proofs.values.repeated.Given as goal

abbrev pub invariant-loop-place : goal.invariant-loop-place
invariant-loop-place l = l.bytes.items ≡ repeated l.pattern l.place
