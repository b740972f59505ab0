use Rattle.std.proofs.Common.{take}
use Rattle.script_text.specs.Names.{FindsColumns}
use Rattle.script_text.proofs.declared_table.numbers_of.Given as goal

abbrev pub invariant-loop-number : goal.invariant-loop-number
invariant-loop-number l = FindsColumns l.numbers.entries (take l.number l.columns)
