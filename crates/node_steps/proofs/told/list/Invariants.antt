use Rattle.std.proofs.Common.{◌≡◌, ◌++◌, map}
use Rattle.step_tables.specs.Facts.{PairLine}
use Rattle.step_tables.specs.Lines.{line_of}
use Rattle.node_steps.proofs.told.list.Given as goal

abbrev pub invariant-loop-pair : goal.invariant-loop-pair
invariant-loop-pair l = map line_of l.lines ++ map PairLine l.pair-iterator.rest.items ≡ map line_of l.fn.lines ++ map PairLine l.fn.pairs
