use Rattle.std.proofs.Common.{◌≡◌, ◌++◌}
use Rattle.std.specs.Vec.Iter.{into_iter_items}
use Rattle.held_contents.proofs.holding.add_all.Given as goal

abbrev pub invariant-loop-bytes : goal.invariant-loop-bytes
invariant-loop-bytes l = l.brought ++ into_iter_items l.bytes-iterator ≡ l.initial.brought ++ l.fn.more
