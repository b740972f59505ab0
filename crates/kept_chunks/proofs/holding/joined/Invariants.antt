use Rattle.std.proofs.Common.{◌≡◌, ◌++◌}
use Rattle.std.specs.Vec.Iter.{into_iter_items}
use Rattle.kept_chunks.proofs.holding.joined.Given as goal

abbrev pub invariant-loop-object : goal.invariant-loop-object
invariant-loop-object l = l.objects ++ into_iter_items l.object-iterator ≡ l.fn.objects ++ l.fn.more
