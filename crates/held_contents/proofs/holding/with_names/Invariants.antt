use Rattle.std.proofs.Common.{◌≡◌, ◌++◌}
use Rattle.std.specs.Vec.Iter.{into_iter_items}
use Rattle.held_contents.specs.Holding.{with_names}
use Rattle.held_contents.proofs.holding.with_names.Given as goal

abbrev pub invariant-loop-bytes : goal.invariant-loop-bytes
invariant-loop-bytes l = l.made.items ++ with_names l.left (into_iter_items l.bytes-iterator) ≡ with_names l.fn.names l.fn.chunks
