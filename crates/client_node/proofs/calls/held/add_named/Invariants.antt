use Rattle.std.proofs.Common.{◌≡◌, ◌++◌}
use Rattle.std.specs.Vec.Iter.{into_iter_items}
use Rattle.held_contents.specs.Request.{known_of}
use Rattle.client_node.proofs.calls.held.add_named.Given as goal

abbrev pub invariant-loop-piece : goal.invariant-loop-piece
invariant-loop-piece l = l.held ++ known_of (into_iter_items l.piece-iterator) ≡ l.initial.held ++ known_of l.fn.chunks
