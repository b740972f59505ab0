use Rattle.std.proofs.Common.{◌≡◌, ◌++◌}
use Rattle.std.specs.Vec.Iter.{into_iter_items}
use Rattle.step_tables.specs.Chunks.{flat}
use Rattle.held_contents.specs.Request.{known_in}
use Rattle.client_node.proofs.calls.held.add_all_named.Given as goal

abbrev pub invariant-loop-chunks : goal.invariant-loop-chunks
invariant-loop-chunks l = l.held ++ flat (known_in (into_iter_items l.chunks-iterator)) ≡ l.initial.held ++ flat (known_in l.fn.read)
