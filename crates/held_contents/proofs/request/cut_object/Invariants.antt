use Rattle.std.proofs.Common.{◌≡◌, ◌++◌}
use Rattle.std.specs.Vec.Iter.{into_iter_items}
use Rattle.step_tables.specs.Chunks.{cut}
use Rattle.held_contents.specs.Request.{bytes_of}
use Rattle.held_contents.proofs.request.cut_object.Given as goal

abbrev pub invariant-loop-bytes : goal.invariant-loop-bytes
invariant-loop-bytes l = bytes_of l.made ++ into_iter_items l.bytes-iterator ≡ cut l.fn.size l.fn.object
