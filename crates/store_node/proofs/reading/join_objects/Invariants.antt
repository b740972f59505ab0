use Rattle.std.proofs.Common.{◌≡◌, take, map}
use Rattle.store_node.specs.Reading.{whole_object}
use Rattle.store_node.proofs.reading.join_objects.Given as goal

abbrev pub invariant-loop-chunks : goal.invariant-loop-chunks
invariant-loop-chunks l = l.objects ≡ map whole_object (take l.chunks-index l.held)
