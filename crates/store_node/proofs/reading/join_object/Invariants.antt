use Rattle.std.proofs.Common.{◌≡◌, take}
use Rattle.store_node.specs.Reading.{whole_object}
use Rattle.store_node.proofs.reading.join_object.Given as goal

abbrev pub invariant-loop-bytes : goal.invariant-loop-bytes
invariant-loop-bytes l = l.object ≡ whole_object (take l.bytes-index l.held)
