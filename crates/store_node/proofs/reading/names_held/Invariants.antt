use Rattle.std.proofs.Common.{◌≡◌, take}
use Rattle.store_node.specs.Reading.{names_held}
use Rattle.store_node.proofs.reading.names_held.Given as goal

abbrev pub invariant-loop-chunks : goal.invariant-loop-chunks
invariant-loop-chunks l = l.names ≡ names_held (take l.chunks-index l.held)
