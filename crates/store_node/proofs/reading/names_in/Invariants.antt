use Rattle.std.proofs.Common.{◌≡◌, take, map}
use Rattle.store_node.proofs.reading.names_in.Given as goal

abbrev pub invariant-loop-name : goal.invariant-loop-name
invariant-loop-name l = l.names ≡ map (λ chunk. chunk.0) (take l.name-index l.held)
