use Rattle.row_pieces.proofs.Distinct.{IsMet}
use Rattle.row_pieces.proofs.apart.are_apart.Given as goal

abbrev pub invariant-loop-name : goal.invariant-loop-name
invariant-loop-name l = IsMet l.names l.met l.name-index
