use Rattle.client_node.proofs.TakenOff.{LeavesRest}
use Rattle.client_node.proofs.waiting.take_off.Given as goal

abbrev pub invariant-loop-row : goal.invariant-loop-row
invariant-loop-row l = LeavesRest l.table l.rows l.fn.set l.row-index l.set
