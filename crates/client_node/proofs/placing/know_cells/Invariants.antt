use Rattle.std.proofs.Common.{take}
use Rattle.std.specs.List.{AllByRecursion}
use Rattle.plan_limits.specs.Fit.{HasWord}
use Rattle.client_node.proofs.placing.know_cells.Given as goal

abbrev pub invariant-loop-cell : goal.invariant-loop-cell
invariant-loop-cell l = AllByRecursion HasWord (take l.cell-index l.cells)
