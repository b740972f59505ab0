use Rattle.std.proofs.Common.{take}
use Rattle.std.specs.List.{AllByRecursion}
use Rattle.frame_laws.specs.Sizes.{HasWord}
use Rattle.send_laws.proofs.widths.know_cells.Given as goal

abbrev pub invariant-loop-cell : goal.invariant-loop-cell
invariant-loop-cell l = AllByRecursion HasWord (take l.cell-index l.cells)
