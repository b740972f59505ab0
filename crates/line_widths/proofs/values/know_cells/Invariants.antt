use Rattle.std.proofs.Common.{take}
use Rattle.std.specs.List.{AllByRecursion}
use Rattle.transcript_text.specs.OneForm.{HasCellText}
use Rattle.line_widths.proofs.values.know_cells.Given as goal

abbrev pub invariant-loop-cell : goal.invariant-loop-cell
invariant-loop-cell l = AllByRecursion HasCellText (take l.cell-index l.cells)
