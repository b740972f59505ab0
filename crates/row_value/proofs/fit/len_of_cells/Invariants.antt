use Rattle.std.proofs.Common.{◌≡◌, ◌-◌, ◌^◌, take}
use Rattle.std.specs.Prelude.{sum_by, min}
use Rattle.row_value.specs.Fit.{cell_len}
use Rattle.row_value.proofs.fit.len_of_cells.Given as goal

abbrev pub invariant-loop-cell : goal.invariant-loop-cell
invariant-loop-cell l = l.len ≡ min (sum_by cell_len (take l.cell-index l.cells)) (2 ^ 64 - 1)
