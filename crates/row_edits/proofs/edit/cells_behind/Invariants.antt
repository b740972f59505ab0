use Rattle.std.proofs.Common.{◌≡◌, drop}
use Rattle.row_edits.specs.Edit.{cells_behind}
use Rattle.row_edits.proofs.edit.cells_behind.Given as goal

abbrev pub invariant-loop-change : goal.invariant-loop-change
invariant-loop-change l =
    cells_behind l.columns l.cells.items (drop l.change-index l.changes) ≡ cells_behind l.columns l.fn.cells l.changes
