use Rattle.std.proofs.Common.{◌≡◌, drop, map, Some}
use Rattle.row_edits.specs.Edit.{objects_behind}
use Rattle.row_edits.proofs.edit.objects_behind.Given as goal

abbrev pub invariant-loop-change : goal.invariant-loop-change
invariant-loop-change l = objects_behind l.first l.there.items (drop l.change-index l.changes)
    ≡ objects_behind l.first (map Some l.fn.objects) l.changes
