use Rattle.std.proofs.Common.{◌≡◌, ◌++◌, drop}
use Rattle.row_edits.specs.Edit.{up_to_lacking}
use Rattle.row_edits.proofs.edit.up_to_lacking.Given as goal

abbrev pub invariant-loop-object : goal.invariant-loop-object
invariant-loop-object l = l.there ++ up_to_lacking (drop l.object-index l.objects) ≡ up_to_lacking l.objects
