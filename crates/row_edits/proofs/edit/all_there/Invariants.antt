use Rattle.std.proofs.Common.{◌≡◌, map, take, Some}
use Rattle.row_edits.proofs.edit.all_there.Given as goal

abbrev pub invariant-loop-object : goal.invariant-loop-object
invariant-loop-object l = l.there.items ≡ map Some (take l.object-index l.objects)
