use Rattle.std.proofs.Common.{◌≡◌, take, map}
use Rattle.client_journal.specs.Plan.{numbered_object}
use Rattle.client_journal.proofs.numbering.numbered_objects.Given as goal

abbrev pub invariant-loop-object : goal.invariant-loop-object
invariant-loop-object l = l.numbered ≡ map (numbered_object l.number) (take l.object-index l.objects)
