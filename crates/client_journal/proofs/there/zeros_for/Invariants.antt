use Rattle.std.proofs.Common.{◌≡◌, take}
use Rattle.client_journal.specs.There.{zeros_for}
use Rattle.client_journal.proofs.there.zeros_for.Given as goal

abbrev pub invariant-loop-object : goal.invariant-loop-object
invariant-loop-object l = l.made ≡ zeros_for (take l.object-index l.objects)
