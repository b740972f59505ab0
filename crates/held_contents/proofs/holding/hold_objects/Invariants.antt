use Rattle.held_contents.proofs.Objects.{SoFar}
use Rattle.held_contents.proofs.holding.hold_objects.Given as goal

abbrev pub invariant-loop-object : goal.invariant-loop-object
invariant-loop-object l = SoFar l.size l.shown l.names l.objects l.object-index l.held l.brought l.left l.named
