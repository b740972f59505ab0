use Rattle.held_contents.proofs.Spellings.{AreLeft}
use Rattle.held_contents.proofs.request.spell_all.Given as goal

abbrev pub invariant-loop-object : goal.invariant-loop-object
invariant-loop-object l = AreLeft l.read l.now l.left l.object-index l.next l.pieces
