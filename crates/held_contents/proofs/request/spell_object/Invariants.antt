use Rattle.held_contents.proofs.Spellings.{IsLeft}
use Rattle.held_contents.proofs.request.spell_object.Given as goal

abbrev pub invariant-loop-piece : goal.invariant-loop-piece
invariant-loop-piece l = IsLeft l.read l.now l.left l._piece-index l.fn.next l.number l.initial.pieces l.pieces
