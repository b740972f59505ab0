use Rattle.chunker.proofs.Pieces.{SoFar}
use Rattle.chunker.proofs.against.pieces_against.Given as goal

abbrev pub invariant-loop-place : goal.invariant-loop-place
invariant-loop-place l = SoFar l.old l.new l.first l.place l.pieces l.next
