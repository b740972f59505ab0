use Rattle.std.proofs.Common.{length}
use Rattle.chunker.proofs.Cuts.{SoFar}
use Rattle.chunker.proofs.cutting.cut.Given as goal

abbrev pub invariant-loop-rest : goal.invariant-loop-rest
invariant-loop-rest l = SoFar l.fn.chunk l.fn.object l.chunks l.rest

abbrev pub decreases-loop-rest : goal.decreases-loop-rest
decreases-loop-rest l = length l.rest
