use Rattle.new_rows.specs.NewRow.{AreNewChunks}
use Rattle.new_rows.proofs.update.new_chunks.Given as goal

abbrev pub invariant-loop-ordinal : goal.invariant-loop-ordinal
invariant-loop-ordinal l = AreNewChunks l.ordinal l.chunks
