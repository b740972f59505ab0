use Rattle.std.proofs.Common.{◌∙◌}
use Rattle.chunker.proofs.Cuts.{join_more}
use Rattle.chunker.proofs.cutting.join.Goals as goal

pub loop-chunk-preserved : goal.loop-chunk-preserved
loop-chunk-preserved c =
    let within = rw c.as_slice-chunk-items.ensures at c.loop-chunk-test.true in
    let item = rw c.as_slice-chunk-items.ensures at c.chunk-item.is in
    c.in_ok-extend_from_slice.ensures.ok
    ∙ join_more c.args.chunks.now c.loop-chunk.chunk-index c.loop-chunk.object c.chunk-item.result c.as_slice.result.now c.loop-chunk.invariant c.as_slice.ensures within item
