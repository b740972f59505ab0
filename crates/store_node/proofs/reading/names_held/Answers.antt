use Rattle.store_node.proofs.Readers.{names_more}
use Rattle.store_node.proofs.reading.names_held.Goals as goal

pub loop-chunks-preserved : goal.loop-chunks-preserved
loop-chunks-preserved c =
    let within = rw c.as_slice-chunks-items.ensures at c.loop-chunks-test.true in
    let item = rw c.as_slice-chunks-items.ensures at c.chunks-item.is in
    names_more c.args.held.now c.loop-chunks.chunks-index _ _ _ c.chunks-item.result within item c.loop-chunks.invariant c.in_ok-names_in.ensures c.in_ok-push.ensures.ok
