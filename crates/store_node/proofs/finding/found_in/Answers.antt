use Rattle.store_node.proofs.Noted.{noted_objects}
use Rattle.store_node.proofs.finding.found_in.Goals as goal

pub loop-chunks-preserved : goal.loop-chunks-preserved
loop-chunks-preserved c =
    let within = rw c.as_slice-chunks-items.ensures at c.loop-chunks-test.true in
    let item = rw c.as_slice-chunks-items.ensures at c.chunks-item.is in
    noted_objects c.args.held.now c.loop-chunks.chunks-index _ _ c.chunks-item.result within item c.loop-chunks.invariant c.in_ok-note_chunks.ensures
