use Rattle.std.proofs.Common.{◌∙◌, ap}
use Rattle.step_tables.specs.Chunks.{Named}
use Rattle.store_node.proofs.Readers.{bytes_more}
use Rattle.store_node.proofs.reading.join_object.Goals as goal

pub loop-bytes-preserved : goal.loop-bytes-preserved
loop-bytes-preserved c =
    let within = rw c.as_slice-bytes-items.ensures at c.loop-bytes-test.true in
    let item = rw c.as_slice-bytes-items.ensures at c.loop-bytes-item.is in
    bytes_more c.args.held.now c.loop-bytes.bytes-index c.loop-bytes.object _ _ c.loop-bytes-item.result within c.loop-bytes.invariant c.in_ok-extend_from_slice.ensures.ok (c.as_slice.ensures ∙ ap (λ (x : Named). x.1) item)
