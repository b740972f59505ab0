use Rattle.std.proofs.Common.{◌∙◌, ap}
use Rattle.step_tables.specs.Chunks.{Named}
use Rattle.store_node.proofs.Noted.{noted_more}
use Rattle.store_node.proofs.finding.note_chunks.Goals as goal

pub loop-name-preserved : goal.loop-name-preserved
loop-name-preserved c =
    let within = rw c.as_slice-name-items.ensures at c.loop-name-test.true in
    let item = rw c.as_slice-name-items.ensures at c.loop-name-item.is in
    noted_more (λ bytes. bytes.now) c.args.chunks.now c.loop-name.name-index _ c.loop-name.found.entries c.insert.new.self.entries _ c.as_slice.result c.loop-name-item.result within c.loop-name.invariant c.in_ok-insert.ensures.entries
    (ap (λ (x : Named). x.0) item) (c.as_slice.ensures ∙ ap (λ (x : Named). x.1) item)
