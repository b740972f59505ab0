use Rattle.store_node.proofs.Pieced.{fresh_more, fresh_end}
use Rattle.store_node.proofs.update.add_all_fresh.Goals as goal

pub loop-place-preserved : goal.loop-place-preserved
loop-place-preserved c =
    let within = rw c.as_slice-chunk-items.ensures at c.loop-place-test.true in
    let item = rw c.as_slice-chunk-items.ensures at c.chunk-item.is in
    fresh_more c.args.pieces.now c.args.chunks.now c.loop-place.place c.chunk-item.result c.args.fresh.now.items c.loop-place.fresh.items c.add_fresh.new.fresh.items _ within item c.loop-place.invariant c.in_ok-add_fresh.ensures

pub returns : goal.returns
returns c =
    let all = rw c.as_slice-chunk-items.ensures at c.loop-place-test.false in
    fresh_end c.args.pieces.now c.args.chunks.now c.loop-place.place c.loop-place.fresh.items _ all c.loop-place.invariant
