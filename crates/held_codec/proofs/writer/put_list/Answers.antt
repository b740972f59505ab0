use Rattle.std.specs.Vec.{vec_capacity, vec_len}
use Rattle.value_codec.proofs.Spread.{on_err, item_fits}
use Rattle.held_codec.proofs.writer.put_list.Goals as goal

pub returns-in_err-put-clause-full : goal.returns-in_err-put-clause-full
returns-in_err-put-clause-full g c =
    on_err c.from_residual-in_err-put.result _
    (item_fits g.T.Spelled.spelling c.loop-item.item-index c.args.items.now c.item-item.result c.args.out.now.items c.loop-item.out.items (vec_capacity c.args.out.now) (vec_capacity
    c.loop-item.out) (vec_len c.loop-item.out) (vec_len c.args.out.now)
    c.loop-item-test.true c.item-item.is c.loop-item.invariant.so_far c.loop-item.out.ok.0 c.args.out.now.ok.0 c.loop-item.invariant.room c.in_err-put.ensures.full)
