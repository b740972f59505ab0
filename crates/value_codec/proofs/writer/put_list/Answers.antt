use Rattle.std.proofs.Common.{◌++◌, length, take}
use Rattle.std.specs.Int.{w32, to_be_bytes}
use Rattle.std.specs.List.{flat_map}
use Rattle.std.specs.Vec.{vec_capacity, vec_len}
use Rattle.value_codec.proofs.Spread.{on_err, front_stays, item_fits}
use Rattle.value_codec.proofs.writer.put_list.Goals as goal

pub returns-in_err-put-clause-err : goal.returns-in_err-put-clause-err
returns-in_err-put-clause-err g c =
    on_err c.from_residual-in_err-put.result _
    (front_stays c.args.out.now.items (to_be_bytes w32 (length c.args.items.now) ++ flat_map g.T.Spelled.spelling (take c.loop-item.item-index c.args.items.now)) c.loop-item.out.items c.put.new.out.items (vec_len c.loop-item.out) (vec_len c.args.out.now)
    c.loop-item.out.ok.0 c.args.out.now.ok.0 c.loop-item.invariant.so_far c.in_err-put.ensures.err)

pub returns-in_err-put-clause-full : goal.returns-in_err-put-clause-full
returns-in_err-put-clause-full g c =
    on_err c.from_residual-in_err-put.result _
    (item_fits g.T.Spelled.spelling c.loop-item.item-index c.args.items.now c.item-item.result c.args.out.now.items c.loop-item.out.items (vec_capacity c.args.out.now) (vec_capacity c.loop-item.out) (vec_len c.loop-item.out) (vec_len c.args.out.now)
    c.loop-item-test.true c.item-item.is c.loop-item.invariant.so_far c.loop-item.out.ok.0 c.args.out.now.ok.0 c.loop-item.invariant.room c.in_err-put.ensures.full)
