use Rattle.std.proofs.Common.{refl}
use Rattle.client_node.proofs.TakenOff.{one_off, all_off}
use Rattle.client_node.proofs.waiting.take_off.Goals as goal

pub loop-row-init : goal.loop-row-init
loop-row-init c key = refl

pub loop-row-preserved : goal.loop-row-preserved
loop-row-preserved c =
    one_off c.args.table c.args.rows.now c.args.set.now c.loop-row.set c.remove.new.self c.loop-row.row-index c.row-item.result c.row-item.result c.loop-row.invariant c.loop-row-test.true c.row-item.is c.remove.ensures.updates

pub returns : goal.returns
returns c = all_off c.args.table c.args.rows.now c.args.set.now c.loop-row.set c.loop-row.row-index c.loop-row.invariant c.loop-row-test.false
