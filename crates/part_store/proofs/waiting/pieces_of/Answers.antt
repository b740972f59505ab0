use Rattle.part_store.proofs.Settling.{pieces_more}
use Rattle.part_store.proofs.waiting.pieces_of.Goals as goal

pub loop-object-preserved : goal.loop-object-preserved
loop-object-preserved c =
    pieces_more c.args.objects.now c.loop-object.object-index _ _ _ c.object-item.result c.loop-object-test.true c.object-item.is c.loop-object.invariant c.in_ok-copy.ensures c.in_ok-push.ensures.ok
