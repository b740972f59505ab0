use Rattle.message_parts.proofs.Joined.{kept_more}
use Rattle.message_parts.proofs.spelled.kept.Goals as goal

pub loop-object-preserved : goal.loop-object-preserved
loop-object-preserved c =
    let within = rw c.as_slice-object-items.ensures at c.loop-object-test.true in
    let item = rw c.as_slice-object-items.ensures at c.object-item.is in
    kept_more c.args.names.now c.loop-object.object-index _ _ _ c.object-item.result within item c.loop-object.invariant c.in_ok-kept_object.ensures c.in_ok-push.ensures.ok
