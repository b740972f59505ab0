use Rattle.assemblies.specs.Travel.{is_sent}
use Rattle.assemblies.proofs.Listing.{step_object}
use Rattle.assemblies.proofs.awaiting.add_objects.Goals as goal

pub loop-number-preserved : goal.loop-number-preserved
loop-number-preserved c =
    step_object (is_sent c.args.sent) c.args.chunk c.args.first c.loop-number.list c.add_object.new.list c.args.objects.now c.loop-number.number
    c.index-objects-number.result _ c.loop-number-test.true c.index-objects-number.is c.in_ok-add_object.ensures c.loop-number.invariant
