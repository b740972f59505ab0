use Rattle.held_contents.proofs.Objects.{one_more, all_held}
use Rattle.held_contents.proofs.holding.hold_objects.Goals as goal

pub loop-object-preserved : goal.loop-object-preserved
loop-object-preserved c =
    rw (c.behind-left.ensures, c.behind-named.ensures)
    (one_more c.args.size c.requires.size c.args.shown.now c.loop-object.left.now c.args.names.now c.loop-object.named.now c.args.objects.now c.loop-object.object-index c.object-item.result c.loop-object-test.true c.object-item.is c.loop-object.held
    c.loop-object.brought c.loop-object.invariant c.hold_one.new.held c.hold_one.new.brought c.in_ok-hold_one.ensures)

pub returns : goal.returns
returns c = all_held c.args.size c.args.shown.now c.loop-object.left.now c.args.names.now c.loop-object.named.now c.args.objects.now c.loop-object.object-index c.loop-object.held c.loop-object.brought c.loop-object-test.false c.loop-object.invariant
