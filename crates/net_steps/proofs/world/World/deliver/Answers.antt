use Rattle.std.proofs.Common.{refl}
use Rattle.table_model.specs.declared.event.Event.TheVariants as events
use Rattle.gated_laws.proofs.Reached.{before_reached}
use Rattle.net_steps.proofs.Brought.{counted_apart}
use Rattle.net_steps.proofs.Delivered.{absent_delivers, memory_apart, apart_left, depot_left}
use Rattle.net_steps.proofs.world.World.deliver.Goals as goal

pub deliver_by-requires-clause-way : goal.deliver_by-requires-clause-way
deliver_by-requires-clause-way g c n h = c.in-Some.ensures.way n.wire.packets n.sent h.sent

pub returns-clause-done : goal.returns-clause-done
returns-clause-done g c n at = (c.deliver_by.ensures.comes n at).done

pub returns-clause-over : goal.returns-clause-over
returns-clause-over g c n at = (c.deliver_by.ensures.comes n at).over

pub returns-clause-limit : goal.returns-clause-limit
returns-clause-limit g c n m at below = (c.deliver_by.ensures.comes n at).limit m below

pub returns-clause-plans : goal.returns-clause-plans
returns-clause-plans g c n m at below = (c.deliver_by.ensures.comes n at).plans m below

pub returns-clause-left : goal.returns-clause-left
returns-clause-left g c n at =
    depot_left g.D.Disk.state n c.args.number (g.P.Depot.state c.deliver_by.new.depot).is_out c.args.self.now c.deliver_by.new.self c.deliver_by.result (c.deliver_by.ensures.comes n at).left

pub returns-in_default-clause-done : goal.returns-in_default-clause-done
returns-in_default-clause-done g c n at =
    (absent_delivers g.D.Disk.state g.D.Disk.images n g.met.D.Disk.only_now (g.P.Depot.state c.args.depot.now).is_out c.args.self.now (before_reached n (events.Deliver c.args.number) at.before) at.held at.out
    c.args.number (c.in_default.ensures.way n.wire.packets n.sent at.held.sent) c.sent-sent.result (c.sent-sent.ensures n.wire.packets n.sent at.held.sent) c.only.result c.only.ensures.lines
    c.only.ensures.memory).done

pub returns-in_default-clause-over : goal.returns-in_default-clause-over
returns-in_default-clause-over g c n at =
    (absent_delivers g.D.Disk.state g.D.Disk.images n g.met.D.Disk.only_now (g.P.Depot.state c.args.depot.now).is_out c.args.self.now (before_reached n (events.Deliver c.args.number) at.before) at.held at.out
    c.args.number (c.in_default.ensures.way n.wire.packets n.sent at.held.sent) c.sent-sent.result (c.sent-sent.ensures n.wire.packets n.sent at.held.sent) c.only.result c.only.ensures.lines
    c.only.ensures.memory).over

pub returns-in_default-clause-limit : goal.returns-in_default-clause-limit
returns-in_default-clause-limit g c n m at below =
    (absent_delivers g.D.Disk.state g.D.Disk.images n g.met.D.Disk.only_now (g.P.Depot.state c.args.depot.now).is_out c.args.self.now (before_reached n (events.Deliver c.args.number) at.before) at.held at.out
    c.args.number (c.in_default.ensures.way n.wire.packets n.sent at.held.sent) c.sent-sent.result (c.sent-sent.ensures n.wire.packets n.sent at.held.sent) c.only.result c.only.ensures.lines
    c.only.ensures.memory).limit m below

pub returns-in_default-clause-plans : goal.returns-in_default-clause-plans
returns-in_default-clause-plans g c n m at below =
    (absent_delivers g.D.Disk.state g.D.Disk.images n g.met.D.Disk.only_now (g.P.Depot.state c.args.depot.now).is_out c.args.self.now (before_reached n (events.Deliver c.args.number) at.before) at.held at.out
    c.args.number (c.in_default.ensures.way n.wire.packets n.sent at.held.sent) c.sent-sent.result (c.sent-sent.ensures n.wire.packets n.sent at.held.sent) c.only.result c.only.ensures.lines
    c.only.ensures.memory).plans m below

pub returns-in_default-clause-left : goal.returns-in_default-clause-left
returns-in_default-clause-left g c n at =
    apart_left g.D.Disk.state n c.args.number (g.P.Depot.state c.args.depot.now).is_out c.args.self.now c.args.self.now c.only.result (memory_apart c.only.result c.only.ensures.memory)

pub returns-in_default-clause-depot : goal.returns-in_default-clause-depot
returns-in_default-clause-depot g c = counted_apart _ _ refl c.only.result (memory_apart c.only.result c.only.ensures.memory)
