use Rattle.std.proofs.Common.{refl, sym, ◌∙◌}
use Rattle.step_tables.specs.Facts as facts
use Rattle.table_model.specs.declared.event.Event.TheVariants as events
use Rattle.world_tables.specs.World.{no_lucks}
use Rattle.gated_tables.specs.Net.{net_step}
use Rattle.gated_laws.proofs.Reached.{before_reached}
use Rattle.net_steps.proofs.Brought.{counted_apart}
use Rattle.net_steps.proofs.Coming.{step_refused}
use Rattle.net_steps.proofs.Delivered.{comes_by, still_delivers, memory_apart}
use Rattle.net_steps.proofs.world.World.deliver_by.Goals as goal

pub deliver_to-requires-clause-up : goal.deliver_to-requires-clause-up
deliver_to-requires-clause-up g c n h = sym (c.is_node_down.ensures.down n h) ∙ c.if-is_node_down.false

pub deliver_to-requires-clause-gate : goal.deliver_to-requires-clause-gate
deliver_to-requires-clause-gate g c = c.is_node_down.ensures.gate c.if-is_node_down.false

pub returns-then-is_node_down-clause-comes : goal.returns-then-is_node_down-clause-comes
returns-then-is_node_down-clause-comes g c n at =
    let is_out = (g.P.Depot.state c.args.depot.now).is_out in
    comes_by g.D.Disk.state g.D.Disk.images n (net_step n (events.Deliver c.args.number)) c.only.result is_out c.args.self.now c.args.self.now
    (still_delivers g.D.Disk.state g.D.Disk.images n g.met.D.Disk.only_now is_out c.args.self.now (before_reached n (events.Deliver c.args.number) at.before) at.held at.out
    (net_step n (events.Deliver c.args.number)) no_lucks (facts.Refuses (facts.NodeDown c.args.way.to)) refl
    (step_refused g.D.Disk.state is_out c.args.number c.args.way c.args.self.now n at (c.requires.way n at.held)
    (sym (c.is_node_down.ensures.down n at.held) ∙ c.if-is_node_down.true) no_lucks)
    c.only.result c.only.ensures.lines c.only.ensures.memory)

pub returns-then-is_node_down-clause-depot : goal.returns-then-is_node_down-clause-depot
returns-then-is_node_down-clause-depot g c = counted_apart _ _ refl c.only.result (memory_apart c.only.result c.only.ensures.memory)

pub returns-clause-comes : goal.returns-clause-comes
returns-clause-comes g c n at = c.deliver_to.ensures.comes n at
