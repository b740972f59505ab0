use Rattle.std.proofs.Common.{refl, ap}
use Rattle.std.specs.Prelude.{not}
use Rattle.stab_base.specs.declared.node.Node.TheVariants as nodes
use Rattle.table_model.specs.declared.event.Event.TheVariants as events
use Rattle.wire_tables.specs.Wire.{wire_step}
use Rattle.gated_tables.specs.Net.{answer_heard, carried_on, device_at}
use Rattle.net_steps.specs.Delivering.{made_heard}
use Rattle.net_steps.proofs.Delivered.{comes_as}
use Rattle.net_steps.proofs.Sessions.{gone_heard, not_gone}
use Rattle.net_steps.proofs.world.World.hear.Goals as goal

pub hear_made-requires : goal.hear_made-requires
hear_made-requires g c = let k = c.requires.here in record { here = (k.0, k.1, k.2) }

pub alter_client-requires-clause-alters : goal.alter_client-requires-clause-alters
alter_client-requires-clause-alters g c = refl

pub alter_client-requires-clause-here : goal.alter_client-requires-clause-here
alter_client-requires-clause-here g c = let k = c.requires.here in (k.0, k.1)

pub returns-then-not-says_gone-clause-comes : goal.returns-then-not-says_gone-clause-comes
returns-then-not-says_gone-clause-comes g c n x device =
    let o = device_at n c.args.client in
    comes_as g.D.Disk.state g.D.Disk.images n (λ lucks. answer_heard n c.args.client c.args.answer.now lucks o) (λ lucks. made_heard n c.args.client c.args.answer.now lucks o)
    (not_gone n c.args.client c.args.answer.now o c.says_gone.result c.says_gone.ensures (ap not c.if-not-says_gone.true)) c.hear_made.result (g.P.Depot.state c.hear_made.new.depot).is_out
    c.args.self.now c.hear_made.new.self (c.hear_made.ensures.comes n x device)

pub returns-clause-comes : goal.returns-clause-comes
returns-clause-comes g c n x device =
    let o = device_at n c.args.client in
    comes_as g.D.Disk.state g.D.Disk.images n (λ lucks. answer_heard n c.args.client c.args.answer.now lucks o)
    (λ lucks. carried_on n (wire_step n.wire (events.Drop (nodes.Client c.args.client) c.args.answer.now.table) lucks))
    (gone_heard n c.args.client c.args.answer.now o c.says_gone.result c.says_gone.ensures (ap not c.if-not-says_gone.false)) c.alter_client.result (g.P.Depot.state c.alter_client.new.depot).is_out
    c.args.self.now c.alter_client.new.self (c.alter_client.ensures.comes n x)
