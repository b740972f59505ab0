use Rattle.std.proofs.Common.{refl, ap}
use Rattle.std.specs.Prelude.{not}
use Rattle.stab_base.specs.declared.node.Node.TheVariants as nodes
use Rattle.table_model.specs.declared.event.Event.TheVariants as events
use Rattle.wire_tables.specs.Wire.{wire_step}
use Rattle.world_tables.specs.World.{Lucks, client_at}
use Rattle.gated_tables.specs.Net.{NetStep, agenda_in, carried_on, device_at, if_idle, of_session}
use Rattle.net_steps.specs.Delivering.{made_heard}
use Rattle.net_steps.proofs.Delivered.{comes_as, comes_by}
use Rattle.net_steps.proofs.Sessions.{made_is, not_made}
use Rattle.net_steps.proofs.world.World.hear_made.Goals as goal

pub take_idle-requires : goal.take_idle-requires
take_idle-requires g c = let k = c.requires.here in record { here = ((g.P.Depot.state c.args.depot.now).is_out, k.0, k.1, k.2) }

pub alter_client-requires-clause-alters : goal.alter_client-requires-clause-alters
alter_client-requires-clause-alters g c = refl

pub alter_client-requires-clause-here : goal.alter_client-requires-clause-here
alter_client-requires-clause-here g c = let k = c.requires.here in (k.0, k.1)

pub returns-then-not-says_made-clause-comes : goal.returns-then-not-says_made-clause-comes
returns-then-not-says_made-clause-comes g c n x device =
    let is_out = (g.P.Depot.state c.args.depot.now).is_out in
    let o = device_at n c.args.client in
    let f : Lucks → NetStep = λ lucks. if_idle n lucks (agenda_in (client_at n.wire.world c.args.client)) (of_session n c.args.client c.args.answer.now o) in
    comes_as g.D.Disk.state g.D.Disk.images n (λ lucks. made_heard n c.args.client c.args.answer.now lucks o) f
    (not_made n c.args.client c.args.answer.now o c.says_made.result c.says_made.ensures (ap not c.if-not-says_made.true)) c.take_idle.result is_out c.args.self.now c.take_idle.new.self
    (comes_by g.D.Disk.state g.D.Disk.images n f c.take_idle.result is_out c.args.self.now c.take_idle.new.self (c.take_idle.ensures is_out n x device))

pub returns-clause-comes : goal.returns-clause-comes
returns-clause-comes g c n x device =
    let o = device_at n c.args.client in
    comes_as g.D.Disk.state g.D.Disk.images n (λ lucks. made_heard n c.args.client c.args.answer.now lucks o)
    (λ lucks. carried_on n (wire_step n.wire (events.Create (nodes.Client c.args.client) c.args.answer.now.table) lucks))
    (made_is n c.args.client c.args.answer.now o c.says_made.result c.says_made.ensures (ap not c.if-not-says_made.false)) c.alter_client.result (g.P.Depot.state c.alter_client.new.depot).is_out
    c.args.self.now c.alter_client.new.self (c.alter_client.ensures.comes n x)
