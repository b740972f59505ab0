use Rattle.std.proofs.Common.{sym}
use Rattle.stab_base.specs.declared.node.Node.TheVariants as nodes
use Rattle.message_parts.specs.Parts.{part_of}
use Rattle.gated_tables.specs.Net.{to_client}
use Rattle.net_steps.specs.Devices.{device_of}
use Rattle.net_steps.specs.Delivering.{step_brought, step_linked}
use Rattle.net_steps.proofs.Coming.{client_wired, client_linked}
use Rattle.net_steps.proofs.Delivered.{delivers_as, wire_delivers, wire_brings}
use Rattle.net_steps.proofs.world.World.bring_client.Goals as goal

pub bring_linked-requires : goal.bring_linked-requires
bring_linked-requires g c = let x = c.requires.coming.2 in record { here = (x.n, record { here = x.here; device = sym (c.in-Some.ensures x.n x.here.held) }) }

pub bring-requires : goal.bring-requires
bring-requires g c =
    let x = c.requires.coming.2 in
    record { here = (x.n, x.n.wire, wire_brings g.D.Disk.state (g.P.Depot.state c.args.depot.now).is_out (nodes.Client c.args.client) x.n c.args.self.now x.here) }

pub returns-in-Some-clause-delivers : goal.returns-in-Some-clause-delivers
returns-in-Some-clause-delivers g c number from x =
    let at = sym (c.in-Some.ensures x.n x.here.held) in
    delivers_as g.D.Disk.state g.D.Disk.images x.n (λ lucks. to_client x.n c.args.client x.one lucks (part_of x.one.message))
    (step_linked x.n c.args.client (device_of c.in-Some.device) c.args.part.0)
    (client_linked g.D.Disk.state (g.P.Depot.state c.args.depot.now).is_out number from c.args.part c.args.self.now c.args.client x (device_of c.in-Some.device) at)
    c.bring_linked.result (g.P.Depot.state c.bring_linked.new.depot).is_out c.args.self.now c.bring_linked.new.self
    (c.bring_linked.ensures.delivers x.n (record { here = x.here; device = at }))

pub returns-in-None-clause-delivers : goal.returns-in-None-clause-delivers
returns-in-None-clause-delivers g c number from x =
    let is_after = (g.P.Depot.state c.bring.new.depot).is_out in
    delivers_as g.D.Disk.state g.D.Disk.images x.n (λ lucks. to_client x.n c.args.client x.one lucks (part_of x.one.message)) (step_brought x.n x.n.wire c.args.part.0)
    (client_wired g.D.Disk.state (g.P.Depot.state c.args.depot.now).is_out number from c.args.part c.args.self.now c.args.client x (sym (c.in-None.ensures x.n x.here.held)))
    c.bring.result is_after c.args.self.now c.bring.new.self
    (wire_delivers g.D.Disk.state g.D.Disk.images x.n c.args.part.0 is_after c.args.self.now c.bring.new.self c.bring.result
    (c.bring.ensures.brings x.n x.n.wire (wire_brings g.D.Disk.state (g.P.Depot.state c.args.depot.now).is_out (nodes.Client c.args.client) x.n c.args.self.now x.here)))
