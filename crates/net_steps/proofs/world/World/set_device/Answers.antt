use Rattle.std.proofs.Common.{Bool, subst}
use Rattle.node_steps.specs.Holds.{Holds as NodesHold}
use Rattle.node_steps.specs.Links as node_links
use Rattle.wire_steps.specs.Holds as holds
use Rattle.wire_steps.specs.Links.{link_set}
use Rattle.net_steps.specs.Devices.{device_of}
use Rattle.net_steps.proofs.Relinked.{some_of, devices_put, device_held}
use Rattle.net_steps.proofs.world.World.set_device.Goals as goal

pub returns-clause-held : goal.returns-clause-held
returns-clause-held g c n h there client =
    let node = some_of _ there in
    device_held g.D.Disk.state n c.args.client (device_of c.args.device) c.args.self.now h client c.insert.new.self
    (devices_put n.devices c.args.self.now.devices c.insert.new.self c.args.client c.args.device h.devices c.in_ok-insert.ensures.updates.0)
    c.set_link.new.self
    (subst (λ (up : Bool). holds.Holds g.D.Disk.state (link_set c.args.client up n.wire) c.set_link.new.self) c.is_online.ensures (c.set_link.ensures.held n.wire node.0 h.wire node.1))

pub returns-clause-nodes : goal.returns-clause-nodes
returns-clause-nodes g c w node h at =
    subst (λ (up : Bool). NodesHold g.D.Disk.state (node_links.link_set c.args.client up w) c.set_link.new.self.nodes) c.is_online.ensures (c.set_link.ensures.nodes w node h at)
