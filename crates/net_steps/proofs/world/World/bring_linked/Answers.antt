use Rattle.std.proofs.Common.{Bool, subst}
use Rattle.gated_tables.specs.Net.{cutting}
use Rattle.node_steps.specs.Holds.{Holds as NodesHold}
use Rattle.node_steps.specs.Links as node_links
use Rattle.wire_steps.specs.Holds.{Holds}
use Rattle.wire_steps.specs.Links.{link_set}
use Rattle.net_steps.specs.Devices.{device_of}
use Rattle.net_steps.proofs.Linking.{linked_brings, linked_delivers, node_there}
use Rattle.net_steps.proofs.world.World.bring_linked.Goals as goal

pub bring-result-requires : goal.bring-result-requires
bring-result-requires g c =
    let k = c.requires.here in
    let node = node_there g.D.Disk.state g.D.Disk.images (g.P.Depot.state c.args.depot.now).is_out c.args.client (device_of c.args.device) k.0 c.args.self.now k.1 in
    record {
      here = (
        k.0,
        cutting c.args.client c.args.device.linked k.0.wire,
        linked_brings g.D.Disk.state g.D.Disk.images (g.P.Depot.state c.args.depot.now).is_out c.args.client (device_of c.args.device) k.0 c.args.self.now k.1 c.set_link.new.self
            (c.set_link.ensures.held k.0.wire node.0 k.1.here.held.wire node.1),
      );
    }

pub returns-clause-delivers : goal.returns-clause-delivers
returns-clause-delivers g c n x =
    let is_out = (g.P.Depot.state c.args.depot.now).is_out in
    let d = device_of c.args.device in
    let node = node_there g.D.Disk.state g.D.Disk.images is_out c.args.client d n c.args.self.now x in
    let held = c.set_link.ensures.held n.wire node.0 x.here.held.wire node.1 in
    let last = c.set_link-2 in
    linked_delivers g.D.Disk.state g.D.Disk.images is_out c.args.client d n c.args.self.now x c.set_link.new.self held c.args.packet (g.P.Depot.state c.bring-result.new.depot).is_out
    c.bring-result.new.self last.new.self c.set_link.ensures.store c.set_link.ensures.faults c.set_link.ensures.plans
    (λ v k h at. subst (λ (b : Bool). Holds g.D.Disk.state (link_set c.args.client b v) last.new.self) c.is_online.ensures (last.ensures.held v k h at))
    (λ w k h at. subst (λ (b : Bool). NodesHold g.D.Disk.state (node_links.link_set c.args.client b w) last.new.self.nodes) c.is_online.ensures (last.ensures.nodes w k h at))
    last.ensures.store last.ensures.faults last.ensures.plans c.bring-result.result
    (c.bring-result.ensures.brings n (cutting c.args.client c.args.device.linked n.wire)
    (linked_brings g.D.Disk.state g.D.Disk.images is_out c.args.client d n c.args.self.now x c.set_link.new.self held))
