use Rattle.std.proofs.Common.{◌∙◌, Some, refl, sym}
use Rattle.step_tables.specs.Facts as facts
use Rattle.stab_base.specs.declared.node.Node.TheVariants as nodes
use Rattle.world_tables.specs.World.{no_lucks}
use Rattle.gated_tables.specs.Net.{linked, relinked}
use Rattle.net_steps.specs.Devices.{device_of}
use Rattle.net_steps.proofs.Delivered.{delivers_as, still_delivers, all_send}
use Rattle.net_steps.proofs.Relinked.{gated_up, link_down_step, link_up_step}
use Rattle.net_steps.proofs.world.World.link_gated.Goals as goal

pub relink-requires : goal.relink-requires
relink-requires g c =
    let k = c.requires.here in
    record { here = (k.0, k.1, gated_up g.D.Disk.state k.0 c.args.client (device_of c.args.device) k.1 c.args.self.now k.2 (sym (c.is_down.ensures k.1.wire k.2.stood.held.wire) ∙ c.if-is_down.false)) }

pub returns-then-is_down-clause-done : goal.returns-then-is_down-clause-done
returns-then-is_down-clause-done g c is_out n x =
    still_delivers g.D.Disk.state g.D.Disk.images n g.met.D.Disk.only_now is_out c.args.self.now x.stood.reached x.stood.held x.stood.out
    (λ lucks. linked n c.args.client c.args.up lucks (Some (device_of c.args.device))) no_lucks (facts.Refuses (facts.NodeDown (nodes.Client c.args.client))) refl
    (link_down_step n c.args.client c.args.up no_lucks (device_of c.args.device) (sym (c.is_down.ensures n.wire x.stood.held.wire) ∙ c.if-is_down.true))
    c.only.result c.only.ensures.lines c.only.ensures.memory

pub returns-then-is_down-clause-only : goal.returns-then-is_down-clause-only
returns-then-is_down-clause-only g c = all_send c.only.result c.only.ensures.memory

pub returns-clause-done : goal.returns-clause-done
returns-clause-done g c is_out n x =
    let up = sym (c.is_down.ensures n.wire x.stood.held.wire) ∙ c.if-is_down.false in
    let d = device_of c.args.device in
    delivers_as g.D.Disk.state g.D.Disk.images n (λ lucks. linked n c.args.client c.args.up lucks (Some d)) (λ lucks. relinked n c.args.client c.args.up d)
    (λ lucks. link_up_step n c.args.client c.args.up lucks d up) c.relink.result is_out c.args.self.now c.relink.new.self
    (c.relink.ensures.done is_out n (gated_up g.D.Disk.state is_out c.args.client d n c.args.self.now x up))
