use Rattle.wire_steps.proofs.Linked.{link_held}
use Rattle.wire_steps.proofs.world.World.set_link.Goals as goal

pub returns-clause-held : goal.returns-clause-held
returns-clause-held g c v node h at =
    link_held g.D.Disk.state v c.args.self.now h c.args.client c.args.up c.set_link.new.self (c.set_link.ensures.held v.world node h.nodes at)
