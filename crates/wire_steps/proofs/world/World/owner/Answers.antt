use Rattle.wire_steps.proofs.world.World.owner.Goals as goal

pub returns : goal.returns
returns g c v h = c.owner.ensures.held v.world h.nodes
