use Rattle.wire_steps.proofs.world.World.is_cut.Goals as goal

pub returns : goal.returns
returns g c v h = c.is_cut.ensures v.world h.nodes
