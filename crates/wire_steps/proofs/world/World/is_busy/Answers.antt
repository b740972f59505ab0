use Rattle.wire_steps.proofs.world.World.is_busy.Goals as goal

pub returns : goal.returns
returns g c v h = c.is_busy.ensures v.world h.nodes
