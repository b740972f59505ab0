use Rattle.node_steps.proofs.world.World.is_busy.Goals as goal

pub returns : goal.returns
returns g c w h = c.is_busy.ensures w h.store
