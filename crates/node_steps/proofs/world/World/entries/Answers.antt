use Rattle.node_steps.proofs.world.World.entries.Goals as goal

pub returns : goal.returns
returns g c w h = c.history.ensures w h.store
