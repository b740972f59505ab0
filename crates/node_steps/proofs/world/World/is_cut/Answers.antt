use Rattle.node_steps.proofs.world.World.is_cut.Goals as goal

pub returns : goal.returns
returns g c w h = c.is_cut.ensures w h.clients
