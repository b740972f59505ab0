use Rattle.node_steps.proofs.world.World.is_client_ready.Goals as goal

pub returns : goal.returns
returns g c w h = c.is_ready.ensures w h.clients
