use Rattle.node_steps.proofs.world.World.table_state.Goals as goal

pub returns : goal.returns
returns g c w h = c.table_state.ensures w h.store
