use Rattle.wire_steps.proofs.world.World.table_state.Goals as goal

pub returns : goal.returns
returns g c v h = c.table_state.ensures v.world h.nodes
