use Rattle.node_steps.proofs.world.World.is_table_up.Goals as goal

pub returns : goal.returns
returns g c w h = c.is_table_up.ensures w h.store
