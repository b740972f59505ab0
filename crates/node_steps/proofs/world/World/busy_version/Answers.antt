use Rattle.node_steps.proofs.world.World.busy_version.Goals as goal

pub busy_version-requires : goal.busy_version-requires
busy_version-requires g c = (c.requires.0, c.requires.1.store)

pub returns : goal.returns
returns g c w h = c.busy_version.ensures w h.store
