use Rattle.wire_steps.proofs.world.World.entries.Goals as goal

pub returns : goal.returns
returns g c w h = c.entries.ensures w h
