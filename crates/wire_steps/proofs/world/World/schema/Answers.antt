use Rattle.wire_steps.proofs.world.World.schema.Goals as goal

pub returns : goal.returns
returns g c w h = c.schema.ensures w h
