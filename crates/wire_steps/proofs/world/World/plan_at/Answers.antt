use Rattle.wire_steps.proofs.world.World.plan_at.Goals as goal

pub plan_at-requires : goal.plan_at-requires
plan_at-requires g c = (c.requires.0.world, c.requires.1.nodes)
