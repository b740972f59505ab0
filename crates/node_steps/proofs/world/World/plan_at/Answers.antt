use Rattle.node_steps.proofs.world.World.plan_at.Goals as goal

pub plan_at-requires : goal.plan_at-requires
plan_at-requires g c = (c.requires.0, c.requires.1.clients)

pub returns-clause-busy : goal.returns-clause-busy
returns-clause-busy g c w h = c.plan_at.ensures.busy w h.clients
