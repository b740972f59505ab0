use Rattle.std.proofs.Common.{Some, ap, ◌∙◌}
use Rattle.net_steps.proofs.world.World.declared.Goals as goal

pub returns-in_ok-known-in-Some : goal.returns-in_ok-known-in-Some
returns-in_ok-known-in-Some g c v h = ap Some c.in_ok-known-in-Some.ensures ∙ c.in-Some.ensures v.world h.nodes

pub returns-in-None : goal.returns-in-None
returns-in-None g c v h = c.in-None.ensures v.world h.nodes
