use Rattle.std.proofs.Common.{ap}
use Rattle.std.specs.Prelude.{option_map}
use Rattle.wire_steps.specs.Links.{busy_lines}
use Rattle.wire_steps.proofs.Linked.{busy_as}
use Rattle.wire_steps.proofs.world.World.refuse_busy_live.Goals as goal

pub returns-clause-lines : goal.returns-clause-lines
returns-clause-lines g c v h =
    busy_as c.refuse_at.result _ _ (ap (option_map (busy_lines v.world)) (c.busy_live-busy.ensures v.world h.nodes)) (c.refuse_at.ensures.lines v h)
