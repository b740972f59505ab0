use Rattle.std.proofs.Common.{◌∙◌}
use Rattle.node_steps.proofs.world.World.schema.Goals as goal

pub returns : goal.returns
returns g c w h = c.get.ensures.value ∙ h.schemas c.args.table
