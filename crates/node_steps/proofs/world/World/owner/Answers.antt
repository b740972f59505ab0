use Rattle.std.proofs.Common.{◌∙◌}
use Rattle.node_steps.proofs.Found.{owner_is}
use Rattle.node_steps.proofs.world.World.owner.Goals as goal

pub returns-clause-held : goal.returns-clause-held
returns-clause-held g c w h = c.owner.ensures.there ∙ owner_is g.D.Disk.state w c.args.self.now h c.args.table
