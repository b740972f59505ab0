use Rattle.std.proofs.Common.{◌∙◌, ap, sym}
use Rattle.net_steps.specs.Delivering.{is_asked_shut}
use Rattle.net_steps.proofs.world.World.is_asked_shut.Goals as goal

pub returns-in-Some : goal.returns-in-Some
returns-in-Some g c is_out n x = c.is_shut.ensures is_out n x ∙ sym (ap (is_asked_shut n c.args.store) c.in-Some.is)

pub returns-in-None : goal.returns-in-None
returns-in-None g c is_out n x = sym (ap (is_asked_shut n c.args.store) c.in-None.is)
