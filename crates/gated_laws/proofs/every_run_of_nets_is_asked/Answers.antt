use Rattle.gated_laws.proofs.NetLaws.{nets_asked}
use Rattle.gated_laws.proofs.every_run_of_nets_is_asked.Goals as goal

pub returns : goal.returns
returns c = nets_asked
