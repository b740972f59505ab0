use Rattle.gated_laws.proofs.NetLaws.{nets_told}
use Rattle.gated_laws.proofs.every_run_of_nets_tells_its_histories.Goals as goal

pub returns : goal.returns
returns c = nets_told
