use Rattle.gated_laws.proofs.NetLaws.{nets_listed}
use Rattle.gated_laws.proofs.every_run_of_nets_lists_chunks.Goals as goal

pub returns : goal.returns
returns c = nets_listed
