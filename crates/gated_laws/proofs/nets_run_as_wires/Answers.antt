use Rattle.gated_laws.proofs.NetRuns.{run_of_wires}
use Rattle.gated_laws.proofs.nets_run_as_wires.Goals as goal

pub returns : goal.returns
returns c = run_of_wires
