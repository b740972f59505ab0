use Rattle.gated_laws.proofs.NetLaws.{nets_phases, nets_up}
use Rattle.gated_laws.proofs.every_run_of_nets_tells_its_phases.Goals as goal

pub returns-clause-told : goal.returns-clause-told
returns-clause-told c = nets_phases

pub returns-clause-up : goal.returns-clause-up
returns-clause-up c = nets_up
