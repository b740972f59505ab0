use Rattle.fault_laws.proofs.Same.{step_same}
use Rattle.fault_laws.proofs.Well.{fine_step}
use Rattle.fault_laws.proofs.a_step_without_faults.Goals as goal

pub returns-clause-same : goal.returns-clause-same
returns-clause-same c = step_same

pub returns-clause-quiet : goal.returns-clause-quiet
returns-clause-quiet c = fine_step
