use Rattle.net_laws.proofs.Few.{gates_few}
use Rattle.net_laws.proofs.gates_are_few.Goals as goal

pub returns : goal.returns
returns c = gates_few
