use Rattle.gate_tables.proofs.Passing.{unregistered}
use Rattle.gate_tables.proofs.laws.nobody_passes_without_a_session.Goals as goal

pub returns : goal.returns
returns c = unregistered
