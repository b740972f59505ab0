use Rattle.gate_tables.proofs.Passing.{passes}
use Rattle.gate_tables.proofs.laws.what_passes_is_unchanged.Goals as goal

pub returns : goal.returns
returns c = passes
