use Rattle.wire_laws.proofs.WireRuns.{run_asked}
use Rattle.wire_laws.proofs.every_run_of_wires_is_asked.Goals as goal

pub returns : goal.returns
returns c = run_asked
