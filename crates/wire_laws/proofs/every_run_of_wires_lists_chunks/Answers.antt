use Rattle.wire_laws.proofs.WireRuns.{run_listed}
use Rattle.wire_laws.proofs.every_run_of_wires_lists_chunks.Goals as goal

pub returns : goal.returns
returns c = run_listed
