use Rattle.wire_laws.proofs.WireRuns.{run_phases, run_up}
use Rattle.wire_laws.proofs.every_run_of_wires_tells_its_phases.Goals as goal

pub returns-clause-told : goal.returns-clause-told
returns-clause-told c = run_phases

pub returns-clause-up : goal.returns-clause-up
returns-clause-up c = run_up
