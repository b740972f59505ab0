use Rattle.wire_laws.proofs.Histories.{wire_history_told}
use Rattle.wire_laws.proofs.every_run_of_wires_tells_its_histories.Goals as goal

pub returns : goal.returns
returns c = wire_history_told
