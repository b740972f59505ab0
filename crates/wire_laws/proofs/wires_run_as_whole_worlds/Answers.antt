use Rattle.wire_laws.proofs.WireRuns.{whole_run}
use Rattle.wire_laws.proofs.wires_run_as_whole_worlds.Goals as goal

pub returns : goal.returns
returns c = whole_run
