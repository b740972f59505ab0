use Rattle.wire_laws.proofs.WireRuns.{run_sound}
use Rattle.wire_laws.proofs.every_run_of_wires_is_sound.Goals as goal

pub returns : goal.returns
returns c = run_sound
