use Rattle.gated_laws.proofs.NetLaws.{nets_sound}
use Rattle.gated_laws.proofs.every_run_of_nets_is_sound.Goals as goal

pub returns : goal.returns
returns c = nets_sound
