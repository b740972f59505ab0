use Rattle.client_laws.proofs.Law.{client_law}
use Rattle.client_laws.proofs.Grows.{client_grows, lapsed_grows}
use Rattle.world_laws.proofs.Runs.{all_runs}
use Rattle.world_laws.proofs.Fresh.{fresh_part}
use Rattle.world_laws.proofs.every_run_is_sound.Goals as goal

pub returns : goal.returns
returns c = λ happenings. all_runs client_law client_grows lapsed_grows fresh_part happenings
