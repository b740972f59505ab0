use Rattle.piece_laws.proofs.Runs.{all_stand}
use Rattle.piece_laws.proofs.names_stand_for_one_chunk.Goals as goal

pub returns : goal.returns
returns c = λ happenings. all_stand happenings
