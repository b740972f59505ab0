use Rattle.chunker.proofs.Pieces.{one_list}
use Rattle.chunker.proofs.laws.one_list_of_pieces.Goals as goal

pub returns : goal.returns
returns c = one_list
