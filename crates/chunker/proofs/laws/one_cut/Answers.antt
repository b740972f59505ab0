use Rattle.chunker.proofs.Cuts.{one_cut}
use Rattle.chunker.proofs.laws.one_cut.Goals as goal

pub returns : goal.returns
returns c = one_cut
