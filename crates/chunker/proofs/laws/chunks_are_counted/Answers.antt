use Rattle.chunker.proofs.Cuts.{counted}
use Rattle.chunker.proofs.laws.chunks_are_counted.Goals as goal

pub returns : goal.returns
returns c = counted
