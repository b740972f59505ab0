use Rattle.chunker.proofs.Cuts.{counted}
use Rattle.chunker.proofs.Places.{its_len}
use Rattle.chunker.proofs.laws.chunks_have_their_lengths.Goals as goal

pub returns-clause-count : goal.returns-clause-count
returns-clause-count c = counted

pub returns-clause-each : goal.returns-clause-each
returns-clause-each c = its_len
