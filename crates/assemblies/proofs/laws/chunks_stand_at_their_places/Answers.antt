use Rattle.assemblies.proofs.Lengths.{chunk_is_at}
use Rattle.assemblies.proofs.laws.chunks_stand_at_their_places.Goals as goal

pub returns : goal.returns
returns c = chunk_is_at
