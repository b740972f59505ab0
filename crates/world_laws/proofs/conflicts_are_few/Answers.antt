use Rattle.world_laws.proofs.PairCounts.{pairs_few, begun_few}
use Rattle.world_laws.proofs.conflicts_are_few.Goals as goal

pub returns-clause-pairs : goal.returns-clause-pairs
returns-clause-pairs c = pairs_few

pub returns-clause-begun : goal.returns-clause-begun
returns-clause-begun c = begun_few
