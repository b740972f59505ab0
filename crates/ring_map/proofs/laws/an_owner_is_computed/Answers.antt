use Rattle.ring_map.proofs.Computed.{owner_is}
use Rattle.ring_map.proofs.laws.an_owner_is_computed.Goals as goal

pub returns : goal.returns
returns c = λ stores name store o. owner_is stores name store o
