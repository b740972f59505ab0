use Rattle.wire_laws.proofs.Carried.{was_owner}
use Rattle.wire_laws.proofs.parts_go_to_the_owner.Goals as goal

pub returns : goal.returns
returns c = was_owner
