use Rattle.wire_laws.proofs.Carried.{reached_world}
use Rattle.wire_laws.proofs.worlds_of_wires_are_reached.Goals as goal

pub returns : goal.returns
returns c = reached_world
