use Rattle.fair_laws.proofs.Worlds.{reached_fair}
use Rattle.fair_laws.proofs.reached_worlds_are_fair.Goals as goal

pub returns : goal.returns
returns c w reached = reached_fair w reached
