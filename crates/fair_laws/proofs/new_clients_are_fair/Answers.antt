use Rattle.fair_laws.proofs.Fairness.{new_fair}
use Rattle.fair_laws.proofs.new_clients_are_fair.Goals as goal

pub returns : goal.returns
returns c w n tables = new_fair w n tables
