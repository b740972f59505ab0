use Rattle.fair_laws.proofs.Fairness.{step_fair}
use Rattle.fair_laws.proofs.clients_stay_fair.Goals as goal

pub returns : goal.returns
returns c known n shape s move opens f = step_fair known n shape s move opens f
