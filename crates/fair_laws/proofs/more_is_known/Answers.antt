use Rattle.fair_laws.proofs.Fairness.{client_more}
use Rattle.fair_laws.proofs.more_is_known.Goals as goal

pub returns : goal.returns
returns c known more n s is f = client_more known more n is s f
