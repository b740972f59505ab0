use Rattle.asked_laws.proofs.Runs.{all_asked}
use Rattle.asked_laws.proofs.resolvings_are_asked_for.Goals as goal

pub returns : goal.returns
returns c = all_asked
