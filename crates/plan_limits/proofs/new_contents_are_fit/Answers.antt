use Rattle.std.proofs.Common.{[]}
use Rattle.plan_limits.proofs.New.{new_fit}
use Rattle.plan_limits.proofs.new_contents_are_fit.Goals as goal

pub returns : goal.returns
returns k = λ meaning number table content shown held brought schema fit words are spelled once against. new_fit meaning number table shown [] schema are spelled tt once content held brought fit words against
