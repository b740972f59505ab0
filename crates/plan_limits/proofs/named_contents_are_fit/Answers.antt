use Rattle.plan_limits.proofs.New.{new_fit}
use Rattle.plan_limits.proofs.named_contents_are_fit.Goals as goal

pub returns : goal.returns
returns k = λ meaning number table content names shown held brought schema fit words named are spelled once against.
    new_fit meaning number table shown names schema are spelled named once content held brought fit words against
