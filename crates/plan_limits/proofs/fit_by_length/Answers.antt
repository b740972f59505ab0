use Rattle.plan_limits.proofs.Lengths.{held_fits}
use Rattle.plan_limits.proofs.fit_by_length.Goals as goal

pub returns : goal.returns
returns k = λ schema content meaning held fit whole lens. held_fits schema content meaning held fit whole lens
