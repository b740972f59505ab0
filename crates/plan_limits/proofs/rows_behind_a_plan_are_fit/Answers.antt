use Rattle.plan_limits.proofs.Followed.{rows_followed}
use Rattle.plan_limits.proofs.rows_behind_a_plan_are_fit.Goals as goal

pub returns : goal.returns
returns k = λ meaning held number plan fit older keeps n change. rows_followed meaning held number plan fit older n change keeps
