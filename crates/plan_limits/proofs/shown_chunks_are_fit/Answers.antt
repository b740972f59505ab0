use Rattle.plan_limits.proofs.New.{are_shown, names_are_shown, shown_spelled, shown_once}
use Rattle.plan_limits.proofs.shown_chunks_are_fit.Goals as goal

pub returns-clause-shown : goal.returns-clause-shown
returns-clause-shown k = λ meaning number held older. are_shown meaning number held older

pub returns-clause-names : goal.returns-clause-names
returns-clause-names k = λ meaning held. names_are_shown meaning held

pub returns-clause-spelled : goal.returns-clause-spelled
returns-clause-spelled k = λ meaning table held fit. shown_spelled meaning table held fit

pub returns-clause-once : goal.returns-clause-once
returns-clause-once k = λ meaning table held fit. shown_once meaning table held fit
