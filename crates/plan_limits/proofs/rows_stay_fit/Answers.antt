use Rattle.std.proofs.Common.{refl}
use Rattle.client_journal.specs.Agenda.{meaning_with}
use Rattle.plan_limits.proofs.Rows.{behind_fit, few_told}
use Rattle.plan_limits.proofs.Numbers.{planned, others, numbered}
use Rattle.plan_limits.proofs.rows_stay_fit.Goals as goal

pub returns-clause-behind : goal.returns-clause-behind
returns-clause-behind k = λ meaning table scheme slots event fit comes. behind_fit meaning table scheme slots event fit comes

pub returns-clause-told : goal.returns-clause-told
returns-clause-told k = λ meaning table scheme slots event fit comes. few_told meaning table scheme slots event fit comes

pub returns-clause-planned : goal.returns-clause-planned
returns-clause-planned k = λ meaning table number brought slots fit older. planned meaning table number brought slots fit older

pub returns-clause-numbered : goal.returns-clause-numbered
returns-clause-numbered k = λ meaning table number brought slots plan fit older. numbered (meaning_with meaning number brought) table number plan slots older fit

pub returns-clause-others : goal.returns-clause-others
returns-clause-others k = λ meaning table number brought slots fit older. others meaning table number brought slots fit older

pub returns-clause-empty : goal.returns-clause-empty
returns-clause-empty k = λ meaning table. record { whole = record { right = refl }; spelled = (tt, (tt, (tt, tt))); pieces = tt }
