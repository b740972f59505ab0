use Rattle.plan_limits.proofs.Commits.{row_short, rowless_short, chunks_short}
use Rattle.plan_limits.proofs.plans_are_short.Goals as goal

pub returns-clause-row : goal.returns-clause-row
returns-clause-row k = λ meaning other table row before behind plan schema was is made. row_short meaning other table row before behind plan schema was is made

pub returns-clause-rowless : goal.returns-clause-rowless
returns-clause-rowless k = λ plan made. rowless_short plan made

pub returns-clause-chunks : goal.returns-clause-chunks
returns-clause-chunks k = λ size brought is small. chunks_short size brought is small
