use Rattle.store_commit.proofs.Recoveries.{recovery_runs, recovery_ends}
use Rattle.store_commit.proofs.laws.recovery_keeps_named_chunks.Goals as goal

pub returns-clause-moments : goal.returns-clause-moments
returns-clause-moments c meaning d names n l = recovery_runs meaning d n names l

pub returns-clause-ends : goal.returns-clause-ends
returns-clause-ends c = recovery_ends
