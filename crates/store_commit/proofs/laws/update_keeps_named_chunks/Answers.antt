use Rattle.store_commit.proofs.Updates.{update_runs, update_ends}
use Rattle.store_commit.proofs.laws.update_keeps_named_chunks.Goals as goal

pub returns-clause-moments : goal.returns-clause-moments
returns-clause-moments c meaning d entry fresh stored n closed r = update_runs meaning d entry fresh stored n closed r

pub returns-clause-ends : goal.returns-clause-ends
returns-clause-ends c = update_ends
