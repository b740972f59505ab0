use Rattle.client_journal.proofs.Planning.{plan_runs}
use Rattle.client_journal.proofs.laws.plans_are_whole.Goals as goal

pub returns : goal.returns
returns c = record { moments = λ meaning d intend brought commit n rest k. plan_runs meaning d intend brought commit n rest k }
