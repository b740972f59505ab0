use Rattle.client_journal.proofs.Recoveries.{recovery_runs}
use Rattle.client_journal.proofs.laws.redoing_is_whole.Goals as goal

pub returns : goal.returns
returns c = record { moments = λ meaning d names n l. recovery_runs meaning d names n l }
