use Rattle.client_journal.proofs.Wholes.{whole_shown}
use Rattle.plan_limits.proofs.fit_rows_are_there.Goals as goal

pub returns : goal.returns
returns k = λ meaning d named fit rising. whole_shown meaning d named (record { each = λ table row stored is. (fit.each table row stored is).whole }) rising
