use Rattle.client_journal.proofs.Applied.{applied_both}
use Rattle.client_journal.proofs.laws.applied_twice_is_once.Goals as goal

pub returns : goal.returns
returns c commit held = applied_both commit held
