use Rattle.journal_laws.proofs.Crashes.{one_of_two}
use Rattle.journal_laws.proofs.a_crash_inside_a_write.Goals as goal

pub returns : goal.returns
returns c = one_of_two
