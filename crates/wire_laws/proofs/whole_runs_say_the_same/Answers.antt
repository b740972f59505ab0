use Rattle.wire_laws.proofs.Histories.{whole_is_shorter, said_as_whole}
use Rattle.wire_laws.proofs.whole_runs_say_the_same.Goals as goal

pub returns-clause-shorter : goal.returns-clause-shorter
returns-clause-shorter c = whole_is_shorter

pub returns-clause-said : goal.returns-clause-said
returns-clause-said c = said_as_whole
