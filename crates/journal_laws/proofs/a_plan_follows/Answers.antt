use Rattle.journal_laws.proofs.Plans.{plan_follows}
use Rattle.journal_laws.proofs.a_plan_follows.Goals as goal

pub returns : goal.returns
returns c = λ c meaning d disk number plan p shape answer sends st rest j newest of at s. plan_follows c meaning d disk number plan p sends shape st rest j newest of at s.after s.before
