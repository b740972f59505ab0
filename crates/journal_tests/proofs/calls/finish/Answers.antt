use Rattle.journal_tests.proofs.Moves.{idle_rests}
use Rattle.journal_tests.proofs.calls.finish.Goals as goal

pub returns-then-idle : goal.returns-then-idle
returns-then-idle g c = idle_rests g.D.Disk.state c.work_on.new.client c.in_ok-work_on.ensures c.if-idle.ensures
