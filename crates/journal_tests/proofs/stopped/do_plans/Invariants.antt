use Rattle.journal_tests.specs.Standing.{IsResting}
use Rattle.journal_tests.proofs.stopped.do_plans.Given as goal

abbrev pub invariant-loop-shape : goal.invariant-loop-shape
invariant-loop-shape g l = IsResting g.D.Disk.state l.client
