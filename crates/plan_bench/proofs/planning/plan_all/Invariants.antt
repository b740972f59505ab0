use Rattle.journal_tests.specs.Standing.{IsResting}
use Rattle.plan_bench.proofs.planning.plan_all.Given as goal

abbrev pub invariant-loop-turn : goal.invariant-loop-turn
invariant-loop-turn g l = IsResting g.D.Disk.state l.client
