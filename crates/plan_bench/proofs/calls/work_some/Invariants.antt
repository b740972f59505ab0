use Rattle.journal_tests.specs.Standing.{IsMoving}
use Rattle.plan_bench.proofs.calls.work_some.Given as goal

abbrev pub invariant-loop : goal.invariant-loop
invariant-loop g l = IsMoving g.D.Disk.state l.client
