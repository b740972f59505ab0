use Rattle.std.specs.Prelude.{length}
use Rattle.client_journal.specs.Standing.{writes_of}
use Rattle.journal_tests.specs.Standing.{IsMoving}
use Rattle.plan_bench.proofs.calls.work_all.Given as goal

abbrev pub invariant-loop-client : goal.invariant-loop-client
invariant-loop-client g l = IsMoving g.D.Disk.state l.client

abbrev pub decreases-loop-client : goal.decreases-loop-client
decreases-loop-client g l = length (writes_of l.client)
