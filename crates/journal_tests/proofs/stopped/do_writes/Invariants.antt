use Rattle.journal_tests.specs.Standing.{IsMoving}
use Rattle.journal_tests.proofs.stopped.do_writes.Given as goal

abbrev pub invariant-loop : goal.invariant-loop
invariant-loop g l = IsMoving g.D.Disk.state l.client
