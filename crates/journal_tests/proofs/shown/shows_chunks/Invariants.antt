use Rattle.journal_tests.specs.Standing.{IsKnown}
use Rattle.journal_tests.proofs.shown.shows_chunks.Given as goal

abbrev pub invariant-loop-name : goal.invariant-loop-name
invariant-loop-name g l = IsKnown g.D.Disk.state l.client
