use Rattle.device_tests.specs.Standing.{AreKnown}
use Rattle.device_tests.proofs.commits.has_chunks.Given as goal

abbrev pub invariant-loop-version : goal.invariant-loop-version
invariant-loop-version g l = AreKnown g.D.Disk.state l.devs
