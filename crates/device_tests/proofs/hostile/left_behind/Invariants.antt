use Rattle.device_tests.specs.Standing.{AreWorking}
use Rattle.device_tests.proofs.hostile.left_behind.Given as goal

abbrev pub invariant-loop : goal.invariant-loop
invariant-loop g l = AreWorking g.D.Disk.state l.devs
