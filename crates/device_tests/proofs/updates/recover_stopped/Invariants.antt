use Rattle.disk_trait.specs.Fuse.{behind}
use Rattle.device_tests.specs.Standing.{AreWorking}
use Rattle.device_tests.proofs.updates.recover_stopped.Given as goal

abbrev pub invariant-loop : goal.invariant-loop
invariant-loop g l = AreWorking (behind g.D.Disk.state) l.devs
