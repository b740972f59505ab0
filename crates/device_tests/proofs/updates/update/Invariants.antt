use Rattle.disk_trait.specs.Fuse.{behind}
use Rattle.device_tests.specs.Standing.{AllStand}
use Rattle.device_tests.proofs.updates.update.Given as goal

abbrev pub invariant-loop-index : goal.invariant-loop-index
invariant-loop-index g l = AllStand (behind g.D.Disk.state) l.chunks l.rows l.log
