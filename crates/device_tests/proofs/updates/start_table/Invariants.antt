use Rattle.disk_trait.specs.Fuse.{behind}
use Rattle.device_tests.specs.Standing.{ChunksStand}
use Rattle.device_tests.proofs.updates.start_table.Given as goal

abbrev pub invariant-loop-ordinal : goal.invariant-loop-ordinal
invariant-loop-ordinal g l = ChunksStand (behind g.D.Disk.state) l.chunks
