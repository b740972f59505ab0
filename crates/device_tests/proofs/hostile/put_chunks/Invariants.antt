use Rattle.disk_trait.specs.Fuse.{behind}
use Rattle.device_tests.specs.Standing.{ChunksStand}
use Rattle.device_tests.proofs.hostile.put_chunks.Given as goal

abbrev pub invariant-loop-version : goal.invariant-loop-version
invariant-loop-version g l = ChunksStand (behind g.D.Disk.state) l.chunks
