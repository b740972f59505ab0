use Rattle.disk_trait.specs.Fuse.{behind}
use Rattle.device_tests.specs.Standing.{RowsStand}
use Rattle.device_tests.proofs.hostile.put_rows.Given as goal

abbrev pub invariant-loop-row : goal.invariant-loop-row
invariant-loop-row g l = RowsStand (behind g.D.Disk.state) l.rows
