use Rattle.std.proofs.Common.{drop}
use Rattle.world_tables.specs.World.{World}
use Rattle.store_host.specs.Holds.{HoldsTables, SameFaults, AreStill}
use Rattle.store_host.proofs.Moving.{Begins}
use Rattle.store_host.proofs.tables.start_all.Given as goal

abbrev pub invariant-loop-table : goal.invariant-loop-table
invariant-loop-table g l = record {
  begun : (w : World) → HoldsTables g.D.Disk.state w l.fn.tables
      → Begins g.D.Disk.state w l.tables l.fn.outs l.outs l.fn.numbers (drop l.table-index l.numbers);
  left : (w : World) → HoldsTables g.D.Disk.state w l.fn.tables → AreStill g.D.Disk.state g.D.Disk.images w l.fn.tables l.tables;
  counted : SameFaults g.D.Disk.state l.fn.tables l.tables;
}
