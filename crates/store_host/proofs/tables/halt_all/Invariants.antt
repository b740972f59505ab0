use Rattle.std.proofs.Common.{◌≡◌, drop}
use Rattle.world_tables.specs.World.{World, tables_fall}
use Rattle.store_host.specs.Holds.{HoldsTables, SameFaults, AreStill}
use Rattle.store_host.proofs.Froms.{IsFrom, SameDisk}
use Rattle.store_host.proofs.tables.halt_all.Given as goal

abbrev pub invariant-loop-table : goal.invariant-loop-table
invariant-loop-table g l = record {
  moved : (w : World) → HoldsTables g.D.Disk.state w l.fn.tables
      → (v : World) × HoldsTables g.D.Disk.state v l.tables × ((tables_fall (drop l.table-index l.numbers) v).world ≡ (tables_fall l.fn.numbers w).world) × IsFrom SameDisk w v
      × AreStill g.D.Disk.state g.D.Disk.images w l.fn.tables l.tables;
  counted : SameFaults g.D.Disk.state l.fn.tables l.tables;
}
