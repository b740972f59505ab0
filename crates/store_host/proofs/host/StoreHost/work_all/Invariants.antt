use Rattle.std.proofs.Common.{◌≡◌}
use Rattle.world_tables.specs.World.{World}
use Rattle.store_host.specs.Holds.{HoldsStore, SameFaults, AreLeft}
use Rattle.store_host.proofs.Draining.{Drains}
use Rattle.store_host.proofs.host.StoreHost.work_all.Given as goal

abbrev pub invariant-loop-count : goal.invariant-loop-count
invariant-loop-count g l = record {
  drained : (w : World) → HoldsStore g.D.Disk.state w l.fn.self → Drains g.D.Disk.state l.store w l.fn.self l.self l.count;
  left : (w : World) → HoldsStore g.D.Disk.state w l.fn.self → AreLeft g.D.Disk.state g.D.Disk.images w l.fn.self.tables l.self.tables;
  stores : l.self.stores ≡ l.fn.self.stores;
  counted : SameFaults g.D.Disk.state l.fn.self.tables l.self.tables;
}
