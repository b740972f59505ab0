use Rattle.std.proofs.Common.{ℕ}
use Rattle.world_tables.specs.World.{World}
use Rattle.journal_host.specs.Holds.{HoldsClients, AreClients, SameFaults, HavePlansBelow}
use Rattle.journal_host.proofs.Draining.{Drains}
use Rattle.journal_host.proofs.host.ClientHost.work_on.Given as goal

abbrev pub invariant-loop-count : goal.invariant-loop-count
invariant-loop-count g l = record {
  drained : (w : World) → HoldsClients g.D.Disk.state w l.fn.self → Drains g.D.Disk.state w l.fn.self l.self l.client l.count;
  some : AreClients g.D.Disk.state l.self;
  counted : SameFaults g.D.Disk.state l.fn.self.clients l.self.clients;
  plans : (n : ℕ) → HavePlansBelow g.D.Disk.state n l.fn.self.clients → HavePlansBelow g.D.Disk.state n l.self.clients;
}
