use Rattle.std.proofs.Common.{drop}
use Rattle.client_node.proofs.Making.{HoldSoFar}
use Rattle.client_node.proofs.devices.make_tables.Given as goal

abbrev pub invariant-loop-table : goal.invariant-loop-table
invariant-loop-table g l = HoldSoFar g.D.Disk.state l.tables (drop l.table-index l.tables) l.fn.devs l.devs
