use Rattle.std.proofs.Common.{◌≡◌, ◌++◌, map}
use Rattle.store_host.specs.Holds.{disks_at}
use Rattle.store_host.proofs.host.StoreHost.into_disks.Given as goal

abbrev pub invariant-loop-table : goal.invariant-loop-table
invariant-loop-table g l = l.disks ++ map disks_at l.table-iterator ≡ map disks_at l.fn.self.tables.entries
