use Rattle.std.proofs.Common.{◌≡◌, drop}
use Rattle.std.specs.List.{find}
use Rattle.world_tables.specs.World.{World, is_at_work}
use Rattle.store_host.specs.Holds.{HoldsTables}
use Rattle.store_host.proofs.tables.first_busy.Given as goal

abbrev pub invariant-loop-table : goal.invariant-loop-table
invariant-loop-table g l = (w : World) → HoldsTables g.D.Disk.state w l.tables → find (is_at_work w) (drop l.table-index l.numbers) ≡ find (is_at_work w) l.fn.numbers
