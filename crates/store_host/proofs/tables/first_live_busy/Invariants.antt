use Rattle.std.proofs.Common.{◌≡◌, drop}
use Rattle.std.specs.List.{find}
use Rattle.world_tables.specs.World.{World}
use Rattle.store_host.specs.Calls.{is_live_at_work}
use Rattle.store_host.specs.Holds.{HoldsTables}
use Rattle.store_host.proofs.tables.first_live_busy.Given as goal

abbrev pub invariant-loop-number : goal.invariant-loop-number
invariant-loop-number g l = (w : World) → HoldsTables g.D.Disk.state w l.tables → find (is_live_at_work w) (drop l.number-index l.numbers) ≡ find (is_live_at_work w) l.fn.numbers
