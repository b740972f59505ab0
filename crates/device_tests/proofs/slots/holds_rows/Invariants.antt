use Rattle.slot_store.specs.Standing.{IsLookedAt}
use Rattle.device_tests.proofs.slots.holds_rows.Given as goal

abbrev pub invariant-loop-table : goal.invariant-loop-table
invariant-loop-table g l = IsLookedAt g.D.Disk.state l.dev
