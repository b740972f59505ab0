use Rattle.row_store.specs.Standing.{IsLookedAt}
use Rattle.device_tests.proofs.rows.holds_rows.Given as goal

abbrev pub invariant-loop-row : goal.invariant-loop-row
invariant-loop-row g l = IsLookedAt g.D.Disk.state l.dev
