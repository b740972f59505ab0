use Rattle.row_store.specs.Standing.{IsLookedAt}
use Rattle.vault_bench.proofs.rows.read_all.Given as goal

abbrev pub invariant-loop-number : goal.invariant-loop-number
invariant-loop-number g l = IsLookedAt g.D.Disk.state l.dev
