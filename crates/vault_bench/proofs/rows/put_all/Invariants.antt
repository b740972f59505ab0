use Rattle.row_store.specs.Standing.{IsOpened}
use Rattle.vault_bench.proofs.rows.put_all.Given as goal

abbrev pub invariant-loop-turn : goal.invariant-loop-turn
invariant-loop-turn g l = IsOpened g.D.Disk.state l.dev
