use Rattle.vault.specs.Standing.{IsOpened}
use Rattle.vault_bench.proofs.filling.fill.Given as goal

abbrev pub invariant-loop : goal.invariant-loop
invariant-loop g l = IsOpened g.D.Disk.state l.vault
