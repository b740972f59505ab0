use Rattle.new_rows.specs.NewRow.{RestsForRows}
use Rattle.commit_bench.proofs.updating.update_all.Given as goal

abbrev pub invariant-loop-turn : goal.invariant-loop-turn
invariant-loop-turn g l = RestsForRows g.D.Disk.state l.devs
