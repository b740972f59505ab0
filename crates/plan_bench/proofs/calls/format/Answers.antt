use Rattle.journal_tests.proofs.Moves.{formatted}
use Rattle.plan_bench.proofs.calls.format.Goals as goal

pub returns : goal.returns
returns g c = let e = c.format.ensures in formatted g.D.Disk.state c.format.new.self c.format.result e.rests e.empty e.idle
