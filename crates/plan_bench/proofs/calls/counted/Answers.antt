use Rattle.journal_tests.proofs.Moves.{ready_looked}
use Rattle.plan_bench.proofs.calls.counted.Goals as goal

pub last_number-requires : goal.last_number-requires
last_number-requires g c up = ready_looked g.D.Disk.state c.row_count.new.client _ c.in_ok-rows.ensures.moving.ready
