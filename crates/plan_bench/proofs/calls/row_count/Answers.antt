use Rattle.journal_tests.proofs.Moves.{rest_stays, ready_looked}
use Rattle.plan_bench.proofs.calls.row_count.Goals as goal

pub rows_of-requires : goal.rows_of-requires
rows_of-requires g c up = ready_looked g.D.Disk.state c.args.client.now _ c.requires.moving.ready

pub returns : goal.returns
returns g c = rest_stays g.D.Disk.state g.D.Disk.images c.args.client.now c.rows_of.new.self _ c.in_ok-rows.ensures.asks c.requires
