use Rattle.journal_tests.proofs.Moves.{crashed_between, named_now}
use Rattle.plan_bench.proofs.calls.crash.Goals as goal

pub returns : goal.returns
returns g c =
    let again = c.restart.ensures in
    let m = c.requires in
    let both = crashed_between g.D.Disk.state c.args.client.now c.restart.new.self again.rests _ m.ready m.up (named_now _ _ m.runs) in
    record { up = again.up; synced = again.synced; sound = both.0; idle = again.idle; are = both.1 }
