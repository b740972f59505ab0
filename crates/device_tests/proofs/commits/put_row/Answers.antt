use Rattle.std.proofs.lemmas.Result.{on_ok_weaker}
use Rattle.new_rows.proofs.NewRows.{rests_behind}
use Rattle.device_tests.proofs.commits.put_row.Goals as goal

pub returns : goal.returns
returns g c =
    on_ok_weaker c.work_all.result (λ done. rests_behind g.D.Disk.state g.D.Disk.images c.begin.new.devs c.work_all.new.devs c.in_ok-begin.ensures done) c.work_all.ensures
