use Rattle.std.proofs.lemmas.Result.{on_ok_weaker}
use Rattle.device_tests.proofs.Stands.{known}
use Rattle.device_tests.proofs.commits.recover.Goals as goal

pub returns : goal.returns
returns g c =
    on_ok_weaker c.work_all.result
    (λ done. known g.D.Disk.state g.D.Disk.images c.work_all.new.devs (record { chunks = done.ready.chunk_looked; rows = done.ready.row_looked; log = done.ready.log_looked }))
    c.work_all.ensures
