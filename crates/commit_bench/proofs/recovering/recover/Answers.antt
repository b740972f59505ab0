use Rattle.std.proofs.lemmas.Result.{on_ok_weaker}
use Rattle.std.specs.Prelude.{[]}
use Rattle.new_rows.proofs.Starts.{ready_looked}
use Rattle.commit_bench.proofs.recovering.recover.Goals as goal

pub returns : goal.returns
returns g c =
    on_ok_weaker c.work_all.result (λ done. ready_looked g.D.Disk.state c.work_all.new.devs [] done.ready) c.work_all.ensures
