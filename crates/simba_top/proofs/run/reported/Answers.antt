use Rattle.std.proofs.Common.{◌∙◌}
use Rattle.std.proofs.KnownBytes.{Appends-nil}
use Rattle.std.proofs.lemmas.Result.{err_from_is_err_and}
use Rattle.simba_top.specs.Faults.{IsOnDisks}
use Rattle.simba_top.proofs.Reports.{report_done, report_failed, report_refused}
use Rattle.simba_top.proofs.Sounds.{on_disks}
use Rattle.simba_top.proofs.run.reported.Goals as goal

pub returns-in_err-report-clause-stopped : goal.returns-in_err-report-clause-stopped
returns-in_err-report-clause-stopped g c = λ input left finished.
    let p = err_from_is_err_and c.from_residual.result c.from_residual.ensures.1 in
    let told = g.P.Depot.returned c.close.new.depot in
    let held = g.K.Sink.holds c.args.sink.now in
    rw (p.1, p.2) (report_refused g.D.Disk.state input c.args.run (g.P.Depot.state c.args.depot.now).is_out finished (IsOnDisks g.D.Disk.state told)
    (on_disks g.D.Disk.state c.args.run.world told c.close.ensures.told c.close.ensures.rows) left held (Appends-nil held))

pub returns-in_err-put-clause-stopped : goal.returns-in_err-put-clause-stopped
returns-in_err-put-clause-stopped g c = λ input left finished.
    let p = err_from_is_err_and c.from_residual-in_err-put.result c.from_residual-in_err-put.ensures.1 in
    let told = g.P.Depot.returned c.close.new.depot in
    rw (p.1, p.2) (report_failed g.D.Disk.state input c.args.run (g.P.Depot.state c.args.depot.now).is_out finished (IsOnDisks g.D.Disk.state told)
    (on_disks g.D.Disk.state c.args.run.world told c.close.ensures.told c.close.ensures.rows) c.as_bytes.result.now
    (λ w h. c.as_bytes.ensures.value ∙ c.in_ok-report.ensures w h) left (g.K.Sink.holds c.args.sink.now) (g.K.Sink.holds c.put.new.self) c.in_err-put.ensures.err)

pub returns-clause-done : goal.returns-clause-done
returns-clause-done g c = λ input finished.
    let told = g.P.Depot.returned c.close.new.depot in
    report_done g.D.Disk.state input c.args.run (g.P.Depot.state c.args.depot.now).is_out finished (IsOnDisks g.D.Disk.state told)
    (on_disks g.D.Disk.state c.args.run.world told c.close.ensures.told c.close.ensures.rows) c.as_bytes.result.now
    (λ w h. c.as_bytes.ensures.value ∙ c.in_ok-report.ensures w h) (g.K.Sink.holds c.args.sink.now) (g.K.Sink.holds c.put.new.self) c.in_ok-put.ensures.ok
