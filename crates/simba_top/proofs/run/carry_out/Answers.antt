use Rattle.std.proofs.Common.{◌≡◌, sym, subst}
use Rattle.std.specs.Prelude.{IfSome, IfErr, OnOk}
use Rattle.simba_top.specs.declared.output.Output.{Output}
use Rattle.simba_top.specs.declared.output.Output.TheVariants.{Transcript, Report}
use Rattle.simba_top.specs.Faults.{IsOnDisks}
use Rattle.simba_top.specs.Stands.{IsDone, Stopped}
use Rattle.simba_top.proofs.run.carry_out.Goals as goal

pub returns-in-Transcript-clause-done : goal.returns-in-Transcript-clause-done
returns-in-Transcript-clause-done g c = subst (λ (o : Output). OnOk c.run_whole.result (IfSome (g.S.Source.left c.args.source.now)
    (λ input. IsDone o (IsOnDisks g.P.Disk.Disk.state (g.P.Depot.returned c.run_whole.new.depot)) input (g.K.Sink.holds c.args.sink.now) (g.K.Sink.holds c.run_whole.new.sink))))
    (sym c.in-Transcript.is) c.run_whole.ensures.done

pub returns-in-Transcript-clause-stopped : goal.returns-in-Transcript-clause-stopped
returns-in-Transcript-clause-stopped g c = subst (λ (o : Output). IfErr c.run_whole.result (λ stop. IfSome (g.S.Source.left c.args.source.now)
    (λ input. Stopped o (IsOnDisks g.P.Disk.Disk.state (g.P.Depot.returned c.run_whole.new.depot)) stop input (g.S.Source.left c.run_whole.new.source) (g.K.Sink.holds c.args.sink.now) (g.K.Sink.holds c.run_whole.new.sink))))
    (sym c.in-Transcript.is) c.run_whole.ensures.stopped

pub returns-in-Report-clause-done : goal.returns-in-Report-clause-done
returns-in-Report-clause-done g c = subst (λ (o : Output). OnOk c.report_whole.result (IfSome (g.S.Source.left c.args.source.now)
    (λ input. IsDone o (IsOnDisks g.P.Disk.Disk.state (g.P.Depot.returned c.report_whole.new.depot)) input (g.K.Sink.holds c.args.sink.now) (g.K.Sink.holds c.report_whole.new.sink))))
    (sym c.in-Report.is) c.report_whole.ensures.done

pub returns-in-Report-clause-stopped : goal.returns-in-Report-clause-stopped
returns-in-Report-clause-stopped g c = subst (λ (o : Output). IfErr c.report_whole.result (λ stop. IfSome (g.S.Source.left c.args.source.now)
    (λ input. Stopped o (IsOnDisks g.P.Disk.Disk.state (g.P.Depot.returned c.report_whole.new.depot)) stop input (g.S.Source.left c.report_whole.new.source) (g.K.Sink.holds c.args.sink.now) (g.K.Sink.holds c.report_whole.new.sink))))
    (sym c.in-Report.is) c.report_whole.ensures.stopped
