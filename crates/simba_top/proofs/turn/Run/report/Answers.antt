use Rattle.std.proofs.Common.{◌∙◌, List, ap}
use Rattle.std.proofs.lemmas.Result.{IfOk-weaker}
use Rattle.run_report.specs.Text.{report_text}
use Rattle.run_report.specs.declared.table.TableReport.{TableReport}
use Rattle.simba_top.proofs.turn.Run.report.Goals as goal

pub returns : goal.returns
returns g c w held =
    IfOk-weaker c.text.result _ _
    (λ text is. is ∙ ap (λ (tables : List TableReport). report_text (record { lines = c.args.self.now.told; tables = tables })) (c.in_ok-table_reports.ensures.told w held))
    c.text.ensures.text
