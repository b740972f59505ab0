use Rattle.std.proofs.Common.{◌≤◌, ◌∙◌, Some, ap, sym, subst}
use Rattle.std.proofs.lemmas.Result.{IfOk-weaker}
use Rattle.serde_json.specs.Data.{Data, depth}
use Rattle.serde_json.specs.Read.{max_depth}
use Rattle.serde_json.specs.Written.{compact_text, has_float}
use Rattle.run_report.proofs.Sizes.{no_float, is_shallow}
use Rattle.run_report.proofs.Texts.{report_compact}
use Rattle.run_report.proofs.report.report_line.Goals as goal

pub returns-clause-line : goal.returns-clause-line
returns-clause-line c =
    let is = c.in_ok-report_value.ensures in
    IfOk-weaker c.to_string.result _ _ (λ s h. h (ap has_float is ∙ no_float c.args.report.now) ∙ ap compact_text is ∙ report_compact c.args.report.now) c.to_string.ensures.text

pub returns-clause-meaning : goal.returns-clause-meaning
returns-clause-meaning c =
    let is = c.in_ok-report_value.ensures in
    IfOk-weaker c.to_string.result _ _ (λ s h. h (subst (λ (d : Data). depth d ≤ max_depth) (sym is) (is_shallow c.args.report.now)) ∙ ap (λ (d : Data). Some d) is) c.to_string.ensures.reads_back
