use Rattle.std.proofs.Common.{sym}
use Rattle.simba_top.proofs.Reporting.{is_named}
use Rattle.simba_top.proofs.turn.Run.table_report.Goals as goal

pub returns-clause-named : goal.returns-clause-named
returns-clause-named g c =
    let there = c.requires.1 in
    is_named there.w there.reached c.args.table c.in-Some.schema.now (sym (c.in-Some.ensures there.w there.held))
    c.as_slice.result.now c.as_slice.ensures c.in-Some.schema.now.scheme c.entries.result.now c.in_ok-report.report c.in_ok-report.ensures
