use Rattle.std.proofs.Common.{arith}
use Rattle.run_report.proofs.NewRows.{begun, counted}
use Rattle.run_report.proofs.table.row_count.Goals as goal

pub loop-entry-init : goal.loop-entry-init
loop-entry-init c = begun c.new-rows.result c.args.history.now c.new-rows.ensures.empty c.new-rows.ensures.len

pub loop-entry-preserved : goal.loop-entry-preserved
loop-entry-preserved c =
    counted c.args.history.now c.loop-entry.entry-index c.entry-item.result c.entry-item.result c.loop-entry.rows c.insert.new.self _ _ (omega arith) c.entry-item.is
    c.in_ok-insert.ensures.added c.in_ok-insert.ensures.updates c.in_ok-insert.ensures.len c.loop-entry.invariant
