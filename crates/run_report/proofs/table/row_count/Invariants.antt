use Rattle.std.proofs.Common.{◌≡◌, ◌+◌, length, drop}
use Rattle.std.specs.BTreeSet.{btree_set_len}
use Rattle.run_report.specs.Rows.{rows_in}
use Rattle.run_report.proofs.NewRows.{lacking}
use Rattle.run_report.proofs.table.row_count.Given as goal

abbrev pub invariant-loop-entry : goal.invariant-loop-entry
invariant-loop-entry l = btree_set_len l.rows + length (lacking l.rows (drop l.entry-index l.history)) ≡ length (rows_in l.history)
