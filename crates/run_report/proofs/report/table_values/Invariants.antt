use Rattle.std.proofs.Common.{◌≡◌, take, map}
use Rattle.serde_json.specs.View.{view}
use Rattle.run_report.specs.Meaning.{table_data}
use Rattle.run_report.proofs.report.table_values.Given as goal

abbrev pub invariant-loop-table : goal.invariant-loop-table
invariant-loop-table l = map view l.values.items ≡ map table_data (take l.table-index l.tables)
