use Rattle.std.proofs.Common.{◌≡◌, ◌+◌, List, map, take, sym, subst}
use Rattle.serde_json.specs.View.{view}
use Rattle.serde_json.specs.declared.value.Value.{Value}
use Rattle.std.specs.Str.{IsUtf8}
use Rattle.run_report.specs.Meaning.{table_data}
use Rattle.run_report.specs.declared.table.TableReport.{TableReport}
use Rattle.run_report.proofs.Tables.{named_at, one_more}
use Rattle.run_report.proofs.report.table_values.Goals as goal

pub table_value-requires : goal.table_value-requires
table_value-requires c =
    subst (λ (table : TableReport). IsUtf8 table.name) (sym c.table-item.is)
    (named_at c.args.tables.now c.loop-table.table-index c.table-item.result c.requires c.loop-table-test.true)

pub loop-table-preserved : goal.loop-table-preserved
loop-table-preserved c =
    let tables = c.args.tables.now in
    let i = c.loop-table.table-index in
    subst (λ (values : List Value). map view values ≡ map table_data (take (i + 1) tables)) (sym c.in_ok-push.ensures.items)
    (one_more tables i c.table-item.result c.table-item.result c.loop-table.values.items c.in_ok-table_value.field-0 c.loop-table-test.true c.table-item.is
    c.in_ok-table_value.ensures c.loop-table.invariant)
