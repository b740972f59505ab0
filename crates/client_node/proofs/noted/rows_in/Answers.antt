use Rattle.std.proofs.Common.{◌+◌}
use Rattle.std.proofs.lemmas.Result.{IfOk-weaker}
use Rattle.client_node.specs.NotedRows.{AreNotedRows}
use Rattle.client_node.proofs.NotedIds.{bounds_rise, noted_between}
use Rattle.client_node.proofs.noted.rows_in.Goals as goal

pub rows_between-requires : goal.rows_between-requires
rows_between-requires c = bounds_rise c.args.table c.first_key.result c.first_key-2.result c.first_key.ensures c.first_key-2.ensures

pub returns : goal.returns
returns c =
    IfOk-weaker c.rows_between.result _ (λ rows. AreNotedRows c.args.set.now c.args.table rows.items)
    (λ rows is. noted_between c.args.table c.first_key.result c.first_key-2.result c.first_key.ensures c.first_key-2.ensures c.args.set.now rows.items is c.rows_between.ensures.rising) c.rows_between.ensures.rows
