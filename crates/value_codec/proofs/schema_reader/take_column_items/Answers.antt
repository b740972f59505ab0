use Rattle.std.proofs.Common.{false, drop}
use Rattle.std.proofs.lemmas.Result.{err_from_is_err_and}
use Rattle.value_codec.specs.Reading.{items_at}
use Rattle.value_codec.specs.SchemaReading.{after_column, column_in}
use Rattle.value_codec.proofs.Items.{goes_on, ends, is_done}
use Rattle.value_codec.proofs.schema_reader.take_column_items.Goals as goal

pub returns-in_err-column-clause-value : goal.returns-in_err-column-clause-value
returns-in_err-column-clause-value c =
    let p = err_from_is_err_and c.from_residual.result c.from_residual.ensures.1 in
    rw (p.1, p.2) (ends after_column column_in c.in_err-column.field-0.0 c.args.bytes.now c.loop.only_objects c.loop.columns c.args.count c.loop.counter (drop c.loop.place c.args.bytes.now) (items_at after_column column_in false c.args.count (drop c.args.at c.args.bytes.now)) c.loop-test.true c.in_err-column.ensures.value c.loop.invariant.so_far)

pub loop-preserved : goal.loop-preserved
loop-preserved c = record {
  so_far = rw (c.in_ok-push.ensures.ok, c.after_column-only_objects.ensures) (goes_on after_column column_in c.loop.only_objects c.loop.columns c.args.count c.loop.counter (drop c.loop.place c.args.bytes.now) c.in_ok-column.column (drop c.in_ok-column.behind c.args.bytes.now) (items_at after_column column_in false c.args.count (drop c.args.at c.args.bytes.now)) c.loop-test.true c.in_ok-column.ensures.value c.loop.invariant.so_far);
  within = c.in_ok-column.ensures.within;
}

pub returns-clause-value : goal.returns-clause-value
returns-clause-value c = is_done after_column column_in c.loop.only_objects c.loop.columns c.args.count c.loop.counter (drop c.loop.place c.args.bytes.now) (items_at after_column column_in false c.args.count (drop c.args.at c.args.bytes.now)) c.loop-test.false c.loop.invariant.so_far
