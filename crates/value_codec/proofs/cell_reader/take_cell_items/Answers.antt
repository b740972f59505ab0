use Rattle.std.proofs.Common.{drop}
use Rattle.std.proofs.lemmas.Result.{err_from_is_err_and}
use Rattle.value_codec.specs.Reading.{after_cell, cell_in, items_at}
use Rattle.value_codec.proofs.Items.{goes_on, ends, is_done}
use Rattle.value_codec.proofs.cell_reader.take_cell_items.Goals as goal

pub returns-in_err-cell-clause-value : goal.returns-in_err-cell-clause-value
returns-in_err-cell-clause-value c =
    let p = err_from_is_err_and c.from_residual.result c.from_residual.ensures.1 in
    rw (p.1, p.2) (ends after_cell cell_in c.in_err-cell.field-0.0 c.args.bytes.now tt c.loop.cells c.args.count c.loop.counter (drop c.loop.place c.args.bytes.now) (items_at after_cell cell_in tt c.args.count (drop c.args.at c.args.bytes.now)) c.loop-test.true c.in_err-cell.ensures.value c.loop.invariant.so_far)

pub loop-preserved : goal.loop-preserved
loop-preserved c = record {
  so_far = rw c.in_ok-push.ensures.ok (goes_on after_cell cell_in tt c.loop.cells c.args.count c.loop.counter (drop c.loop.place c.args.bytes.now) c.in_ok-cell.cell (drop c.in_ok-cell.behind c.args.bytes.now) (items_at after_cell cell_in tt c.args.count (drop c.args.at c.args.bytes.now)) c.loop-test.true c.in_ok-cell.ensures.value c.loop.invariant.so_far);
  within = c.in_ok-cell.ensures.within;
}

pub returns-clause-value : goal.returns-clause-value
returns-clause-value c = is_done after_cell cell_in tt c.loop.cells c.args.count c.loop.counter (drop c.loop.place c.args.bytes.now) (items_at after_cell cell_in tt c.args.count (drop c.args.at c.args.bytes.now)) c.loop-test.false c.loop.invariant.so_far
