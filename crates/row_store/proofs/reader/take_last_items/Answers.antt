use Rattle.std.proofs.Common.{drop}
use Rattle.std.proofs.lemmas.Result.{err_from_is_err_and}
use Rattle.value_codec.specs.Reading.{items_at}
use Rattle.value_codec.proofs.Items.{goes_on, ends, is_done}
use Rattle.row_store.specs.Reading.{after_last, last_in}
use Rattle.row_store.proofs.reader.take_last_items.Goals as goal

pub returns-in_err-last-clause-value : goal.returns-in_err-last-clause-value
returns-in_err-last-clause-value c =
    let p = err_from_is_err_and c.from_residual.result c.from_residual.ensures.1 in
    rw (p.1, p.2) (ends after_last last_in c.in_err-last.field-0.0 c.args.bytes.now c.loop.before c.loop.lasts c.args.count c.loop.counter (drop c.loop.place c.args.bytes.now) (items_at after_last last_in 0 c.args.count (drop c.args.at c.args.bytes.now)) c.loop-test.true c.in_err-last.ensures.value c.loop.invariant.so_far)

pub loop-preserved : goal.loop-preserved
loop-preserved c = record {
  so_far = rw c.in_ok-push.ensures.ok (goes_on after_last last_in c.loop.before c.loop.lasts c.args.count c.loop.counter (drop c.loop.place c.args.bytes.now) c.in_ok-last.last (drop c.in_ok-last.behind c.args.bytes.now) (items_at after_last last_in 0 c.args.count (drop c.args.at c.args.bytes.now)) c.loop-test.true c.in_ok-last.ensures.value c.loop.invariant.so_far);
  within = c.in_ok-last.ensures.within;
}

pub returns-clause-value : goal.returns-clause-value
returns-clause-value c = is_done after_last last_in c.loop.before c.loop.lasts c.args.count c.loop.counter (drop c.loop.place c.args.bytes.now) (items_at after_last last_in 0 c.args.count (drop c.args.at c.args.bytes.now)) c.loop-test.false c.loop.invariant.so_far
