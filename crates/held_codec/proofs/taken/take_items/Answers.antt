use Rattle.std.proofs.Common.{drop}
use Rattle.std.proofs.lemmas.Result.{err_from_is_err_and}
use Rattle.value_codec.specs.Reading.{items_at}
use Rattle.value_codec.proofs.Items.{goes_on, ends, is_done}
use Rattle.field_codec.specs.Fields.{after_item, item_in}
use Rattle.held_codec.proofs.taken.take_items.Goals as goal

pub returns-in_err-item-clause-value : goal.returns-in_err-item-clause-value
returns-in_err-item-clause-value g c =
    let p = err_from_is_err_and c.from_residual.result c.from_residual.ensures.1 in
    rw (p.1, p.2) (ends after_item (item_in g.T.Taken.reading) c.in_err-item.field-0.0 c.args.bytes.now tt c.loop.items c.args.count c.loop.counter (drop c.loop.place c.args.bytes.now) (items_at after_item (item_in g.T.Taken.reading) tt c.args.count (drop c.args.at c.args.bytes.now)) c.loop-test.true c.in_err-item.ensures.value c.loop.invariant.so_far)

pub loop-preserved : goal.loop-preserved
loop-preserved g c = record {
  so_far = rw c.in_ok-push.ensures.ok (goes_on after_item (item_in g.T.Taken.reading) tt c.loop.items c.args.count c.loop.counter (drop c.loop.place c.args.bytes.now) c.in_ok-item.item (drop c.in_ok-item.behind c.args.bytes.now) (items_at after_item (item_in g.T.Taken.reading) tt c.args.count (drop c.args.at c.args.bytes.now)) c.loop-test.true c.in_ok-item.ensures.value c.loop.invariant.so_far);
  within = c.in_ok-item.ensures.within;
}

pub returns-clause-value : goal.returns-clause-value
returns-clause-value g c = is_done after_item (item_in g.T.Taken.reading) tt c.loop.items c.args.count c.loop.counter (drop c.loop.place c.args.bytes.now) (items_at after_item (item_in g.T.Taken.reading) tt c.args.count (drop c.args.at c.args.bytes.now)) c.loop-test.false c.loop.invariant.so_far
