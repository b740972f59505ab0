use Rattle.std.proofs.Common.{drop}
use Rattle.std.proofs.lemmas.Result.{err_from_is_err_and}
use Rattle.value_codec.specs.Reading.{after_object, object_in, items_at}
use Rattle.value_codec.proofs.Items.{goes_on, ends, is_done}
use Rattle.value_codec.proofs.content_reader.take_object_items.Goals as goal

pub returns-in_err-object-clause-value : goal.returns-in_err-object-clause-value
returns-in_err-object-clause-value c =
    let p = err_from_is_err_and c.from_residual.result c.from_residual.ensures.1 in
    rw (p.1, p.2) (ends after_object object_in c.in_err-object.field-0.0 c.args.bytes.now c.loop.fresh c.loop.objects c.args.count c.loop.counter (drop c.loop.place c.args.bytes.now) (items_at after_object object_in c.args.from c.args.count (drop c.args.at c.args.bytes.now)) c.loop-test.true c.in_err-object.ensures.value c.loop.invariant.so_far)

pub loop-preserved : goal.loop-preserved
loop-preserved c = record {
  so_far = rw (c.in_ok-push.ensures.ok, c.in_ok-object.ensures.fresh.0) (goes_on after_object object_in c.loop.fresh c.loop.objects c.args.count c.loop.counter (drop c.loop.place c.args.bytes.now) c.in_ok-object.object (drop c.in_ok-object.behind c.args.bytes.now) (items_at after_object object_in c.args.from c.args.count (drop c.args.at c.args.bytes.now)) c.loop-test.true c.in_ok-object.ensures.value c.loop.invariant.so_far);
  within = c.in_ok-object.ensures.within;
  room = c.in_ok-object.ensures.fresh.1;
}

pub returns-clause-value : goal.returns-clause-value
returns-clause-value c = is_done after_object object_in c.loop.fresh c.loop.objects c.args.count c.loop.counter (drop c.loop.place c.args.bytes.now) (items_at after_object object_in c.args.from c.args.count (drop c.args.at c.args.bytes.now)) c.loop-test.false c.loop.invariant.so_far
