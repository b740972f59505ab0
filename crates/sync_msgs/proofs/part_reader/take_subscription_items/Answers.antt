use Rattle.std.proofs.Common.{drop}
use Rattle.std.proofs.lemmas.Result.{err_from_is_err_and}
use Rattle.value_codec.specs.Reading.{items_at}
use Rattle.sync_msgs.specs.Reading.{after_subscription, subscription_in}
use Rattle.value_codec.proofs.Items.{goes_on, ends, is_done}
use Rattle.sync_msgs.proofs.part_reader.take_subscription_items.Goals as goal

pub returns-in_err-subscription-clause-value : goal.returns-in_err-subscription-clause-value
returns-in_err-subscription-clause-value c =
    let p = err_from_is_err_and c.from_residual.result c.from_residual.ensures.1 in
    rw (p.1, p.2) (ends after_subscription subscription_in c.in_err-subscription.field-0.0 c.args.bytes.now tt c.loop.some c.args.count c.loop.counter (drop c.loop.place c.args.bytes.now) (items_at after_subscription subscription_in tt c.args.count (drop c.args.at c.args.bytes.now)) c.loop-test.true c.in_err-subscription.ensures.value c.loop.invariant.so_far)

pub loop-preserved : goal.loop-preserved
loop-preserved c = record {
  so_far = rw c.in_ok-push.ensures.ok (goes_on after_subscription subscription_in tt c.loop.some c.args.count c.loop.counter (drop c.loop.place c.args.bytes.now) c.in_ok-subscription.subscription (drop c.in_ok-subscription.behind c.args.bytes.now) (items_at after_subscription subscription_in tt c.args.count (drop c.args.at c.args.bytes.now)) c.loop-test.true c.in_ok-subscription.ensures.value c.loop.invariant.so_far);
  within = c.in_ok-subscription.ensures.within;
}

pub returns-clause-value : goal.returns-clause-value
returns-clause-value c = is_done after_subscription subscription_in tt c.loop.some c.args.count c.loop.counter (drop c.loop.place c.args.bytes.now) (items_at after_subscription subscription_in tt c.args.count (drop c.args.at c.args.bytes.now)) c.loop-test.false c.loop.invariant.so_far
