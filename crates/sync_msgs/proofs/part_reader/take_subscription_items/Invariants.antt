use Rattle.std.proofs.Common.{◌≡◌, ◌≤◌, ◌-◌, length, drop}
use Rattle.value_codec.specs.Reading.{items_at}
use Rattle.sync_msgs.specs.Reading.{after_subscription, subscription_in}
use Rattle.value_codec.proofs.Items.{with_front}
use Rattle.sync_msgs.proofs.part_reader.take_subscription_items.Given as goal

abbrev pub invariant-loop : goal.invariant-loop
invariant-loop l = record {
  so_far : with_front l.some (items_at after_subscription subscription_in tt (l.count - l.counter) (drop l.place l.bytes)) ≡ items_at after_subscription subscription_in tt l.count (drop l.at l.bytes);
  within : l.place ≤ length l.bytes;
}
