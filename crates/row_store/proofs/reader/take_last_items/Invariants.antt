use Rattle.std.proofs.Common.{◌≡◌, ◌≤◌, ◌-◌, length, drop}
use Rattle.value_codec.specs.Reading.{items_at}
use Rattle.value_codec.proofs.Items.{with_front}
use Rattle.row_store.specs.Reading.{after_last, last_in}
use Rattle.row_store.proofs.reader.take_last_items.Given as goal

abbrev pub invariant-loop : goal.invariant-loop
invariant-loop l = record {
  so_far : with_front l.lasts (items_at after_last last_in l.before (l.count - l.counter) (drop l.place l.bytes)) ≡ items_at after_last last_in 0 l.count (drop l.at l.bytes);
  within : l.place ≤ length l.bytes;
}
