use Rattle.std.proofs.Common.{◌≡◌, ◌≤◌, ◌-◌, length, drop}
use Rattle.value_codec.specs.Reading.{items_at}
use Rattle.value_codec.proofs.Items.{with_front}
use Rattle.field_codec.specs.Fields.{after_item, item_in}
use Rattle.held_codec.proofs.taken.take_items.Given as goal

abbrev pub invariant-loop : goal.invariant-loop
invariant-loop g l = record {
  so_far : with_front l.items (items_at after_item (item_in g.T.Taken.reading) tt (l.count - l.counter) (drop l.place l.bytes))
      ≡ items_at after_item (item_in g.T.Taken.reading) tt l.count (drop l.at l.bytes);
  within : l.place ≤ length l.bytes;
}
