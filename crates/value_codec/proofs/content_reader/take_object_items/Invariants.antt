use Rattle.std.proofs.Common.{◌≡◌, ◌≤◌, ◌-◌, ◌^◌, length, drop}
use Rattle.value_codec.specs.Reading.{after_object, object_in, items_at}
use Rattle.value_codec.proofs.Items.{with_front}
use Rattle.value_codec.proofs.content_reader.take_object_items.Given as goal

abbrev pub invariant-loop : goal.invariant-loop
invariant-loop l = record {
  so_far : with_front l.objects (items_at after_object object_in l.fresh (l.count - l.counter) (drop l.place l.bytes)) ≡ items_at after_object object_in l.from l.count (drop l.at l.bytes);
  within : l.place ≤ length l.bytes;
  room : l.fresh ≤ 2 ^ 32;
}
