use Rattle.std.proofs.Common.{◌≡◌, ◌≤◌, ◌-◌, false, length, drop}
use Rattle.value_codec.specs.Reading.{items_at}
use Rattle.value_codec.specs.SchemaReading.{after_column, column_in}
use Rattle.value_codec.proofs.Items.{with_front}
use Rattle.value_codec.proofs.schema_reader.take_column_items.Given as goal

abbrev pub invariant-loop : goal.invariant-loop
invariant-loop l = record {
  so_far : with_front l.columns (items_at after_column column_in l.only_objects (l.count - l.counter) (drop l.place l.bytes)) ≡ items_at after_column column_in false l.count (drop l.at l.bytes);
  within : l.place ≤ length l.bytes;
}
