use Rattle.std.proofs.Common.{◌≡◌, ◌≤◌, ◌-◌, length, drop}
use Rattle.value_codec.specs.Reading.{after_cell, cell_in, items_at}
use Rattle.value_codec.proofs.Items.{with_front}
use Rattle.value_codec.proofs.cell_reader.take_cell_items.Given as goal

abbrev pub invariant-loop : goal.invariant-loop
invariant-loop l = record {
  so_far : with_front l.cells (items_at after_cell cell_in tt (l.count - l.counter) (drop l.place l.bytes)) ≡ items_at after_cell cell_in tt l.count (drop l.at l.bytes);
  within : l.place ≤ length l.bytes;
}
