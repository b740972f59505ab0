use Rattle.std.proofs.Common.{◌≡◌, ◌≤◌, ◌-◌, ◌+◌, ◌^◌, length, drop}
use Rattle.value_codec.specs.Spelling.{fresh_in}
use Rattle.value_codec.specs.Reading.{after_piece, piece_in, items_at}
use Rattle.value_codec.proofs.Items.{with_front}
use Rattle.value_codec.proofs.piece_reader.take_piece_items.Given as goal

abbrev pub invariant-loop : goal.invariant-loop
invariant-loop l = record {
  so_far : with_front l.pieces (items_at after_piece piece_in l.next (l.count - l.counter) (drop l.place l.bytes)) ≡ items_at after_piece piece_in l.fresh l.count (drop l.at l.bytes);
  within : l.place ≤ length l.bytes;
  counted : l.next ≡ l.fresh + length (fresh_in l.pieces);
  room : l.next ≤ 2 ^ 32;
}
