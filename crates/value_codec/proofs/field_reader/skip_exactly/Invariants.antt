use Rattle.std.proofs.Common.{◌≡◌, ◌≤◌, length, drop}
use Rattle.value_codec.specs.Reading.{exactly_at}
use Rattle.value_codec.proofs.field_reader.skip_exactly.Given as goal

abbrev pub invariant-loop-byte : goal.invariant-loop-byte
invariant-loop-byte l = record {
  so_far : exactly_at (drop l.byte-index l.text) (drop l.place l.bytes) ≡ exactly_at l.text (drop l.at l.bytes);
  within : l.place ≤ length l.bytes;
}
