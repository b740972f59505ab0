use Rattle.std.proofs.Common.{◌≡◌, ◌≤◌, ◌+◌, length, drop}
use Rattle.value_codec.specs.Utf8.{between, utf8_rest}
use Rattle.value_codec.proofs.utf8.skip_utf8.Given as goal

abbrev pub invariant-loop-left : goal.invariant-loop-left
invariant-loop-left l = record {
  so_far : utf8_rest l.inside l.left (drop l.place l.bytes) ≡ utf8_rest between l.len (drop l.at l.bytes);
  within : l.place ≤ length l.bytes;
  moved : l.place + l.left ≡ l.at + l.len;
}

abbrev pub decreases-loop-left : goal.decreases-loop-left
decreases-loop-left l = l.left
