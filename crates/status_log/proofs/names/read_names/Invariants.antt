use Rattle.std.proofs.Common.{◌≡◌, ◌≤◌}
use Rattle.std.specs.Vec.{vec_capacity, vec_len}
use Rattle.status_log.specs.Payload.{names_in}
use Rattle.status_log.proofs.names.read_names.Given as goal

abbrev pub invariant-loop-index : goal.invariant-loop-index
invariant-loop-index l = record {
  so_far : l.names.items ≡ names_in l.index l.bytes;
  len : vec_len l.names ≡ l.index;
  capacity : vec_capacity l.fn.names ≤ vec_capacity l.names;
}
