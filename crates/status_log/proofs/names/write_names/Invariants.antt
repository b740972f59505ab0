use Rattle.std.proofs.Common.{◌≡◌, ◌≤◌, ◌+◌, ◌*◌, ◌++◌, length, take}
use Rattle.std.specs.Int.{w32, to_be_bytes}
use Rattle.std.specs.List.{flat_map}
use Rattle.std.specs.Vec.{vec_capacity, vec_len}
use Rattle.value_codec.specs.Spelling.{name_spelling}
use Rattle.status_log.proofs.names.write_names.Given as goal

abbrev pub invariant-loop-name : goal.invariant-loop-name
invariant-loop-name l = record {
  so_far : l.payload.items ≡ l.fn.payload.items ++ (to_be_bytes w32 (length l.names) ++ flat_map name_spelling (take l.name-index l.names));
  capacity : vec_capacity l.fn.payload ≤ vec_capacity l.payload;
  room : vec_len l.payload + 12 * length l.names ≤ vec_capacity l.payload + 12 * l.name-index;
}
