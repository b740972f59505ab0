use Rattle.std.proofs.Common.{◌≡◌, ◌≤◌, ◌+◌, ◌*◌, ◌++◌, length, take}
use Rattle.std.specs.Int.{w32, to_be_bytes}
use Rattle.std.specs.List.{flat_map}
use Rattle.std.specs.Vec.{vec_capacity, vec_len}
use Rattle.row_store.specs.Spelling.{last_spelling}
use Rattle.row_store.proofs.writer.write_lasts.Given as goal

abbrev pub invariant-loop-last : goal.invariant-loop-last
invariant-loop-last l = record {
  so_far : l.payload.items ≡ l.fn.payload.items ++ (to_be_bytes w32 (length l.lasts) ++ flat_map last_spelling (take l.last-index l.lasts));
  capacity : vec_capacity l.fn.payload ≤ vec_capacity l.payload;
  room : vec_len l.payload + 20 * length l.lasts ≤ vec_capacity l.payload + 20 * l.last-index;
}
