use Rattle.std.proofs.Common.{◌≡◌, ◌≤◌, ◌++◌, length, take}
use Rattle.std.specs.Int.{w32, to_be_bytes}
use Rattle.std.specs.List.{flat_map}
use Rattle.std.specs.Vec.{vec_capacity}
use Rattle.held_codec.proofs.writer.put_list.Given as goal

abbrev pub invariant-loop-item : goal.invariant-loop-item
invariant-loop-item g l = record {
  so_far : l.out.items ≡ l.fn.out.items ++ (to_be_bytes w32 (length l.items) ++ flat_map g.T.Spelled.spelling (take l.item-index l.items));
  room : vec_capacity l.fn.out ≤ vec_capacity l.out;
}
