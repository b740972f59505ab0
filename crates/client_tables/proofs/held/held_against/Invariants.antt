use Rattle.std.proofs.Common.{◌≡◌, ◌+◌, ◌<◌, ◌^◌, ◌++◌, length}
use Rattle.std.specs.Vec.Iter.{into_iter_items}
use Rattle.client_tables.specs.Held.{held_pieces, brought}
use Rattle.client_tables.proofs.held.held_against.Given as goal

abbrev pub invariant-loop-name : goal.invariant-loop-name
invariant-loop-name l =
    (l.pieces ++ held_pieces l.left (into_iter_items l.name-iterator) l.next ≡ held_pieces l.shown l.fn.new l.fn.first)
    × (l.chunks ++ brought l.left (into_iter_items l.name-iterator) ≡ brought l.shown l.fn.new)
    × (l.next + length (into_iter_items l.name-iterator) < 2 ^ 32)
