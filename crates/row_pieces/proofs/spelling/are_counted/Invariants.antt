use Rattle.std.proofs.Common.{◌≡◌, ◌≤◌, ◌^◌, take, drop}
use Rattle.std.specs.List.{AllByRecursion}
use Rattle.value_codec.specs.Spelling.{HasPieceSpelling}
use Rattle.step_tables.specs.Chunks.{are_counted}
use Rattle.row_pieces.proofs.spelling.are_counted.Given as goal

abbrev pub invariant-loop-piece : goal.invariant-loop-piece
invariant-loop-piece l =
    (l.next ≤ 2 ^ 32)
    × (are_counted l.next (drop l.piece-index l.pieces) ≡ are_counted 0 l.pieces)
    × AllByRecursion HasPieceSpelling (take l.piece-index l.pieces)
