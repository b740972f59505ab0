use Rattle.std.proofs.Common.{take}
use Rattle.std.specs.List.{AllByRecursion}
use Rattle.value_codec.specs.Spelling.{HasPieceSpelling}
use Rattle.send_laws.proofs.widths.know_pieces.Given as goal

abbrev pub invariant-loop-piece : goal.invariant-loop-piece
invariant-loop-piece l = AllByRecursion HasPieceSpelling (take l.piece-index l.pieces)
