use Rattle.std.proofs.Common.{take}
use Rattle.std.specs.List.{AllByRecursion}
use Rattle.value_codec.specs.Spelling.{HasPieceSpelling}
use Rattle.send_laws.proofs.widths.know_object_pieces.Given as goal

abbrev pub invariant-loop-object : goal.invariant-loop-object
invariant-loop-object l = AllByRecursion (AllByRecursion HasPieceSpelling) (take l.object-index l.pieces)
