use Rattle.std.proofs.Common.{◌≡◌, take, map}
use Rattle.row_value.specs.declared.pieces.PieceObject.{PieceObject}
use Rattle.part_store.proofs.waiting.pieces_of.Given as goal

abbrev pub invariant-loop-object : goal.invariant-loop-object
invariant-loop-object l = l.made ≡ map (λ (object : PieceObject). object.pieces) (take l.object-index l.objects)
