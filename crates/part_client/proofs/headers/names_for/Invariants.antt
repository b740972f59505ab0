use Rattle.std.proofs.Common.{◌≡◌, take, map}
use Rattle.row_value.specs.declared.pieces.PieceObject.{PieceObject}
use Rattle.step_tables.specs.Chunks.{kept_in}
use Rattle.part_client.proofs.headers.names_for.Given as goal

abbrev pub invariant-loop-object : goal.invariant-loop-object
invariant-loop-object l = l.names ≡ map (λ (object : PieceObject). kept_in object.pieces) (take l.object-index l.objects)
