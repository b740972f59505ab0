use Rattle.std.proofs.Common.{◌≡◌, take, map}
use Rattle.row_value.specs.declared.pieces.Piece.TheVariants.{Keep}
use Rattle.message_parts.proofs.spelled.kept_object.Given as goal

abbrev pub invariant-loop-name : goal.invariant-loop-name
invariant-loop-name l = l.pieces ≡ map (λ name. Keep name) (take l.name-index l.names)
