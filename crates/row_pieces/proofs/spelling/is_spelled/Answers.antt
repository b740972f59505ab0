use Rattle.std.proofs.Common.{List, subst, ap, ◌∙◌}
use Rattle.std.specs.List.{AllByRecursion}
use Rattle.std.proofs.lemmas.Result.{IfOk-weaker}
use Rattle.row_value.specs.declared.pieces.Piece.{Piece}
use Rattle.value_codec.specs.Spelling.{HasPieceSpelling}
use Rattle.step_tables.specs.Chunks.{flat}
use Rattle.row_pieces.proofs.Flats.{each_all}
use Rattle.row_pieces.proofs.spelling.is_spelled.Goals as goal

pub returns-clause-spelled : goal.returns-clause-spelled
returns-clause-spelled c =
    IfOk-weaker c.are_apart.result _ _
    (λ is apart are. each_all HasPieceSpelling c.args.pieces.now (subst (λ (l : List Piece). AllByRecursion HasPieceSpelling l) (c.deref.ensures.value ∙ (c.in_ok-all.ensures ∙ ap flat c.as_slice-2.ensures)) (c.are_counted.ensures.spelled c.if-not-are_counted.false)))
    c.are_apart.ensures.apart
