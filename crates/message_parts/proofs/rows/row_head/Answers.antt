use Rattle.std.proofs.Common.{◌≡◌, true, List, sym, subst}
use Rattle.row_value.specs.declared.pieces.Piece.{Piece}
use Rattle.message_parts.specs.Splits.{has_words}
use Rattle.message_parts.proofs.Joined.{words_kept}
use Rattle.message_parts.proofs.rows.row_head.Goals as goal

pub spelled-requires : goal.spelled-requires
spelled-requires c =
    subst (λ (pieces : List (List Piece)). has_words c.args.header.now.content pieces ≡ true) (sym c.in_ok-pieces.ensures) (words_kept c.args.header.now.content c.args.header.now.names c.requires)
