use Rattle.std.proofs.Common.{◌≡◌, true, ◌∙◌, sym, ap, subst}
use Rattle.row_value.specs.declared.pieces.PieceContent.{PieceContent}
use Rattle.table_model.specs.declared.message.RowHeader.{RowHeader}
use Rattle.assemblies.specs.Places.{has_places}
use Rattle.assemblies.specs.Travel.{is_sent}
use Rattle.step_tables.specs.Travels.{header_of}
use Rattle.part_tables.specs.Parts.{kept}
use Rattle.message_parts.proofs.Joined.{spelled_places, words_kept, row_whole}
use Rattle.message_parts.proofs.rows.row_by.Goals as goal

pub awaited_of-requires : goal.awaited_of-requires
awaited_of-requires c =
    let content = c.args.header.now.content in
    let names = c.args.header.now.names in
    subst (λ (made : PieceContent). has_places made ≡ true) (sym (ap (λ (h : RowHeader). h.content) c.in_ok-head.ensures)) (spelled_places content (kept names) (words_kept content names c.requires))

pub returns-clause-chunks : goal.returns-clause-chunks
returns-clause-chunks c =
    row_whole (is_sent c.args.sent) c.args.chunk c.args.client c.args.table (header_of c.args.header.now) _ _ _
    (ap (λ (h : RowHeader). h.content) c.in_ok-head.ensures) (c.as_slice.ensures ∙ c.in_ok-awaited.ensures.list) c.in_ok-chunks.ensures
