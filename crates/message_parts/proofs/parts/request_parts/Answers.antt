use Rattle.std.proofs.Common.{◌≡◌, true, ◌∙◌, sym, subst}
use Rattle.std.proofs.lemmas.Result.{IfOk-weaker}
use Rattle.row_value.specs.declared.pieces.PieceContent.{PieceContent}
use Rattle.assemblies.specs.Places.{has_places}
use Rattle.message_parts.proofs.Joined.{spelled_places, request_whole}
use Rattle.message_parts.proofs.parts.request_parts.Goals as goal

pub awaited_of-requires : goal.awaited_of-requires
awaited_of-requires c =
    subst (λ (made : PieceContent). has_places made ≡ true) (sym c.in_ok-head.ensures.content) (spelled_places c.args.request.now.content c.args.request.now.pieces c.requires)

pub returns : goal.returns
returns c =
    IfOk-weaker c.with_chunks.result _ _
    (λ made is. is ∙ request_whole c.args.chunk c.args.request.now _ _ _ _ c.in_ok-head.ensures.head c.in_ok-head.ensures.content (c.as_slice.ensures ∙ c.in_ok-awaited.ensures.list) c.in_ok-chunks.ensures)
    c.with_chunks.ensures
