use Rattle.std.proofs.Common.{refl, ◌∙◌}
use Rattle.std.proofs.lemmas.Result.{IfOk-weaker}
use Rattle.step_tables.specs.Travels.{torn_pulled_of}
use Rattle.message_parts.proofs.Joined.{torn_whole}
use Rattle.message_parts.proofs.parts.torn_parts.Goals as goal

pub returns : goal.returns
returns c =
    IfOk-weaker c.with_chunks.result _ _
    (λ made is. is ∙ torn_whole c.args.chunk (torn_pulled_of c.args.answer.now) _ _ _ c.in_ok-header.ensures.head refl c.in_ok-header.ensures.chunks)
    c.with_chunks.ensures
