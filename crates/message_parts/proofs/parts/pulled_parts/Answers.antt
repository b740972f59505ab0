use Rattle.std.proofs.Common.{refl, ◌∙◌}
use Rattle.std.proofs.lemmas.Result.{IfOk-weaker}
use Rattle.step_tables.specs.Travels.{pulled_of}
use Rattle.message_parts.proofs.Joined.{pulled_whole}
use Rattle.message_parts.proofs.parts.pulled_parts.Goals as goal

pub returns : goal.returns
returns c =
    IfOk-weaker c.with_chunks.result _ _
    (λ made is. is ∙ pulled_whole c.args.chunk (pulled_of c.args.pulled.now) _ _ _ c.in_ok-header.ensures.head refl c.in_ok-header.ensures.chunks)
    c.with_chunks.ensures
