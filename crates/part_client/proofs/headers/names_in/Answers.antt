use Rattle.std.proofs.Common.{◌∙◌, ap, sym, map}
use Rattle.std.proofs.lemmas.Result.{IfOk-weaker}
use Rattle.row_value.specs.declared.pieces.PieceObject.{PieceObject}
use Rattle.step_tables.specs.Chunks.{kept_in}
use Rattle.part_tables.specs.ClientParts.{names_in}
use Rattle.part_client.proofs.Named.{names_are}
use Rattle.part_client.proofs.headers.names_in.Goals as goal

pub returns-in-Row : goal.returns-in-Row
returns-in-Row c =
    IfOk-weaker c.names_for.result _ _
    (λ names is. is ∙ (ap (map (λ (object : PieceObject). kept_in object.pieces)) c.as_slice.ensures ∙ (names_are c.in-Row.objects ∙ sym (ap names_in c.in-Row.is)))) c.names_for.ensures
