use Rattle.std.proofs.Common.{◌≡◌, List, [], ◌∷◌, Option, Some, None, refl, ap, ◌∙◌, ⊎_elim, arith}
use Rattle.std.specs.Prelude.{map, option_map}
use Rattle.row_value.specs.declared.content.Content.{Content}
use Rattle.table_model.specs.declared.line.Write.{Write}
use Rattle.step_tables.specs.Facts.{Fact, Answer, Shown, Line, AnswerLine, FactLine}
use Rattle.step_tables.specs.Facts as facts
use Rattle.world_laws.specs.Worked.{int}
use Rattle.world_laws.proofs.an_old_content_is_refused.Goals as goal

pub returns : goal.returns
returns c = λ sound.
    let k = sound.3.3.1 in
    let e : facts.Shows (facts.Clean 1 (int 6)) ≡ k.answer = cc in
    let is = rw (← e) at k.is in
    absurd cc
