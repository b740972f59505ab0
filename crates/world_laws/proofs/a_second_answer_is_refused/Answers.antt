use Rattle.std.proofs.Common.{◌≡◌, List, [], ◌∷◌, ◌++◌, Option, Some, None, refl, ap, ◌∙◌, ⊎_elim, arith}
use Rattle.std.specs.Prelude.{map, option_map}
use Rattle.row_value.specs.declared.content.Content.{Content}
use Rattle.table_model.specs.declared.line.Write.{Write}
use Rattle.step_tables.specs.Facts.{Fact, Answer, Shown, Line, AnswerLine, FactLine}
use Rattle.step_tables.specs.Facts as facts
use Rattle.world_laws.specs.Worked.{int}
use Rattle.world_laws.proofs.a_second_answer_is_refused.Goals as goal

-- facts are no answer
no_answer : (told : List Fact) → AnswerLine facts.Done ∷ [] ≡ map FactLine told → ⊥
no_answer [] e = absurd cc
no_answer (fact ∷ more) e = absurd cc

pub returns : goal.returns
returns c = λ sound.
    let k = sound.1 in
    let e : AnswerLine facts.Done ∷ [] ≡ k.counted ++ map FactLine k.told = cc in
    no_answer k.told (rw k.counts at e)
