use Rattle.std.proofs.Common.{◌≡◌, List, [], ◌∷◌, ◌++◌, refl, subst}
use Rattle.std.specs.Prelude.{map}
use Rattle.step_tables.specs.Facts.{Fact, Line, AnswerLine, FactLine}
use Rattle.step_tables.specs.Facts as facts
use Rattle.world_laws.specs.Worked.{told}
use Rattle.world_laws.proofs.a_fact_behind_the_stores_answer_is_refused.Goals as goal

pub returns : goal.returns
returns c = λ sound.
    let k = sound.1 in
    let e : told (facts.Position 1 1 0) ∷ [] ≡ k.counted ++ map FactLine k.told = cc in
    let f : told (facts.Position 1 1 0) ∷ [] ≡ k.counted ++ [] = subst (λ (some : List Fact). told (facts.Position 1 1 0) ∷ [] ≡ k.counted ++ map FactLine some) k.quiet e in
    let g : told (facts.Position 1 1 0) ∷ [] ≡ [] = rw k.counts at f in
    absurd cc
