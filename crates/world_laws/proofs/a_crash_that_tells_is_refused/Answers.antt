use Rattle.std.proofs.Common.{◌≡◌, List, [], ◌∷◌, ◌++◌, subst}
use Rattle.std.specs.Prelude.{map}
use Rattle.step_tables.specs.Facts.{Fact, FactLine}
use Rattle.world_laws.specs.WorkedCrashes.{recovered}
use Rattle.world_laws.proofs.a_crash_that_tells_is_refused.Goals as goal

pub returns : goal.returns
returns c = λ sound.
    let k = sound.1 in
    let e : recovered ∷ [] ≡ k.counted ++ map FactLine k.told = cc in
    let f : recovered ∷ [] ≡ k.counted ++ [] = subst (λ (some : List Fact). recovered ∷ [] ≡ k.counted ++ map FactLine some) k.quiet e in
    let g : recovered ∷ [] ≡ [] = rw k.counts at f in
    absurd cc
