use Rattle.std.proofs.Common.{◌++◌, [], length, refl, sym, ◌∙◌, subst, arith, length-append}
use Rattle.std.proofs.lemmas.List.{take_at, drop_at}
use Rattle.vault.specs.File.{IsShut, records}
use Rattle.vault.proofs.Lists.{stands_at}
use Rattle.vault.proofs.laws.what_files_stand_for.Goals as goal

pub returns-clause-empty : goal.returns-clause-empty
returns-clause-empty c = stands_at [] 0 [] (record { size = refl; front = refl; more = λ lt. absurd (omega arith); short = tt }) (λ open_gate. omega arith)

pub returns-clause-written : goal.returns-clause-written
returns-clause-written c = λ ps rest short some shut.
    stands_at (records ps ++ rest) (length (records ps)) ps
    (record { size = refl; front = take_at (records ps) rest (length (records ps)) refl; more = λ _. omega (arith, length-append (records ps) rest); short = short })
    (subst IsShut (sym (drop_at (records ps) rest (length (records ps)) refl)) shut)

pub returns-clause-one : goal.returns-clause-one
returns-clause-one c = λ file left right l r. sym l.records ∙ r.records
