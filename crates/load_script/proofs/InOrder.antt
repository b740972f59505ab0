-- The groups, one behind the other, are the script.
use Rattle.std.proofs.Common.{◌≡◌, ℕ, ◌-◌, ◌≢◌, Bool, true, false, List, [], ◌∷◌, ◌++◌, length, Option, Some, refl, sym, ap, ◌∙◌, eqb, arith, append_assoc, if◌then◌else◌}
use Rattle.std.proofs.lemmas.Bool.{ne_eqb}
use Rattle.load_script.specs.declared.load.Load.{Load}
use Rattle.load_script.specs.declared.load.Stage.TheVariants.{Rounds, Ended}
use Rattle.load_script.specs.Script.{declarations, round, rounds, end, start, and_then, groups, script_of}

at_end : (x : ℕ) (more : List ℕ) → groups (record { x = x; stage = Ended }) more ≡ []
at_end x [] = refl
at_end x (sent ∷ more) = refl

goes_on : (b : Bool) (o : Option (List (List ℕ) × Load)) (g : List (List ℕ) × Load) (rest : Load → List (List ℕ)) → b ≡ false
    → and_then (if b then o else Some g) rest ≡ g.0 ++ rest g.1
goes_on true o g rest not_true = absurd cc
goes_on false o g rest not_true = refl

rounds_go : (x last : ℕ) (sent more : List ℕ) (left : ℕ) → length sent ≡ left
    → groups (record { x = x; stage = Rounds left }) (sent ++ last ∷ more) ≡ rounds sent x ++ end
rounds_go x last [] more left is = rw (sym is) (ap (λ rest. end ++ rest) (at_end x more))
rounds_go x last (s ∷ sent) more left is =
    let some : left ≢ 0 = omega arith in
    goes_on (eqb left 0) _ ((round s x).made, record { x = (round s x).x; stage = Rounds (left - 1) }) (λ behind. groups behind (sent ++ last ∷ more)) (ne_eqb left 0 some)
    ∙ ap (λ rest. (round s x).made ++ rest) (rounds_go (round s x).x last sent more (left - 1) (omega arith))
    ∙ sym (append_assoc (round s x).made (rounds sent (round s x).x) end)

pub groups_are : (number first last : ℕ) (sent more : List ℕ) → length sent ≡ 4000
    → groups (start number) (first ∷ (sent ++ last ∷ more)) ≡ script_of number sent
groups_are number first last sent more is = ap (λ rest. declarations ++ rest) (rounds_go number last sent more 4000 is)
