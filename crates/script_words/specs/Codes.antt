-- The codes of a word's faults, as numbers, and a word's judgement.
use Rattle.std.specs.Prelude.{◌≡◌, ℕ, Result, Ok, Err}
use Rattle.script_words.specs.declared.code.Code.{Code}
use Rattle.script_words.specs.declared.code.Code.TheVariants.{NoVerb, Missing, Surplus, NoNumber, NoName, NoRow}
use Rattle.script_words.specs.declared.code.Code.TheVariants.{NoValue, NotDeclared, Twice, NotUtf8, Late, Unbuilt}
use Rattle.script_words.specs.declared.code.ValueFault.{ValueFault}
use Rattle.script_words.specs.declared.code.ValueFault.TheVariants as faults

abbrev pub number : Code → ℕ
number NoVerb = 1
number Missing = 2
number Surplus = 3
number NoNumber = 4
number NoName = 5
number NoRow = 6
number NoValue = 7
number NotDeclared = 8
number Twice = 9
number NotUtf8 = 10
number Late = 11
number Unbuilt = 12

-- a word's judgement, where memory sufficed
abbrev pub Judges : {X : Type 0} → Result X ValueFault → Result X Code → Type 0
Judges (Ok x) judged = judged ≡ Ok x
Judges (Err faults.Memory) judged = Unit {0}
Judges (Err (faults.Code code)) judged = judged ≡ Err code
