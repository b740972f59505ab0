use Rattle.std.proofs.Common.{ℕ, List, Result, Ok, Err, IfOk}
use Rattle.std.specs.Prelude.{IfErr}
use Rattle.row_value.specs.declared.schema.Schema.{Schema}
use Rattle.select_lang.specs.declared.predicate.Predicate.{Predicate}
use Rattle.select_lang.specs.declared.fault.SelectFault.{SelectFault}
use Rattle.select_lang.specs.declared.fault.SelectFault.TheVariants.{BadSelection, Memory}
use Rattle.select_lang.specs.Formula.{Formula, formula_of}
use Rattle.select_lang.specs.Machine.{parsed, Answers}
use Rattle.select_lang.specs.Grammar.{SpellsFormula, SpellsPred, IsBadWord, Blames, IsReading, IsRefusal}
use Rattle.select_lang.proofs.BadWords.{parsed-bad, parsed-spelled, one_reading, apart, one_place}
use Rattle.select_lang.proofs.selection.parse.Goals as goal

module _ (schema : Schema) (words : List (List ℕ)) where
  found : (r : Result Predicate SelectFault) → Answers (parsed schema words) r → IfOk r (λ made. SpellsPred schema made words)
  found (Ok made) h = parsed-spelled schema words (formula_of made) h
  found (Err e) h = tt

  fault : (r : Result Predicate SelectFault) → Answers (parsed schema words) r → IfErr r (Blames schema words)
  fault (Ok made) h = tt
  fault (Err (BadSelection at)) h = parsed-bad schema words at h
  fault (Err Memory) h = tt

  only : (r : Result Predicate SelectFault) → Answers (parsed schema words) r → (f : Formula) → SpellsFormula schema words f → IsReading f r
  only (Ok made) h f is = one_reading schema words (formula_of made) f (parsed-spelled schema words (formula_of made) h) is
  only (Err (BadSelection at)) h f is = apart schema words f at is (parsed-bad schema words at h)
  only (Err Memory) h f is = tt

  refused : (r : Result Predicate SelectFault) → Answers (parsed schema words) r → (at : ℕ) → IsBadWord schema words at → IsRefusal at r
  refused (Ok made) h at bad = apart schema words (formula_of made) at (parsed-spelled schema words (formula_of made) h) bad
  refused (Err (BadSelection place)) h at bad = one_place schema words place at (parsed-bad schema words place h) bad
  refused (Err Memory) h at bad = tt

pub returns-clause-found : goal.returns-clause-found
returns-clause-found c = found c.args.schema.now c.args.words.now c.parsed.result c.parsed.ensures

pub returns-clause-fault : goal.returns-clause-fault
returns-clause-fault c = fault c.args.schema.now c.args.words.now c.parsed.result c.parsed.ensures

pub returns-clause-only : goal.returns-clause-only
returns-clause-only c = only c.args.schema.now c.args.words.now c.parsed.result c.parsed.ensures

pub returns-clause-refused : goal.returns-clause-refused
returns-clause-refused c = refused c.args.schema.now c.args.words.now c.parsed.result c.parsed.ensures
