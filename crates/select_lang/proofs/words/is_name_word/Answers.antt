use Rattle.std.proofs.Common.{sym, inl, inr}
use Rattle.std.proofs.lemmas.Bool.{cases_Bool}
use Rattle.script_words.specs.Words.{is_name}
use Rattle.select_lang.proofs.Names.{IsUtf8-from_name}
use Rattle.select_lang.proofs.words.is_name_word.Goals as goal

pub returns-in-Err : goal.returns-in-Err
returns-in-Err c = elim (cases_Bool (is_name c.args.word.now)) [
  | inl is ↦ absurd (c.in-Err.ensures.cases.0 (IsUtf8-from_name c.args.word.now is))
  | inr other ↦ sym other
]
