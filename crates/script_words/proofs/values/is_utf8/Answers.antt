use Rattle.std.proofs.Common.{◌∙◌}
use Rattle.script_words.proofs.WordLemmas.{utf8-test}
use Rattle.script_words.proofs.values.is_utf8.Goals as goal

pub returns : goal.returns
returns c = c.is_ok.ensures.value ∙ utf8-test c.args.bytes.now c.from_utf8.result _ _ c.from_utf8.ensures.cases
