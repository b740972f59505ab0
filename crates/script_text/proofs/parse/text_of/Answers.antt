use Rattle.script_text.proofs.WordLemmas.{text-test}
use Rattle.script_text.proofs.parse.text_of.Goals as goal

pub returns : goal.returns
returns c = rw c.ok.ensures.value (text-test c.args.line.now c.from_utf8.result _ c.from_utf8.ensures.cases)
