use Rattle.std.proofs.Common.{◌∙◌}
use Rattle.script_text.proofs.WordLemmas.{small-parse}
use Rattle.script_text.proofs.places.small.Goals as goal

pub returns : goal.returns
returns c = c.ok.ensures.value ∙ small-parse c.args.digits.now c.parse.result c.requires c.parse.ensures.value.0
