use Rattle.std.proofs.Common.{◌∙◌, rules}
use Rattle.command_words.proofs.Numbers.{number_read}
use Rattle.command_words.proofs.number.number_of.Goals as goal

pub returns : goal.returns
returns c = c.ok.ensures.value ∙ number_read c.args.text.now c.parse.result (search rules) c.parse.ensures.value.0
