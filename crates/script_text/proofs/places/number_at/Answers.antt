use Rattle.std.proofs.Common.{◌∙◌, sym}
use Rattle.script_text.proofs.Numbers.{number-read, number-none}
use Rattle.script_text.proofs.places.number_at.Goals as goal

pub returns-in-Ok : goal.returns-in-Ok
returns-in-Ok c = number-read c.args.word.now c.parse.result c.in-Ok.number (sym c.is_length.ensures ∙ c.if-not-is_length.false) c.parse.ensures.value.0 c.in-Ok.is

pub returns-in-Err : goal.returns-in-Err
returns-in-Err c = number-none c.args.word.now c.parse.result c.in-Err.field-0 (sym c.is_length.ensures ∙ c.if-not-is_length.false) c.parse.ensures.value.0 c.in-Err.is
