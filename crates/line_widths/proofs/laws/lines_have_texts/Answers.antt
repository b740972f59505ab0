use Rattle.line_widths.proofs.Texts.{has_text}
use Rattle.line_widths.proofs.laws.lines_have_texts.Goals as goal

pub returns : goal.returns
returns c = has_text
