use Rattle.transcript_text.proofs.LineWords.{line_same}
use Rattle.transcript_text.proofs.forms.one_form.Goals as goal

pub returns : goal.returns
returns c = line_same
