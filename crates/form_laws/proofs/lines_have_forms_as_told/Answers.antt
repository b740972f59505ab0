use Rattle.form_laws.proofs.Texts.{form_told}
use Rattle.form_laws.proofs.lines_have_forms_as_told.Goals as goal

pub returns : goal.returns
returns c = form_told
