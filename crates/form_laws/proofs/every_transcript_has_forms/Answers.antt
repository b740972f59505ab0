use Rattle.form_laws.proofs.Runs.{told_forms}
use Rattle.form_laws.proofs.every_transcript_has_forms.Goals as goal

pub returns : goal.returns
returns c = told_forms
