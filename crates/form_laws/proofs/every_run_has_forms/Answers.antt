use Rattle.form_laws.proofs.Runs.{run_forms}
use Rattle.form_laws.proofs.every_run_has_forms.Goals as goal

pub returns : goal.returns
returns c = run_forms
