use Rattle.net_laws.proofs.Forms.{nets_have_forms}
use Rattle.net_laws.proofs.every_run_of_nets_has_forms.Goals as goal

pub returns : goal.returns
returns c = nets_have_forms
