use Rattle.net_laws.proofs.Forms.{nets_told_forms}
use Rattle.net_laws.proofs.every_transcript_of_nets_has_forms.Goals as goal

pub returns : goal.returns
returns c = nets_told_forms
