use Rattle.run_report.proofs.Plain.{plain_quoted}
use Rattle.run_report.proofs.laws.plain_names_stand_as_they_are.Goals as goal

pub returns : goal.returns
returns c = plain_quoted
