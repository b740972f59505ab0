use Rattle.script_text.proofs.FaultLaws.{one_fault}
use Rattle.script_text.proofs.laws.one_fault.Goals as goal

pub returns : goal.returns
returns k = λ names. one_fault names
