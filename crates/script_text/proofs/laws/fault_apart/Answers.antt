use Rattle.script_text.proofs.FaultLaws.{fault_apart}
use Rattle.script_text.proofs.laws.fault_apart.Goals as goal

pub returns : goal.returns
returns k = λ names. fault_apart names
