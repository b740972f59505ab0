use Rattle.script_text.proofs.FaultLaws.{one_limit}
use Rattle.script_text.proofs.laws.one_limit.Goals as goal

pub returns : goal.returns
returns k = λ names. one_limit names
