use Rattle.script_text.proofs.FaultLaws.{passed_event}
use Rattle.script_text.proofs.laws.passed_apart.Goals as goal

pub returns : goal.returns
returns k = record { event = λ names. passed_event names; fault = λ names line f p q. q.0 p }
