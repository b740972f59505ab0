use Rattle.script_text.proofs.FaultLaws.{limit_event}
use Rattle.script_text.proofs.laws.limit_apart.Goals as goal

pub returns : goal.returns
returns k = record {
  passed = λ names line limit p q. q.0 p;
  event = λ names line e limit s p. limit_event names limit line e s p;
  fault = λ names line f limit p q. q.2 f p;
}
