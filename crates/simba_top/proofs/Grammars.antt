-- A line has one meaning behind the same names: it is passed over, spells one event, is at fault, or passes a
-- limit.
use Rattle.script_words.specs.Words.{words_of}
use Rattle.script_text.proofs.Spelled.{one_event}
use Rattle.script_text.proofs.FaultLaws.{passed_event, fault_apart, limit_event, one_fault, one_limit}
use Rattle.simba_top.proofs.Fronts.{Grammar}

pub grammar : Grammar
grammar = record {
  one_event = λ names line a b p q. one_event names (words_of line) a b p.2 q.2;
  passed_spells = passed_event;
  passed_fault = λ names line fault p q. q.0 p;
  fault_spells = λ names line event fault. fault_apart names line event fault;
  passed_limit = λ names line limit p q. q.0 p;
  spells_limit = λ names line event limit. limit_event names limit line event;
  fault_limit = λ names line fault limit p q. q.2 fault p;
  one_fault = one_fault;
  one_limit = one_limit;
}
