use Rattle.script_words.specs.Words.{words_of}
use Rattle.script_text.proofs.Spelled.{one_event}
use Rattle.script_text.proofs.laws.one_event.Goals as goal

pub returns : goal.returns
returns k = λ names line d e p q. one_event names (words_of line) d e p.2 q.2
