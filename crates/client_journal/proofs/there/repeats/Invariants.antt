use Rattle.client_journal.proofs.Theres.{IsMet}
use Rattle.client_journal.proofs.there.repeats.Given as goal

abbrev pub invariant-loop-name : goal.invariant-loop-name
invariant-loop-name l = IsMet l.names l.met l.name-index
