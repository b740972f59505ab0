use Rattle.client_journal.proofs.Rolling.{is_idle, is_intended}
use Rattle.client_journal.proofs.devs.Journal.undo.Goals as goal

pub undo_intend-requires-clause-at_work : goal.undo_intend-requires-clause-at_work
undo_intend-requires-clause-at_work g c = is_intended _ _ c.in-Some.ensures

pub rest-requires-clause-at_work : goal.rest-requires-clause-at_work
rest-requires-clause-at_work g c = is_idle _ c.requires.not_committed c.in-None.ensures
