use Rattle.client_journal.proofs.Rolling.{not_committed, some_committed}
use Rattle.client_journal.proofs.devs.Journal.rolled.Goals as goal

pub redo-requires-clause-at_work : goal.redo-requires-clause-at_work
redo-requires-clause-at_work g c = some_committed _ _ (c.in-Some.ensures c.requires.starting.looked.journal.vault.up)

pub undo-requires-clause-not_committed : goal.undo-requires-clause-not_committed
undo-requires-clause-not_committed g c = not_committed _ (c.in-None.ensures c.requires.starting.looked.journal.vault.up)
