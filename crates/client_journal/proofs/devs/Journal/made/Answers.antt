use Rattle.client_journal.proofs.Planned.{old_is}
use Rattle.client_journal.proofs.devs.Journal.made.Goals as goal

pub returns-clause-old : goal.returns-clause-old
returns-clause-old g c =
    let up = c.requires.up.slots in
    let k = c.in_ok-old.ensures in
    old_is _ _ (k.record_ up) (k.spelled up) (k.short up)
