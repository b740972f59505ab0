use Rattle.std.proofs.Common.{inr}
use Rattle.client_journal.proofs.Asking.{commit_read}
use Rattle.client_journal.proofs.devs.Journal.committed.Goals as goal

pub returns-clause-reads : goal.returns-clause-reads
returns-clause-reads g c =
    rw c.of_journal.ensures (commit_read g.D.Disk.state g.D.Disk.images g.met.D.Disk.only_now c.args.self.now c.requires.up c.requires.looked c.committed.new.self c.committed.result c.committed.ensures.reads)

pub returns-clause-once : goal.returns-clause-once
returns-clause-once g c = inr (c.committed.ensures.counted c.requires.up.journal)
