use Rattle.client_journal.proofs.Starting.{journal_read}
use Rattle.client_journal.proofs.devs.Journal.read_commit.Goals as goal

pub returns-clause-starts : goal.returns-clause-starts
returns-clause-starts g c =
    rw c.of_journal.ensures (journal_read g.D.Disk.state g.D.Disk.images g.met.D.Disk.only_now c.args.self.now c.requires.starting c.committed.new.self c.committed.result c.committed.ensures.reads)
