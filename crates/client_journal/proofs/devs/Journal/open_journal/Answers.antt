use Rattle.std.proofs.Common.{arith}
use Rattle.client_journal.specs.Standing.{writes_of}
use Rattle.client_journal.proofs.Works.{open_journal_works}
use Rattle.client_journal.proofs.Fusing.{journal_burns}
use Rattle.client_journal.proofs.devs.Journal.open_journal.Goals as goal

pub returns-clause-works : goal.returns-clause-works
returns-clause-works g c =
    rw c.told.ensures (open_journal_works g.D.Disk.state g.D.Disk.images g.met.D.Disk.only_now c.args.self.now c.open_write.new.self (writes_of c.args.self.now) c.requires.up c.requires.ready c.open_write.result c.open_write.ensures)

pub returns-clause-fuse : goal.returns-clause-fuse
returns-clause-fuse g c = journal_burns g.D.Disk.state c.args.self.now c.open_write.new.self 4 c.open_write.result (c.open_write.ensures.fuse c.requires.up.journal)

pub returns-clause-once : goal.returns-clause-once
returns-clause-once g c = let burns = c.open_write.ensures.fuse c.requires.up.journal in let one = burns.one in omega (arith, one)
