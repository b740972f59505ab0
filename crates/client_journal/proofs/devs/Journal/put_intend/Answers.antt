use Rattle.std.proofs.Common.{arith}
use Rattle.client_journal.specs.Standing.{writes_of}
use Rattle.client_journal.proofs.Works.{intend_works}
use Rattle.client_journal.proofs.Fusing.{journal_burns}
use Rattle.client_journal.proofs.devs.Journal.put_intend.Goals as goal

pub returns-clause-works : goal.returns-clause-works
returns-clause-works g c =
    rw c.told.ensures (intend_works g.D.Disk.state g.D.Disk.images g.met.D.Disk.only_now c.args.self.now c.intend.new.self (writes_of c.args.self.now) c.args.intend.now c.requires.up c.requires.ready c.intend.result c.intend.ensures.puts)

pub returns-clause-fuse : goal.returns-clause-fuse
returns-clause-fuse g c = journal_burns g.D.Disk.state c.args.self.now c.intend.new.self 4 c.intend.result (c.intend.ensures.puts.fuse c.requires.up.journal)

pub returns-clause-once : goal.returns-clause-once
returns-clause-once g c = let burns = c.intend.ensures.puts.fuse c.requires.up.journal in let one = burns.one in omega (arith, one)
