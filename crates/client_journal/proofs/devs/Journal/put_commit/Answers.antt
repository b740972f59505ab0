use Rattle.std.proofs.Common.{arith}
use Rattle.client_journal.specs.Standing.{writes_of}
use Rattle.client_journal.proofs.Works.{commit_works}
use Rattle.client_journal.proofs.Fusing.{journal_burns}
use Rattle.client_journal.proofs.devs.Journal.put_commit.Goals as goal

pub returns-clause-works : goal.returns-clause-works
returns-clause-works g c =
    rw c.told.ensures (commit_works g.D.Disk.state g.D.Disk.images g.met.D.Disk.only_now c.args.self.now c.commit.new.self (writes_of c.args.self.now) c.args.commit.now c.requires.up c.requires.ready c.commit.result c.commit.ensures.puts)

pub returns-clause-fuse : goal.returns-clause-fuse
returns-clause-fuse g c = journal_burns g.D.Disk.state c.args.self.now c.commit.new.self 4 c.commit.result (c.commit.ensures.puts.fuse c.requires.up.journal)

pub returns-clause-once : goal.returns-clause-once
returns-clause-once g c = let burns = c.commit.ensures.puts.fuse c.requires.up.journal in let one = burns.one in omega (arith, one)
