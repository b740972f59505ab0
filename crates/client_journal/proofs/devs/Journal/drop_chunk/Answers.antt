use Rattle.std.proofs.Common.{arith}
use Rattle.client_journal.specs.Standing.{writes_of}
use Rattle.client_journal.proofs.Works.{drop_chunk_works}
use Rattle.client_journal.proofs.Fusing.{chunk_burns}
use Rattle.client_journal.proofs.devs.Journal.drop_chunk.Goals as goal

pub returns-clause-works : goal.returns-clause-works
returns-clause-works g c =
    rw c.told.ensures (drop_chunk_works g.D.Disk.state g.D.Disk.images g.met.D.Disk.only_now c.args.self.now c.drop_chunk.new.self (writes_of c.args.self.now) c.args.name c.requires.up c.requires.ready c.drop_chunk.result c.drop_chunk.ensures)

pub returns-clause-fuse : goal.returns-clause-fuse
returns-clause-fuse g c = chunk_burns g.D.Disk.state c.args.self.now c.drop_chunk.new.self 4 c.drop_chunk.result (c.drop_chunk.ensures.fuse c.requires.up.chunks)

pub returns-clause-once : goal.returns-clause-once
returns-clause-once g c = let burns = c.drop_chunk.ensures.fuse c.requires.up.chunks in let one = burns.one in omega (arith, one)
