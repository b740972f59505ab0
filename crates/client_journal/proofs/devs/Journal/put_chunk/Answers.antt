use Rattle.std.proofs.Common.{arith}
use Rattle.client_journal.specs.Standing.{writes_of}
use Rattle.client_journal.proofs.Works.{put_chunk_works}
use Rattle.client_journal.proofs.Fusing.{chunk_burns}
use Rattle.client_journal.proofs.devs.Journal.put_chunk.Goals as goal

pub returns-clause-works : goal.returns-clause-works
returns-clause-works g c =
    rw c.told.ensures (put_chunk_works g.D.Disk.state g.D.Disk.images g.met.D.Disk.only_now c.args.self.now c.put.new.self (writes_of c.args.self.now) c.args.name c.args.bytes.now c.requires.up c.requires.ready c.put.result c.put.ensures)

pub returns-clause-fuse : goal.returns-clause-fuse
returns-clause-fuse g c = chunk_burns g.D.Disk.state c.args.self.now c.put.new.self 4 c.put.result (c.put.ensures.fuse c.requires.up.chunks)

pub returns-clause-once : goal.returns-clause-once
returns-clause-once g c = let burns = c.put.ensures.fuse c.requires.up.chunks in let one = burns.one in omega (arith, one)
