use Rattle.std.proofs.Common.{arith}
use Rattle.store_commit.specs.Standing.{writes_of}
use Rattle.store_commit.proofs.Works.{put_row_works}
use Rattle.store_commit.proofs.Fusing.{row_burns}
use Rattle.store_commit.proofs.devs.TableDevs.put_row.Goals as goal

pub returns-clause-works : goal.returns-clause-works
returns-clause-works g c =
    rw c.told.ensures (put_row_works g.D.Disk.state g.D.Disk.images g.met.D.Disk.only_now c.args.self.now c.put_row.new.self (writes_of c.args.self.now) c.args.stored c.requires.up c.requires.ready c.put_row.result c.put_row.ensures.puts)

pub returns-clause-fuse : goal.returns-clause-fuse
returns-clause-fuse g c =
    let burns = c.put_row.ensures.puts.fuse c.requires.up.rows in
    row_burns g.D.Disk.state c.args.self.now c.put_row.new.self 4 c.put_row.result burns

pub returns-clause-once : goal.returns-clause-once
returns-clause-once g c = let burns = c.put_row.ensures.puts.fuse c.requires.up.rows in let one = burns.one in omega (arith, one)
