use Rattle.std.proofs.Common.{arith}
use Rattle.client_journal.specs.Standing.{writes_of}
use Rattle.client_journal.proofs.Works.{open_slots_works}
use Rattle.client_journal.proofs.Fusing.{slot_burns}
use Rattle.client_journal.proofs.devs.Journal.open_slots.Goals as goal

pub returns-clause-works : goal.returns-clause-works
returns-clause-works g c =
    rw c.told.ensures (open_slots_works g.D.Disk.state g.D.Disk.images g.met.D.Disk.only_now c.args.self.now c.open_write.new.self (writes_of c.args.self.now) c.requires.up c.requires.ready c.open_write.result c.open_write.ensures.opens)

pub returns-clause-fuse : goal.returns-clause-fuse
returns-clause-fuse g c = slot_burns g.D.Disk.state c.args.self.now c.open_write.new.self 4 c.open_write.result (c.open_write.ensures.opens.fuse c.requires.up.slots)

pub returns-clause-once : goal.returns-clause-once
returns-clause-once g c = let burns = c.open_write.ensures.opens.fuse c.requires.up.slots in let one = burns.one in omega (arith, one)
