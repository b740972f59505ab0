use Rattle.std.proofs.Common.{arith}
use Rattle.client_journal.specs.Standing.{writes_of}
use Rattle.client_journal.proofs.Works.{put_slots_works}
use Rattle.client_journal.proofs.Fusing.{slot_burns}
use Rattle.client_journal.proofs.devs.Journal.put_slots.Goals as goal

pub returns-clause-works : goal.returns-clause-works
returns-clause-works g c =
    rw c.told.ensures (put_slots_works g.D.Disk.state g.D.Disk.images g.met.D.Disk.only_now c.args.self.now c.put_slots.new.self (writes_of c.args.self.now) c.args.row.now c.requires.up c.requires.ready c.put_slots.result c.put_slots.ensures.puts)

pub returns-clause-fuse : goal.returns-clause-fuse
returns-clause-fuse g c = slot_burns g.D.Disk.state c.args.self.now c.put_slots.new.self 4 c.put_slots.result (c.put_slots.ensures.puts.fuse c.requires.up.slots)

pub returns-clause-once : goal.returns-clause-once
returns-clause-once g c = let burns = c.put_slots.ensures.puts.fuse c.requires.up.slots in let one = burns.one in omega (arith, one)
