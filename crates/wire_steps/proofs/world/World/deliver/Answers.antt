use Rattle.std.proofs.Common.{sym}
use Rattle.wire_tables.specs.Wire.{PartPacket}
use Rattle.wire_steps.proofs.Coming.{absent_comes, read_part}
use Rattle.wire_steps.proofs.world.World.deliver.Goals as goal

pub returns-in_default-clause-done : goal.returns-in_default-clause-done
returns-in_default-clause-done g c v r h =
    absent_comes g.D.Disk.state g.D.Disk.images g.met.D.Disk.only_now v c.args.self.now h c.args.number (λ (p : PartPacket). p.to) (sym (c.in_default.ensures v.packets h.packets)) c.no_packet.result
    (c.no_packet.ensures.lines v.packets h.packets)

pub returns-clause-done : goal.returns-clause-done
returns-clause-done g c v r h =
    c.bring_part.ensures.done
    (read_part g.D.Disk.state g.D.Disk.images g.met.D.Disk.only_now v c.args.self.now h c.args.number r c.in-Some-2.from c.in-Some.to c.in-Some-2.part (c.in-Some.ensures v.packets h.packets)
    (rw c.in-Some-2.is at (c.in_ok-from.ensures.part v.packets h.packets)))

pub returns-clause-ends : goal.returns-clause-ends
returns-clause-ends g c v r h =
    c.bring_part.ensures.ends
    (read_part g.D.Disk.state g.D.Disk.images g.met.D.Disk.only_now v c.args.self.now h c.args.number r c.in-Some-2.from c.in-Some.to c.in-Some-2.part (c.in-Some.ensures v.packets h.packets)
    (rw c.in-Some-2.is at (c.in_ok-from.ensures.part v.packets h.packets)))

pub returns-clause-limit : goal.returns-clause-limit
returns-clause-limit g c v n r h below =
    c.bring_part.ensures.limit
    (read_part g.D.Disk.state g.D.Disk.images g.met.D.Disk.only_now v c.args.self.now h c.args.number r c.in-Some-2.from c.in-Some.to c.in-Some-2.part (c.in-Some.ensures v.packets h.packets)
    (rw c.in-Some-2.is at (c.in_ok-from.ensures.part v.packets h.packets)))
    n below
