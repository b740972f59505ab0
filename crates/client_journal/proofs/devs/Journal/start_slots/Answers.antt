use Rattle.client_journal.proofs.Starting.{slot_start_reserved, slot_start_room}
use Rattle.client_journal.proofs.devs.Journal.start_slots.Goals as goal

pub returns-clause-starts : goal.returns-clause-starts
returns-clause-starts g c =
    rw c.of_slots.ensures (slot_start_reserved g.D.Disk.state g.D.Disk.images g.met.D.Disk.only_now c.args.self.now c.requires.starting c.reserve.new.self c.args.puts c.args.bytes c.reserve.result c.reserve.ensures.reserves)

pub returns-clause-room : goal.returns-clause-room
returns-clause-room g c =
    rw c.of_slots.ensures (slot_start_room g.D.Disk.state g.D.Disk.images g.met.D.Disk.only_now c.args.self.now c.requires.starting c.reserve.new.self c.args.puts c.args.bytes c.reserve.result c.reserve.ensures.reserves)
