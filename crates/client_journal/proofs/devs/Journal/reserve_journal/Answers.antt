use Rattle.client_journal.proofs.Waiting.{journal_reserved, journal_has_room}
use Rattle.client_journal.proofs.devs.Journal.reserve_journal.Goals as goal

pub returns-clause-waits : goal.returns-clause-waits
returns-clause-waits g c =
    rw c.of_journal.ensures (journal_reserved g.D.Disk.state g.D.Disk.images g.met.D.Disk.only_now c.args.self.now c.requires.up c.requires.rests c.reserve.new.self c.args.puts c.args.bytes c.reserve.result c.reserve.ensures)

pub returns-clause-room : goal.returns-clause-room
returns-clause-room g c =
    rw c.of_journal.ensures (journal_has_room g.D.Disk.state g.D.Disk.images g.met.D.Disk.only_now c.args.self.now c.requires.up c.requires.rests c.reserve.new.self c.args.puts c.args.bytes c.reserve.result c.reserve.ensures)
