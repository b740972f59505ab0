use Rattle.client_journal.proofs.Asking.{slots_read}
use Rattle.client_journal.proofs.Behind.{slots_there, once_read}
use Rattle.client_journal.specs.Standing.{devs}
use Rattle.client_journal.proofs.devs.Journal.held_slots.Goals as goal

pub returns-clause-reads : goal.returns-clause-reads
returns-clause-reads g c =
    rw c.found_slots.ensures (slots_read g.D.Disk.state g.D.Disk.images g.met.D.Disk.only_now c.args.self.now c.requires.up c.requires.looked c.get_slots.new.self c.get_slots.result c.get_slots.ensures.reads c.get_slots.ensures.no_row_unchanged)

pub returns-clause-slots : goal.returns-clause-slots
returns-clause-slots g c =
    let e = c.get_slots.ensures in
    rw c.found_slots.ensures (slots_there (devs g.D.Disk.state c.args.self.now).held c.args.table c.args.row.now c.get_slots.result e.row (λ is. (e.no_row.0 is).1))

pub returns-clause-once : goal.returns-clause-once
returns-clause-once g c = once_read _ _ c.get_slots.result c.get_slots.ensures.read
