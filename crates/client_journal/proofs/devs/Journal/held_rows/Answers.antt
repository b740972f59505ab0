use Rattle.client_journal.proofs.Asking.{slots_listed}
use Rattle.client_journal.proofs.Behind.{rows_there}
use Rattle.client_journal.specs.Standing.{devs}
use Rattle.client_journal.proofs.devs.Journal.held_rows.Goals as goal

pub returns-clause-reads : goal.returns-clause-reads
returns-clause-reads g c =
    let e = c.rows_of.ensures in
    rw c.of_slots.ensures (slots_listed g.D.Disk.state g.D.Disk.images g.met.D.Disk.only_now c.args.self.now c.requires.up c.requires.looked c.rows_of.new.self e.stays e.vault c.rows_of.result e.not_no_row e.not_disk e.down.0)

pub returns-clause-rows : goal.returns-clause-rows
returns-clause-rows g c = rw c.of_slots.ensures (rows_there (devs g.D.Disk.state c.args.self.now).held c.args.table c.rows_of.result c.rows_of.ensures.rows)
