use Rattle.client_journal.proofs.Rolling.{names_told}
use Rattle.client_journal.proofs.devs.Journal.told_names.Goals as goal

pub returns-clause-starts : goal.returns-clause-starts
returns-clause-starts g c =
    let k = c.names_below.ensures in
    rw c.of_chunks.ensures (names_told g.D.Disk.state g.D.Disk.images g.met.D.Disk.only_now c.args.self.now c.requires.starting c.names_below.new.self c.names_below.result k.stays k.vault k.not_absent k.not_disk k.down.0)
