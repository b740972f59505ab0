use Rattle.vault.specs.Calls.{IsEither}
use Rattle.client_journal.proofs.Sinces.{since_restarted}
use Rattle.client_journal.proofs.Restarts.{left_restarted, rests_restarted}
use Rattle.client_journal.proofs.devs.Journal.restart.Goals as goal

pub returns-clause-left : goal.returns-clause-left
returns-clause-left g c start a b run =
    left_restarted g.D.Disk.state g.D.Disk.images g.met.D.Disk.counts_now c.args.self.now _ c.restart.ensures.image c.restart-2.ensures.image c.restart-3.ensures.image start a b run

pub returns-clause-rests : goal.returns-clause-rests
returns-clause-rests g c up synced sound =
    rests_restarted g.D.Disk.state g.D.Disk.images g.met.D.Disk.counts_now c.args.self.now _ c.restart.ensures.image c.restart-2.ensures.image c.restart-3.ensures.image g.met.D.Disk.only_now up synced sound

pub returns-clause-since : goal.returns-clause-since
returns-clause-since g c start a b run =
    let one = c.restart.ensures in
    let two = c.restart-2.ensures in
    let three = c.restart-3.ensures in
    since_restarted g.D.Disk.state g.D.Disk.images g.met.D.Disk.counts_now c.args.self.now _ start (IsEither a b) one.restarts two.restarts three.restarts one.image two.image three.image one.time two.time three.time run
