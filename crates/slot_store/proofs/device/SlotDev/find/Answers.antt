use Rattle.vault.specs.Standing.{payloads}
use Rattle.slot_store.specs.Standing.{vault_of}
use Rattle.slot_store.proofs.Finds.{none_is, some_is, place_at}
use Rattle.slot_store.proofs.device.SlotDev.find.Goals as goal

pub returns-clause-none : goal.returns-clause-none
returns-clause-none g c up =
    let self = c.args.self.now in
    none_is self.inner.memory (payloads g.D.Disk.state (vault_of self)) (c.requires.ready up).memory c.args.table c.args.row c.get.result c.get.ensures

pub returns-clause-some : goal.returns-clause-some
returns-clause-some g c up =
    let self = c.args.self.now in
    some_is self.inner.memory (payloads g.D.Disk.state (vault_of self)) (c.requires.ready up).memory c.args.table c.args.row c.get.result c.get.ensures

pub returns-clause-place : goal.returns-clause-place
returns-clause-place g c up =
    let self = c.args.self.now in
    place_at self.inner.memory (payloads g.D.Disk.state (vault_of self)) (c.requires.ready up).memory c.args.table c.args.row c.get.result c.get.ensures
