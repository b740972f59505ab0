use Rattle.vault.specs.Standing.{payloads}
use Rattle.row_store.specs.Standing.{vault_of}
use Rattle.row_store.proofs.Finds.{none_changed, next_is}
use Rattle.row_store.proofs.device.RowDev.next_changed.Goals as goal

pub returns-clause-next : goal.returns-clause-next
returns-clause-next g c =
    let self = c.args.self.now in
    next_is self.inner.memory (payloads g.D.Disk.state (vault_of self)) (c.requires.ready c.if-is_down.ensures).memory c.args.position c.in_ok-next.next c.in_ok-next.ensures.first

pub returns-then-position-ge-NUMBER_MAX-clause-next : goal.returns-then-position-ge-NUMBER_MAX-clause-next
returns-then-position-ge-NUMBER_MAX-clause-next g c =
    let self = c.args.self.now in
    none_changed self.inner.memory (payloads g.D.Disk.state (vault_of self)) (c.requires.ready c.if-is_down.ensures).memory c.args.position c.if-position-ge-NUMBER_MAX.true
