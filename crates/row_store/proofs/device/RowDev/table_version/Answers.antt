use Rattle.vault.specs.Standing.{payloads}
use Rattle.row_store.specs.Standing.{vault_of}
use Rattle.row_store.proofs.Finds.{no_version, last_version, of_version, versions_most}
use Rattle.row_store.proofs.device.RowDev.table_version.Goals as goal

pub returns-in-Some-clause-greatest : goal.returns-in-Some-clause-greatest
returns-in-Some-clause-greatest g c up =
    let self = c.args.self.now in
    last_version self.inner.memory (payloads g.D.Disk.state (vault_of self)) (c.requires.ready up).memory c.in-Some.last c.in-Some.ensures

pub returns-in-None-clause-greatest : goal.returns-in-None-clause-greatest
returns-in-None-clause-greatest g c up =
    let self = c.args.self.now in
    no_version self.inner.memory (payloads g.D.Disk.state (vault_of self)) (c.requires.ready up).memory c.in-None.ensures

pub returns-in-Some-clause-most : goal.returns-in-Some-clause-most
returns-in-Some-clause-most g c up =
    let self = c.args.self.now in
    let ps = payloads g.D.Disk.state (vault_of self) in
    let fit = (c.requires.ready up).memory in
    versions_most self.inner.memory ps fit c.in-Some.last.row c.in-Some.last.version (of_version self.inner.memory ps fit c.in-Some.last c.in-Some.ensures.0)
