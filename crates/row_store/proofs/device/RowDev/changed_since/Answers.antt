use Rattle.vault.specs.Standing.{payloads}
use Rattle.row_store.specs.Standing.{vault_of}
use Rattle.row_store.proofs.Finds.{changed_are}
use Rattle.row_store.proofs.device.RowDev.changed_since.Goals as goal

pub returns-clause-changed : goal.returns-clause-changed
returns-clause-changed g c =
    let self = c.args.self.now in
    changed_are self.inner.memory (payloads g.D.Disk.state (vault_of self)) (c.requires.ready c.if-is_down.ensures).memory c.args.position c.in_ok-rows.rows c.in_ok-rows.ensures.rows
