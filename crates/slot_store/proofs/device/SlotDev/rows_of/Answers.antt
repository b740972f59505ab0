use Rattle.vault.specs.Standing.{payloads}
use Rattle.slot_store.specs.Standing.{vault_of}
use Rattle.slot_store.proofs.Finds.{are_keys, rows_are}
use Rattle.slot_store.proofs.device.SlotDev.rows_of.Goals as goal

pub returns-clause-rows : goal.returns-clause-rows
returns-clause-rows g c =
    let self = c.args.self.now in
    let ps = payloads g.D.Disk.state (vault_of self) in
    let fit = (c.requires.ready c.if-is_down.ensures).memory in
    rows_are self.inner.memory ps fit c.args.table c.in_ok-rows.rows (c.in_ok-rows.ensures.rows (are_keys self.inner.memory ps fit))
