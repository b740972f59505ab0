use Rattle.std.proofs.Common.{sym, ◌∙◌}
use Rattle.vault.specs.Standing.{payloads}
use Rattle.slot_store.specs.Standing.{vault_of}
use Rattle.slot_store.proofs.Finds.{ok_as, records_are}
use Rattle.slot_store.proofs.device.SlotDev.records.Goals as goal

pub returns : goal.returns
returns g c up =
    let self = c.args.self.now in
    let fit = (c.requires.ready up).memory in
    ok_as c.all_records.result (c.all_records.ensures fit.records) (sym (records_are self.inner.memory (payloads g.D.Disk.state (vault_of self)) fit))
