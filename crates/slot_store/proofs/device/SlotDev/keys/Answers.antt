use Rattle.std.proofs.Common.{List, ℕ, sym, ◌∙◌, ap}
use Rattle.std.specs.Map.{keys_of}
use Rattle.vault.specs.Standing.{payloads}
use Rattle.spare_map.specs.Late.{entries_of}
use Rattle.spare_map.proofs.Values.{keys_with}
use Rattle.slot_store.specs.declared.held.RowKey.{RowKey}
use Rattle.slot_store.specs.declared.held.RowSlots.{RowSlots}
use Rattle.slot_store.specs.Data.{key_cmp}
use Rattle.slot_store.specs.Memory.{row_at}
use Rattle.slot_store.specs.Standing.{vault_of}
use Rattle.slot_store.proofs.device.SlotDev.keys.Goals as goal

pub returns-clause-keys : goal.returns-clause-keys
returns-clause-keys g c =
    let self = c.args.self.now in
    let ps = payloads g.D.Disk.state (vault_of self) in
    let fit = (c.requires.ready c.if-is_down.ensures).memory in
    c.in_ok-keys.ensures.keys ∙ sym (ap (λ (rows : List (RowKey × RowSlots)). keys_of rows) fit.rows ∙ keys_with (row_at ps) (entries_of key_cmp self.inner.memory.places))
