use Rattle.std.proofs.Common.{List, ℕ, sym, ◌∙◌, ap}
use Rattle.std.specs.Map.{keys_of}
use Rattle.vault.specs.Standing.{payloads}
use Rattle.spare_map.specs.Late.{entries_of}
use Rattle.spare_map.proofs.Values.{keys_with}
use Rattle.row_store.specs.declared.stored.StoredRow.{StoredRow}
use Rattle.row_store.specs.Data.{id_cmp}
use Rattle.row_store.specs.Memory.{row_at}
use Rattle.row_store.specs.Standing.{vault_of}
use Rattle.row_store.proofs.device.RowDev.ids.Goals as goal

pub returns-clause-ids : goal.returns-clause-ids
returns-clause-ids g c =
    let self = c.args.self.now in
    let ps = payloads g.D.Disk.state (vault_of self) in
    let fit = (c.requires.ready c.if-is_down.ensures).memory in
    c.in_ok-ids.ensures.ids ∙ sym (ap (λ (rows : List (List ℕ × StoredRow)). keys_of rows) fit.rows ∙ keys_with (row_at ps) (entries_of id_cmp self.inner.memory.places))
