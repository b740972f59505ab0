use Rattle.std.proofs.Common.{◌≡◌, ◌∙◌, ap, refl}
use Rattle.std.specs.Prelude.{map}
use Rattle.spare_map.specs.Late.{entries_of}
use Rattle.slot_store.specs.declared.held.RowKey.{RowKey}
use Rattle.slot_store.specs.Data.{key_cmp}
use Rattle.slot_store.proofs.Ids.{are_ids, next_is}
use Rattle.slot_store.proofs.memory.SlotMemory.rows_of.Goals as goal

pub returns-clause-rows : goal.returns-clause-rows
returns-clause-rows c keys =
    let rows = c.from_vec.ensures ∙ (c.in_ok-ids_of.ensures ∙ ap (map (λ (k : RowKey). k.row)) c.deref.ensures.value) in
    are_ids c.args.table c.saturating_add.result (next_is c.args.table c.saturating_add.result c.ranges.table.fits c.saturating_add.ensures) c.from_bytes-first.result c.from_bytes-first.ensures
    (entries_of key_cmp c.args.self.now.places) c.in_ok-keys.keys.items c.from_vec.result keys c.in_ok-keys.ensures.found c.in_ok-keys.ensures.rising rows
