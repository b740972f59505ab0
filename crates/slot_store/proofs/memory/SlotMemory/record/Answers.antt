use Rattle.std.proofs.Common.{sym, ap}
use Rattle.std.specs.Prelude.{option_map}
use Rattle.std.specs.BTreeMap.{is_at}
use Rattle.std.specs.Ordering.{nat_cmp}
use Rattle.spare_map.specs.Late.{entries_of}
use Rattle.spare_map.proofs.Values.{value_found}
use Rattle.slot_store.specs.Memory.{record_at, IsRecordPlace}
use Rattle.slot_store.proofs.Finds.{ok_as}
use Rattle.slot_store.proofs.memory.SlotMemory.record.Goals as goal

pub returns-in-Some : goal.returns-in-Some
returns-in-Some c kept =
    let memory = c.args.self.now in
    let there = value_found (IsRecordPlace memory.schemas.items) (is_at (nat_cmp c.args.table)) (entries_of nat_cmp memory.records) c.in-Some.place kept (sym c.in-Some.ensures) in
    ok_as c.record_at.result (c.record_at.ensures there) (ap (option_map (record_at memory.schemas.items)) c.in-Some.ensures)
