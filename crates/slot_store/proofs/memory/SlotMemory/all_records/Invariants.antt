use Rattle.std.proofs.Common.{◌≡◌, map, take}
use Rattle.spare_map.specs.Values.{AllValues}
use Rattle.slot_store.specs.Memory.{record_at, IsRecordPlace}
use Rattle.slot_store.proofs.memory.SlotMemory.all_records.Given as goal

abbrev pub invariant-loop-place : goal.invariant-loop-place
invariant-loop-place l = AllValues (IsRecordPlace l.self.schemas.items) l.place-items
    → l.found ≡ map (λ e. record_at l.self.schemas.items e.1) (take l.place-index l.place-items)
