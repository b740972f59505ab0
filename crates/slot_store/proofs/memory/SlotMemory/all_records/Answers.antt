use Rattle.std.proofs.Common.{◌≡◌, map, sym, ◌∙◌, ap, subst, arith}
use Rattle.std.specs.Ordering.{nat_cmp}
use Rattle.std.proofs.lemmas.List.{take_all}
use Rattle.spare_map.specs.Late.{entries_of}
use Rattle.spare_map.specs.Values.{AllValues}
use Rattle.slot_store.specs.Memory.{record_at, IsRecordPlace}
use Rattle.slot_store.proofs.Finds.{made_of_more}
use Rattle.slot_store.proofs.Notes.{Records}
use Rattle.slot_store.proofs.memory.SlotMemory.all_records.Goals as goal

pub returns : goal.returns
returns c kept =
    let memory = c.args.self.now in
    let schemas = memory.schemas.items in
    let items : Records = c.deref-place-items.result.now in
    let is : items ≡ entries_of nat_cmp memory.records = c.deref-place-items.ensures.value ∙ c.in_ok-entries.ensures.entries in
    c.loop-place.invariant (subst (AllValues (IsRecordPlace schemas)) (sym is) kept)
    ∙ ap (λ (l : Records). map (λ e. record_at schemas e.1) l) (take_all c.loop-place.place-index items (omega (arith, c.loop-place-test.false)) ∙ is)

pub loop-place-preserved : goal.loop-place-preserved
loop-place-preserved c kept =
    let schemas = c.args.self.now.schemas.items in
    made_of_more (IsRecordPlace schemas) (record_at schemas) c.deref-place-items.result.now c.loop-place.place-index _ c.loop-place.found c.add_record.new.found kept c.loop-place-test.true
    (c.loop-place.invariant kept) c.in_ok-add_record.ensures
