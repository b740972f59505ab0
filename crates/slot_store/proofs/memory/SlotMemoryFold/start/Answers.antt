use Rattle.std.proofs.Common.{◌≡◌, [], refl, sym, ◌∙◌, ap, subst}
use Rattle.std.specs.Ordering.{nat_cmp}
use Rattle.spare_map.specs.Late.{entries_of}
use Rattle.spare_map.specs.Values.{AllValues, with_values}
use Rattle.slot_store.specs.Data.{key_cmp, data_of}
use Rattle.slot_store.specs.Memory.{IsPlace, row_at, IsRecordPlace, record_at}
use Rattle.slot_store.proofs.Ids.{Places}
use Rattle.slot_store.proofs.Notes.{Records}
use Rattle.slot_store.proofs.memory.SlotMemoryFold.start.Goals as goal

pub returns : goal.returns
unfolding data_of
returns c =
    let places : entries_of key_cmp c.new.result ≡ [] = c.new.ensures in
    let records : entries_of nat_cmp c.new-2.result ≡ [] = c.new-2.ensures in
    let schemas = c.new-3.result.items in
    let nowhere : Places = [] in
    let none : AllValues (IsPlace []) nowhere = tt in
    let no_table : Records = [] in
    let nothing : AllValues (IsRecordPlace schemas) no_table = tt in
    record {
      rows = sym (ap (with_values (row_at [])) places);
      places = subst (AllValues (IsPlace [])) (sym places) none;
      tables = sym (ap (with_values (record_at schemas)) records);
      records = subst (AllValues (IsRecordPlace schemas)) (sym records) nothing;
      whole = tt;
      last = refl;
    }
