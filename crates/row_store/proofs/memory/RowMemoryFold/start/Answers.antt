use Rattle.std.proofs.Common.{◌≡◌, List, ℕ, [], None, refl, sym, ◌∙◌, ap, subst}
use Rattle.std.specs.Ordering.{nat_cmp}
use Rattle.spare_map.specs.Late.{entries_of}
use Rattle.spare_map.specs.Values.{AllValues, with_values}
use Rattle.value_codec.specs.Reading.{byte_at}
use Rattle.row_store.specs.Reading.{table_in, tag_at}
use Rattle.row_store.specs.Data.{id_cmp, version_cmp, data_of}
use Rattle.row_store.specs.Memory.{IsPlace, row_at, table_or, AreByVersion}
use Rattle.row_store.proofs.Versions.{Places}
use Rattle.row_store.proofs.memory.RowMemoryFold.start.Goals as goal

no_versions : AreByVersion [] []
no_versions = record { same = λ each. refl }

no_table : table_or (table_in []) ≡ None
unfolding table_in tag_at byte_at
no_table = refl

pub returns : goal.returns
unfolding data_of
returns c =
    let places : entries_of id_cmp c.new.result ≡ [] = c.new.ensures in
    let versions : entries_of version_cmp c.new-2.result ≡ [] = c.new-2.ensures in
    let subs : entries_of nat_cmp c.new-4.result ≡ [] = c.new-4.ensures in
    let nowhere : Places = [] in
    let none : AllValues (IsPlace []) nowhere = tt in
    record {
      rows = sym (ap (with_values (row_at [])) places);
      places = subst (AllValues (IsPlace [])) (sym places) none;
      versions = subst (λ (es : Places). AreByVersion es (entries_of version_cmp c.new-2.result)) (sym places) (subst (AreByVersion []) (sym versions) no_versions);
      table = sym (ap (λ (l : List ℕ). table_or (table_in l)) c.new-3.ensures.items ∙ no_table);
      subs = sym subs;
    }
