-- What is kept in memory, after one payload more.
use Rattle.std.proofs.Common.{◌≡◌, ℕ, List, [], ◌∷◌, ◌++◌, length, get_or, Option, Some, Ok, sym, ◌∙◌, ap, subst, arith, length-append}
use Rattle.std.specs.BTreeMap.{insert_entry}
use Rattle.std.specs.Ordering.{nat_cmp}
use Rattle.std.proofs.lemmas.List.{get_or_append_left}
use Rattle.std.proofs.Math.Seq.{get_or-append_seam}
use Rattle.std.proofs.lemmas.List.Sums.{fold-append}
use Rattle.spare_map.specs.Late.{entries_of, changed}
use Rattle.spare_map.specs.Values.{AllValues, with_values}
use Rattle.spare_map.proofs.Values.{values_weaker, values_changed, map_alike, map_changed}
use Rattle.row_value.specs.declared.schema.Schema.{Schema}
use Rattle.row_store.specs.declared.stored.StoredRow.{StoredRow}
use Rattle.row_store.specs.declared.stored.SubChange.{SubChange}
use Rattle.row_store.specs.declared.stored.Terms.{Terms}
use Rattle.row_store.specs.declared.memory.RowMemory.{RowMemory}
use Rattle.row_store.specs.declared.memory.Place.{Place}
use Rattle.row_store.specs.Reading.{Said, SaysRow, SaysTable, SaysSub, SaysNothing, said_by, row_in, table_in}
use Rattle.row_store.specs.Data.{TableData, id_cmp, version_cmp, step, data_of, nothing_held}
use Rattle.row_store.specs.Memory.{stored_or, row_at, IsPlace, table_or, AreByVersion, Fits}
use Rattle.row_store.proofs.Again.{row_said, table_said}
use Rattle.row_store.proofs.Versions.{Places}

pub data_of-push : (ps : List (List ℕ)) (p : List ℕ) → data_of (ps ++ p ∷ []) ≡ step (data_of ps) (said_by p)
unfolding data_of
data_of-push ps p = fold-append (λ (held : TableData) (payload : List ℕ). step held (said_by payload)) nothing_held ps (p ∷ [])

pub grown : (ps : List (List ℕ)) (p : List ℕ) (said : Said) → said_by p ≡ said → data_of (ps ++ p ∷ []) ≡ step (data_of ps) said
grown ps p said is = data_of-push ps p ∙ ap (step (data_of ps)) is

module _ (ps : List (List ℕ)) (p : List ℕ) where
  abbrev more : List (List ℕ)
  more = ps ++ p ∷ []

  kept : (place : Place) → IsPlace ps place → get_or more place.index [] ≡ get_or ps place.index []
  kept place is = get_or_append_left ps (p ∷ []) [] place.index is.within

  row_kept : (place : Place) → IsPlace ps place → row_at ps place ≡ row_at more place
  row_kept place is = ap (λ (q : List ℕ). stored_or (row_in q)) (sym (kept place is))

  still : (place : Place) → IsPlace ps place → IsPlace more place
  still place is = record {
    within = omega (arith, is.within, length-append ps (p ∷ []));
    row = ap row_in (kept place is) ∙ (is.row ∙ ap (λ (s : StoredRow). Ok s) (row_kept place is));
    version = ap (λ (s : StoredRow). s.version) (sym (row_kept place is)) ∙ is.version;
  }

  alike : (es : Places) → AllValues (IsPlace ps) es → with_values (row_at ps) es ≡ with_values (row_at more) es
  alike es places = map_alike (IsPlace ps) (row_at ps) (row_at more) row_kept es places

  -- the places of rows that stayed where they were
  places_still : (es : Places) → AllValues (IsPlace ps) es → AllValues (IsPlace more) es
  places_still es places = values_weaker (IsPlace ps) (IsPlace more) still es places

  module _ (memory new : RowMemory) (fit : Fits memory ps) where
    abbrev es : Places
    es = entries_of id_cmp memory.places

    module _ (stored : StoredRow) (says : said_by p ≡ SaysRow stored) (place : Place) (version : place.version ≡ stored.version) (index : place.index ≡ length ps) where
      last : get_or more place.index [] ≡ p
      last = ap (λ (n : ℕ). get_or more n []) index ∙ get_or-append_seam ps p [] []

      read : row_in (get_or more place.index []) ≡ Ok stored
      read = ap row_in last ∙ row_said p stored says

      stands : row_at more place ≡ stored
      stands = ap stored_or read

      here : IsPlace more place
      here = record {
        within = omega (arith, index, length-append ps (p ∷ []));
        row = read ∙ ap (λ (s : StoredRow). Ok s) (sym stands);
        version = ap (λ (s : StoredRow). s.version) stands ∙ sym version;
      }

      pub noted_row : entries_of id_cmp new.places ≡ insert_entry id_cmp es stored.row place
          → (AreByVersion es (entries_of version_cmp memory.versions) → AreByVersion (entries_of id_cmp new.places) (entries_of version_cmp new.versions))
          → new.table.items ≡ memory.table.items → entries_of nat_cmp new.subs ≡ entries_of nat_cmp memory.subs → Fits new more
      noted_row places versions table subs =
          let held = grown ps p (SaysRow stored) says in
          let some : Option Place = Some place in
          let rows : (data_of more).rows ≡ with_values (row_at more) (insert_entry id_cmp es stored.row place) =
          ap (λ (d : TableData). d.rows) held
          ∙ (ap (λ (m : List (List ℕ × StoredRow)). insert_entry id_cmp m stored.row stored) (fit.rows ∙ alike es fit.places)
          ∙ (ap (insert_entry id_cmp (with_values (row_at more) es) stored.row) (sym stands) ∙ sym (map_changed id_cmp (row_at more) es stored.row some))) in
          let all : AllValues (IsPlace more) (insert_entry id_cmp es stored.row place) =
          values_changed id_cmp (IsPlace more) es stored.row some (places_still es fit.places) (λ v is. let same : place ≡ v = cc in subst (IsPlace more) same here) in
          record {
            rows = rows ∙ ap (with_values (row_at more)) (sym places);
            places = subst (AllValues (IsPlace more)) (sym places) all;
            versions = versions fit.versions;
            table = ap (λ (d : TableData). d.table) held ∙ (fit.table ∙ ap (λ (t : List ℕ). table_or (table_in t)) (sym table));
            subs = ap (λ (d : TableData). d.subs) held ∙ (fit.subs ∙ sym subs);
          }

    -- where the rows stay
    module _ (same_places : entries_of id_cmp new.places ≡ es) (same_versions : entries_of version_cmp new.versions ≡ entries_of version_cmp memory.versions) (rows_same : (data_of more).rows ≡ (data_of ps).rows) where
      rows_still : (data_of more).rows ≡ with_values (row_at more) (entries_of id_cmp new.places)
      rows_still = rows_same ∙ (fit.rows ∙ (alike es fit.places ∙ ap (with_values (row_at more)) (sym same_places)))

      all_still : AllValues (IsPlace more) (entries_of id_cmp new.places)
      all_still = subst (AllValues (IsPlace more)) (sym same_places) (places_still es fit.places)

      versions_still : AreByVersion (entries_of id_cmp new.places) (entries_of version_cmp new.versions)
      versions_still = subst (λ (fs : Places). AreByVersion fs (entries_of version_cmp new.versions)) (sym same_places) (subst (AreByVersion es) (sym same_versions) fit.versions)

    pub noted_table : (schema : Schema) (state : ℕ) → said_by p ≡ SaysTable schema state → entries_of id_cmp new.places ≡ es
        → entries_of version_cmp new.versions ≡ entries_of version_cmp memory.versions → new.table.items ≡ p → entries_of nat_cmp new.subs ≡ entries_of nat_cmp memory.subs → Fits new more
    noted_table schema state says places versions table subs =
        let held = grown ps p (SaysTable schema state) says in
        let rows = ap (λ (d : TableData). d.rows) held in
        let read : table_in new.table.items ≡ Ok (schema, state) = ap table_in table ∙ table_said p schema state says in
        record {
          rows = rows_still places versions rows;
          places = all_still places versions rows;
          versions = versions_still places versions rows;
          table = ap (λ (d : TableData). d.table) held ∙ sym (ap table_or read);
          subs = ap (λ (d : TableData). d.subs) held ∙ (fit.subs ∙ sym subs);
        }

    pub noted_sub : (change : SubChange) → said_by p ≡ SaysSub change → entries_of id_cmp new.places ≡ es → entries_of version_cmp new.versions ≡ entries_of version_cmp memory.versions
        → new.table.items ≡ memory.table.items
        → entries_of nat_cmp new.subs ≡ changed nat_cmp (entries_of nat_cmp memory.subs) change.client change.terms → Fits new more
    noted_sub change says places versions table subs =
        let held = grown ps p (SaysSub change) says in
        let rows = ap (λ (d : TableData). d.rows) held in
        record {
          rows = rows_still places versions rows;
          places = all_still places versions rows;
          versions = versions_still places versions rows;
          table = ap (λ (d : TableData). d.table) held ∙ (fit.table ∙ ap (λ (t : List ℕ). table_or (table_in t)) (sym table));
          subs = ap (λ (d : TableData). d.subs) held ∙ (ap (λ (m : List (ℕ × Terms)). changed nat_cmp m change.client change.terms) fit.subs ∙ sym subs);
        }

    pub noted_nothing : said_by p ≡ SaysNothing → new ≡ memory → Fits new more
    noted_nothing says same =
        let held = grown ps p SaysNothing says in
        let rows = ap (λ (d : TableData). d.rows) held in
        let places = ap (λ (m : RowMemory). entries_of id_cmp m.places) same in
        let versions = ap (λ (m : RowMemory). entries_of version_cmp m.versions) same in
        record {
          rows = rows_still places versions rows;
          places = all_still places versions rows;
          versions = versions_still places versions rows;
          table = ap (λ (d : TableData). d.table) held ∙ (fit.table ∙ ap (λ (m : RowMemory). table_or (table_in m.table.items)) (sym same));
          subs = ap (λ (d : TableData). d.subs) held ∙ (fit.subs ∙ ap (λ (m : RowMemory). entries_of nat_cmp m.subs) (sym same));
        }
