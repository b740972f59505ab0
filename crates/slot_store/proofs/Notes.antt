-- What is kept in memory, after one payload more.
use Rattle.std.proofs.Common.{◌≡◌, ℕ, List, [], ◌∷◌, ◌++◌, length, take, get_or, Option, Some, Ok, refl, sym, ◌∙◌, ap, subst, arith, length-append}
use Rattle.std.specs.Prelude.{max}
use Rattle.std.specs.BTreeMap.{insert_entry}
use Rattle.std.specs.Ordering.{nat_cmp}
use Rattle.std.proofs.lemmas.List.{get_or_append_left}
use Rattle.std.proofs.Math.Seq.{get_or-append_seam}
use Rattle.std.proofs.lemmas.List.Sums.{fold-append}
use Rattle.stab_base.specs.Codec.{IsBytes}
use Rattle.spare_map.specs.Late.{entries_of}
use Rattle.spare_map.specs.Values.{AllValues, with_values}
use Rattle.spare_map.proofs.Values.{values_weaker, values_changed, map_alike, map_changed}
use Rattle.row_value.specs.declared.schema.Schema.{Schema}
use Rattle.value_codec.specs.SchemaSpelling.{schema_spelling}
use Rattle.slot_store.specs.declared.held.RowKey.{RowKey}
use Rattle.slot_store.specs.declared.held.RowSlots.{RowSlots}
use Rattle.slot_store.specs.declared.held.TableRecord.{TableRecord}
use Rattle.slot_store.specs.declared.memory.SlotMemory.{SlotMemory}
use Rattle.slot_store.specs.declared.schemas.RecordPlace.{RecordPlace}
use Rattle.slot_store.specs.Reading.{Said, SaysRow, SaysTable, SaysNothing, said_by, row_in, schema_in}
use Rattle.slot_store.specs.Data.{SlotData, key_cmp, key_of, step, data_of, nothing_held}
use Rattle.slot_store.specs.Memory.{row_or, row_at, IsPlace, schema_or, between, schema_part, record_at, IsRecordPlace, IsPut, IsWhole, Fits}
use Rattle.slot_store.proofs.Again.{row_said, only_table, schema_again}
use Rattle.slot_store.proofs.Parts.{record_stays, place_stays, part_is}
use Rattle.slot_store.proofs.Shapes.{told_of}

pub data_of-push : (ps : List (List ℕ)) (p : List ℕ) → data_of (ps ++ p ∷ []) ≡ step (data_of ps) (said_by p)
unfolding data_of
data_of-push ps p = fold-append (λ (held : SlotData) (payload : List ℕ). step held (said_by payload)) nothing_held ps (p ∷ [])

pub grown : (ps : List (List ℕ)) (p : List ℕ) (said : Said) → said_by p ≡ said → data_of (ps ++ p ∷ []) ≡ step (data_of ps) said
grown ps p said is = data_of-push ps p ∙ ap (step (data_of ps)) is

abbrev Places : Type 0
Places = List (RowKey × ℕ)

abbrev pub Records : Type 0
Records = List (ℕ × RecordPlace)

module _ (ps : List (List ℕ)) (p : List ℕ) where
  abbrev more : List (List ℕ)
  more = ps ++ p ∷ []

  same_payload : (index : ℕ) → IsPlace ps index → get_or more index [] ≡ get_or ps index []
  same_payload index is = get_or_append_left ps (p ∷ []) [] index is.within

  row_stays : (index : ℕ) → IsPlace ps index → row_at ps index ≡ row_at more index
  row_stays index is = ap (λ (q : List ℕ). row_or (row_in q)) (sym (same_payload index is))

  still : (index : ℕ) → IsPlace ps index → IsPlace more index
  still index is = record {
    within = omega (arith, is.within, length-append ps (p ∷ []));
    row = ap row_in (same_payload index is) ∙ (is.row ∙ ap (λ (s : RowSlots). Ok s) (row_stays index is));
  }

  alike : (es : Places) → AllValues (IsPlace ps) es → with_values (row_at ps) es ≡ with_values (row_at more) es
  alike es places = map_alike (IsPlace ps) (row_at ps) (row_at more) row_stays es places

  places_still : (es : Places) → AllValues (IsPlace ps) es → AllValues (IsPlace more) es
  places_still es places = values_weaker (IsPlace ps) (IsPlace more) still es places

  whole_still : (es : List (ℕ × TableRecord)) → AllValues (IsWhole ps) es → AllValues (IsWhole more) es
  whole_still es whole =
      values_weaker (IsWhole ps) (IsWhole more)
      (λ table is. record { spelled = is.spelled; index = is.index; within = omega (arith, is.within, length-append ps (p ∷ [])); there = get_or_append_left ps (p ∷ []) [] is.index is.within ∙ is.there })
      es whole

  module _ (memory new : SlotMemory) (fit : Fits memory ps) where
    abbrev es : Places
    es = entries_of key_cmp memory.places

    abbrev fs : Records
    fs = entries_of nat_cmp memory.records

    module _ (row : RowSlots) (says : said_by p ≡ SaysRow row) (index : ℕ) (at : index ≡ length ps) where
      last_payload : get_or more index [] ≡ p
      last_payload = ap (λ (n : ℕ). get_or more n []) at ∙ get_or-append_seam ps p [] []

      read : row_in (get_or more index []) ≡ Ok row
      read = ap row_in last_payload ∙ row_said p row says

      stands : row_at more index ≡ row
      stands = ap row_or read

      here : IsPlace more index
      here = record { within = omega (arith, at, length-append ps (p ∷ [])); row = read ∙ ap (λ (s : RowSlots). Ok s) (sym stands) }

      pub noted_row : entries_of key_cmp new.places ≡ insert_entry key_cmp es (key_of row) index → new.last ≡ max memory.last row.last
          → entries_of nat_cmp new.records ≡ fs → new.schemas.items ≡ memory.schemas.items → Fits new more
      noted_row places last records schemas =
          let held = grown ps p (SaysRow row) says in
          let some : Option ℕ = Some index in
          let rows : (data_of more).rows ≡ with_values (row_at more) (insert_entry key_cmp es (key_of row) index) =
          ap (λ (d : SlotData). d.rows) held
          ∙ (ap (λ (m : List (RowKey × RowSlots)). insert_entry key_cmp m (key_of row) row) (fit.rows ∙ alike es fit.places)
          ∙ (ap (insert_entry key_cmp (with_values (row_at more) es) (key_of row)) (sym stands) ∙ sym (map_changed key_cmp (row_at more) es (key_of row) some))) in
          let all : AllValues (IsPlace more) (insert_entry key_cmp es (key_of row) index) =
          values_changed key_cmp (IsPlace more) es (key_of row) some (places_still es fit.places) (λ v is. let same : index ≡ v = cc in subst (IsPlace more) same here) in
          record {
            rows = rows ∙ ap (with_values (row_at more)) (sym places);
            places = subst (AllValues (IsPlace more)) (sym places) all;
            tables = ap (λ (d : SlotData). d.tables) held ∙ (fit.tables ∙ (ap (λ (l : List ℕ). with_values (record_at l) fs) (sym schemas)
                ∙ ap (with_values (record_at new.schemas.items)) (sym records)));
            records = subst (AllValues (IsRecordPlace new.schemas.items)) (sym records) (subst (λ (l : List ℕ). AllValues (IsRecordPlace l) fs) (sym schemas) fit.records);
            whole = subst (AllValues (IsWhole more)) (sym (ap (λ (d : SlotData). d.tables) held)) (whole_still (data_of ps).tables fit.whole);
            last = ap (λ (d : SlotData). d.last) held ∙ (ap (λ (n : ℕ). max n row.last) fit.last ∙ sym last);
          }

    -- where the rows stay
    module _ (same_places : entries_of key_cmp new.places ≡ es) (rows_same : (data_of more).rows ≡ (data_of ps).rows) where
      rows_still : (data_of more).rows ≡ with_values (row_at more) (entries_of key_cmp new.places)
      rows_still = rows_same ∙ (fit.rows ∙ (alike es fit.places ∙ ap (with_values (row_at more)) (sym same_places)))

      all_still : AllValues (IsPlace more) (entries_of key_cmp new.places)
      all_still = subst (AllValues (IsPlace more)) (sym same_places) (places_still es fit.places)

    module _ (table : TableRecord) (says : said_by p ≡ SaysTable table) (fits : IsBytes p) (start end : ℕ) (put : IsPut memory new (told_of table) (schema_part p) start end)
        (others : take (length memory.schemas.items) new.schemas.items ≡ memory.schemas.items) where
      abbrev place : RecordPlace
      place = record { table = table.table; state = table.state; position = table.position; start = start; end = end }

      abbrev old_bytes : List ℕ
      old_bytes = memory.schemas.items

      abbrev new_bytes : List ℕ
      new_bytes = new.schemas.items

      schema_read : schema_in (between start end new_bytes) ≡ Ok table.schema
      schema_read =
          let t = only_table p table fits says in
          ap schema_in (put.spelled ∙ (ap schema_part t.1 ∙ part_is table)) ∙ schema_again table.schema t.0.schema

      whole_here : IsWhole more table
      whole_here =
          let t = only_table p table fits says in
          record {
            spelled = t.0;
            index = length ps;
            within = omega (arith, length-append ps (p ∷ []));
            there = get_or-append_seam ps p [] [] ∙ t.1;
          }

      record_is : record_at new_bytes place ≡ table
      record_is = ap (λ (s : Schema). record { table = table.table; state = table.state; schema = s; position = table.position }) (ap schema_or schema_read)

      record_here : IsRecordPlace new_bytes place
      record_here = record { within = put.within; schema = schema_read ∙ ap (λ (t : TableRecord). Ok t.schema) (sym record_is) }

      records_alike : with_values (record_at old_bytes) fs ≡ with_values (record_at new_bytes) fs
      records_alike = map_alike (IsRecordPlace old_bytes) (record_at old_bytes) (record_at new_bytes) (record_stays old_bytes new_bytes others) fs fit.records

      records_still : AllValues (IsRecordPlace new_bytes) fs
      records_still = values_weaker (IsRecordPlace old_bytes) (IsRecordPlace new_bytes) (place_stays old_bytes new_bytes others) fs fit.records

      pub noted_table : entries_of key_cmp new.places ≡ es → new.last ≡ memory.last → Fits new more
      noted_table places last =
          let held = grown ps p (SaysTable table) says in
          let rows = ap (λ (d : SlotData). d.rows) held in
          let some : Option RecordPlace = Some place in
          let tables : (data_of more).tables ≡ with_values (record_at new_bytes) (insert_entry nat_cmp fs table.table place) =
          ap (λ (d : SlotData). d.tables) held
          ∙ (ap (λ (m : List (ℕ × TableRecord)). insert_entry nat_cmp m table.table table) (fit.tables ∙ records_alike)
          ∙ (ap (insert_entry nat_cmp (with_values (record_at new_bytes) fs) table.table) (sym record_is) ∙ sym (map_changed nat_cmp (record_at new_bytes) fs table.table some))) in
          let all : AllValues (IsRecordPlace new_bytes) (insert_entry nat_cmp fs table.table place) =
          values_changed nat_cmp (IsRecordPlace new_bytes) fs table.table some records_still (λ v is. let same : place ≡ v = cc in subst (IsRecordPlace new_bytes) same record_here) in
          record {
            rows = rows_still places rows;
            places = all_still places rows;
            tables = tables ∙ ap (with_values (record_at new_bytes)) (sym put.records);
            records = subst (AllValues (IsRecordPlace new_bytes)) (sym put.records) all;
            whole =
                let one : Option TableRecord = Some table in
                subst (AllValues (IsWhole more)) (sym (ap (λ (d : SlotData). d.tables) held))
                (values_changed nat_cmp (IsWhole more) (data_of ps).tables table.table one (whole_still (data_of ps).tables fit.whole) (λ v is. let same : table ≡ v = cc in subst (IsWhole more) same whole_here));
            last = ap (λ (d : SlotData). d.last) held ∙ (fit.last ∙ sym last);
          }

    pub noted_nothing : said_by p ≡ SaysNothing → new ≡ memory → Fits new more
    noted_nothing says same =
        let held = grown ps p SaysNothing says in
        let rows = ap (λ (d : SlotData). d.rows) held in
        let places = ap (λ (m : SlotMemory). entries_of key_cmp m.places) same in
        record {
          rows = rows_still places rows;
          places = all_still places rows;
          tables = ap (λ (d : SlotData). d.tables) held ∙ (fit.tables ∙ ap (λ (m : SlotMemory). with_values (record_at m.schemas.items) (entries_of nat_cmp m.records)) (sym same));
          records = subst (λ (m : SlotMemory). AllValues (IsRecordPlace m.schemas.items) (entries_of nat_cmp m.records)) (sym same) fit.records;
          whole = subst (AllValues (IsWhole more)) (sym (ap (λ (d : SlotData). d.tables) held)) (whole_still (data_of ps).tables fit.whole);
          last = ap (λ (d : SlotData). d.last) held ∙ (fit.last ∙ ap (λ (m : SlotMemory). m.last) (sym same));
        }
