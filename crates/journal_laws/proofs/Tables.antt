-- What the devices hold and the tables that they stand for, behind a row that is put and behind a record.
use Rattle.std.proofs.Common.{◌≡◌, inl, inr, ◌⊎◌, ℕ, ◌≤◌, Bool, true, false, cond, List, Option, Some, None, refl, sym, ◌∙◌, ap, subst, arith}
use Rattle.std.specs.Prelude.{◌&&◌}
use Rattle.std.specs.declared.cmp.Ordering.{Ordering}
use Rattle.std.specs.declared.cmp.Ordering.TheVariants.{Less, Equal, Greater}
use Rattle.std.specs.Ordering.{is_eq, nat_cmp, ordering_then}
use Rattle.std.specs.Cmp.{nat_cmp_total, eq_by_cmp_equiv}
use Rattle.std.specs.Cmp.Lexicographic.{nat_list_cmp_total}
use Rattle.std.specs.Map.{lookup}
use Rattle.std.specs.BTreeMap.{insert_entry, is_at}
use Rattle.std.proofs.lemmas.Map.Lookups.{exact_unsigned}
use Rattle.spare_map.proofs.Changes.{lookup-changed}
use Rattle.held_value.specs.declared.local_name.LocalName.{LocalName}
use Rattle.held_value.specs.declared.slots.Slots.{Slots as HeldSlots}
use Rattle.slot_store.specs.declared.held.RowSlots.{RowSlots}
use Rattle.slot_store.specs.declared.held.TableRecord.{TableRecord}
use Rattle.slot_store.specs.Data.{SlotData, key_cmp, key_at, key_of, id_cmp, with_slots, with_record, slots_of, record_of}
use Rattle.slot_store.proofs.Keys.{key_cmp_total, equal_is}
use Rattle.client_journal.specs.Names.{Has, names_in}
use Rattle.step_tables.specs.Client.{row_cmp}
use Rattle.step_tables.specs.ClientMoves.{TableDisk, RowPut, or_none, slots_at, slots_in, put_row, put_position}
use Rattle.journal_laws.specs.Whole.{whole_slots, AreHeld, AreNumbered}
use Rattle.journal_laws.specs.Holds.{slots_or_empty, IsRecordOf, StandsTable, HoldsTables}
use Rattle.journal_laws.proofs.Alike.{slots_alike, held_alike}

both_equal : (o p : Ordering) → is_eq (ordering_then o p) ≡ is_eq o && is_eq p
both_equal Less p = refl
both_equal Equal p = refl
both_equal Greater p = refl

module _ (tables : List (ℕ × TableDisk)) (at : ℕ) (t : TableDisk) where
  -- the opened table is changed
  pub table_here : lookup (is_at (nat_cmp at)) (insert_entry nat_cmp tables at t) ≡ Some t
  table_here =
      lookup-changed nat_cmp nat_cmp_total tables at (Some t) at
      ∙ ap (λ (b : Bool). cond b (Some t) (lookup (is_at (nat_cmp at)) tables)) ((eq_by_cmp_equiv nat_cmp_total).refl at)

  -- and no other one
  pub table_or_not : (q : ℕ) → (at ≡ q) ⊎ ((is_at (nat_cmp at) q ≡ false) × (lookup (is_at (nat_cmp q)) (insert_entry nat_cmp tables at t) ≡ lookup (is_at (nat_cmp q)) tables))
  table_or_not q = split (is_at (nat_cmp at) q) refl
    where
      split : (b : Bool) → is_at (nat_cmp at) q ≡ b → (at ≡ q) ⊎ ((is_at (nat_cmp at) q ≡ false) × (lookup (is_at (nat_cmp q)) (insert_entry nat_cmp tables at t) ≡ lookup (is_at (nat_cmp q)) tables))
      split true is = inl (exact_unsigned at q (equal_is (nat_cmp at q) is))
      split false is = inr (is, lookup-changed nat_cmp nat_cmp_total tables at (Some t) q ∙ ap (λ (b : Bool). cond b (Some t) (lookup (is_at (nat_cmp q)) tables)) is)

-- what is held of a row behind one that is put
module _ (held : SlotData) (row : RowSlots) (q : ℕ) (r : List ℕ) where
  abbrev is_its : Bool
  is_its = is_at (nat_cmp row.table) q && is_at (row_cmp row.row) r

  pub put_found : slots_of (with_slots held row) q r ≡ cond is_its (Some row) (slots_of held q r)
  put_found =
      lookup-changed key_cmp key_cmp_total held.rows (key_of row) (Some row) (key_at q r)
      ∙ ap (λ (b : Bool). cond b (Some row) (slots_of held q r)) (both_equal (nat_cmp row.table q) (id_cmp row.row r))

module _ (meaning : LocalName → List ℕ) where
  -- whatever is known of a row's slots and of the new ones is known behind the put
  pub each_behind : (P : HeldSlots → Type 0) (held : SlotData) (row : RowSlots) → P row.slots → ((q : ℕ) (r : List ℕ) → P (slots_or_empty (slots_of held q r))) → (q : ℕ) (r : List ℕ)
      → P (slots_or_empty (slots_of (with_slots held row) q r))
  each_behind P held row new old q r = subst (λ (o : Option RowSlots). P (slots_or_empty o)) (sym (put_found held row q r)) (pick (is_at (nat_cmp row.table) q && is_at (row_cmp row.row) r))
    where
      pick : (b : Bool) → P (slots_or_empty (cond b (Some row) (slots_of held q r)))
      pick true = new
      pick false = old q r

  module _ (held : SlotData) (last : ℕ) (tables : List (ℕ × TableDisk)) (row : RowSlots) (t : TableDisk) (h : HoldsTables meaning held last tables) (opened : lookup (is_at (nat_cmp row.table)) tables ≡ Some t) where
    abbrev put : RowPut
    put = record { row = row.row; slots = whole_slots meaning row.slots }

    abbrev behind : TableDisk
    behind = put_row put t

    abbrev all : List (ℕ × TableDisk)
    all = insert_entry nat_cmp tables row.table behind

    still_record : (o : Option TableRecord) → StandsTable o (Some t) → StandsTable o (Some behind)
    still_record None s = s
    still_record (Some old) s = record { state = s.state; schema = s.schema; position = s.position }

    records : (q : ℕ) → StandsTable (record_of held q) (lookup (is_at (nat_cmp q)) all)
    records q = pick (table_or_not tables row.table behind q)
      where
        pick : (row.table ≡ q) ⊎ ((is_at (nat_cmp row.table) q ≡ false) × (lookup (is_at (nat_cmp q)) all ≡ lookup (is_at (nat_cmp q)) tables))
            → StandsTable (record_of held q) (lookup (is_at (nat_cmp q)) all)
        pick (inl same) =
            let old : StandsTable (record_of held row.table) (Some t) = subst (λ (o : Option TableDisk). StandsTable (record_of held row.table) o) opened (h.records row.table) in
            subst (λ (x : ℕ). StandsTable (record_of held x) (lookup (is_at (nat_cmp x)) all)) same
            (subst (λ (o : Option TableDisk). StandsTable (record_of held row.table) o) (sym (table_here tables row.table behind)) (still_record (record_of held row.table) old))
        pick (inr other) = subst (λ (o : Option TableDisk). StandsTable (record_of held q) o) (sym other.1) (h.records q)

    row_found : (r : List ℕ) → slots_at behind r ≡ or_none (cond (is_at (row_cmp row.row) r) (Some put.slots) (lookup (is_at (row_cmp r)) t.rows))
    row_found r = ap or_none (lookup-changed row_cmp nat_list_cmp_total t.rows row.row (Some put.slots) r)

    -- a row of the table
    row_here : (r : List ℕ) → whole_slots meaning (slots_or_empty (slots_of (with_slots held row) row.table r)) ≡ slots_at behind r
    row_here r =
        ap (λ (o : Option RowSlots). whole_slots meaning (slots_or_empty o)) (put_found held row row.table r)
        ∙ (ap (λ (b : Bool). whole_slots meaning (slots_or_empty (cond (b && is_at (row_cmp row.row) r) (Some row) (slots_of held row.table r)))) ((eq_by_cmp_equiv nat_cmp_total).refl row.table)
        ∙ (pick (is_at (row_cmp row.row) r) ∙ sym (row_found r)))
      where
        pick : (b : Bool) → whole_slots meaning (slots_or_empty (cond b (Some row) (slots_of held row.table r))) ≡ or_none (cond b (Some put.slots) (lookup (is_at (row_cmp r)) t.rows))
        pick true = refl
        pick false = h.rows row.table r ∙ ap (λ (o : Option TableDisk). slots_in o r) opened

    rows : (q : ℕ) (r : List ℕ) → whole_slots meaning (slots_or_empty (slots_of (with_slots held row) q r)) ≡ slots_in (lookup (is_at (nat_cmp q)) all) r
    rows q r = pick (table_or_not tables row.table behind q)
      where
        pick : (row.table ≡ q) ⊎ ((is_at (nat_cmp row.table) q ≡ false) × (lookup (is_at (nat_cmp q)) all ≡ lookup (is_at (nat_cmp q)) tables))
            → whole_slots meaning (slots_or_empty (slots_of (with_slots held row) q r)) ≡ slots_in (lookup (is_at (nat_cmp q)) all) r
        pick (inl same) =
            subst (λ (x : ℕ). whole_slots meaning (slots_or_empty (slots_of (with_slots held row) x r)) ≡ slots_in (lookup (is_at (nat_cmp x)) all) r) same
            (row_here r ∙ ap (λ (o : Option TableDisk). slots_in o r) (sym (table_here tables row.table behind)))
        pick (inr other) =
            ap (λ (o : Option RowSlots). whole_slots meaning (slots_or_empty o)) (put_found held row q r)
            ∙ (ap (λ (b : Bool). whole_slots meaning (slots_or_empty (cond (b && is_at (row_cmp row.row) r) (Some row) (slots_of held q r)))) other.0
            ∙ (h.rows q r ∙ ap (λ (o : Option TableDisk). slots_in o r) (sym other.1)))

    pub slots_put : last ≤ row.last → AreHeld meaning row.slots → AreNumbered row.slots → HoldsTables meaning (with_slots held row) row.last all
    slots_put most new numbered = record {
      last_is = let is = h.last_is in omega arith;
      records = records;
      rows = rows;
      held_all = each_behind (AreHeld meaning) held row new h.held_all;
      numbered = each_behind AreNumbered held row numbered h.numbered;
    }

  -- a table's record is put, and its rows stay
  module _ (held : SlotData) (last : ℕ) (tables : List (ℕ × TableDisk)) (made : TableRecord) (t : TableDisk) (h : HoldsTables meaning held last tables) (is_record : IsRecordOf made t) (same_rows : (r : List ℕ) → slots_at t r ≡ slots_in (lookup (is_at (nat_cmp made.table)) tables) r) where
    abbrev every : List (ℕ × TableDisk)
    every = insert_entry nat_cmp tables made.table t

    found : (q : ℕ) → record_of (with_record held made) q ≡ cond (is_at (nat_cmp made.table) q) (Some made) (record_of held q)
    found q = lookup-changed nat_cmp nat_cmp_total held.tables made.table (Some made) q

    records_put : (q : ℕ) → StandsTable (record_of (with_record held made) q) (lookup (is_at (nat_cmp q)) every)
    records_put q = pick (table_or_not tables made.table t q)
      where
        pick : (made.table ≡ q) ⊎ ((is_at (nat_cmp made.table) q ≡ false) × (lookup (is_at (nat_cmp q)) every ≡ lookup (is_at (nat_cmp q)) tables))
            → StandsTable (record_of (with_record held made) q) (lookup (is_at (nat_cmp q)) every)
        pick (inl same) =
            let here : record_of (with_record held made) made.table ≡ Some made = found made.table
            ∙ ap (λ (b : Bool). cond b (Some made) (record_of held made.table)) ((eq_by_cmp_equiv nat_cmp_total).refl made.table) in
            subst (λ (x : ℕ). StandsTable (record_of (with_record held made) x) (lookup (is_at (nat_cmp x)) every)) same
            (subst (λ (o : Option TableRecord). StandsTable o (lookup (is_at (nat_cmp made.table)) every)) (sym here)
            (subst (λ (o : Option TableDisk). StandsTable (Some made) o) (sym (table_here tables made.table t)) is_record))
        pick (inr other) =
            subst (λ (o : Option TableRecord). StandsTable o (lookup (is_at (nat_cmp q)) every)) (sym (found q ∙ ap (λ (b : Bool). cond b (Some made) (record_of held q)) other.0))
            (subst (λ (o : Option TableDisk). StandsTable (record_of held q) o) (sym other.1) (h.records q))

    rows_still : (q : ℕ) (r : List ℕ) → slots_in (lookup (is_at (nat_cmp q)) every) r ≡ slots_in (lookup (is_at (nat_cmp q)) tables) r
    rows_still q r = pick (table_or_not tables made.table t q)
      where
        pick : (made.table ≡ q) ⊎ ((is_at (nat_cmp made.table) q ≡ false) × (lookup (is_at (nat_cmp q)) every ≡ lookup (is_at (nat_cmp q)) tables))
            → slots_in (lookup (is_at (nat_cmp q)) every) r ≡ slots_in (lookup (is_at (nat_cmp q)) tables) r
        pick (inl same) =
            subst (λ (x : ℕ). slots_in (lookup (is_at (nat_cmp x)) every) r ≡ slots_in (lookup (is_at (nat_cmp x)) tables) r) same
            (ap (λ (o : Option TableDisk). slots_in o r) (table_here tables made.table t) ∙ same_rows r)
        pick (inr other) = ap (λ (o : Option TableDisk). slots_in o r) other.1

    pub table_put : HoldsTables meaning (with_record held made) last every
    table_put = record {
      last_is = h.last_is;
      records = records_put;
      rows = λ q r. h.rows q r ∙ sym (rows_still q r);
      held_all = h.held_all;
      numbered = h.numbered;
    }

    -- the same, where the table stays as it is
    pub table_again : lookup (is_at (nat_cmp made.table)) tables ≡ Some t → HoldsTables meaning (with_record held made) last tables
    table_again there = record {
      last_is = h.last_is;
      records = λ q. subst (λ (o : Option TableDisk). StandsTable (record_of (with_record held made) q) o) (same q) (records_put q);
      rows = h.rows;
      held_all = h.held_all;
      numbered = h.numbered;
    }
      where
        same : (q : ℕ) → lookup (is_at (nat_cmp q)) every ≡ lookup (is_at (nat_cmp q)) tables
        same q = pick (table_or_not tables made.table t q)
          where
            pick : (made.table ≡ q) ⊎ ((is_at (nat_cmp made.table) q ≡ false) × (lookup (is_at (nat_cmp q)) every ≡ lookup (is_at (nat_cmp q)) tables))
                → lookup (is_at (nat_cmp q)) every ≡ lookup (is_at (nat_cmp q)) tables
            pick (inl is) = subst (λ (x : ℕ). lookup (is_at (nat_cmp x)) every ≡ lookup (is_at (nat_cmp x)) tables) is (table_here tables made.table t ∙ sym there)
            pick (inr other) = other.1

  -- the record of an opened table at a new position
  pub record_moved : (held : SlotData) (last : ℕ) (tables : List (ℕ × TableDisk)) (old : TableRecord) (at position : ℕ) (t : TableDisk) → HoldsTables meaning held last tables
      → record_of held at ≡ Some old → lookup (is_at (nat_cmp at)) tables ≡ Some t
      → HoldsTables meaning (with_record held (record { table = at; state = old.state; schema = old.schema; position = position })) last (insert_entry nat_cmp tables at (put_position position t))
  record_moved held last tables old at position t h there opened =
      let now : IsRecordOf old t = subst (λ (o : Option TableRecord). StandsTable o (Some t)) there (subst (λ (o : Option TableDisk). StandsTable (record_of held at) o) opened (h.records at)) in
      table_put held last tables (record { table = at; state = old.state; schema = old.schema; position = position }) (put_position position t) h
      (record { state = now.state; schema = now.schema; position = refl })
      (λ r. ap (λ (o : Option TableDisk). slots_in o r) (sym opened))

-- names that stand for the same
pub held_with : (meaning others : LocalName → List ℕ) (held : SlotData) (last : ℕ) (tables : List (ℕ × TableDisk))
    → ((q : ℕ) (r : List ℕ) (name : LocalName) → Has (names_in (slots_or_empty (slots_of held q r))) name → others name ≡ meaning name)
    → HoldsTables meaning held last tables → HoldsTables others held last tables
held_with meaning others held last tables same h = record {
  last_is = h.last_is;
  records = h.records;
  rows = λ q r. slots_alike meaning others (slots_or_empty (slots_of held q r)) (same q r) ∙ h.rows q r;
  held_all = λ q r. held_alike meaning others (slots_or_empty (slots_of held q r)) (same q r) (h.held_all q r);
  numbered = h.numbered;
}
