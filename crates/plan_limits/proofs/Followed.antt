-- Rows that a plan leaves fit.
use Rattle.std.proofs.Common.{◌≡◌, inl, inr, ◌⊎◌, ⊎_elim, ℕ, Bool, true, false, cond, List, [], Option, Some, None, refl, sym, ◌∙◌, ap, subst}
use Rattle.std.specs.Prelude.{◌||◌, not, IfSome, option_map}
use Rattle.std.specs.declared.cmp.Ordering.{Ordering}
use Rattle.std.specs.declared.cmp.Ordering.TheVariants.{Less, Equal, Greater}
use Rattle.std.specs.Ordering.{is_eq, nat_cmp}
use Rattle.std.specs.Cmp.{nat_cmp_total}
use Rattle.std.specs.BTreeMap.{is_at}
use Rattle.std.proofs.lemmas.Map.Lookups.{exact_unsigned}
use Rattle.spare_map.proofs.Changes.{lookup-changed}
use Rattle.row_value.specs.declared.schema.Schema.{Schema}
use Rattle.held_value.specs.declared.local_name.LocalName.{LocalName}
use Rattle.held_value.specs.declared.content.HeldContent.{HeldContent}
use Rattle.held_value.specs.declared.slots.Slots.{Slots}
use Rattle.slot_store.specs.declared.held.RowKey.{RowKey}
use Rattle.slot_store.specs.declared.held.RowSlots.{RowSlots}
use Rattle.slot_store.specs.declared.held.TableRecord.{TableRecord}
use Rattle.slot_store.specs.Data.{SlotData, key_cmp, key_at, with_slots, with_record, slots_of, record_of}
use Rattle.plan_log.specs.declared.plan.RecordChange.{RecordChange}
use Rattle.plan_log.specs.declared.plan.RowChange.{RowChange}
use Rattle.plan_log.specs.Spelling.{IsPlan as IsPlanNumber}
use Rattle.client_journal.specs.declared.plan.Plan.{Plan}
use Rattle.client_journal.specs.Agenda.{meaning_with}
use Rattle.client_journal.specs.Names.{names_of}
use Rattle.client_journal.specs.Plan.{numbered_slots, numbered_row, commit_for}
use Rattle.client_journal.specs.Redone.{slots_for, row_behind, with_row_if, moved_if, position_from, record_from, record_for, with_record_if, applied}
use Rattle.client_journal.specs.There.{all_lens, fits_by_len, repeats, any_content}
use Rattle.client_journal.proofs.Applied.{same_record, same_slots}
use Rattle.client_journal.proofs.Lookups.{cases_key, slots_put, slots_put_other, record_put}
use Rattle.plan_limits.specs.Fit.{IsFitRow, AreFitRows, AreOlderRows, IsFitChange, HasSchema, AreEmpty, KeepsRows}
use Rattle.journal_laws.specs.Holds.{empty}
use Rattle.plan_limits.proofs.Numbers.{others, numbered}

-- ---- a record at another position

same_schema : (meaning : LocalName → List ℕ) (a b : TableRecord) (slots : Slots) → a.schema ≡ b.schema → IsFitRow meaning (Some a) slots → IsFitRow meaning (Some b) slots
same_schema meaning a b slots same k = record {
  whole = record {
    right = sym (ap (λ (s : Schema). any_content (λ (c : HeldContent). not (all_lens (λ name. Some (meaning name)) s.chunk c) || (repeats [] (names_of c) || not (fits_by_len s c))) slots) same) ∙ k.whole.right;
  };
  spelled = k.spelled;
  pieces = k.pieces;
}

-- empty slots fit whatever the table is
empty_is_fit : (meaning : LocalName → List ℕ) (table : Option TableRecord) → IsFitRow meaning table empty
empty_is_fit meaning table = record { whole = record { right = refl }; spelled = (tt, (tt, (tt, tt))); pieces = tt }

is_equal : (o : Ordering) → is_eq o ≡ true → o ≡ Equal
is_equal Less h = absurd cc
is_equal Equal h = refl
is_equal Greater h = absurd cc

-- a record of this schema in place of an old one
module _ (meaning : LocalName → List ℕ) (held : SlotData) (old made : TableRecord) (there : record_of held made.table ≡ Some old) (same : old.schema ≡ made.schema) where
  put_fit : (table : ℕ) (slots : Slots) → IsFitRow meaning (record_of held table) slots → IsFitRow meaning (record_of (with_record held made) table) slots
  put_fit table slots k = pick (is_at (nat_cmp made.table) table) refl
    where
      pick : (b : Bool) → is_at (nat_cmp made.table) table ≡ b → IsFitRow meaning (record_of (with_record held made) table) slots
      pick true is =
          let one : made.table ≡ table = exact_unsigned made.table table (is_equal (nat_cmp made.table table) is) in
          let was : IsFitRow meaning (Some old) slots = subst (λ (o : Option TableRecord). IsFitRow meaning o slots) (ap (record_of held) (sym one) ∙ there) k in
          subst (λ (o : Option TableRecord). IsFitRow meaning o slots) (sym (ap (record_of (with_record held made)) (sym one) ∙ record_put held made)) (same_schema meaning old made slots same was)
      pick false is =
          subst (λ (o : Option TableRecord). IsFitRow meaning o slots)
          (sym (lookup-changed nat_cmp nat_cmp_total held.tables made.table (Some made) table ∙ ap (λ (b : Bool). cond b (Some made) (record_of held table)) is)) k

moved_fit : (meaning : LocalName → List ℕ) (held : SlotData) (at : ℕ) (position : Option ℕ) (table : ℕ) (slots : Slots) → IsFitRow meaning (record_of held table) slots
    → IsFitRow meaning (record_of (with_record_if held (moved_if at position (record_of held at))) table) slots
moved_fit meaning held at None table slots k = k
moved_fit meaning held at (Some position) table slots k = pick (record_of held at) refl
  where
    pick : (o : Option TableRecord) → record_of held at ≡ o → IsFitRow meaning (record_of (with_record_if held (moved_if at (Some position) o)) table) slots
    pick None is = k
    pick (Some old) is = put_fit meaning held old (record { table = at; state = old.state; schema = old.schema; position = position }) is refl table slots k

-- ---- behind a commit

some_same : (a b : RowSlots) → Some a ≡ Some b → a ≡ b
some_same a b e = cc

module _ (meaning : LocalName → List ℕ) (held : SlotData) (number : ℕ) (plan : Plan) (fit : AreFitRows meaning held) (older : AreOlderRows number held) (n : IsPlanNumber number)
    (change : IfSome plan.row (IsFitChange meaning number plan.brought (record_of held plan.table))) where
  -- it is the row that changes, or another one
  row_fit : (change : RowChange) → IsFitChange meaning number plan.brought (record_of held plan.table) change → (table : ℕ) (key : List ℕ) (stored : RowSlots)
      → slots_of (with_slots held (slots_for (commit_for number plan) (numbered_row number change))) table key ≡ Some stored
      → (key_at plan.table change.row ≡ key_at table key) ⊎ (is_at (key_cmp (key_at plan.table change.row)) (key_at table key) ≡ false)
      → IsFitRow (meaning_with meaning number plan.brought) (record_of held table) stored.slots
  row_fit change c table key stored is (inl same) =
      let new : RowSlots = slots_for (commit_for number plan) (numbered_row number change) in
      let one : new ≡ stored = some_same new stored (sym (slots_put held new table key same) ∙ is) in
      let k : IsFitRow (meaning_with meaning number plan.brought) (record_of held plan.table) (numbered_slots number change.slots) =
      numbered (meaning_with meaning number plan.brought) (record_of held plan.table) number n change.slots c.names c.fit in
      let at : IsFitRow (meaning_with meaning number plan.brought) (record_of held table) (numbered_slots number change.slots) =
      subst (λ (t : ℕ). IsFitRow (meaning_with meaning number plan.brought) (record_of held t) (numbered_slots number change.slots)) (ap (λ (q : RowKey). q.table) same) k in
      subst (λ (s : RowSlots). IsFitRow (meaning_with meaning number plan.brought) (record_of held table) s.slots) one at
  row_fit change c table key stored is (inr other) =
      let there : slots_of held table key ≡ Some stored = sym (slots_put_other held (slots_for (commit_for number plan) (numbered_row number change)) table key other) ∙ is in
      others meaning (record_of held table) number plan.brought stored.slots (fit.each table key stored there) (older.each table key stored there)

  -- the slots that are there behind it fit the record of before
  slots_fit : (row : Option RowChange) → IfSome row (IsFitChange meaning number plan.brought (record_of held plan.table)) → (table : ℕ) (key : List ℕ) (stored : RowSlots)
      → slots_of (with_row_if held (option_map (slots_for (commit_for number plan)) (option_map (numbered_row number) row))) table key ≡ Some stored
      → IsFitRow (meaning_with meaning number plan.brought) (record_of held table) stored.slots
  slots_fit None c table key stored is = others meaning (record_of held table) number plan.brought stored.slots (fit.each table key stored is) (older.each table key stored is)
  slots_fit (Some change) c table key stored is = row_fit change c table key stored is (cases_key (key_at plan.table change.row) (key_at table key))

  plain_followed : plan.new_record ≡ None → AreFitRows (meaning_with meaning number plan.brought) (applied (commit_for number plan) held)
  plain_followed no_record = record {
    each = λ table key stored is.
        let commit = commit_for number plan in
        let behind = with_row_if held (row_behind commit) in
        let made = record_for (record_of held plan.table) commit in
        let there : slots_of behind table key ≡ Some stored = sym (same_slots behind made table key) ∙ is in
        let k : IsFitRow (meaning_with meaning number plan.brought) (record_of held table) stored.slots = slots_fit plan.row change table key stored there in
        let now : IsFitRow (meaning_with meaning number plan.brought) (record_of behind table) stored.slots =
        subst (λ (o : Option TableRecord). IsFitRow (meaning_with meaning number plan.brought) o stored.slots) (sym (same_record held (row_behind commit) table)) k in
        let moved : IsFitRow (meaning_with meaning number plan.brought) (record_of (with_record_if behind (moved_if plan.table plan.position (record_of behind plan.table))) table) stored.slots =
        moved_fit (meaning_with meaning number plan.brought) behind plan.table plan.position table stored.slots now in
        let same : record_for (record_of held plan.table) commit ≡ moved_if plan.table plan.position (record_of behind plan.table) =
        ap (λ (o : Option RecordChange). record_from plan.table o plan.position (record_of held plan.table)) no_record
        ∙ ap (moved_if plan.table plan.position) (sym (same_record held (row_behind commit) plan.table)) in
        subst (λ (o : Option TableRecord). IsFitRow (meaning_with meaning number plan.brought) (record_of (with_record_if behind o) table) stored.slots) (sym same) moved;
  }

  -- ---- a table that is opened or closed

  module _ (renewed : RecordChange) (new : plan.new_record ≡ Some renewed) (keeps : KeepsRows held plan renewed) where
    abbrev means : LocalName → List ℕ
    means = meaning_with meaning number plan.brought

    abbrev made : TableRecord
    made = record { table = plan.table; state = renewed.state; schema = renewed.schema; position = position_from plan.position (record_of held plan.table) }

    applied_is : applied (commit_for number plan) held ≡ with_record held made
    applied_is =
        ap (λ (o : Option RowChange). with_record_if (with_row_if held (option_map (slots_for (commit_for number plan)) (option_map (numbered_row number) o))) (record_for (record_of held plan.table) (commit_for number plan))) keeps.no_row
        ∙ ap (λ (r : Option RecordChange). with_record_if held (record_from plan.table r plan.position (record_of held plan.table))) new

    still_fit : (table : ℕ) (key : List ℕ) (stored : RowSlots) → slots_of held table key ≡ Some stored → IsFitRow means (record_of held table) stored.slots
    still_fit table key stored is = others meaning (record_of held table) number plan.brought stored.slots (fit.each table key stored is) (older.each table key stored is)

    same_schema_fit : (o : Option TableRecord) → record_of held plan.table ≡ o → HasSchema renewed.schema o → (table : ℕ) (key : List ℕ) (stored : RowSlots) → slots_of held table key ≡ Some stored
        → IsFitRow means (record_of (with_record held made) table) stored.slots
    same_schema_fit None there has table key stored is = absurd has
    same_schema_fit (Some old) there has table key stored is = put_fit means held old made there has table stored.slots (still_fit table key stored is)

    empty_fit : AreEmpty held plan.table → (table : ℕ) (key : List ℕ) (stored : RowSlots) → slots_of held table key ≡ Some stored → IsFitRow means (record_of (with_record held made) table) stored.slots
    empty_fit none table key stored is = pick (is_at (nat_cmp plan.table) table) refl
      where
        pick : (b : Bool) → is_at (nat_cmp plan.table) table ≡ b → IsFitRow means (record_of (with_record held made) table) stored.slots
        pick true at =
            let one : plan.table ≡ table = exact_unsigned plan.table table (is_equal (nat_cmp plan.table table) at) in
            let bare : stored.slots ≡ empty = none key stored (ap (λ (q : ℕ). slots_of held q key) one ∙ is) in
            subst (λ (s : Slots). IsFitRow means (record_of (with_record held made) table) s) (sym bare) (empty_is_fit means (record_of (with_record held made) table))
        pick false at =
            subst (λ (o : Option TableRecord). IsFitRow means o stored.slots)
            (sym (lookup-changed nat_cmp nat_cmp_total held.tables made.table (Some made) table ∙ ap (λ (b : Bool). cond b (Some made) (record_of held table)) at)) (still_fit table key stored is)

    record_followed : AreFitRows means (applied (commit_for number plan) held)
    record_followed = subst (λ (s : SlotData). AreFitRows means s) (sym applied_is) (record {
      each = λ table key stored is.
          ⊎_elim (λ has. same_schema_fit (record_of held plan.table) refl has table key stored is) (λ none. empty_fit none table key stored is) keeps.kept;
    })

  pub rows_followed : IfSome plan.new_record (KeepsRows held plan) → AreFitRows (meaning_with meaning number plan.brought) (applied (commit_for number plan) held)
  rows_followed keeps = pick plan.new_record refl keeps
    where
      pick : (o : Option RecordChange) → plan.new_record ≡ o → IfSome o (KeepsRows held plan) → AreFitRows (meaning_with meaning number plan.brought) (applied (commit_for number plan) held)
      pick None new k = plain_followed new
      pick (Some renewed) new k = record_followed renewed new k
