-- What a commit makes of what is held, however much of it was put before.
use Rattle.std.proofs.Common.{◌≡◌, inl, inr, ⊎_elim, ◌⊎◌, ℕ, false, List, Option, Some, None, refl, sym, ◌∙◌, ap, subst}
use Rattle.std.specs.Prelude.{option_map}
use Rattle.std.specs.BTreeMap.{is_at}
use Rattle.held_value.specs.declared.local_name.LocalName.{LocalName}
use Rattle.slot_store.specs.declared.held.RowKey.{RowKey}
use Rattle.slot_store.specs.declared.held.RowSlots.{RowSlots}
use Rattle.slot_store.specs.declared.held.TableRecord.{TableRecord}
use Rattle.slot_store.specs.Data.{SlotData, key_cmp, key_at, key_of, with_slots, slots_of, record_of}
use Rattle.plan_log.specs.declared.plan.RowChange.{RowChange}
use Rattle.plan_log.specs.declared.plan.RecordChange.{RecordChange}
use Rattle.plan_log.specs.declared.plan.Commit.{Commit}
use Rattle.plan_log.specs.Journal.{AtWork, Idle, Intended, Committed}
use Rattle.client_journal.specs.Names.{names_in, Has}
use Rattle.client_journal.specs.Redone.{slots_for, row_behind, with_row_if, record_from, record_for, with_record_if, applied, redone_by}
use Rattle.client_journal.specs.NamedSlots.{IsNamed, IsNotCommitted, IsRow, IsRowOf, names_if, names_before, names_behind}
use Rattle.client_journal.proofs.Lookups.{cases_key, not_itself_key, slots_put, slots_put_other, record_put, slots_twice, record_twice}

-- ---- put twice

row_again : (held : SlotData) (row : Option RowSlots) → with_row_if (with_row_if held row) row ≡ with_row_if held row
row_again held None = refl
row_again held (Some row) = slots_twice held row

record_again : (held : SlotData) (table : Option TableRecord) → with_record_if (with_record_if held table) table ≡ with_record_if held table
record_again held None = refl
record_again held (Some table) = record_twice held table

apart : (held : SlotData) (row : Option RowSlots) (table : Option TableRecord) → with_row_if (with_record_if held table) row ≡ with_record_if (with_row_if held row) table
apart held None None = refl
apart held None (Some table) = refl
apart held (Some row) None = refl
apart held (Some row) (Some table) = refl

pub same_record : (held : SlotData) (row : Option RowSlots) (table : ℕ) → record_of (with_row_if held row) table ≡ record_of held table
same_record held None table = refl
same_record held (Some row) table = refl

pub same_slots : (held : SlotData) (record_ : Option TableRecord) (table : ℕ) (row : List ℕ) → slots_of (with_record_if held record_) table row ≡ slots_of held table row
same_slots held None table row = refl
same_slots held (Some record_) table row = refl

from_again : (held : SlotData) (table : ℕ) (change : Option RecordChange) (position : Option ℕ) (old : Option TableRecord) → record_of held table ≡ old
    → record_from table change position (record_of (with_record_if held (record_from table change position old)) table) ≡ record_from table change position old
from_again held table None None old is = refl
from_again held table None (Some position) None is = ap (record_from table None (Some position)) is
from_again held table None (Some position) (Some old) is =
    let made : TableRecord = record { table = table; state = old.state; schema = old.schema; position = position } in
    ap (record_from table None (Some position)) (record_put held made)
from_again held table (Some change) None None is =
    let made : TableRecord = record { table = table; state = change.state; schema = change.schema; position = 0 } in
    ap (record_from table (Some change) None) (record_put held made)
from_again held table (Some change) None (Some old) is =
    let made : TableRecord = record { table = table; state = change.state; schema = change.schema; position = old.position } in
    ap (record_from table (Some change) None) (record_put held made)
from_again held table (Some change) (Some position) old is =
    let made : TableRecord = record { table = table; state = change.state; schema = change.schema; position = position } in
    ap (record_from table (Some change) (Some position)) (record_put held made)

module _ (commit : Commit) (held : SlotData) where
  abbrev row : Option RowSlots
  row = row_behind commit

  abbrev made : Option TableRecord
  made = record_for (record_of held commit.table) commit

  -- the slots were put before
  pub applied_slots : applied commit (with_row_if held row) ≡ applied commit held
  applied_slots =
      ap (λ (o : Option TableRecord). with_record_if (with_row_if (with_row_if held row) row) (record_for o commit)) (same_record held row commit.table)
      ∙ ap (λ (s : SlotData). with_record_if s made) (row_again held row)

  -- and the record too
  pub applied_both : applied commit (applied commit held) ≡ applied commit held
  applied_both =
      let slots : SlotData = with_row_if held row in
      let all : SlotData = with_record_if slots made in
      let old : record_of slots commit.table ≡ record_of held commit.table = same_record held row commit.table in
      let again : record_for (record_of all commit.table) commit ≡ made =
      subst (λ (o : Option TableRecord). record_for (record_of (with_record_if slots (record_for o commit)) commit.table) commit ≡ record_for o commit) old
      (from_again slots commit.table commit.new_record commit.position (record_of slots commit.table) refl) in
      ap (with_record_if (with_row_if all row)) again
      ∙ (ap (λ (s : SlotData). with_record_if s made) (apart slots row made ∙ ap (λ (s : SlotData). with_record_if s made) (row_again held row)) ∙ record_again slots made)

-- what isn't committed changes nothing
pub as_held : (work : AtWork) (held : SlotData) → IsNotCommitted work → redone_by work held ≡ held
as_held Idle held not_ = refl
as_held (Intended intend) held not_ = refl
as_held (Committed commit) held not_ = absurd not_

-- ---- whose slots name it

-- these are a row's slots behind a change: the new ones, or those of another row
abbrev IsBehind : ℕ → Option RowChange → SlotData → ℕ → List ℕ → RowSlots → Type 0
IsBehind table change held at at_row stored =
    (IsRow table change at at_row × (names_in stored.slots ≡ names_behind change)) ⊎ ((IsRow table change at at_row → ⊥) × (slots_of held at at_row ≡ Some stored))

found : (commit : Commit) (change : Option RowChange) (held : SlotData) (at : ℕ) (at_row : List ℕ) (stored : RowSlots) → slots_of (with_row_if held (option_map (slots_for commit) change)) at at_row ≡ Some stored
    → IsBehind commit.table change held at at_row stored
found commit None held at at_row stored is = inr (λ x. x.1, is)
found commit (Some change) held at at_row stored is = pick (cases_key (key_of (slots_for commit change)) (key_at at at_row))
  where
    pick : (key_of (slots_for commit change) ≡ key_at at at_row) ⊎ (is_at (key_cmp (key_of (slots_for commit change))) (key_at at at_row) ≡ false) → IsBehind commit.table (Some change) held at at_row stored
    pick (inl same) =
        let one : Some (slots_for commit change) ≡ Some stored = sym (slots_put held (slots_for commit change) at at_row same) ∙ is in
        let both : slots_for commit change ≡ stored = cc in
        inl ((ap (λ (k : RowKey). k.table) same, ap (λ (k : RowKey). k.row) same), ap (λ (s : RowSlots). names_in s.slots) (sym both))
    pick (inr other) = inr (λ x. not_itself_key (key_of (slots_for commit change)) (key_at at at_row) other (ap (λ (t : ℕ). key_at t change.row) x.0 ∙ ap (key_at at) x.1), sym (slots_put_other held (slots_for commit change) at at_row other) ∙ is)

-- it is the row, or another one
pub row_or_not : (table : ℕ) (change : Option RowChange) (at : ℕ) (at_row : List ℕ) → IsRow table change at at_row ⊎ (IsRow table change at at_row → ⊥)
row_or_not table None at at_row = inr (λ x. x.1)
row_or_not table (Some change) at at_row = pick (cases_key (key_at table change.row) (key_at at at_row))
  where
    pick : (key_at table change.row ≡ key_at at at_row) ⊎ (is_at (key_cmp (key_at table change.row)) (key_at at at_row) ≡ false)
        → IsRow table (Some change) at at_row ⊎ (IsRow table (Some change) at at_row → ⊥)
    pick (inl same) = inl (ap (λ (k : RowKey). k.table) same, ap (λ (k : RowKey). k.row) same)
    pick (inr other) = inr (λ x. not_itself_key (key_at table change.row) (key_at at at_row) other (ap (λ (t : ℕ). key_at t change.row) x.0 ∙ ap (key_at at) x.1))

-- there is one such row
pub one_row : (table : ℕ) (change : Option RowChange) (a b : ℕ) (a_row b_row : List ℕ) → IsRow table change a a_row → IsRow table change b b_row → (a ≡ b) × (a_row ≡ b_row)
one_row table None a b a_row b_row x y = absurd x.1
one_row table (Some change) a b a_row b_row x y = (sym x.0 ∙ y.0, sym x.1 ∙ y.1)

module _ (commit : Commit) (held : SlotData) (name : LocalName) where
  abbrev after : SlotData
  after = applied commit held

  abbrev IsIts : ℕ → List ℕ → Type 0
  IsIts table row = IsRow commit.table commit.row table row

  -- a row that names it behind the commit is the commit's, or another one that named it before
  pub named_behind : (a : IsNamed after name) → (IsIts a.table a.row × Has (names_behind commit.row) name) ⊎ ((IsIts a.table a.row → ⊥) × (slots_of held a.table a.row ≡ Some a.stored))
  named_behind a =
      ⊎_elim
      (λ new. inl (new.0, subst (λ (l : List LocalName). Has l name) new.1 a.among))
      inr
      (found commit commit.row held a.table a.row a.stored (sym (same_slots (with_row_if held (row_behind commit)) (record_for (record_of held commit.table) commit) a.table a.row) ∙ a.there))

  -- what the new slots name is named
  pub named_new : Has (names_behind commit.row) name → (a : IsNamed after name) × IsIts a.table a.row
  named_new h = make commit.row refl h
    where
      make : (change : Option RowChange) → commit.row ≡ change → Has (names_behind change) name → (a : IsNamed after name) × IsIts a.table a.row
      make None is h = absurd cc
      make (Some change) is h =
          let new : RowSlots = slots_for commit change in
          let there : slots_of after commit.table change.row ≡ Some new =
          same_slots (with_row_if held (row_behind commit)) (record_for (record_of held commit.table) commit) commit.table change.row
          ∙ (ap (λ (o : Option RowChange). slots_of (with_row_if held (option_map (slots_for commit) o)) commit.table change.row) is ∙ slots_put held new commit.table change.row refl) in
          (record { table = commit.table; row = change.row; stored = new; there = there; among = h }, (refl, subst (λ (o : Option RowChange). IsRowOf o change.row) (sym is) refl))

  -- another row's slots still do
  pub named_other : (a : IsNamed held name) → (IsIts a.table a.row → ⊥) → IsNamed after name
  named_other a other = record { table = a.table; row = a.row; stored = a.stored; there = still commit.row refl; among = a.among }
    where
      still : (change : Option RowChange) → commit.row ≡ change → slots_of after a.table a.row ≡ Some a.stored
      still change is =
          same_slots (with_row_if held (row_behind commit)) (record_for (record_of held commit.table) commit) a.table a.row
          ∙ (kept change (λ x. other (subst (λ (o : Option RowChange). IsRow commit.table o a.table a.row) (sym is) x)) (ap (λ (o : Option RowChange). slots_of (with_row_if held (option_map (slots_for commit) o)) a.table a.row) is) ∙ a.there)
        where
          kept : (change : Option RowChange) → (IsRow commit.table change a.table a.row → ⊥)
              → slots_of (with_row_if held (row_behind commit)) a.table a.row ≡ slots_of (with_row_if held (option_map (slots_for commit) change)) a.table a.row
              → slots_of (with_row_if held (row_behind commit)) a.table a.row ≡ slots_of held a.table a.row
          kept None not_ is = is
          kept (Some change) not_ is = is ∙ pick (cases_key (key_of (slots_for commit change)) (key_at a.table a.row))
            where
              pick : (key_of (slots_for commit change) ≡ key_at a.table a.row) ⊎ (is_at (key_cmp (key_of (slots_for commit change))) (key_at a.table a.row) ≡ false)
                  → slots_of (with_slots held (slots_for commit change)) a.table a.row ≡ slots_of held a.table a.row
              pick (inl same) = absurd (not_ (ap (λ (k : RowKey). k.table) same, ap (λ (k : RowKey). k.row) same))
              pick (inr apart_) = slots_put_other held (slots_for commit change) a.table a.row apart_

  -- what the row's slots named before
  pub named_before : Has (names_before held commit.table commit.row) name → (a : IsNamed held name) × IsIts a.table a.row
  named_before h = make commit.row refl h
    where
      make : (change : Option RowChange) → commit.row ≡ change → Has (names_before held commit.table change) name → (a : IsNamed held name) × IsIts a.table a.row
      make None is h = absurd cc
      make (Some change) is h = got (slots_of held commit.table change.row) refl h
        where
          got : (o : Option RowSlots) → slots_of held commit.table change.row ≡ o → Has (names_if o) name → (a : IsNamed held name) × IsIts a.table a.row
          got None there h = absurd cc
          got (Some stored) there h = (record { table = commit.table; row = change.row; stored = stored; there = there; among = h }, (refl, subst (λ (o : Option RowChange). IsRowOf o change.row) (sym is) refl))

  pub before_named : (a : IsNamed held name) → IsIts a.table a.row → Has (names_before held commit.table commit.row) name
  before_named a its = make commit.row its
    where
      make : (change : Option RowChange) → IsRow commit.table change a.table a.row → Has (names_before held commit.table change) name
      make None x = absurd x.1
      make (Some change) x =
          let there : slots_of held commit.table change.row ≡ Some a.stored = ap (λ (t : ℕ). slots_of held t change.row) x.0 ∙ (ap (slots_of held a.table) x.1 ∙ a.there) in
          subst (λ (o : Option RowSlots). Has (names_if o) name) (sym there) a.among
