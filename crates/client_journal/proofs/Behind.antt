-- Look-ups in what is held, with a commit applied to it.
use Rattle.std.proofs.Common.{◌≡◌, inl, inr, ⊎_elim, ◌⊎◌, ℕ, Bool, true, false, cond, List, Option, Some, None, refl, sym, ◌∙◌, ap, subst, arith}
use Rattle.std.specs.Prelude.{IsSome, is_none, ◌&&◌, option_map, Result, Ok, Err, IfOk, IsErrOf}
use Rattle.std.specs.BTreeMap.{is_at}
use Rattle.std.specs.Ordering.{nat_cmp}
use Rattle.std.specs.Cmp.{nat_cmp_total}
use Rattle.std.proofs.lemmas.Bool.Decides.{nat_tests}
use Rattle.spare_map.proofs.Changes.{lookup-changed}
use Rattle.stab_base.specs.declared.chunk_name.ChunkName.{ChunkName}
use Rattle.chunk_store.specs.declared.fault.ChunkFault.{ChunkFault}
use Rattle.chunk_store.specs.declared.fault.ChunkFault.TheVariants as chunk_faults
use Rattle.chunk_store.specs.Standing.{chunk_in}
use Rattle.slot_store.specs.declared.fault.SlotFault.{SlotFault}
use Rattle.slot_store.specs.declared.fault.SlotFault.TheVariants as slot_faults
use Rattle.slot_store.specs.Standing.{reads_after}
use Rattle.slot_store.specs.declared.held.RowKey.{RowKey}
use Rattle.slot_store.specs.declared.held.RowSlots.{RowSlots}
use Rattle.slot_store.specs.declared.held.TableRecord.{TableRecord}
use Rattle.slot_store.specs.Data.{SlotData, key_cmp, key_at, key_of, with_slots, with_record, slots_of, record_of, AreRowsOf}
use Rattle.plan_log.specs.declared.plan.RowChange.{RowChange}
use Rattle.plan_log.specs.declared.plan.RecordChange.{RecordChange}
use Rattle.plan_log.specs.declared.plan.Commit.{Commit}
use Rattle.plan_log.specs.Journal.{AtWork, Idle, Intended, Committed, committed_plan}
use Rattle.client_journal.specs.Redone.{slots_for, row_behind, with_row_if, record_from, record_for, with_record_if, applied, redone_by, redone}
use Rattle.client_journal.specs.NamedSlots.{IsRow, IsRowOf}
use Rattle.client_journal.specs.Fault.{caused, slot_cause, slots_found, chunk_found}
use Rattle.client_journal.specs.Devs.{ClientDevs}
use Rattle.client_journal.specs.Asking.{commit_of, applied_if, HasRowMore, IsOnceMore}
use Rattle.client_journal.proofs.Lookups.{cases_key, slots_put, slots_put_other, record_put}
use Rattle.client_journal.proofs.Applied.{same_record, same_slots, row_or_not}

pub none_row : (o : Option RowChange) (row : List ℕ) → IsRowOf o row → o ≡ None → ⊥
none_row None row its is = its
none_row (Some change) row its is = cc

-- what the devices stand for, by the commit at work
pub redone_is : (work : AtWork) (held : SlotData) → redone_by work held ≡ applied_if (commit_of work) held
redone_is Idle held = refl
redone_is (Intended intend) held = refl
redone_is (Committed commit) held = refl

pub redone_by_is : (d : ClientDevs) (found : Option Commit) → found ≡ commit_of d.journal.at_work → redone d ≡ applied_if found d.held
redone_by_is d found is = redone_is d.journal.at_work d.held ∙ ap (λ (o : Option Commit). applied_if o d.held) (sym is)

pub no_commit : (work : AtWork) → None ≡ committed_plan work → commit_of work ≡ None
no_commit Idle is = refl
no_commit (Intended intend) is = refl
no_commit (Committed commit) is = absurd cc

-- ---- what the devices answer

pub slots_there : (held : SlotData) (table : ℕ) (row : List ℕ) (r : Result RowSlots SlotFault) → IfOk r (λ found. slots_of held table row ≡ Some found) → (IsErrOf r slot_faults.NoRow → slots_of held table row ≡ None)
    → IfOk (slots_found r) (λ found. slots_of held table row ≡ found)
slots_there held table row (Ok x) is none = is
slots_there held table row (Err slot_faults.NoRow) is none = none refl
slots_there held table row (Err slot_faults.Disk) is none = tt
slots_there held table row (Err slot_faults.Down) is none = tt
slots_there held table row (Err slot_faults.Memory) is none = tt

pub chunk_there : (map : List (ChunkName × List ℕ)) (name : ChunkName) (r : Result (List ℕ) ChunkFault) → IfOk r (λ bytes. chunk_in map name ≡ Some bytes) → (IsErrOf r chunk_faults.Absent → chunk_in map name ≡ None)
    → IfOk (chunk_found r) (λ found. chunk_in map name ≡ found)
chunk_there map name (Ok x) is none = is
chunk_there map name (Err chunk_faults.Absent) is none = none refl
chunk_there map name (Err chunk_faults.Disk) is none = tt
chunk_there map name (Err chunk_faults.Down) is none = tt
chunk_there map name (Err chunk_faults.Memory) is none = tt

pub rows_there : (held : SlotData) (table : ℕ) (r : Result (List (List ℕ)) SlotFault) → IfOk r (AreRowsOf held table) → IfOk (caused slot_cause r) (AreRowsOf held table)
rows_there held table (Ok x) are = are
rows_there held table (Err e) are = tt

pub once_read : {T : Type 0} (before after : ℕ) (r : Result T SlotFault) → after ≡ reads_after before r → IsOnceMore before after
once_read before after (Ok x) is = inr is
once_read before after (Err slot_faults.NoRow) is = inl is
once_read before after (Err slot_faults.Disk) is = inr is
once_read before after (Err slot_faults.Down) is = inl is
once_read before after (Err slot_faults.Memory) is = inr is

abbrev stored_for : Commit → ℕ → RowChange → RowSlots
stored_for commit table change = record { table = table; row = change.row; last = commit.last; slots = change.slots }

module _ (commit : Commit) (held : SlotData) where
  abbrev with_rows : Option RowChange → SlotData
  with_rows o = with_row_if held (option_map (slots_for commit) o)

  slots_behind : (table : ℕ) (row : List ℕ) → slots_of (applied commit held) table row ≡ slots_of (with_rows commit.row) table row
  slots_behind table row = same_slots (with_row_if held (row_behind commit)) (record_for (record_of held commit.table) commit) table row

  -- ---- the slots of a row

  pub its_slots : (table : ℕ) (row : List ℕ) (change : RowChange) → commit.row ≡ Some change → IsRow commit.table commit.row table row → slots_of (applied commit held) table row ≡ Some (stored_for commit table change)
  its_slots table row change is its =
      let of : change.row ≡ row = subst (λ (o : Option RowChange). IsRowOf o row) is its.1 in
      let key : key_of (slots_for commit change) ≡ key_at table row = ap (λ (t : ℕ). key_at t change.row) its.0 ∙ ap (key_at table) of in
      slots_behind table row
      ∙ (ap (λ (o : Option RowChange). slots_of (with_rows o) table row) is
      ∙ (slots_put held (slots_for commit change) table row key
      ∙ ap (λ (t : ℕ). Some (stored_for commit t change)) its.0))

  pub other_slots : (table : ℕ) (row : List ℕ) → (IsRow commit.table commit.row table row → ⊥) → slots_of (applied commit held) table row ≡ slots_of held table row
  other_slots table row not = slots_behind table row ∙ kept commit.row not
    where
      kept : (change : Option RowChange) → (IsRow commit.table change table row → ⊥) → slots_of (with_rows change) table row ≡ slots_of held table row
      kept None not = refl
      kept (Some change) not = pick (cases_key (key_of (slots_for commit change)) (key_at table row))
        where
          pick : (key_of (slots_for commit change) ≡ key_at table row) ⊎ (is_at (key_cmp (key_of (slots_for commit change))) (key_at table row) ≡ false)
              → slots_of (with_slots held (slots_for commit change)) table row ≡ slots_of held table row
          pick (inl same) = absurd (not (ap (λ (k : RowKey). k.table) same, ap (λ (k : RowKey). k.row) same))
          pick (inr apart) = slots_put_other held (slots_for commit change) table row apart

  -- ---- the rows of a table

  some_is : {X : Type 0} (o : Option X) (x : X) → o ≡ Some x → IsSome o
  some_is (Some y) x is = refl
  some_is None x is = absurd cc

  module _ (table : ℕ) (change : RowChange) (is : commit.row ≡ Some change) (of : commit.table ≡ table) where
    its : IsRow commit.table commit.row table change.row
    its = (of, subst (λ (o : Option RowChange). IsRowOf o change.row) (sym is) refl)

    only_rows : (id : List ℕ) → IsSome (slots_of (applied commit held) table id) → IsSome (slots_of held table id) ⊎ (id ≡ change.row)
    only_rows id some = pick (row_or_not commit.table commit.row table id)
      where
        pick : IsRow commit.table commit.row table id ⊎ (IsRow commit.table commit.row table id → ⊥) → IsSome (slots_of held table id) ⊎ (id ≡ change.row)
        pick (inl row) = inr (sym (subst (λ (o : Option RowChange). IsRowOf o id) is row.1))
        pick (inr not) = inl (subst (λ (o : Option RowSlots). IsSome o) (other_slots table id not) some)

    all_rows : (id : List ℕ) → IsSome (slots_of held table id) ⊎ (id ≡ change.row) → IsSome (slots_of (applied commit held) table id)
    all_rows id (inr same) = some_is (slots_of (applied commit held) table id) (stored_for commit table change) (ap (slots_of (applied commit held) table) same ∙ its_slots table change.row change is its)
    all_rows id (inl some) = pick (row_or_not commit.table commit.row table id)
      where
        pick : IsRow commit.table commit.row table id ⊎ (IsRow commit.table commit.row table id → ⊥) → IsSome (slots_of (applied commit held) table id)
        pick (inl row) = some_is (slots_of (applied commit held) table id) (stored_for commit table change) (its_slots table id change is row)
        pick (inr not) = subst (λ (o : Option RowSlots). IsSome o) (sym (other_slots table id not)) some

    pub row_more : HasRowMore held (applied commit held) table change.row
    row_more = record { only = only_rows; all = all_rows }

  -- ---- the record of a table

  abbrev put : SlotData
  put = with_row_if held (row_behind commit)

  record_behind_is : (old : Option TableRecord) → record_of held commit.table ≡ old → (table : ℕ) → record_of (applied commit held) table ≡ record_of (with_record_if put (record_from commit.table commit.new_record commit.position old)) table
  record_behind_is old is table = ap (λ (o : Option TableRecord). record_of (with_record_if put (record_from commit.table commit.new_record commit.position o)) table) is

  from_put : (s : SlotData) (table : ℕ) (change : Option RecordChange) (position : Option ℕ) (old : Option TableRecord) → record_of s table ≡ old → is_none change && is_none position ≡ false
      → record_of (with_record_if s (record_from table change position old)) table ≡ record_from table change position old
  from_put s table None None old is not = absurd cc
  from_put s table None (Some position) None is not = is
  from_put s table None (Some position) (Some old) is not = record_put s (record { table = table; state = old.state; schema = old.schema; position = position })
  from_put s table (Some change) None None is not = record_put s (record { table = table; state = change.state; schema = change.schema; position = 0 })
  from_put s table (Some change) None (Some old) is not = record_put s (record { table = table; state = change.state; schema = change.schema; position = old.position })
  from_put s table (Some change) (Some position) old is not = record_put s (record { table = table; state = change.state; schema = change.schema; position = position })

  from_none : (s : SlotData) (table : ℕ) (change : Option RecordChange) (position : Option ℕ) (old : Option TableRecord) → record_of s table ≡ old → is_none change && is_none position ≡ true
      → record_of (with_record_if s (record_from table change position old)) table ≡ old
  from_none s table None None old is both = is
  from_none s table None (Some position) old is both = absurd cc
  from_none s table (Some change) position old is both = absurd cc

  pub its_record : (old : Option TableRecord) → record_of held commit.table ≡ old → is_none commit.new_record && is_none commit.position ≡ false
      → record_of (applied commit held) commit.table ≡ record_from commit.table commit.new_record commit.position old
  its_record old is not = record_behind_is old is commit.table ∙ from_put put commit.table commit.new_record commit.position old (same_record held (row_behind commit) commit.table ∙ is) not

  pub no_record : (old : Option TableRecord) → record_of held commit.table ≡ old → is_none commit.new_record && is_none commit.position ≡ true → record_of (applied commit held) commit.table ≡ old
  no_record old is both = record_behind_is old is commit.table ∙ from_none put commit.table commit.new_record commit.position old (same_record held (row_behind commit) commit.table ∙ is) both

  put_other : (s : SlotData) (made : TableRecord) (table : ℕ) → (made.table ≡ table → ⊥) → record_of (with_record s made) table ≡ record_of s table
  put_other s made table not =
      let apart : is_at (nat_cmp made.table) table ≡ false = grind (arith, nat_tests, not) in
      lookup-changed nat_cmp nat_cmp_total s.tables made.table (Some made) table ∙ ap (λ (t : Bool). cond t (Some made) (record_of s table)) apart

  from_other : (s : SlotData) (t table : ℕ) → (t ≡ table → ⊥) → (change : Option RecordChange) (position : Option ℕ) (old : Option TableRecord) → record_of (with_record_if s (record_from t change position old)) table ≡ record_of s table
  from_other s t table not None None old = refl
  from_other s t table not None (Some position) None = refl
  from_other s t table not None (Some position) (Some old) = put_other s (record { table = t; state = old.state; schema = old.schema; position = position }) table not
  from_other s t table not (Some change) None None = put_other s (record { table = t; state = change.state; schema = change.schema; position = 0 }) table not
  from_other s t table not (Some change) None (Some old) = put_other s (record { table = t; state = change.state; schema = change.schema; position = old.position }) table not
  from_other s t table not (Some change) (Some position) old = put_other s (record { table = t; state = change.state; schema = change.schema; position = position }) table not

  pub other_record : (table : ℕ) → (commit.table ≡ table → ⊥) → record_of (applied commit held) table ≡ record_of held table
  other_record table not = from_other put commit.table table not commit.new_record commit.position (record_of held commit.table) ∙ same_record held (row_behind commit) table

pub its_records : {E : Type 0} (commit : Commit) (old : Option TableRecord) (r : Result (Option TableRecord) E) → is_none commit.new_record && is_none commit.position ≡ false
    → IfOk r (λ made. made ≡ record_from commit.table commit.new_record commit.position old) → IfOk r (λ found. (held : SlotData) → record_of held commit.table ≡ old → record_of (applied commit held) commit.table ≡ found)
its_records commit old (Ok made) not is = λ held there. its_record commit held old there not ∙ sym is
its_records commit old (Err e) not is = tt
