-- What a declaration does to a client's devices, call by call.
use Rattle.std.proofs.Common.{◌≡◌, ◌⊎◌, inl, inr, ⊎_elim, ℕ, ◌+◌, ◌<◌, ◌≤◌, true, false, Bool, cond, List, [], ◌∷◌, ◌++◌, length, Option, Some, None, Result, Ok, Err, refl, sym, ◌∙◌, ap, subst, arith, length-append}
use Rattle.std.specs.Prelude.{IfSome, IfErr, IsErrOf}
use Rattle.std.specs.Ordering.{nat_cmp}
use Rattle.std.specs.Cmp.{nat_cmp_total}
use Rattle.std.specs.List.{AllByRecursion}
use Rattle.std.specs.Map.{lookup}
use Rattle.std.specs.BTreeMap.{insert_entry, is_at}
use Rattle.spare_map.proofs.Changes.{lookup-changed}
use Rattle.disk_trait.specs.Calls.{DiskState, IsCounted}
use Rattle.row_value.specs.declared.schema.Schema.{Schema}
use Rattle.held_value.specs.declared.local_name.LocalName.{LocalName}
use Rattle.slot_store.specs.declared.held.RowSlots.{RowSlots}
use Rattle.slot_store.specs.declared.held.TableRecord.{TableRecord}
use Rattle.slot_store.specs.Data.{SlotData, with_record, slots_of, record_of}
use Rattle.slot_store.specs.Spelling.{HasRecordSpelling, record_payload}
use Rattle.slot_store.proofs.Again.{four_len}
use Rattle.field_codec.specs.Forms.{four, eight}
use Rattle.value_codec.specs.SchemaSpelling.{schema_spelling}
use Rattle.vault.specs.Limit.{payload_most}
use Rattle.client_journal.specs.declared.devs.Journal.{Journal}
use Rattle.client_journal.specs.declared.fault.JournalFault.{JournalFault}
use Rattle.client_journal.specs.declared.fault.JournalFault.TheVariants as journal
use Rattle.client_journal.specs.Causes.{HasCause as HasJournalCause}
use Rattle.client_journal.specs.Devs.{ClientDevs, Write, PutRecord, changed_by}
use Rattle.client_journal.specs.NamedSlots.{NamedSlots, IsNamed, IsAtRest}
use Rattle.client_journal.specs.Redone.{redone}
use Rattle.client_journal.specs.Standing.{devs, writes_of, all_faults, nothing, AreUp, IsReady}
use Rattle.client_journal.specs.Unset.{KeepsUnset}
use Rattle.client_journal.proofs.Fusing.{keeps_then, keeps_same}
use Rattle.client_journal.proofs.Lookups.{record_put}
use Rattle.step_tables.specs.ClientMoves.{TableDisk, slots_in, no_slots, opened_table}
use Rattle.journal_laws.specs.Holds.{StandsTable, Stands, empty, slots_or_empty}
use Rattle.journal_laws.specs.Whole.{whole_slots, AreHeld, AreNumbered}
use Rattle.journal_laws.specs.Moves.{opened_record}
use Rattle.journal_laws.proofs.Tables.{table_here, table_or_not}
use Rattle.plan_limits.specs.Fit.{AreFitRows}
use Rattle.plan_limits.proofs.Small.{eight_len}
use Rattle.client_node.specs.declared.fault.CallFault.{CallFault}
use Rattle.client_node.specs.declared.fault.CallFault.TheVariants as call
use Rattle.client_node.specs.Fault.{fault_of}
use Rattle.client_node.specs.Devices.{HoldRecords, HasCause, MakesTables}
use Rattle.client_node.specs.Looks.{IsNotDisk}
use Rattle.client_node.specs.Node.{IsToOpen, opened_all}

-- ---- why it wasn't done

module _ {D : Type 0} (state : D → DiskState) where
  pub ready_up : (client : Journal D) (ws : List Write) → IsReady state client ws → AreUp client
  ready_up client ws r = record { chunks = r.chunk_looked.vault.up; slots = r.slot_looked.vault.up; journal = r.journal_looked.vault.up }

  pub cause_ok : {T : Type 0} (old new : Journal D) (x : T) → all_faults state new ≡ all_faults state old → KeepsUnset state old new → HasCause {T = T} state old new (Ok x)
  cause_ok old new x same keeps = record { counted = λ _. same; disk = λ is. absurd cc; only = tt; fuse = keeps }

  pub cause_memory : {T : Type 0} (old : Journal D) → HasCause {T = T} state old old (Err call.Memory)
  cause_memory old = record { counted = λ _. refl; disk = λ is. absurd cc; only = inr refl; fuse = keeps_same state old old refl refl refl }

  pub cause_err : {T S : Type 0} (old new : Journal D) (e : JournalFault) → ((IsErrOf {T = S} (Err e) journal.Disk → ⊥) → all_faults state new ≡ all_faults state old) → (IsErrOf {T = S} (Err e) journal.Disk → all_faults state old < all_faults state new)
      → (e ≡ journal.Disk) ⊎ (e ≡ journal.Memory) → KeepsUnset state old new → HasCause {T = T} state old new (Err (fault_of e))
  cause_err {T} {S} old new e counted disk (inl is) keeps = record {
    counted = λ n. absurd (n (ap (λ (x : JournalFault). Err (fault_of x)) is));
    disk = λ _. disk (ap (λ (x : JournalFault). Err x) is);
    only = inl (ap fault_of is);
    fuse = keeps;
  }
  cause_err {T} {S} old new e counted disk (inr is) keeps = record {
    counted = λ _. counted (λ d. let same : e ≡ journal.Disk = cc in let no : journal.Memory ≡ journal.Disk = sym is ∙ same in absurd cc);
    disk = λ d. let same : fault_of e ≡ call.Disk = cc in let no : call.Memory ≡ call.Disk = sym (ap fault_of is) ∙ same in absurd cc;
    only = inr (ap fault_of is);
    fuse = keeps;
  }

  pub cause_then : {T S : Type 0} (old mid new : Journal D) (x : S) (r : Result T CallFault) → HasCause {T = S} state old mid (Ok x) → HasCause state mid new r → HasCause state old new r
  cause_then old mid new x r a b =
      let same = a.counted (λ is. cc) in
      record { counted = λ n. b.counted n ∙ same; disk = λ is. let less = b.disk is in omega (arith, less, same); only = b.only; fuse = keeps_then state old mid new a.fuse b.fuse }

  -- a result of the devices as one of the node
  pub journal_cause : {T S : Type 0} (old new : Journal D) (e : JournalFault) → HasJournalCause {T = S} state old new (Err e) → KeepsUnset state old new → HasCause {T = T} state old new (Err (fault_of e))
  journal_cause {T} {S} old new e k keeps = cause_err {T = T} {S = S} old new e (λ n. k.cause.1 (λ is. n (ap (λ (x : JournalFault). Err x) is))) (λ d. k.cause.0 (let same : e ≡ journal.Disk = cc in same)) k.only keeps

-- ---- one table more

pub opened_spelled : (table : ℕ × Schema) → IsToOpen table → HasRecordSpelling (opened_record table.0 table.1)
opened_spelled table o = record {
  table = record { least = o.numbered.least; most = o.numbered.most };
  state = record { least = omega arith; most = omega arith };
  schema = o.spelled;
  position = omega arith;
}

-- a record has 14 bytes beside its schema
pub opened_short : (table : ℕ × Schema) → IsToOpen table → length (record_payload (opened_record table.0 table.1)) ≤ payload_most
opened_short table o =
    let spelling : List ℕ = schema_spelling table.1 in
    let room : length spelling + 128 ≤ payload_most = o.short in
    omega (arith, room, four_len table.0, eight_len 0, length-append (four table.0) (1 ∷ (spelling ++ eight 0)), length-append spelling (eight 0))

put_other : (held : SlotData) (made : TableRecord) (q : ℕ) → is_at (nat_cmp made.table) q ≡ false → record_of (with_record held made) q ≡ record_of held q
put_other held made q apart = lookup-changed nat_cmp nat_cmp_total held.tables made.table (Some made) q ∙ ap (λ (b : Bool). cond b (Some made) (record_of held q)) apart

module _ (d : ClientDevs) (some : List (ℕ × TableDisk)) (table : ℕ × Schema) (h : HoldRecords d some) where
  abbrev made : TableRecord
  made = opened_record table.0 table.1

  abbrev more : List (ℕ × TableDisk)
  more = insert_entry nat_cmp some table.0 (opened_table table.1)

  records_at : (q : ℕ) → (table.0 ≡ q) ⊎ ((is_at (nat_cmp table.0) q ≡ false) × (lookup (is_at (nat_cmp q)) more ≡ lookup (is_at (nat_cmp q)) some))
      → StandsTable (record_of (with_record d.held made) q) (lookup (is_at (nat_cmp q)) more)
  records_at q (inl same) =
      subst (λ (x : ℕ). StandsTable (record_of (with_record d.held made) x) (lookup (is_at (nat_cmp x)) more)) same
      (subst (λ (o : Option TableRecord). StandsTable o (lookup (is_at (nat_cmp table.0)) more)) (sym (record_put d.held made))
      (subst (λ (o : Option TableDisk). StandsTable (Some made) o) (sym (table_here some table.0 (opened_table table.1))) (record { state = refl; schema = refl; position = refl })))
  records_at q (inr other) =
      subst (λ (o : Option TableRecord). StandsTable o (lookup (is_at (nat_cmp q)) more)) (sym (put_other d.held made q other.0))
      (subst (λ (o : Option TableDisk). StandsTable (record_of d.held q) o) (sym other.1) (h.records q))

  rows_at : (q : ℕ) → (table.0 ≡ q) ⊎ ((is_at (nat_cmp table.0) q ≡ false) × (lookup (is_at (nat_cmp q)) more ≡ lookup (is_at (nat_cmp q)) some))
      → IfSome (lookup (is_at (nat_cmp q)) more) (λ opened. opened.rows ≡ [])
  rows_at q (inl same) =
      subst (λ (x : ℕ). IfSome (lookup (is_at (nat_cmp x)) more) (λ opened. opened.rows ≡ [])) same
      (subst (λ (o : Option TableDisk). IfSome o (λ opened. opened.rows ≡ [])) (sym (table_here some table.0 (opened_table table.1))) refl)
  rows_at q (inr other) = subst (λ (o : Option TableDisk). IfSome o (λ opened. opened.rows ≡ [])) (sym other.1) (h.no_rows q)

  pub holds_more : HoldRecords (changed_by d (PutRecord made)) more
  holds_more = record {
    chunks = h.chunks;
    rows = h.rows;
    last = h.last;
    journal = h.journal;
    records = λ q. records_at q (table_or_not some table.0 (opened_table table.1) q);
    no_rows = λ q. rows_at q (table_or_not some table.0 (opened_table table.1) q);
  }

pub holds_none : (d : ClientDevs) → d ≡ nothing → HoldRecords d []
holds_none d is = rw is (record { chunks = refl; rows = refl; last = refl; journal = refl; records = λ q. tt; no_rows = λ q. tt })

-- ---- what they stand for

none_held : (meaning : LocalName → List ℕ) → AreHeld meaning empty
none_held meaning = record { main = tt; shadow = tt; out = tt; conflict = tt; pieces = tt }

module _ (d : ClientDevs) (tables : List (ℕ × TableDisk)) (h : HoldRecords d tables) where
  no_slots_of : (q : ℕ) (r : List ℕ) → slots_of d.held q r ≡ None
  no_slots_of q r = rw h.rows refl

  read_is : redone d ≡ d.held
  read_is = rw h.journal refl

  not_named : (name : LocalName) → IsNamed (redone d) name → ⊥
  not_named name a =
      let there : slots_of d.held a.table a.row ≡ Some a.stored = subst (λ (s : SlotData). slots_of s a.table a.row ≡ Some a.stored) read_is a.there in
      let none = sym (no_slots_of a.table a.row) ∙ there in
      absurd cc

  no_row_in : (q : ℕ) (r : List ℕ) → no_slots ≡ slots_in (lookup (is_at (nat_cmp q)) tables) r
  no_row_in q r = pick (lookup (is_at (nat_cmp q)) tables) (h.no_rows q)
    where
      pick : (o : Option TableDisk) → IfSome o (λ opened. opened.rows ≡ []) → no_slots ≡ slots_in o r
      pick None is = refl
      pick (Some opened) is = rw is refl

  pub records_stand : (c : ℕ) (meaning : LocalName → List ℕ) → Stands c meaning d (record { last = 0; tables = tables; plan = None })
  records_stand c meaning = record {
    named = record {
      there = λ name a. absurd (not_named name a);
      once = λ name a b. absurd (not_named name a);
      below = λ name a. absurd (not_named name a);
      others = λ name bytes is. (let none = rw h.chunks at is in absurd cc);
      apart = λ name left a. not_named name a;
    };
    held = record {
      last_is = h.last;
      records = h.records;
      rows = λ q r. subst (λ (o : Option RowSlots). whole_slots meaning (slots_or_empty o) ≡ slots_in (lookup (is_at (nat_cmp q)) tables) r) (sym (no_slots_of q r)) (no_row_in q r);
      held_all = λ q r. subst (λ (o : Option RowSlots). AreHeld meaning (slots_or_empty o)) (sym (no_slots_of q r)) (none_held meaning);
      numbered = λ q r. subst (λ (o : Option RowSlots). AreNumbered (slots_or_empty o)) (sym (no_slots_of q r)) (λ name has zero. absurd cc);
    };
    plan = rw h.journal tt;
  }

  pub records_fit : (meaning : LocalName → List ℕ) → AreFitRows meaning (redone d)
  records_fit meaning = record {
    each = λ table row stored is.
        let there : slots_of d.held table row ≡ Some stored = subst (λ (s : SlotData). slots_of s table row ≡ Some stored) read_is is in
        let none = sym (no_slots_of table row) ∙ there in
        absurd cc;
  }

  pub records_rest : IsAtRest d
  records_rest = record { not_committed = rw h.journal tt; none_left = λ name bytes left is. (let none = rw h.chunks at is in absurd cc) }

-- ---- a declaration, call by call

-- the tables so far, where these are still to be opened
pub record HoldSoFar {D : Type 0} (state : D → DiskState) (tables rest : List (ℕ × Schema)) (old now : Journal D) : Type 0 where
  pub some : List (ℕ × TableDisk)
  pub holds : HoldRecords (devs state now) some
  pub comes_to : opened_all some rest ≡ opened_all [] tables
  pub opens : AllByRecursion IsToOpen rest
  pub up : AreUp now
  pub ready : IsReady state now []
  pub idle : writes_of now ≡ []
  pub counted : all_faults state now ≡ all_faults state old
  pub fuse : KeepsUnset state old now

module _ {D : Type 0} (state : D → DiskState) (tables : List (ℕ × Schema)) (old : Journal D) where
  pub so_far_none : (formatted : Journal D) → AllByRecursion IsToOpen tables → IsReady state formatted [] → devs state formatted ≡ nothing → writes_of formatted ≡ [] → HasJournalCause {T = Unit {0}} state old formatted (Ok tt) → KeepsUnset state old formatted → HoldSoFar state tables tables old formatted
  so_far_none formatted opens ready is idle cause keeps = record {
    some = [];
    holds = holds_none (devs state formatted) is;
    comes_to = refl;
    opens = opens;
    up = ready_up state formatted [] ready;
    ready = ready;
    idle = idle;
    counted = cause.cause;
    fuse = keeps;
  }

  pub so_far_more : (now new : Journal D) (table : ℕ × Schema) (rest : List (ℕ × Schema)) → HoldSoFar state tables (table ∷ rest) old now → devs state new ≡ changed_by (devs state now) (PutRecord (opened_record table.0 table.1)) → AreUp new → IsReady state new [] → writes_of new ≡ []
      → HasCause {T = Unit {0}} state now new (Ok tt) → HoldSoFar state tables rest old new
  so_far_more now new table rest h put up ready idle cause = record {
    some = insert_entry nat_cmp h.some table.0 (opened_table table.1);
    holds = subst (λ (d : ClientDevs). HoldRecords d (insert_entry nat_cmp h.some table.0 (opened_table table.1))) (sym put) (holds_more (devs state now) h.some table h.holds);
    comes_to = h.comes_to;
    opens = h.opens.1;
    up = up;
    ready = ready;
    idle = idle;
    counted = cause.counted (λ is. cc) ∙ h.counted;
    fuse = keeps_then state old now new h.fuse cause.fuse;
  }

  pub so_far_all : (now : Journal D) → HoldSoFar state tables [] old now → MakesTables state tables old now (Ok tt)
  so_far_all now h = record {
    holds = subst (λ (l : List (ℕ × TableDisk)). HoldRecords (devs state now) l) h.comes_to h.holds;
    up = h.up;
    ready = h.ready;
    idle = h.idle;
    cause = cause_ok state old now tt h.counted h.fuse;
  }

  -- it was refused amid them
  pub makes_failed : (new : Journal D) (e : CallFault) → HasCause {T = Unit {0}} state old new (Err e) → MakesTables state tables old new (Err e)
  makes_failed new e k = record { holds = tt; up = tt; ready = tt; idle = tt; cause = k }

  pub so_far_failed : (now new : Journal D) (rest : List (ℕ × Schema)) (e : CallFault) → HoldSoFar state tables rest old now → HasCause {T = Unit {0}} state now new (Err e) → MakesTables state tables old new (Err e)
  so_far_failed now new rest e h k = makes_failed new e (cause_then state {T = Unit {0}} {S = Unit {0}} old now new tt (Err e) (cause_ok state {T = Unit {0}} old now tt h.counted h.fuse) k)
