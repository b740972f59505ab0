-- Behind a commit the devices stand for the disk at each write.
use Rattle.std.proofs.Common.{◌≡◌, ℕ, ◌≤◌, Bool, true, List, [], ◌∷◌, ◌++◌, Option, Some, None, refl, sym, ◌∙◌, ap, subst, arith}
use Rattle.std.specs.Prelude.{◌==◌, ◌&&◌, if◌then◌else◌, IsSome, option_map}
use Rattle.std.specs.Ordering.{nat_cmp}
use Rattle.std.specs.Map.{lookup}
use Rattle.std.specs.BTreeMap.{insert_entry, is_at}
use Rattle.std.proofs.lemmas.Bool.Decides.{nat_tests}
use Rattle.stab_base.specs.declared.chunk_name.ChunkName.{ChunkName}
use Rattle.stab_base.specs.declared.step.Step.{Step}
use Rattle.held_value.specs.declared.local_name.LocalName.{LocalName}
use Rattle.slot_store.specs.declared.held.RowSlots.{RowSlots}
use Rattle.slot_store.specs.declared.held.TableRecord.{TableRecord}
use Rattle.slot_store.specs.Data.{SlotData, record_of, with_slots, with_record}
use Rattle.plan_log.specs.declared.plan.RowChange.{RowChange}
use Rattle.plan_log.specs.declared.plan.RecordChange.{RecordChange}
use Rattle.plan_log.specs.declared.plan.Commit.{Commit}
use Rattle.plan_log.specs.Journal.{Journal as Planned, Committed, rested, with_done}
use Rattle.client_journal.specs.Devs.{ClientDevs, Write, PutRecord, DropChunk, PutDone, changed_by}
use Rattle.client_journal.specs.Redone.{slots_for, row_behind, with_row_if, position_in, record_from, record_for, with_record_if, applied}
use Rattle.client_journal.proofs.Applied.{same_record}
use Rattle.client_journal.specs.NamedSlots.{NamedSlots}
use Rattle.client_journal.specs.Agenda.{drops, slot_writes, record_writes, redo_writes, Runs}
use Rattle.step_tables.specs.Messages.{Send}
use Rattle.step_tables.specs.ClientMoves.{Slots, TableDisk, TableChange, Opens, Closes, RowPut, Plan, ClientDisk, ClientTask, Shape, opened_table, table_at, slots_in, put_row, put_position, row_put, table_put, with_table, open_table, close_table}
use Rattle.step_tables.specs.ClientMoves.{altered, put_of, changed, only, keeps, row_task, table_task, put_tasks, rest_of, applied_by, applied as plan_applied}
use Rattle.step_tables.specs.ClientMoves as moves
use Rattle.journal_laws.specs.Whole.{whole_slots}
use Rattle.journal_laws.specs.Holds.{IsRecordOf, StandsTable, HoldsTables, StandsPut, IsAlteredTo, StandsChange, IsTableFor, IsPlanOf, IsPlanAt, StandsPlan, Stands, IsPutFor, Follows}
use Rattle.journal_laws.specs.Holds.{state_of}
use Rattle.journal_laws.specs.Moves.{drop_steps}
use Rattle.journal_laws.proofs.Tables.{table_here, slots_put, table_put as record_put, table_again, record_moved}

abbrev pub Names : (LocalName → List ℕ) → List Write → ClientDevs → Type 0
Names meaning ws d = NamedSlots meaning d

-- what holds at each moment has named slots
pub named_runs : (meaning : LocalName → List ℕ) (R : List Write → ClientDevs → Type 0) → ((ws : List Write) (d : ClientDevs) → R ws d → NamedSlots meaning d) → (d : ClientDevs) (ws : List Write)
    → Runs R d ws → Runs (Names meaning) d ws
named_runs meaning R to d [] r = to [] d r
named_runs meaning R to d (w ∷ ws) r = (to (w ∷ ws) d r.0, named_runs meaning R to (changed_by d w) ws r.1)

abbrev working : ℕ → Commit → Planned
working greatest commit = record { greatest = greatest; at_work = Committed commit }

ends : (greatest : ℕ) (commit : Commit) → with_done (working greatest commit) greatest ≡ rested greatest
ends greatest commit = let same : (greatest == greatest) ≡ true = grind (arith, nat_tests) in ap (λ (t : Bool). if t && true then rested greatest else working greatest commit) same

some_there : {X : Type 0} (o : Option X) (x : X) → o ≡ Some x → IsSome o
some_there None x is = absurd cc
some_there (Some y) x is = refl

-- a table has the position of its record, one that isn't there none
none_at : (o : Option TableRecord) → StandsTable o None → position_in o ≡ 0
none_at None s = refl
none_at (Some old) s = absurd s

some_at : (o : Option TableRecord) (t : TableDisk) → StandsTable o (Some t) → position_in o ≡ t.position
some_at None t s = absurd s
some_at (Some old) t s = s.position

no_change : (r : Option RecordChange) (p : Plan) → StandsChange r p None → r ≡ None
no_change None p s = refl
no_change (Some change) p s = absurd s

no_put : (meaning : LocalName → List ℕ) (o : Option RowChange) → StandsPut meaning o None → o ≡ None
no_put meaning None s = refl
no_put meaning (Some change) s = absurd s

module _ (c : ℕ) (meaning : LocalName → List ℕ) (greatest : ℕ) (commit : Commit) (p : Plan) (of : IsPlanOf meaning c commit p) (names : List LocalName) (sends : List Send) where
  abbrev at_ : List (ChunkName × List ℕ) → SlotData → ClientDevs
  at_ cs held = record { chunks = cs; held = held; journal = working greatest commit }

  abbrev disk_of : ℕ → List (ℕ × TableDisk) → ClientDisk
  disk_of last tables = record { last = last; tables = tables; plan = Some p }

  abbrev finish : ClientTask
  finish = record { change = moves.Finish; facts = []; sends = sends }

  -- this disk is what is held, with the plan still at work
  pub record Behind (held : SlotData) (disk : ClientDisk) : Type 0 where
    pub last : ℕ
    pub tables : List (ℕ × TableDisk)
    pub is_disk : disk ≡ disk_of last tables
    pub holds : HoldsTables meaning held last tables
    pub at_plan : IsPlanAt (disk_of last tables) commit.new_record p

  -- the plan puts these slots
  put_is : (change : RowChange) (x : RowPut) → StandsPut meaning (Some change) (Some x) → p.row ≡ Some x → p.row ≡ Some (record { row = change.row; slots = whole_slots meaning change.slots })
  put_is change x s is =
      is
      ∙ (ap (λ (y : List ℕ). Some (record { row = y; slots = x.slots })) (sym s.row) ∙ ap (λ (y : Slots). Some (record { row = change.row; slots = y })) (sym s.slots))

  stands : (cs : List (ChunkName × List ℕ)) (held : SlotData) (last : ℕ) (tables : List (ℕ × TableDisk)) → NamedSlots meaning (at_ cs held) → HoldsTables meaning held last tables
      → IsPlanAt (disk_of last tables) commit.new_record p
      → Stands c meaning (at_ cs held) (disk_of last tables)
  stands cs held last tables n h at = record { named = n; held = h; plan = (of, at) }

  module _ (held : SlotData) (last : ℕ) (tables : List (ℕ × TableDisk)) (h : HoldsTables meaning held last tables) (at : IsPlanAt (disk_of last tables) commit.new_record p) where
    drops_follow : (cs : List (ChunkName × List ℕ)) (some : List LocalName) → Runs (Names meaning) (at_ cs held) (drops some ++ PutDone ∷ [])
        → Follows c meaning (at_ cs held) (drops some ++ PutDone ∷ []) (disk_of last tables) (keeps (drop_steps some) ++ finish ∷ [])
    drops_follow cs [] r = (
      stands cs held last tables r.0 h at,
      tt,
      record {
        named = r.1;
        held = h;
        plan = subst (λ (j : Planned). StandsPlan meaning c (record { last = last; tables = tables; plan = None }) j.at_work None) (sym (ends greatest commit)) tt;
      },
    )
    drops_follow cs (name ∷ some) r = (stands cs held last tables r.0 h at, refl, drops_follow (changed_by (at_ cs held) (DropChunk name)).chunks some r.1)

  abbrev dropping : List Write
  dropping = drops names ++ PutDone ∷ []

  abbrev drop_tasks : List ClientTask
  drop_tasks = keeps (drop_steps names) ++ finish ∷ []

  -- ---- a plan that opens and closes no table

  module _ (plain : p.alters ≡ None) where
    no_record : commit.new_record ≡ None
    no_record = no_change commit.new_record p (subst (λ (o : Option TableChange). StandsChange commit.new_record p o) plain of.alters)

    there_now : (disk : ClientDisk) → IsPlanAt disk commit.new_record p → IsSome (table_at disk p.table)
    there_now disk at = subst (λ (o : Option TableChange). IsTableFor commit.new_record (table_at disk p.table) o) plain at.opened

    planned_at : (disk : ClientDisk) → disk.last ≤ p.last → IsSome (table_at disk p.table) → IsPlanAt disk commit.new_record p
    planned_at disk last there = record { last = last; opened = subst (λ (o : Option TableChange). IsTableFor commit.new_record (table_at disk p.table) o) (sym plain) there }

    -- ---- what the slots and the record make of the disk

    module _ (held : SlotData) (last : ℕ) (tables : List (ℕ × TableDisk)) (h : HoldsTables meaning held last tables) (at : IsPlanAt (disk_of last tables) commit.new_record p) where
      abbrev moved_to : ℕ → TableRecord → TableRecord
      moved_to position old = record { table = p.table; state = old.state; schema = old.schema; position = position }

      record_behind : (position : ℕ) (old : TableRecord) (t : TableDisk) → p.position ≡ Some position → record_of held p.table ≡ Some old → table_at (disk_of last tables) p.table ≡ Some t
          → Behind (with_record held (moved_to position old)) (table_put (disk_of last tables) p.table p.position)
      record_behind position old t is there opened = record {
        last = last;
        tables = insert_entry nat_cmp tables p.table (put_position position t);
        is_disk =
            ap (λ (o : Option ℕ). table_put (disk_of last tables) p.table o) is ∙ ap (λ (o : Option TableDisk). with_table (disk_of last tables) p.table o (put_position position)) opened;
        holds = record_moved meaning held last tables old p.table position t h there opened;
        at_plan = planned_at (disk_of last (insert_entry nat_cmp tables p.table (put_position position t))) at.last
            (some_there (lookup (is_at (nat_cmp p.table)) (insert_entry nat_cmp tables p.table (put_position position t))) (put_position position t) (table_here tables p.table (put_position position t)));
      }

      slots_behind : (change : RowChange) (x : RowPut) (t : TableDisk) → StandsPut meaning (Some change) (Some x) → p.row ≡ Some x → table_at (disk_of last tables) p.table ≡ Some t
          → Behind (with_slots held (slots_for commit change)) (row_put (disk_of last tables) p.last p.table p.row)
      slots_behind change x t s is opened =
          let row : RowSlots = slots_for commit change in
          let put : RowPut = record { row = change.row; slots = whole_slots meaning change.slots } in
          let here : lookup (is_at (nat_cmp commit.table)) tables ≡ Some t = ap (λ (q : ℕ). lookup (is_at (nat_cmp q)) tables) of.table ∙ opened in
          let most : last ≤ row.last = let a = at.last in let b = of.last in omega arith in
          let holds : HoldsTables meaning (with_slots held row) commit.last
          (insert_entry nat_cmp tables commit.table (put_row put t)) = slots_put meaning held last tables row t h here most s.held s.numbered in
          record {
            last = p.last;
            tables = insert_entry nat_cmp tables p.table (put_row put t);
            is_disk =
                ap (λ (o : Option RowPut). row_put (disk_of last tables) p.last p.table o) (put_is change x s is)
                ∙ ap (λ (o : Option TableDisk). with_table (disk_of p.last tables) p.table o (put_row put)) opened;
            holds =
                subst (λ (q : ℕ). HoldsTables meaning (with_slots held row) p.last (insert_entry nat_cmp tables q (put_row put t))) of.table
                (subst (λ (n : ℕ). HoldsTables meaning (with_slots held row) n (insert_entry nat_cmp tables commit.table (put_row put t))) of.last holds);
            at_plan = planned_at (disk_of p.last (insert_entry nat_cmp tables p.table (put_row put t))) (omega arith)
                (some_there (lookup (is_at (nat_cmp p.table)) (insert_entry nat_cmp tables p.table (put_row put t))) (put_row put t) (table_here tables p.table (put_row put t)));
          }

      -- the record of the commit is that of the plan
      record_is : (old : Option TableRecord) → record_for old commit ≡ record_from p.table None p.position old
      record_is old =
          ap (λ (o : Option RecordChange). record_from commit.table o commit.position old) no_record
          ∙ (ap (λ (x : ℕ). record_from x None commit.position old) of.table ∙ ap (λ (o : Option ℕ). record_from p.table None o old) of.position)

      -- the plan's table is open
      record Opened : Type 0 where
        pub table : TableDisk
        pub is_table : table_at (disk_of last tables) p.table ≡ Some table
        pub stands_for : StandsTable (record_of held p.table) (Some table)

      opened_now : Opened
      opened_now = by_table (table_at (disk_of last tables) p.table) refl
        where
          by_table : (o : Option TableDisk) → table_at (disk_of last tables) p.table ≡ o → Opened
          by_table None is = let some = there_now (disk_of last tables) at in absurd cc
          by_table (Some t) is = record { table = t; is_table = is; stands_for = subst (λ (o : Option TableDisk). StandsTable (record_of held p.table) o) is (h.records p.table) }

      here_is : record_of held p.table ≡ record_of held commit.table
      here_is = ap (λ (x : ℕ). record_of held x) (sym of.table)

    -- ---- the writes

    module _ (held : SlotData) (last : ℕ) (tables : List (ℕ × TableDisk)) (cs : List (ChunkName × List ℕ)) (h : HoldsTables meaning held last tables) (at : IsPlanAt (disk_of last tables) commit.new_record p) where
      record_follows : (position : Option ℕ) (old : Option TableRecord) (t : TableDisk) → p.position ≡ position → record_of held p.table ≡ old → table_at (disk_of last tables) p.table ≡ Some t
          → StandsTable old (Some t)
          → Runs (Names meaning) (at_ cs held) (record_writes (record_from p.table None position old) dropping)
          → Follows c meaning (at_ cs held) (record_writes (record_from p.table None position old) dropping) (disk_of last tables) (table_task p position ++ drop_tasks)
      record_follows None old t is there opened s r = drops_follow held last tables h at cs names r
      record_follows (Some position) None t is there opened s r = absurd s
      record_follows (Some position) (Some old) t is there opened s r =
          let b = record_behind held last tables h at position old t is there opened in
          let put : TableRecord = moved_to held last tables h at position old in (
            stands cs held last tables r.0 h at,
            record { table_is = refl; put = subst (λ (o : Option TableChange). IsPutFor put p o) (sym plain) is },
            subst (λ (e : ClientDisk). Follows c meaning (at_ cs (with_record held put)) dropping e drop_tasks) (sym (ap (λ (o : Option TableChange). put_of (disk_of last tables) p o) plain ∙ b.is_disk))
                (drops_follow (with_record held put) b.last b.tables b.holds b.at_plan cs names r.1),
          )

      -- behind the slots
      tables_follow : (old : Option TableRecord) → record_of held commit.table ≡ old → Runs (Names meaning) (at_ cs held) (record_writes (record_for old commit) dropping)
          → Follows c meaning (at_ cs held) (record_writes (record_for old commit) dropping) (disk_of last tables) (table_task p p.position ++ drop_tasks)
      tables_follow old there r =
          let o = opened_now held last tables h at in
          let here : record_of held p.table ≡ old = here_is held last tables h at ∙ there in
          let is = record_is held last tables h at old in
          subst (λ (q : Option TableRecord). Follows c meaning (at_ cs held) (record_writes q dropping) (disk_of last tables) (table_task p p.position ++ drop_tasks)) (sym is)
          (record_follows p.position old o.table refl here o.is_table (subst (λ (q : Option TableRecord). StandsTable q (Some o.table)) here o.stands_for)
          (subst (λ (q : Option TableRecord). Runs (Names meaning) (at_ cs held) (record_writes q dropping)) is r))

    module _ (held : SlotData) (last : ℕ) (tables : List (ℕ × TableDisk)) (cs : List (ChunkName × List ℕ)) (h : HoldsTables meaning held last tables) (at : IsPlanAt (disk_of last tables) commit.new_record p) where
      abbrev table_writes : List Write
      table_writes = record_writes (record_for (record_of held commit.table) commit) dropping

      abbrev table_tasks : List ClientTask
      table_tasks = table_task p p.position ++ drop_tasks

      rows_follow : (change : Option RowChange) (x : Option RowPut) → StandsPut meaning change x → p.row ≡ x
          → Runs (Names meaning) (at_ cs held) (slot_writes (option_map (slots_for commit) change) table_writes)
          → Follows c meaning (at_ cs held) (slot_writes (option_map (slots_for commit) change) table_writes) (disk_of last tables) (row_task p x ++ table_tasks)
      rows_follow None None s is r = tables_follow held last tables cs h at (record_of held commit.table) refl r
      rows_follow None (Some x) s is r = absurd s
      rows_follow (Some change) None s is r = absurd s
      rows_follow (Some change) (Some x) s is r =
          let row : RowSlots = slots_for commit change in
          let o = opened_now held last tables h at in
          let b = slots_behind held last tables h at change x o.table s is o.is_table in (
            stands cs held last tables r.0 h at,
            record { table = of.table; last = of.last; put = put_is change x s is },
            subst (λ (e : ClientDisk). Follows c meaning (at_ cs (with_slots held row)) table_writes e table_tasks) (sym b.is_disk)
                (tables_follow (with_slots held row) b.last b.tables cs b.holds b.at_plan (record_of held commit.table) refl r.1),
          )

    -- ---- what the commit makes of what is held

    module _ (held : SlotData) (last : ℕ) (tables : List (ℕ × TableDisk)) (h : HoldsTables meaning held last tables) (at : IsPlanAt (disk_of last tables) commit.new_record p) where
      with_rows : (change : Option RowChange) (x : Option RowPut) → StandsPut meaning change x → p.row ≡ x
          → Behind (with_row_if held (option_map (slots_for commit) change)) (row_put (disk_of last tables) p.last p.table p.row)
      with_rows None None s is = record { last = last; tables = tables; is_disk = ap (λ (o : Option RowPut). row_put (disk_of last tables) p.last p.table o) is; holds = h; at_plan = at }
      with_rows None (Some x) s is = absurd s
      with_rows (Some change) None s is = absurd s
      with_rows (Some change) (Some x) s is = let o = opened_now held last tables h at in slots_behind held last tables h at change x o.table s is o.is_table

      with_records : (position : Option ℕ) (old : Option TableRecord) → p.position ≡ position → record_of held p.table ≡ old
          → Behind (with_record_if held (record_from p.table None position old)) (table_put (disk_of last tables) p.table p.position)
      with_records None old is there = record { last = last; tables = tables; is_disk = ap (λ (o : Option ℕ). table_put (disk_of last tables) p.table o) is; holds = h; at_plan = at }
      with_records (Some position) None is there = let o = opened_now held last tables h at in absurd (subst (λ (q : Option TableRecord). StandsTable q (Some o.table)) there o.stands_for)
      with_records (Some position) (Some old) is there = let o = opened_now held last tables h at in record_behind held last tables h at position old o.table is there o.is_table

    -- what is held with the commit is the disk with the plan's rows
    rows_behind : (held : SlotData) (last : ℕ) (tables : List (ℕ × TableDisk)) → HoldsTables meaning held last tables → IsPlanAt (disk_of last tables) commit.new_record p
        → Behind (applied commit held) (applied_by p (disk_of last tables) None)
    rows_behind held last tables h at =
        let a = with_rows held last tables h at commit.row p.row of.row refl in
        let middle : SlotData = with_row_if held (row_behind commit) in
        let old : Option TableRecord = record_of held commit.table in
        let here : record_of middle p.table ≡ old = same_record held (row_behind commit) p.table ∙ here_is held last tables h at in
        let b = with_records middle a.last a.tables a.holds a.at_plan p.position old refl here in
        let is = record_is held last tables h at old in
        record {
          last = b.last;
          tables = b.tables;
          is_disk = ap (λ (e : ClientDisk). table_put e p.table p.position) a.is_disk ∙ b.is_disk;
          holds = subst (λ (o : Option TableRecord). HoldsTables meaning (with_record_if middle o) b.last b.tables) (sym is) b.holds;
          at_plan = b.at_plan;
        }

  -- ---- a plan that opens or closes a table

  module _ (change : RecordChange) (alters : TableChange) (new : commit.new_record ≡ Some change) (is : p.alters ≡ Some alters) where
    its : IsAlteredTo change.state change.schema alters × (p.row ≡ None) × (p.position ≡ None)
    its = subst (λ (r : Option RecordChange). StandsChange r p (Some alters)) new (subst (λ (o : Option TableChange). StandsChange commit.new_record p o) is of.alters)

    no_row : commit.row ≡ None
    no_row = no_put meaning commit.row (subst (λ (o : Option RowPut). StandsPut meaning commit.row o) its.1 of.row)

    no_position : commit.position ≡ None
    no_position = of.position ∙ its.2

    module _ (held : SlotData) (last : ℕ) (tables : List (ℕ × TableDisk)) (h : HoldsTables meaning held last tables) (at : IsPlanAt (disk_of last tables) commit.new_record p) where
      abbrev made : TableRecord
      made = record { table = p.table; state = change.state; schema = change.schema; position = position_in (record_of held p.table) }

      record_made : record_for (record_of held commit.table) commit ≡ Some made
      record_made =
          ap (λ (x : ℕ). record_from x commit.new_record commit.position (record_of held x)) of.table
          ∙ (ap (λ (r : Option RecordChange). record_from p.table r commit.position (record_of held p.table)) new
          ∙ ap (λ (o : Option ℕ). record_from p.table (Some change) o (record_of held p.table)) no_position)

      abbrev with_new : TableDisk → List (ℕ × TableDisk)
      with_new t = insert_entry nat_cmp tables p.table t

      -- behind a table that is put
      put_behind : (t : TableDisk) (disk : ClientDisk) → disk ≡ disk_of last (with_new t) → IsRecordOf made t → ((r : List ℕ) → slots_in (Some t) r ≡ slots_in (table_at (disk_of last tables) p.table) r)
          → IsTableFor (Some change) (Some t) (Some alters) → Behind (with_record held made) disk
      put_behind t disk is_disk record_ rows for = record {
        last = last;
        tables = with_new t;
        is_disk = is_disk;
        holds = record_put meaning held last tables made t h record_ rows;
        at_plan = record {
          last = at.last;
          opened = subst (λ (o : Option TableChange). IsTableFor commit.new_record (lookup (is_at (nat_cmp p.table)) (with_new t)) o) (sym is)
              (subst (λ (r : Option RecordChange). IsTableFor r (lookup (is_at (nat_cmp p.table)) (with_new t)) (Some alters)) (sym new)
              (subst (λ (o : Option TableDisk). IsTableFor (Some change) o (Some alters)) (sym (table_here tables p.table t)) for));
        };
      }

      altered_as : (a : TableChange) (there : Option TableDisk) → alters ≡ a → table_at (disk_of last tables) p.table ≡ there → IsAlteredTo change.state change.schema a
          → IsTableFor (Some change) there (Some a) → StandsTable (record_of held p.table) there
          → Behind (with_record held made) (altered (disk_of last tables) p.table a)
      altered_as (Opens schema) None same there to for stands_for = put_behind (opened_table schema) (altered (disk_of last tables) p.table (Opens schema))
          (ap (λ (o : Option TableDisk). open_table (disk_of last tables) p.table schema o) there)
          (record { state = to.0; schema = to.1; position = none_at (record_of held p.table) stands_for })
          (λ r. ap (λ (o : Option TableDisk). slots_in o r) (sym there))
          (subst (λ (a : TableChange). IsTableFor (Some change) (Some (opened_table schema)) (Some a)) (sym same) refl)
      altered_as (Opens schema) (Some t) same there to for stands_for = record {
        last = last;
        tables = tables;
        is_disk = ap (λ (o : Option TableDisk). open_table (disk_of last tables) p.table schema o) there;
        holds = table_again meaning held last tables made t h
            (record {
              state = to.0 ∙ ap (λ (x : TableDisk). state_of x.closed) (sym for);
              schema = to.1 ∙ ap (λ (x : TableDisk). x.schema) (sym for);
              position = some_at (record_of held p.table) t stands_for;
            })
            (λ r. ap (λ (o : Option TableDisk). slots_in o r) (sym there)) there;
        at_plan = at;
      }
      altered_as Closes None same there to for stands_for = absurd for
      altered_as Closes (Some t) same there to for stands_for = put_behind (close_table t) (altered (disk_of last tables) p.table Closes)
          (ap (λ (o : Option TableDisk). with_table (disk_of last tables) p.table o close_table) there)
          (record { state = to; schema = for; position = some_at (record_of held p.table) t stands_for })
          (λ r. ap (λ (o : Option TableDisk). slots_in o r) (sym there))
          (subst (λ (a : TableChange). IsTableFor (Some change) (Some (close_table t)) (Some a)) (sym same) for)

      altered_behind : Behind (with_record held made) (altered (disk_of last tables) p.table alters)
      altered_behind = altered_as alters (table_at (disk_of last tables) p.table) refl refl its.0
          (subst (λ (r : Option RecordChange). IsTableFor r (table_at (disk_of last tables) p.table) (Some alters)) new
          (subst (λ (o : Option TableChange). IsTableFor commit.new_record (table_at (disk_of last tables) p.table) o) is at.opened))
          (h.records p.table)

      writes_are : redo_writes held commit names ≡ PutRecord made ∷ dropping
      writes_are =
          ap (λ (o : Option RowChange). slot_writes (option_map (slots_for commit) o) (record_writes (record_for (record_of held commit.table) commit) dropping)) no_row
          ∙ ap (λ (o : Option TableRecord). record_writes o dropping) record_made

      altered_follows : (cs : List (ChunkName × List ℕ)) → Runs (Names meaning) (at_ cs held) (redo_writes held commit names)
          → Follows c meaning (at_ cs held) (redo_writes held commit names) (disk_of last tables) (only (moves.PutTable p) ∷ drop_tasks)
      altered_follows cs runs =
          let b = altered_behind in
          let r : Runs (Names meaning) (at_ cs held) (PutRecord made ∷ dropping) = subst (λ (ws : List Write). Runs (Names meaning) (at_ cs held) ws) writes_are runs in
          subst (λ (ws : List Write). Follows c meaning (at_ cs held) ws (disk_of last tables) (only (moves.PutTable p) ∷ drop_tasks)) (sym writes_are) (
            stands cs held last tables r.0 h at,
            record { table_is = refl; put = subst (λ (o : Option TableChange). IsPutFor made p o) (sym is) its.0 },
            subst (λ (e : ClientDisk). Follows c meaning (at_ cs (with_record held made)) dropping e drop_tasks) (sym (ap (λ (o : Option TableChange). put_of (disk_of last tables) p o) is ∙ b.is_disk))
                (drops_follow (with_record held made) b.last b.tables b.holds b.at_plan cs names r.1),
          )

      applied_is : applied commit held ≡ with_record held made
      applied_is =
          ap (λ (o : Option RowChange). with_record_if (with_row_if held (option_map (slots_for commit) o)) (record_for (record_of held commit.table) commit)) no_row
          ∙ ap (λ (o : Option TableRecord). with_record_if held o) record_made

      applied_alters : Behind (applied commit held) (applied_by p (disk_of last tables) (Some alters))
      applied_alters = subst (λ (s : SlotData). Behind s (altered (disk_of last tables) p.table alters)) (sym applied_is) altered_behind

  -- ---- any plan

  new_now : (alters : TableChange) → p.alters ≡ Some alters → (change : RecordChange) × (commit.new_record ≡ Some change)
  new_now alters is = pick commit.new_record refl (subst (λ (o : Option TableChange). StandsChange commit.new_record p o) is of.alters)
    where
      pick : (r : Option RecordChange) → commit.new_record ≡ r → StandsChange r p (Some alters) → (change : RecordChange) × (commit.new_record ≡ Some change)
      pick None r_is s = absurd s
      pick (Some change) r_is s = (change, r_is)

  module _ (held : SlotData) (last : ℕ) (tables : List (ℕ × TableDisk)) (h : HoldsTables meaning held last tables) (at : IsPlanAt (disk_of last tables) commit.new_record p) where
    -- all writes behind a commit
    puts_follow : (cs : List (ChunkName × List ℕ)) (o : Option TableChange) → p.alters ≡ o → Runs (Names meaning) (at_ cs held) (redo_writes held commit names)
        → Follows c meaning (at_ cs held) (redo_writes held commit names) (disk_of last tables) (put_tasks p o drop_tasks)
    puts_follow cs None is r = rows_follow is held last tables cs h at commit.row p.row of.row refl r
    puts_follow cs (Some alters) is r = let new = new_now alters is in altered_follows new.0 alters new.1 is held last tables h at cs r

    applied_as : (o : Option TableChange) → p.alters ≡ o → Behind (applied commit held) (applied_by p (disk_of last tables) o)
    applied_as None is = rows_behind is held last tables h at
    applied_as (Some alters) is = let new = new_now alters is in applied_alters new.0 alters new.1 is held last tables h at

  pub redo_follows : (held : SlotData) (last : ℕ) (tables : List (ℕ × TableDisk)) (cs : List (ChunkName × List ℕ)) → HoldsTables meaning held last tables → IsPlanAt (disk_of last tables) commit.new_record p
      → (shape : Shape) → shape.after ≡ drop_steps names → Runs (Names meaning) (at_ cs held) (redo_writes held commit names)
      → Follows c meaning (at_ cs held) (redo_writes held commit names) (disk_of last tables) (rest_of shape p sends)
  redo_follows held last tables cs h at shape after r =
      subst (λ (l : List Step). Follows c meaning (at_ cs held) (redo_writes held commit names) (disk_of last tables) (put_tasks p p.alters (keeps l ++ finish ∷ [])))
      (sym after)
      (puts_follow held last tables h at cs p.alters refl r)

  -- what is held with the commit is the disk with the plan
  pub applied_behind : (held : SlotData) (last : ℕ) (tables : List (ℕ × TableDisk)) → HoldsTables meaning held last tables → IsPlanAt (disk_of last tables) commit.new_record p
      → Behind (applied commit held) (plan_applied p (disk_of last tables))
  applied_behind held last tables h at = applied_as held last tables h at p.alters refl
