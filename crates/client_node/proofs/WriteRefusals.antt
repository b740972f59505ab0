-- Why a write or an edit isn't prepared.
use Rattle.std.proofs.Common.{◌≡◌, ⊎_elim, ℕ, ◌≤◌, Bool, true, false, List, [], Option, Some, None, Result, Ok, Err, refl, sym, ◌∙◌, ap}
use Rattle.std.specs.Prelude.{option_map}
use Rattle.disk_trait.specs.Calls.{DiskState}
use Rattle.stab_base.specs.declared.limits.TheConstants.{NUMBER_MAX}
use Rattle.row_value.specs.declared.content.Content.{Content}
use Rattle.row_value.specs.declared.fit.FitFault.{FitFault}
use Rattle.row_value.specs.declared.fit.FitFault.TheVariants as fits
use Rattle.row_value.specs.declared.schema.Schema.{Schema}
use Rattle.row_value.specs.declared.schema.Scheme.TheVariants.{Strong}
use Rattle.row_value.specs.Fit.{fit_of}
use Rattle.row_edits.specs.declared.change.Edit.{Edit}
use Rattle.held_value.specs.declared.local_name.LocalName.{LocalName}
use Rattle.held_value.specs.declared.slots.Out.{Out as HeldOut}
use Rattle.held_value.specs.declared.slots.Shadow.{Shadow as HeldShadow}
use Rattle.held_value.specs.declared.slots.Slots.{Slots as HeldSlots}
use Rattle.slot_store.specs.declared.held.TableRecord.{TableRecord}
use Rattle.client_tables.specs.Shown.{shown_content}
use Rattle.client_journal.specs.declared.devs.Journal.{Journal}
use Rattle.client_journal.specs.Devs.{ClientDevs}
use Rattle.client_journal.specs.Plan.{plan_at_work}
use Rattle.client_journal.specs.Redone.{redone}
use Rattle.client_journal.specs.Standing.{devs, writes_of}
use Rattle.step_tables.specs.Facts.{Answer, Refusal}
use Rattle.step_tables.specs.Facts as facts
use Rattle.step_tables.specs.ClientMoves.{Slots, TableDisk, ClientDisk, ClientTask, ClientStep, ClientMove, Shape, seen, table_at, slots_at, slots_in, shown_in, content_of, first_out as table_first_out}
use Rattle.step_tables.specs.ClientMoves as moves
use Rattle.journal_laws.specs.Whole.{whole_slots, whole_shadow, whole_out}
use Rattle.held_contents.specs.Reading.{AreThereIf}
use Rattle.client_node.specs.declared.fault.CallFault.{CallFault}
use Rattle.client_node.specs.declared.fault.CallFault.TheVariants as call
use Rattle.client_node.specs.declared.preparing.Prepared.{Prepared}
use Rattle.client_node.specs.declared.waiting.Waiting.{Waiting}
use Rattle.client_node.specs.Answers.{record_at, held_at, IsFault}
use Rattle.client_node.specs.Does.{refusal_in}
use Rattle.client_node.specs.Editing.{edited_over, shown_whole, IsWhy}
use Rattle.client_node.specs.Fault.{fit_fault_of}
use Rattle.client_node.specs.Linked.{phased_step}
use Rattle.client_node.specs.Node.{StandsFor}
use Rattle.client_node.specs.NotedRows.{AreNotedRows}
use Rattle.client_node.specs.Requesting.{first_out, IsFirstOut}
use Rattle.client_node.specs.Preparing.{IsCalled, IsRefusedSo, Prepares}
use Rattle.client_node.specs.Sending.{with_tasks}
use Rattle.client_node.specs.Steady.{IsSteady}
use Rattle.client_node.proofs.Answering.{of_err}
use Rattle.client_node.proofs.Links.{opened_is, unopened_is, slots_are}
use Rattle.client_node.proofs.Pulls.{no_refusal, same_refusal}
use Rattle.client_node.proofs.Shown.{agrees, there_shown}
use Rattle.client_node.proofs.Opened.{table_steady}
use Rattle.client_node.proofs.Outstanding.{first_waits}
use Rattle.client_node.proofs.RowReady.{slots_here}
use Rattle.client_node.proofs.Writes.{write_closed, write_unfit, write_busy, write_kept, write_conflict, write_offline, write_outstanding, edit_closed, edit_refused, edit_writes}

-- ---- faults

pub fit_refusal : (fault : FitFault) → refusal_in (fit_fault_of fault) ≡ Some (facts.Unfit fault)
fit_refusal (fits.BadCell column) = refl
fit_refusal (fits.BadObject column len) = refl
fit_refusal (fits.RowTooLarge len) = refl
fit_refusal (fits.TooManyChunks count) = refl

pub fit_not_disk : (fault : FitFault) → fit_fault_of fault ≡ call.Disk → ⊥
fit_not_disk (fits.BadCell column) is = cc
fit_not_disk (fits.BadObject column len) is = cc
fit_not_disk (fits.RowTooLarge len) is = cc
fit_not_disk (fits.TooManyChunks count) is = cc

pub fit_not_spent : (fault : FitFault) (last : ℕ) → fit_fault_of fault ≡ call.Spent last → ⊥
fit_not_spent (fits.BadCell column) last is = cc
fit_not_spent (fits.BadObject column len) last is = cc
fit_not_spent (fits.RowTooLarge len) last is = cc
fit_not_spent (fits.TooManyChunks count) last is = cc

pub fault_not_spent : (e : CallFault) (last : ℕ) → IsFault e → e ≡ call.Spent last → ⊥
fault_not_spent e last fault is = ⊎_elim (λ disk. let no : call.Disk ≡ call.Spent last = sym disk ∙ is in cc) (λ memory. let no : call.Memory ≡ call.Spent last = sym memory ∙ is in cc) fault

module _ {D : Type 0} (state : D → DiskState) (old : Journal D) (waiting : Waiting) (phase : ℕ → Bool) (linked : Bool) (c : ℕ) where
  abbrev here : ClientDevs
  here = devs state old

  -- ---- whatever is asked for

  module _ (move : ClientMove) where
    abbrev IsAnsweredSo : CallFault → Type 0
    IsAnsweredSo e =
        (disk : ClientDisk) (tasks : List ClientTask) (shape : Shape) → IsCalled state old waiting c disk tasks shape
        → IsRefusedSo (phased_step phase linked c shape (with_tasks disk tasks) move).answer e

    pub refuses : (e : CallFault) → IsAnsweredSo e → ((last : ℕ) → e ≡ call.Spent last → ⊥) → Prepares state old waiting phase linked c move (Err e)
    refuses e a unspent = record {
      refused = a;
      spent = λ last is. absurd (unspent last (of_err e (call.Spent last) is));
      idle = tt;
      prepared = λ disk idle. tt;
    }

    -- a disk has failed, or there is no memory
    pub by_fault : (e : CallFault) → IsFault e → Prepares state old waiting phase linked c move (Err e)
    by_fault e fault = refuses e (λ disk tasks shape k refusal is. no_refusal e refusal fault is) (λ last is. fault_not_spent e last fault is)

    -- the last number is given
    pub by_spent : (e : CallFault) → e ≡ call.Spent NUMBER_MAX → NUMBER_MAX ≤ (redone here).last → Prepares state old waiting phase linked c move (Err e)
    by_spent e same most = record {
      refused = λ disk tasks shape k refusal is. absurd (let no : None ≡ Some refusal = ap refusal_in (sym same) ∙ is in cc);
      spent = λ last is. (let one : call.Spent last ≡ call.Spent NUMBER_MAX = sym (of_err e (call.Spent last) is) ∙ same in cc, most);
      idle = tt;
      prepared = λ disk idle. tt;
    }

  module _ (table : ℕ) (row : List ℕ) where
    -- ---- a table that isn't opened

    pub write_unopened : (content : Content) (e : CallFault) → e ≡ call.NoTable → record_at here table ≡ None → Prepares state old waiting phase linked c (moves.Write table row content) (Err e)
    write_unopened content e same none = refuses (moves.Write table row content) e
        (λ disk tasks shape k refusal is.
        write_closed phase linked c shape disk tasks table row content (unopened_is c here disk k.stands table none)
        ∙ ap facts.Refuses (same_refusal e call.NoTable refusal facts.NoTable same refl is))
        (λ last is. let no : call.NoTable ≡ call.Spent last = sym same ∙ is in cc)

    pub edit_unopened : (edit : Edit) (e : CallFault) → e ≡ call.NoTable → record_at here table ≡ None → Prepares state old waiting phase linked c (moves.Change table row edit) (Err e)
    edit_unopened edit e same none = refuses (moves.Change table row edit) e
        (λ disk tasks shape k refusal is.
        edit_closed phase linked c shape disk tasks table row edit (unopened_is c here disk k.stands table none)
        ∙ ap facts.Refuses (same_refusal e call.NoTable refusal facts.NoTable same refl is))
        (λ last is. let no : call.NoTable ≡ call.Spent last = sym same ∙ is in cc)

    module _ (found : TableRecord) (opened : record_at here table ≡ Some found) where
      module _ (disk : ClientDisk) (st : StandsFor c here disk) where
        abbrev is_at : (t : TableDisk) × (table_at (seen disk) table ≡ Some t) × (found.schema ≡ t.schema)
        is_at = let at = opened_is c here disk st table found opened in (at.0, at.1, at.2.schema)

      -- ---- a write

      pub write_misfits : (content : Content) (fault : FitFault) (e : CallFault) → e ≡ fit_fault_of fault → fit_of found.schema content ≡ Err fault
          → Prepares state old waiting phase linked c (moves.Write table row content) (Err e)
      write_misfits content fault e same fit = refuses (moves.Write table row content) e
          (λ disk tasks shape k refusal is.
          let at = is_at disk k.stands in
          write_unfit phase linked c shape disk tasks table row at.0 at.1 content fault (ap (λ (s : Schema). fit_of s content) (sym at.2) ∙ fit)
          ∙ ap facts.Refuses (same_refusal e (fit_fault_of fault) refusal (facts.Unfit fault) same (fit_refusal fault) is))
          (λ last is. fit_not_spent fault last (sym same ∙ is))

      pub write_waits : (content : Content) (e : CallFault) → fit_of found.schema content ≡ Ok tt → (writes_of old ≡ [] → ⊥) → e ≡ call.Busy (plan_at_work here (writes_of old))
          → Prepares state old waiting phase linked c (moves.Write table row content) (Err e)
      write_waits content e fit busy same = refuses (moves.Write table row content) e
          (λ disk tasks shape k refusal is.
          let at = is_at disk k.stands in
          write_busy phase linked c shape disk tasks table row at.0 at.1 content (ap (λ (s : Schema). fit_of s content) (sym at.2) ∙ fit) (λ none. busy (k.tasks_are.some none))
          ∙ (ap (λ (n : ℕ). facts.Refuses (facts.Busy n)) k.work
          ∙ ap facts.Refuses (same_refusal e (call.Busy (plan_at_work here (writes_of old))) refusal (facts.Busy (plan_at_work here (writes_of old))) same refl is)))
          (λ last is. let no : call.Busy (plan_at_work here (writes_of old)) ≡ call.Spent last = sym same ∙ is in cc)

      pub write_in_phase : (content : Content) (e : CallFault) → fit_of found.schema content ≡ Ok tt → writes_of old ≡ [] → phase table ≡ true → e ≡ call.InResolution
          → Prepares state old waiting phase linked c (moves.Write table row content) (Err e)
      write_in_phase content e fit idle some same = refuses (moves.Write table row content) e
          (λ disk tasks shape k refusal is.
          let at = is_at disk k.stands in
          write_kept phase linked c shape disk tasks table row at.0 at.1 content (ap (λ (s : Schema). fit_of s content) (sym at.2) ∙ fit) (k.tasks_are.none idle) some
          ∙ ap facts.Refuses (same_refusal e call.InResolution refusal facts.InResolution same refl is))
          (λ last is. let no : call.InResolution ≡ call.Spent last = sym same ∙ is in cc)

      -- ---- one that fits, where nothing is to be done and no phase is open

      module _ (content : Content) (fit : fit_of found.schema content ≡ Ok tt) (none : writes_of old ≡ []) (closed : phase table ≡ false) (slots : HeldSlots) (is_here : slots ≡ held_at here table row) where
        module _ (disk : ClientDisk) (tasks : List ClientTask) (shape : Shape) (k : IsCalled state old waiting c disk tasks shape) where
          abbrev t : TableDisk
          t = (is_at disk k.stands).0

          at : table_at (seen disk) table ≡ Some t
          at = (is_at disk k.stands).1

          fit_there : fit_of t.schema content ≡ Ok tt
          fit_there = ap (λ (s : Schema). fit_of s content) (sym (is_at disk k.stands).2) ∙ fit

          no_tasks : tasks ≡ []
          no_tasks = k.tasks_are.none none

          -- the row's slots, whole
          whole_there : whole_slots k.stands.0 slots ≡ slots_at t row
          whole_there = ap (whole_slots k.stands.0) is_here ∙ (slots_are c here disk k.stands table row ∙ ap (λ (o : Option TableDisk). slots_in o row) at)

          in_conflict : (x : HeldShadow) → slots.conflict ≡ Some x → (slots_at t row).conflict ≡ Some (whole_shadow k.stands.0 x)
          in_conflict x is = ap (λ (s : Slots). s.conflict) (sym whole_there) ∙ ap (option_map (whole_shadow k.stands.0)) is

          in_calm : slots.conflict ≡ None → (slots_at t row).conflict ≡ None
          in_calm is = ap (λ (s : Slots). s.conflict) (sym whole_there) ∙ ap (option_map (whole_shadow k.stands.0)) is

        pub write_in_conflict : (e : CallFault) (x : HeldShadow) → slots.conflict ≡ Some x → e ≡ call.Conflicted x.version → Prepares state old waiting phase linked c (moves.Write table row content) (Err e)
        write_in_conflict e x is same = refuses (moves.Write table row content) e
            (λ disk tasks shape k refusal was.
            write_conflict phase linked c shape disk tasks table row (t disk tasks shape k) (at disk tasks shape k) content (fit_there disk tasks shape k) (no_tasks disk tasks shape k) closed (whole_shadow k.stands.0 x) (in_conflict disk tasks shape k x is)
            ∙ ap facts.Refuses (same_refusal e (call.Conflicted x.version) refusal (facts.Conflicted x.version) same refl was))
            (λ last was. let no : call.Conflicted x.version ≡ call.Spent last = sym same ∙ was in cc)

        module _ (calm : slots.conflict ≡ None) (strong : found.schema.scheme ≡ Strong) where
          is_strong : (disk : ClientDisk) (tasks : List ClientTask) (shape : Shape) (k : IsCalled state old waiting c disk tasks shape) → (t disk tasks shape k).schema.scheme ≡ Strong
          is_strong disk tasks shape k = ap (λ (s : Schema). s.scheme) (sym (is_at disk k.stands).2) ∙ strong

          pub write_cut_off : (e : CallFault) → linked ≡ false → e ≡ call.Offline → Prepares state old waiting phase linked c (moves.Write table row content) (Err e)
          write_cut_off e down same = refuses (moves.Write table row content) e
              (λ disk tasks shape k refusal was.
              write_offline phase linked c shape disk tasks table row (t disk tasks shape k) (at disk tasks shape k) content (fit_there disk tasks shape k) (no_tasks disk tasks shape k) closed (in_calm disk tasks shape k calm) (is_strong disk tasks shape k) down
              ∙ ap facts.Refuses (same_refusal e call.Offline refusal facts.Offline same refl was))
              (λ last was. let no : call.Offline ≡ call.Spent last = sym same ∙ was in cc)

          -- the first row whose write waits
          first_there : (disk : ClientDisk) (tasks : List ClientTask) (shape : Shape) (k : IsCalled state old waiting c disk tasks shape) (rows : List (List ℕ)) → AreNotedRows waiting.outs table rows
              → table_first_out (t disk tasks shape k).rows ≡ option_map (whole_out k.stands.0) (first_out here table rows)
          first_there disk tasks shape k rows noted =
              first_waits state old table k.stands.0 waiting (t disk tasks shape k) (table_steady waiting disk k.steady table (t disk tasks shape k) (at disk tasks shape k))
              (λ r. slots_are c here disk k.stands table r ∙ ap (λ (o : Option TableDisk). slots_in o r) (at disk tasks shape k)) (λ r. slots_here c here disk k.stands (k.rests none) table r) rows noted

          numbered : (o : Option HeldOut) (number : ℕ) → Some number ≡ option_map (λ out. out.number) o → (out : HeldOut) × (o ≡ Some out) × (out.number ≡ number)
          numbered None number is = absurd cc
          numbered (Some out) number is = (out, refl, sym (some_number number out.number is))
            where
              some_number : (a b : ℕ) → Some a ≡ Some b → a ≡ b
              some_number a b e = cc

          pub write_behind : (e : CallFault) (number : ℕ) → linked ≡ true → IsFirstOut here table waiting.outs (Some number) → e ≡ call.Outstanding number → Prepares state old waiting phase linked c (moves.Write table row content) (Err e)
          write_behind e number up first same =
              let found_out = numbered (first_out here table first.rows) number first.is in
              refuses (moves.Write table row content) e
              (λ disk tasks shape k refusal was.
              write_outstanding phase linked c shape disk tasks table row (t disk tasks shape k) (at disk tasks shape k) content (fit_there disk tasks shape k) (no_tasks disk tasks shape k) closed (in_calm disk tasks shape k calm) (is_strong disk tasks shape k) up
              (whole_out k.stands.0 found_out.0) (first_there disk tasks shape k first.rows first.noted ∙ ap (option_map (whole_out k.stands.0)) found_out.1)
              ∙ (ap (λ (n : ℕ). facts.Refuses (facts.Outstanding n)) found_out.2
              ∙ ap facts.Refuses (same_refusal e (call.Outstanding number) refusal (facts.Outstanding number) same refl was)))
              (λ last was. let no : call.Outstanding number ≡ call.Spent last = sym same ∙ was in cc)

      -- ---- an edit

      module _ (slots : HeldSlots) (is_here : slots ≡ held_at here table row) (edit : Edit) where
        -- what is shown, as the step table has it
        shown_same : (disk : ClientDisk) (st : StandsFor c here disk) (t : TableDisk) → table_at (seen disk) table ≡ Some t
            → shown_whole st.0 slots ≡ option_map content_of (shown_in (slots_at t row).main (slots_at t row).conflict (slots_at t row).shadow)
        shown_same disk st t at =
            let w : whole_slots st.0 slots ≡ slots_at t row = ap (whole_slots st.0) is_here ∙ (slots_are c here disk st table row ∙ ap (λ (o : Option TableDisk). slots_in o row) at) in
            ap (option_map content_of) (agrees st.0 slots.main slots.shadow slots.out slots.conflict ∙ ap (λ (x : Slots). shown_in x.main x.conflict x.shadow) w)

        abbrev shown_of_table : TableDisk → Option Content
        shown_of_table t = option_map content_of (shown_in (slots_at t row).main (slots_at t row).conflict (slots_at t row).shadow)

        -- what the edit makes, by the table's schema
        over_there : (disk : ClientDisk) (st : StandsFor c here disk) (t : TableDisk) → table_at (seen disk) table ≡ Some t → found.schema ≡ t.schema
            → edited_over t.schema edit (shown_of_table t) ≡ edited_over found.schema edit (shown_whole st.0 slots)
        over_there disk st t at schema = ap (λ (s : Schema). edited_over s edit (shown_of_table t)) (sym schema) ∙ ap (edited_over found.schema edit) (sym (shown_same disk st t at))

        abbrev IsThereFor : (LocalName → List ℕ) → Type 0
        IsThereFor meaning = AreThereIf meaning here (shown_content slots)

        is_there : (disk : ClientDisk) (st : StandsFor c here disk) → IsThereFor st.0
        is_there disk st = there_shown st.0 here st.1.named table row slots is_here

        -- no content is made
        pub edit_unmade : (e : CallFault) → ((meaning : LocalName → List ℕ) → IsThereFor meaning → IsWhy (edited_over found.schema edit (shown_whole meaning slots)) e)
            → ((last : ℕ) → e ≡ call.Spent last → ⊥)
            → Prepares state old waiting phase linked c (moves.Change table row edit) (Err e)
        edit_unmade e why unspent = refuses (moves.Change table row edit) e
            (λ disk tasks shape k refusal is.
            let at = is_at disk k.stands in
            edit_refused phase linked c shape disk tasks table row at.0 at.1 edit refusal
            (over_there disk k.stands at.0 at.1 at.2 ∙ why k.stands.0 (is_there disk k.stands) refusal is))
            unspent

        -- one that makes a content is prepared as the write of that
        pub edit_as_write : (content : Content) → ((meaning : LocalName → List ℕ) → IsThereFor meaning → edited_over found.schema edit (shown_whole meaning slots) ≡ Ok content)
            → (r : Result Prepared CallFault)
            → Prepares state old waiting phase linked c (moves.Write table row content) r → Prepares state old waiting phase linked c (moves.Change table row edit) r
        edit_as_write content makes r p = by_result r p
          where
            same_step : (disk : ClientDisk) (tasks : List ClientTask) (shape : Shape) → StandsFor c here disk
                → phased_step phase linked c shape (with_tasks disk tasks) (moves.Change table row edit) ≡ phased_step phase linked c shape (with_tasks disk tasks) (moves.Write table row content)
            same_step disk tasks shape st =
                let at = is_at disk st in
                edit_writes phase linked c shape disk tasks table row at.0 at.1 edit content
                (over_there disk st at.0 at.1 at.2 ∙ makes st.0 (is_there disk st))

            by_result : (r : Result Prepared CallFault) → Prepares state old waiting phase linked c (moves.Write table row content) r → Prepares state old waiting phase linked c (moves.Change table row edit) r
            by_result (Err e) q = record {
              refused = λ disk tasks shape k refusal is. ap (λ (s : ClientStep). s.answer) (same_step disk tasks shape k.stands)
                  ∙ q.refused disk tasks shape k refusal is;
              spent = q.spent;
              idle = tt;
              prepared = λ disk idle. tt;
            }
            by_result (Ok x) q = record {
              refused = λ disk tasks shape k. tt;
              spent = λ last is. absurd cc;
              idle = q.idle;
              prepared = λ disk idle.
                  let m = q.prepared disk idle in
                  record { p = m.p; sends = m.sends; readied = m.readied; step = λ shape. same_step disk [] shape idle.stands ∙ m.step shape };
            }
