-- What the step table makes of a write and of an edit.
use Rattle.std.proofs.Common.{◌≡◌, ℕ, ◌+◌, Bool, true, false, List, [], ◌∷◌, Option, Some, None, Result, Ok, Err, refl, sym, ◌∙◌, ap, subst}
use Rattle.std.specs.Prelude.{not, ◌&&◌, if◌then◌else◌, option_map}
use Rattle.row_value.specs.declared.content.Content.{Content}
use Rattle.row_value.specs.declared.content.Content.TheVariants.{Gone, Row}
use Rattle.row_value.specs.declared.fit.FitFault.{FitFault}
use Rattle.row_value.specs.declared.schema.Scheme.{Scheme}
use Rattle.row_value.specs.declared.schema.Scheme.TheVariants.{Strong, Causal, Eventual}
use Rattle.row_value.specs.Fit.{fit_of}
use Rattle.row_edits.specs.declared.change.Edit.{Edit}
use Rattle.row_edits.specs.Edit.{edited_to}
use Rattle.step_tables.specs.Slots.{InFlight}
use Rattle.step_tables.specs.Slots.{Shadow}
use Rattle.step_tables.specs.Facts.{Answer, Refusal}
use Rattle.step_tables.specs.Facts as facts
use Rattle.step_tables.specs.ClientMoves.{Slots, TableDisk, ClientDisk, ClientTask, ClientStep, Shape, Write, Change, table_at, slots_at, seen, quiet, begun, write_plan, strong_plan, request_for, strong_out}
use Rattle.step_tables.specs.ClientMoves.{first_out, write_strong, write_by, write_free, write_idle, write_fitting, write_to, edit_made, edit_over, edit_in, content_of, shown_in, if_open, is_before_write, is_before_link, is_strong, is_strong_in}
use Rattle.client_node.specs.Editing.{made_or_unfit, edited_over}
use Rattle.client_node.specs.Linked.{unless_kept, phased_step}
use Rattle.client_node.specs.Sending.{with_tasks}

-- ---- a write where the link may be down, and a phase of its table open

abbrev pub cut_by : Bool → Bool → ClientDisk → List ClientTask → ClientStep → ClientStep
cut_by linked strong disk tasks step =
    if not linked && (strong && not (is_before_link step.answer)) then quiet disk (Some tasks) (facts.Refuses facts.Offline) else step

abbrev pub gated : Bool → Bool → Bool → ClientDisk → List ClientTask → ClientStep → ClientStep
gated is_open linked strong disk tasks step =
    unless_kept (with_tasks disk tasks) (if_open (is_before_write step.answer) is_open) (cut_by linked strong disk tasks step)

module _ (linked strong : Bool) (disk : ClientDisk) (tasks : List ClientTask) (step : ClientStep) where
  -- what is refused before the link is looked at is refused all the same
  cut_before : is_before_link step.answer ≡ true → cut_by linked strong disk tasks step ≡ step
  cut_before is = pick linked strong
    where
      pick : (l s : Bool) → cut_by l s disk tasks step ≡ step
      pick true s = refl
      pick false true = rw is refl
      pick false false = refl

  cut_linked : linked ≡ true → cut_by linked strong disk tasks step ≡ step
  cut_linked is = rw is refl

  cut_weak : strong ≡ false → cut_by linked strong disk tasks step ≡ step
  cut_weak is = pick linked
    where
      pick : (l : Bool) → cut_by l strong disk tasks step ≡ step
      pick true = refl
      pick false = rw is refl

  cut_off : linked ≡ false → strong ≡ true → is_before_link step.answer ≡ false → cut_by linked strong disk tasks step ≡ quiet disk (Some tasks) (facts.Refuses facts.Offline)
  cut_off down is late = rw (down, is, late) refl

  none_before : (before is_open : Bool) → before ≡ true → if_open before is_open ≡ None
  none_before before true is = rw is refl
  none_before before false is = refl

  -- so is what is refused before the phase is
  pub gate_before : (is_open : Bool) → is_before_write step.answer ≡ true → is_before_link step.answer ≡ true → gated is_open linked strong disk tasks step ≡ step
  gate_before is_open write link =
      ap (λ (o : Option Refusal). unless_kept (with_tasks disk tasks) o (cut_by linked strong disk tasks step)) (none_before (is_before_write step.answer) is_open write) ∙ cut_before link

  pub gate_open : (is_open : Bool) → is_open ≡ true → is_before_write step.answer ≡ false → gated is_open linked strong disk tasks step ≡ quiet disk (Some tasks) (facts.Refuses facts.InResolution)
  gate_open is_open some is = rw (some, is) refl

  gate_closed : (is_open : Bool) → is_open ≡ false → gated is_open linked strong disk tasks step ≡ cut_by linked strong disk tasks step
  gate_closed is_open none = rw none refl

  module _ (is_open : Bool) (closed : is_open ≡ false) where
    pub gate_late : is_before_link step.answer ≡ true → gated is_open linked strong disk tasks step ≡ step
    gate_late is = gate_closed is_open closed ∙ cut_before is

    pub gate_linked : linked ≡ true → gated is_open linked strong disk tasks step ≡ step
    gate_linked is = gate_closed is_open closed ∙ cut_linked is

    pub gate_weak : strong ≡ false → gated is_open linked strong disk tasks step ≡ step
    gate_weak is = gate_closed is_open closed ∙ cut_weak is

    pub gate_off : linked ≡ false → strong ≡ true → is_before_link step.answer ≡ false → gated is_open linked strong disk tasks step ≡ quiet disk (Some tasks) (facts.Refuses facts.Offline)
    gate_off down is late = gate_closed is_open closed ∙ cut_off down is late

module _ (phase : ℕ → Bool) (linked : Bool) (c : ℕ) (shape : Shape) (disk : ClientDisk) (tasks : List ClientTask) (table : ℕ) (row : List ℕ) where
  abbrev gate : Option TableDisk → ClientStep → ClientStep
  gate o step = gated (phase table) linked (is_strong_in o) disk tasks step

  write_steps : (content : Content) → phased_step phase linked c shape (with_tasks disk tasks) (Write table row content) ≡ gate (table_at (seen disk) table) (write_to c shape disk tasks table row content (table_at (seen disk) table))
  write_steps content = refl

  edit_steps : (edit : Edit) → phased_step phase linked c shape (with_tasks disk tasks) (Change table row edit) ≡ gate (table_at (seen disk) table) (edit_in c shape disk tasks table row edit (table_at (seen disk) table))
  edit_steps edit = refl

  -- ---- a write

  -- of a table that isn't opened
  pub write_closed : (content : Content) → table_at (seen disk) table ≡ None → (phased_step phase linked c shape (with_tasks disk tasks) (Write table row content)).answer ≡ facts.Refuses facts.NoTable
  write_closed content none =
      ap (λ (s : ClientStep). s.answer)
      (ap (λ (o : Option TableDisk). gate o (write_to c shape disk tasks table row content o)) none
      ∙ gate_before linked false disk tasks (write_to c shape disk tasks table row content None) (phase table) refl refl)

  pub edit_closed : (edit : Edit) → table_at (seen disk) table ≡ None → (phased_step phase linked c shape (with_tasks disk tasks) (Change table row edit)).answer ≡ facts.Refuses facts.NoTable
  edit_closed edit none =
      ap (λ (s : ClientStep). s.answer)
      (ap (λ (o : Option TableDisk). gate o (edit_in c shape disk tasks table row edit o)) none
      ∙ gate_before linked false disk tasks (edit_in c shape disk tasks table row edit None) (phase table) refl refl)

  module _ (t : TableDisk) (at : table_at (seen disk) table ≡ Some t) where
    abbrev strong : Bool
    strong = is_strong t.schema.scheme

    abbrev slots : Slots
    slots = slots_at t row

    abbrev fitting : Content → Result (Unit {0}) FitFault → ClientStep
    fitting content fit = write_fitting t.schema.scheme c shape disk tasks table row t content fit

    write_is : (content : Content) (fit : Result (Unit {0}) FitFault) → fit_of t.schema content ≡ fit
        → phased_step phase linked c shape (with_tasks disk tasks) (Write table row content) ≡ gate (Some t) (fitting content fit)
    write_is content fit is =
        ap (λ (o : Option TableDisk). gate o (write_to c shape disk tasks table row content o)) at ∙ ap (λ (r : Result (Unit {0}) FitFault). gate (Some t) (fitting content r)) is

    -- of a content that doesn't fit
    pub write_unfit : (content : Content) (fault : FitFault) → fit_of t.schema content ≡ Err fault
        → (phased_step phase linked c shape (with_tasks disk tasks) (Write table row content)).answer ≡ facts.Refuses (facts.Unfit fault)
    write_unfit content fault is = ap (λ (s : ClientStep). s.answer) (write_is content (Err fault) is ∙ gate_before linked strong disk tasks (fitting content (Err fault)) (phase table) refl refl)

    idle_busy : (g : Scheme) (content : Content) (l : List ClientTask) → (l ≡ [] → ⊥) → (write_idle g c shape disk l table row t content).answer ≡ facts.Refuses (facts.Busy shape.plan)
    idle_busy g content [] some = absurd (some refl)
    idle_busy g content (task ∷ more) some = refl

    -- while something is to be done
    pub write_busy : (content : Content) → fit_of t.schema content ≡ Ok tt → (tasks ≡ [] → ⊥)
        → (phased_step phase linked c shape (with_tasks disk tasks) (Write table row content)).answer ≡ facts.Refuses (facts.Busy shape.plan)
    write_busy content fit some =
        let busy = idle_busy t.schema.scheme content tasks some in
        ap (λ (s : ClientStep). s.answer)
        (write_is content (Ok tt) fit
        ∙ gate_before linked strong disk tasks (fitting content (Ok tt)) (phase table) (ap (λ (a : Answer). is_before_write a) busy) (ap (λ (a : Answer). is_before_link a) busy)) ∙ busy

    -- ---- one that fits, where nothing is to be done

    module _ (content : Content) (fit : fit_of t.schema content ≡ Ok tt) (idle : tasks ≡ []) where
      abbrev free : Scheme → Option Shadow → ClientStep
      free g o = write_free g c shape disk table row t slots content o

      free_is : (o : Option Shadow) → slots.conflict ≡ o → phased_step phase linked c shape (with_tasks disk tasks) (Write table row content) ≡ gate (Some t) (free t.schema.scheme o)
      free_is o is =
          write_is content (Ok tt) fit ∙ ap (gate (Some t)) (ap (λ (l : List ClientTask). write_idle t.schema.scheme c shape disk l table row t content) idle ∙ ap (free t.schema.scheme) is)

      abbrev sent : Option InFlight → ClientStep
      sent first = write_strong t.schema.chunk c shape disk table row slots content first

      -- what is refused from here on comes behind the phase
      sent_late : (first : Option InFlight) → is_before_write (sent first).answer ≡ false
      sent_late None = refl
      sent_late (Some out) = refl

      free_late : (g : Scheme) (o : Option Shadow) → is_before_write (free g o).answer ≡ false
      free_late g (Some x) = refl
      free_late Strong None = sent_late (first_out t.rows)
      free_late Causal None = refl
      free_late Eventual None = refl

      -- where a phase of the table is open
      pub write_kept : phase table ≡ true → (phased_step phase linked c shape (with_tasks disk tasks) (Write table row content)).answer ≡ facts.Refuses facts.InResolution
      write_kept some =
          ap (λ (s : ClientStep). s.answer)
          (free_is slots.conflict refl ∙ gate_open linked strong disk tasks (free t.schema.scheme slots.conflict) (phase table) some (free_late t.schema.scheme slots.conflict))

      module _ (closed : phase table ≡ false) where
        -- of a row in conflict
        pub write_conflict : (x : Shadow) → slots.conflict ≡ Some x → (phased_step phase linked c shape (with_tasks disk tasks) (Write table row content)).answer ≡ facts.Refuses (facts.Conflicted x.version)
        write_conflict x is =
            ap (λ (s : ClientStep). s.answer) (free_is (Some x) is ∙ gate_late linked strong disk tasks (free t.schema.scheme (Some x)) (phase table) closed refl)

        module _ (calm : slots.conflict ≡ None) where
          -- ---- in a strong table

          module _ (is : t.schema.scheme ≡ Strong) where
            strong_is : (first : Option InFlight) → first_out t.rows ≡ first → phased_step phase linked c shape (with_tasks disk tasks) (Write table row content) ≡ gated (phase table) linked true disk tasks (sent first)
            strong_is first waits =
                free_is None calm ∙ (ap (λ (g : Scheme). gated (phase table) linked (is_strong g) disk tasks (free g None)) is ∙ ap (λ (o : Option InFlight). gated (phase table) linked true disk tasks (sent o)) waits)

            late_link : (first : Option InFlight) → is_before_link (sent first).answer ≡ false
            late_link None = refl
            late_link (Some out) = refl

            pub write_offline : linked ≡ false → (phased_step phase linked c shape (with_tasks disk tasks) (Write table row content)).answer ≡ facts.Refuses facts.Offline
            write_offline down =
                ap (λ (s : ClientStep). s.answer)
                (strong_is (first_out t.rows) refl ∙ gate_off linked true disk tasks (sent (first_out t.rows)) (phase table) closed down refl (late_link (first_out t.rows)))

            pub write_outstanding : linked ≡ true → (out : InFlight) → first_out t.rows ≡ Some out
                → (phased_step phase linked c shape (with_tasks disk tasks) (Write table row content)).answer ≡ facts.Refuses (facts.Outstanding out.number)
            write_outstanding up out waits =
                ap (λ (s : ClientStep). s.answer) (strong_is (Some out) waits ∙ gate_linked linked true disk tasks (sent (Some out)) (phase table) closed up)

            pub write_sent : linked ≡ true → first_out t.rows ≡ None
                → phased_step phase linked c shape (with_tasks disk tasks) (Write table row content)
                ≡ begun shape disk (facts.Number (disk.last + 1)) (strong_plan t.schema.chunk c disk table row slots content)
                (request_for c table row (strong_out t.schema.chunk (disk.last + 1) slots content) ∷ [])
            write_sent up none = strong_is None none ∙ gate_linked linked true disk tasks (sent None) (phase table) closed up

          -- ---- in a causal and in an eventual one

          pub write_begun : is_strong t.schema.scheme ≡ false
              → phased_step phase linked c shape (with_tasks disk tasks) (Write table row content) ≡ begun shape disk (facts.Number (disk.last + 1)) (write_plan c disk table row slots content) []
          write_begun weak =
              free_is None calm ∙ (gate_weak linked strong disk tasks (free t.schema.scheme None) (phase table) closed weak ∙ by_scheme t.schema.scheme weak)
            where
              by_scheme : (g : Scheme) → is_strong g ≡ false → free g None ≡ begun shape disk (facts.Number (disk.last + 1)) (write_plan c disk table row slots content) []
              by_scheme Strong isnt = absurd cc
              by_scheme Causal isnt = refl
              by_scheme Eventual isnt = refl

    -- ---- an edit

    over_made : (edit : Edit) (o : Option Content) (content : Content) → edited_over t.schema edit o ≡ Ok content
        → edit_over c shape disk tasks table row t edit o ≡ write_to c shape disk tasks table row content (Some t)
    over_made edit None content is = absurd cc
    over_made edit (Some Gone) content is = absurd cc
    over_made edit (Some (Row some objects)) content is = pick (edited_to t.schema some objects edit) is
      where
        pick : (r : Result Content FitFault) → made_or_unfit r ≡ Ok content → edit_made c shape disk tasks table row t r ≡ write_to c shape disk tasks table row content (Some t)
        pick (Ok made) e = let same : made ≡ content = cc in ap (λ (x : Content). write_to c shape disk tasks table row x (Some t)) same
        pick (Err fault) e = absurd cc

    over_refused : (edit : Edit) (o : Option Content) (refusal : Refusal) → edited_over t.schema edit o ≡ Err refusal → (edit_over c shape disk tasks table row t edit o).answer ≡ facts.Refuses refusal
    over_refused edit None refusal is = let same : facts.NoRow ≡ refusal = cc in ap facts.Refuses same
    over_refused edit (Some Gone) refusal is = let same : facts.NoRow ≡ refusal = cc in ap facts.Refuses same
    over_refused edit (Some (Row some objects)) refusal is = pick (edited_to t.schema some objects edit) is
      where
        pick : (r : Result Content FitFault) → made_or_unfit r ≡ Err refusal → (edit_made c shape disk tasks table row t r).answer ≡ facts.Refuses refusal
        pick (Ok made) e = absurd cc
        pick (Err fault) e = let same : facts.Unfit fault ≡ refusal = cc in ap facts.Refuses same

    -- what an edit is refused for comes before a phase and the link
    abbrev IsBefore : Refusal → Type 0
    IsBefore refusal = (is_before_write (facts.Refuses refusal) ≡ true) × (is_before_link (facts.Refuses refusal) ≡ true)

    over_before : (edit : Edit) (o : Option Content) (refusal : Refusal) → edited_over t.schema edit o ≡ Err refusal → IsBefore refusal
    over_before edit None refusal is = let same : facts.NoRow ≡ refusal = cc in subst IsBefore same (refl, refl)
    over_before edit (Some Gone) refusal is = let same : facts.NoRow ≡ refusal = cc in subst IsBefore same (refl, refl)
    over_before edit (Some (Row some objects)) refusal is = pick (edited_to t.schema some objects edit) is
      where
        pick : (r : Result Content FitFault) → made_or_unfit r ≡ Err refusal → IsBefore refusal
        pick (Ok made) e = absurd cc
        pick (Err fault) e = let same : facts.Unfit fault ≡ refusal = cc in subst IsBefore same (refl, refl)

    abbrev shown_there : Option Content
    shown_there = option_map content_of (shown_in (slots_at t row).main (slots_at t row).conflict (slots_at t row).shadow)

    edit_is : (edit : Edit) → phased_step phase linked c shape (with_tasks disk tasks) (Change table row edit) ≡ gate (Some t) (edit_over c shape disk tasks table row t edit shown_there)
    edit_is edit = ap (λ (o : Option TableDisk). gate o (edit_in c shape disk tasks table row edit o)) at

    -- one that makes a content is the write of that
    pub edit_writes : (edit : Edit) (content : Content) → edited_over t.schema edit shown_there ≡ Ok content
        → phased_step phase linked c shape (with_tasks disk tasks) (Change table row edit) ≡ phased_step phase linked c shape (with_tasks disk tasks) (Write table row content)
    edit_writes edit content is =
        edit_is edit ∙ (ap (gate (Some t)) (over_made edit shown_there content is) ∙ sym (ap (λ (o : Option TableDisk). gate o (write_to c shape disk tasks table row content o)) at))

    pub edit_refused : (edit : Edit) (refusal : Refusal) → edited_over t.schema edit shown_there ≡ Err refusal
        → (phased_step phase linked c shape (with_tasks disk tasks) (Change table row edit)).answer ≡ facts.Refuses refusal
    edit_refused edit refusal is =
        let why = over_refused edit shown_there refusal is in
        let before = over_before edit shown_there refusal is in
        ap (λ (s : ClientStep). s.answer)
        (edit_is edit ∙ gate_before linked strong disk tasks (edit_over c shape disk tasks table row t edit shown_there) (phase table)
        (ap (λ (a : Answer). is_before_write a) why ∙ before.0) (ap (λ (a : Answer). is_before_link a) why ∙ before.1)) ∙ why
