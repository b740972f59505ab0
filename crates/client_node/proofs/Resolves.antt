-- What the step table makes of a resolution.
use Rattle.std.proofs.Common.{◌≡◌, ◌⊎◌, ⊎_elim, ℕ, ◌+◌, Bool, true, false, List, [], ◌∷◌, Option, Some, None, Result, Ok, Err, refl, sym, ◌∙◌, ap}
use Rattle.std.specs.Prelude.{◌==◌, not, ◌&&◌, ◌||◌, if◌then◌else◌}
use Rattle.row_value.specs.declared.content.Content.{Content}
use Rattle.row_value.specs.declared.fit.FitFault.{FitFault}
use Rattle.row_value.specs.Fit.{fit_of}
use Rattle.conflicts.specs.declared.pair.Choice.{Choice}
use Rattle.conflicts.specs.declared.pair.Choice.TheVariants.{Mine, Theirs, New}
use Rattle.step_tables.specs.Slots.{Main}
use Rattle.step_tables.specs.Slots.{Shadow}
use Rattle.step_tables.specs.Facts.{Refusal}
use Rattle.step_tables.specs.Facts as facts
use Rattle.step_tables.specs.ClientMoves.{Slots, TableDisk, ClientDisk, ClientTask, ClientStep, Shape, Resolve, table_at, slots_at, seen as seen_disk, quiet, begun, over_plan, theirs_plan, over_fitting, choose, resolve_over, resolve_in, if_closed, is_before_phase}
use Rattle.client_node.specs.Linked.{unless_kept, phased_step}
use Rattle.client_node.specs.Sending.{with_tasks}

-- ---- a call that is looked at in a phase

abbrev pub phased_by : Bool → ClientDisk → List ClientTask → Bool → ClientStep → ClientStep
phased_by is_open disk tasks before step = unless_kept (with_tasks disk tasks) (if_closed before is_open) step

module _ (disk : ClientDisk) (tasks : List ClientTask) (step : ClientStep) where
  pub phase_before : (is_open : Bool) → phased_by is_open disk tasks true step ≡ step
  phase_before true = refl
  phase_before false = refl

  pub phase_open : (is_open before : Bool) → is_open ≡ true → phased_by is_open disk tasks before step ≡ step
  phase_open is_open before is = ap (λ (b : Bool). phased_by b disk tasks before step) is

  pub phase_closed : (is_open : Bool) → is_open ≡ false → phased_by is_open disk tasks false step ≡ quiet disk (Some tasks) (facts.Refuses facts.NotInResolution)
  phase_closed is_open is = ap (λ (b : Bool). phased_by b disk tasks false step) is

-- a move that doesn't need the link
no_link : {X : Type 0} (up : Bool) (x y : X) → (if not up && false then x else y) ≡ y
no_link true x y = refl
no_link false x y = refl

module _ (phase : ℕ → Bool) (linked : Bool) (c : ℕ) (shape : Shape) (disk : ClientDisk) (tasks : List ClientTask) (table : ℕ) (row : List ℕ) (seen : ℕ) (choice : Choice) where
  abbrev Step : ClientStep
  Step = phased_step phase linked c shape (with_tasks disk tasks) (Resolve table row seen choice)

  abbrev resolves : Option TableDisk → ClientStep
  resolves o = resolve_in c shape disk tasks table row seen choice o

  abbrev by_phase : ClientStep → ClientStep
  by_phase step = phased_by (phase table) disk tasks (is_before_phase (Resolve table row seen choice) step.answer) step

  steps : Step ≡ by_phase (resolves (table_at (seen_disk disk) table))
  steps =
      let step : ClientStep = resolves (table_at (seen_disk disk) table) in
      ap (unless_kept (with_tasks disk tasks) (if_closed (is_before_phase (Resolve table row seen choice) step.answer) (phase table))) (no_link linked _ step)

  -- of a table that isn't opened
  pub resolve_closed : table_at (seen_disk disk) table ≡ None → Step.answer ≡ facts.Refuses facts.NoTable
  resolve_closed none = ap (λ (s : ClientStep). s.answer) (steps ∙ (ap (λ (o : Option TableDisk). by_phase (resolves o)) none ∙ phase_before disk tasks (resolves None) (phase table)))

  module _ (t : TableDisk) (at : table_at (seen_disk disk) table ≡ Some t) where
    at_table : Step ≡ by_phase (resolves (Some t))
    at_table = steps ∙ ap (λ (o : Option TableDisk). by_phase (resolves o)) at

    -- while something is to be done
    pub resolve_busy : (tasks ≡ [] → ⊥) → Step.answer ≡ facts.Refuses (facts.Busy shape.plan)
    resolve_busy some = ap (λ (s : ClientStep). s.answer) at_table ∙ pick tasks some
      where
        pick : (l : List ClientTask) → (l ≡ [] → ⊥) → (let step = resolve_in c shape disk l table row seen choice (Some t) in (phased_by (phase table) disk l (is_before_phase (Resolve table row seen choice) step.answer) step).answer) ≡ facts.Refuses (facts.Busy shape.plan)
        pick [] some = absurd (some refl)
        pick (task ∷ more) some = ap (λ (s : ClientStep). s.answer) (phase_before disk (task ∷ more) (resolve_in c shape disk (task ∷ more) table row seen choice (Some t)) (phase table))

    module _ (idle : tasks ≡ []) where
      abbrev slots : Slots
      slots = slots_at t row

      abbrev over : Option Main → Option Shadow → ClientStep
      over m k = resolve_over c shape disk table row t.schema slots seen choice m k

      idle_is : (m : Option Main) (k : Option Shadow) → slots.main ≡ m → slots.conflict ≡ k → resolves (Some t) ≡ over m k
      idle_is m k main conflict =
          ap (λ (l : List ClientTask). resolve_in c shape disk l table row seen choice (Some t)) idle
          ∙ (ap (λ (x : Option Main). over x slots.conflict) main ∙ ap (over m) conflict)

      at_over : (m : Option Main) (k : Option Shadow) → slots.main ≡ m → slots.conflict ≡ k → Step ≡ by_phase (over m k)
      at_over m k main conflict = at_table ∙ ap by_phase (idle_is m k main conflict)

      -- ---- what is refused from here on comes behind the phase

      abbrev IsLate : ClientStep → Type 0
      IsLate step = is_before_phase (Resolve table row seen choice) step.answer ≡ false

      late_fitting : (main : Main) (x : Shadow) (content : Content) (fit : Result (Unit {0}) FitFault) → IsLate (over_fitting c shape disk table row slots main x content fit)
      late_fitting main x content (Ok fits) = refl
      late_fitting main x content (Err fault) = refl

      late_choice : (main : Main) (x : Shadow) (made : Choice) → IsLate (choose c shape disk table row t.schema slots main x made)
      late_choice main x Mine = refl
      late_choice main x Theirs = refl
      late_choice main x (New content) = late_fitting main x content (fit_of t.schema content)

      late_seen : (main : Main) (x : Shadow) (b : Bool) → IsLate (if b then choose c shape disk table row t.schema slots main x choice else quiet disk (Some []) (facts.Refuses (facts.Moved seen x.version)))
      late_seen main x true = late_choice main x choice
      late_seen main x false = refl

      late_over : (m : Option Main) (k : Option Shadow) → IsLate (over m k)
      late_over None k = refl
      late_over (Some main) None = refl
      late_over (Some main) (Some x) = late_seen main x (x.version == seen)

      -- outside a phase
      pub resolve_kept : phase table ≡ false → Step.answer ≡ facts.Refuses facts.NotInResolution
      resolve_kept closed =
          ap (λ (s : ClientStep). s.answer)
          (at_over slots.main slots.conflict refl refl
          ∙ (ap (λ (b : Bool). phased_by (phase table) disk tasks b (over slots.main slots.conflict)) (late_over slots.main slots.conflict)
          ∙ phase_closed disk tasks (over slots.main slots.conflict) (phase table) closed))

      module _ (opens : phase table ≡ true) where
        in_phase : (m : Option Main) (k : Option Shadow) → slots.main ≡ m → slots.conflict ≡ k → Step ≡ over m k
        in_phase m k main conflict =
            at_over m k main conflict ∙ phase_open disk tasks (over m k) (phase table) (is_before_phase (Resolve table row seen choice) (over m k).answer) opens

        -- of a row that isn't in conflict
        pub resolve_none : (slots.main ≡ None) ⊎ (slots.conflict ≡ None) → Step.answer ≡ facts.Refuses facts.NoConflict
        resolve_none none = ap (λ (s : ClientStep). s.answer) (in_phase slots.main slots.conflict refl refl) ∙ ⊎_elim
            (λ no_main. ap (λ (m : Option Main). (over m slots.conflict).answer) no_main)
            (λ no_conflict. ap (λ (k : Option Shadow). (over slots.main k).answer) no_conflict ∙ by_main slots.main) none
          where
            by_main : (m : Option Main) → (over m None).answer ≡ facts.Refuses facts.NoConflict
            by_main None = refl
            by_main (Some main) = refl

        module _ (main : Main) (main_is : slots.main ≡ Some main) (x : Shadow) (conflict_is : slots.conflict ≡ Some x) where
          chosen : (b : Bool) → (x.version == seen) ≡ b → Step ≡ (if b then choose c shape disk table row t.schema slots main x choice else quiet disk (Some []) (facts.Refuses (facts.Moved seen x.version)))
          chosen b is =
              in_phase (Some main) (Some x) main_is conflict_is
              ∙ ap (λ (y : Bool). if y then choose c shape disk table row t.schema slots main x choice else quiet disk (Some []) (facts.Refuses (facts.Moved seen x.version))) is

          pub resolve_moved : (x.version == seen) ≡ false → Step.answer ≡ facts.Refuses (facts.Moved seen x.version)
          resolve_moved other = ap (λ (s : ClientStep). s.answer) (chosen false other)

          pub resolve_chosen : (x.version == seen) ≡ true → Step ≡ choose c shape disk table row t.schema slots main x choice
          resolve_chosen same = chosen true same
