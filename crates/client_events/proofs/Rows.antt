-- One row of a client that resolves all conflicts of a table, as the world has it.
use Rattle.std.proofs.Common.{◌≡◌, ◌⊎◌, inl, inr, ⊎_elim, ℕ, suc, ◌+◌, ◌≤◌, ◌++◌, length, drop, Bool, true, false, List, [], ◌∷◌, Option, Some, None, Result, Ok, Err, refl, sym, ap, ◌∙◌, subst, arith}
use Rattle.std.specs.Prelude.{◌==◌, ◌&&◌, ◌||◌, if◌then◌else◌}
use Rattle.stab_base.specs.declared.node.Node.TheVariants as nodes
use Rattle.stab_base.specs.declared.step.Step.{Step}
use Rattle.row_value.specs.declared.content.Content.{Content}
use Rattle.row_value.specs.declared.fit.FitFault.{FitFault}
use Rattle.row_value.specs.declared.schema.Schema.{Schema}
use Rattle.row_value.specs.Fit.{fit_of}
use Rattle.conflicts.specs.declared.pair.Choice.{Choice}
use Rattle.conflicts.specs.declared.pair.Choice.TheVariants as choices
use Rattle.conflicts.specs.declared.stored.Stored.{Stored}
use Rattle.table_model.specs.declared.line.RowPair.{RowPair}
use Rattle.step_tables.specs.Slots.{Main}
use Rattle.step_tables.specs.Slots.{Shadow}
use Rattle.step_tables.specs.Facts.{Answer, ClientFact, Refusal}
use Rattle.step_tables.specs.Facts as facts
use Rattle.step_tables.specs.Messages.{Luck}
use Rattle.step_tables.specs.Messages as messages
use Rattle.step_tables.specs.ClientMoves.{Slots, TableDisk, RowPut, Plan, ClientDisk, ClientTask, Client, ClientMove, ClientStep, Shape, Resolve, Work, choose, client_step, is_before_phase, is_cut_off, if_closed, keeps, kept_out, no_shape, over_fitting, phases_by, planning, put_row, resolve_in, resolve_over, row_put, seen, slots_at, table_at, with_table}
use Rattle.step_tables.specs.ClientMoves as client
use Rattle.world_tables.specs.World.{World, Moved, and_then, and_unless, answering, client_at, client_tasks, client_until_idle, client_works, first_luck, other_lucks, is_client_down, is_cut, is_fault, is_resolving, move_client, moved_client, reads, refused, unless_cut, unless_kept}
use Rattle.world_tables.specs.World.{unless_closed, is_closed, is_closed_in, closed_answer, chosen_of, first_shape, other_shapes, resolve_by, resolve_each, plan_size}
use Rattle.world_laws.proofs.Working.{moved_is, moved_at, all_changed, Always, works_end, or_true, or_false}
use Rattle.journal_host.specs.Moves.{move_alone, alone_there, call_alone}
use Rattle.journal_host.proofs.Keeping.{KeepsMoved, still_keeps, unless_then_keeps, resolve_by_keeps, until_idle_keeps}
use Rattle.client_events.specs.Resolves.{resolve_row, IsReady}
use Rattle.client_events.proofs.Closings.{put_kept, open_before}

-- ---- what a client that is idle makes of it

-- Nothing, or it begins a plan of one row, with one number more at most.
pub record Takes (shape : Shape) (d : ClientDisk) (step : ClientStep) : Type 0 where
  pub well : is_fault step.answer ≡ false
  pub begins : (step.client ≡ record { disk = d; agenda = Some [] })
      ⊎ ((last : ℕ) × (table : ℕ) × (put : RowPut) × (told : List ClientFact) × (last ≤ d.last + 1)
      × (step.client ≡ record { disk = d; agenda = Some (planning shape (record { last = last; table = table; row = Some put; position = None; alters = None; facts = told }) []) }))

module _ (c : ℕ) (shape : Shape) (d : ClientDisk) (table : ℕ) (row : List ℕ) where
  over_takes : (slots : Slots) (main : Main) (x : Shadow) (content : Content) (fit : Result (Unit {0}) FitFault) → Takes shape d (over_fitting c shape d table row slots main x content fit)
  over_takes slots main x content (Ok fits) = record { well = refl; begins = inr (d.last + 1, table, _, _, omega arith, refl) }
  over_takes slots main x content (Err fault) = record { well = refl; begins = inl refl }

  choice_takes : (schema : Schema) (slots : Slots) (main : Main) (x : Shadow) (choice : Choice) → Takes shape d (choose c shape d table row schema slots main x choice)
  choice_takes schema slots main x choices.Mine = record { well = refl; begins = inr (d.last + 1, table, _, _, omega arith, refl) }
  choice_takes schema slots main x choices.Theirs = record { well = refl; begins = inr (d.last, table, _, _, omega arith, refl) }
  choice_takes schema slots main x (choices.New content) = over_takes slots main x content (fit_of schema content)

  slots_take : (schema : Schema) (slots : Slots) (version : ℕ) (choice : Choice) (m : Option Main) (k : Option Shadow) → Takes shape d (resolve_over c shape d table row schema slots version choice m k)
  slots_take schema slots version choice None k = record { well = refl; begins = inl refl }
  slots_take schema slots version choice (Some main) None = record { well = refl; begins = inl refl }
  slots_take schema slots version choice (Some main) (Some x) = by (x.version == version)
    where
      by : (b : Bool) → Takes shape d (if b then choose c shape d table row schema slots main x choice else client.refused d (facts.Moved version x.version))
      by true = choice_takes schema slots main x choice
      by false = record { well = refl; begins = inl refl }

  pub row_takes : (version : ℕ) (choice : Choice) → Takes shape d (client_step c shape (record { disk = d; agenda = Some [] }) (Resolve table row version choice))
  row_takes version choice = by (table_at (seen d) table)
    where
      by : (o : Option TableDisk) → Takes shape d (resolve_in c shape d [] table row version choice o)
      by None = record { well = refl; begins = inl refl }
      by (Some opened) = slots_take opened.schema (slots_at opened row) version choice (slots_at opened row).main (slots_at opened row).conflict

-- ---- the plan at its end

any_always : (d : ClientDisk) (tasks : List ClientTask) → Always (λ (e : ClientDisk). Unit {0}) d tasks
any_always d [] = tt
any_always d (task ∷ more) = (tt, any_always (client.changed d task.change) more)

keeps_change : (steps : List Step) (d : ClientDisk) (more : List ClientTask) → all_changed d (keeps steps ++ more) ≡ all_changed d more
keeps_change [] d more = refl
keeps_change (step ∷ steps) d more = keeps_change steps d more

module _ (shape : Shape) (d : ClientDisk) (last table : ℕ) (put : RowPut) (told : List ClientFact) where
  abbrev plan : Plan
  plan = record { last = last; table = table; row = Some put; position = None; alters = None; facts = told }

  abbrev stored : ClientDisk
  stored = row_put (record d { plan = Some plan }) last table (Some put)

  abbrev ended : ClientDisk
  ended = record stored { plan = None }

  plan_ends : all_changed d (planning shape plan []) ≡ ended
  plan_ends = keeps_change shape.before d _ ∙ keeps_change shape.after stored _

  stored_last : stored.last ≡ last
  stored_last = by (table_at (record d { plan = Some plan }) table)
    where
      by : (o : Option TableDisk) → (with_table (record d { last = last; plan = Some plan }) table o (put_row put)).last ≡ last
      by None = refl
      by (Some opened) = refl

  pub ended_last : (all_changed d (planning shape plan [])).last ≡ last
  ended_last = ap (λ (e : ClientDisk). e.last) plan_ends ∙ stored_last

  pub ended_seen : (seen (all_changed d (planning shape plan []))).last ≡ last
  ended_seen = ap (λ (e : ClientDisk). (seen e).last) plan_ends ∙ stored_last

  -- it closes no table
  pub ended_free : (t : ℕ) → is_closed_in (table_at (seen d) t) ≡ false → is_closed_in (table_at (seen (all_changed d (planning shape plan []))) t) ≡ false
  ended_free t free = ap (λ (e : ClientDisk). is_closed_in (table_at (seen e) t)) plan_ends ∙ (put_kept t (record d { plan = Some plan }) last table put ∙ open_before t d free)

-- ---- its work leaves the phases

works_phases : (c : ℕ) (tasks : List ClientTask) (lucks : List Luck) (w : World) (d : ClientDisk) → client_at w c ≡ Some (record { disk = d; agenda = Some tasks })
    → (client_works c tasks lucks w).failed ≡ false → (client_works c tasks lucks w).world.phases ≡ w.phases
works_phases c [] lucks w d at none = refl
works_phases c (task ∷ tasks) lucks w d at none =
    by_luck (λ (v : World) (there : client_at v c ≡ Some (record { disk = client.changed d task.change; agenda = Some tasks })). works_phases c tasks (other_lucks lucks) v (client.changed d task.change) there)
    (first_luck lucks) none
  where
    node : Client
    node = record { disk = d; agenda = Some (task ∷ tasks) }

    moved : Luck → Moved
    moved luck = move_client c (Work luck) no_shape w

    is : (luck : Luck) → moved luck ≡ moved_client w c (Work luck) (client_step c no_shape node (Work luck))
    is luck = moved_is w c (Work luck) no_shape node at

    bad : (luck : Luck) → (moved_client w c (Work luck) (client_step c no_shape node (Work luck))).failed ≡ true
        → (and_then (moved luck) (client_works c tasks (other_lucks lucks))).failed ≡ false → ⊥
    bad luck failed none = or_true (moved luck).failed (client_works c tasks (other_lucks lucks) (moved luck).world).failed (ap (λ (m : Moved). m.failed) (is luck) ∙ failed) none

    by_luck : ((v : World) → client_at v c ≡ Some (record { disk = client.changed d task.change; agenda = Some tasks }) → (client_works c tasks (other_lucks lucks) v).failed ≡ false
        → (client_works c tasks (other_lucks lucks) v).world.phases ≡ v.phases) → (luck : Luck)
        → (and_then (moved luck) (client_works c tasks (other_lucks lucks))).failed ≡ false → (and_then (moved luck) (client_works c tasks (other_lucks lucks))).world.phases ≡ w.phases
    by_luck rest messages.FailedBefore none = absurd (bad messages.FailedBefore refl none)
    by_luck rest messages.FailedAfter none = absurd (bad messages.FailedAfter refl none)
    by_luck rest messages.Done none =
        rest (moved messages.Done).world
        (ap (λ (m : Moved). client_at m.world c) (is messages.Done) ∙ moved_at w c (Work messages.Done) (client_step c no_shape node (Work messages.Done)))
        (or_false (moved messages.Done).failed (client_works c tasks (other_lucks lucks) (moved messages.Done).world).failed none).1
        ∙ ap (λ (m : Moved). m.world.phases) (is messages.Done)

-- ---- the row

abbrev pub row_move : World → ℕ → ℕ → Stored → RowPair → ClientMove
row_move w c table way pair = Resolve table pair.row pair.version (chosen_of way pair.row (client_at w c) table)

module _ (w : World) (c table : ℕ) (way : Stored) (pair : RowPair) (shape : Shape) (last : ℕ) (r : IsReady w c table last) where
  abbrev node : Client
  node = record { disk = r.disk; agenda = Some [] }

  abbrev move : ClientMove
  move = row_move w c table way pair

  abbrev step : ClientStep
  step = client_step c shape node move

  abbrev row_by : Luck → Moved
  row_by luck = resolve_by c table way shape pair luck w

  abbrev pub row_answer : Luck → Answer
  row_answer messages.Done = step.answer
  row_answer messages.FailedBefore = facts.Done
  row_answer messages.FailedAfter = facts.Done

  takes : Takes shape r.disk step
  takes = row_takes c shape r.disk table pair.row pair.version (chosen_of way pair.row (client_at w c) table)

  moved : row_by messages.Done ≡ moved_client w c move step
  moved = moved_is w c move shape node r.at

  -- it is done alone so
  linked : (b : Bool) → (b && is_cut_off c shape node move) ≡ false
  linked true = refl
  linked false = refl

  free : kept_out (is_resolving w c) move step.answer ≡ None
  free = ap (λ (b : Bool). if_closed (is_before_phase move step.answer) b) r.phase

  abbrev says_shut : Answer
  says_shut = closed_answer shape (is_cut w c) (Some []) move

  by_luck : (luck : Luck) → reads w c luck (unless_closed w (is_closed node (Some table)) says_shut (unless_kept w (kept_out (is_resolving w c) move step.answer)
      (unless_cut w (is_cut w c && is_cut_off c shape node move) (move_alone w c move shape node)))) ≡ answering (row_answer luck) (row_by luck)
  by_luck messages.Done =
      ap (λ (b : Bool). unless_closed w b says_shut (unless_kept w (kept_out (is_resolving w c) move step.answer) (unless_cut w (is_cut w c && is_cut_off c shape node move) (move_alone w c move shape node)))) r.free
      ∙ (ap (λ (o : Option Refusal). unless_kept w o (unless_cut w (is_cut w c && is_cut_off c shape node move) (move_alone w c move shape node))) free
      ∙ ap (λ (b : Bool). unless_cut w b (move_alone w c move shape node)) (linked (is_cut w c)))
  by_luck messages.FailedBefore = refl
  by_luck messages.FailedAfter = refl

  pub row_alone : (lucks : List Luck) → call_alone w c move shape lucks ≡ answering (row_answer (first_luck lucks)) (row_by (first_luck lucks))
  row_alone lucks =
      ap (λ (o : Option Client). alone_there w c move shape lucks o) r.at
      ∙ (ap (λ (b : Bool). if b then refused w (facts.NodeDown (nodes.Client c)) else reads w c (first_luck lucks)
      (unless_closed w (is_closed node (Some table)) says_shut (unless_kept w (kept_out (is_resolving w c) move step.answer) (unless_cut w (is_cut w c && is_cut_off c shape node move) (move_alone w c move shape node))))) (ap is_client_down r.at)
      ∙ by_luck (first_luck lucks))

  -- whether it fails is told by its answer
  told_by : (b : Bool) (a : Answer) → b ≡ is_fault a → b ≡ is_fault (if b then facts.Refuses facts.NoDevice else a)
  told_by true a is = refl
  told_by false a is = is

  pub row_failed : (luck : Luck) → (row_by luck).failed ≡ is_fault (if (row_by luck).failed then facts.Refuses facts.NoDevice else row_answer luck)
  row_failed messages.Done = told_by (row_by messages.Done).failed step.answer (ap (λ (m : Moved). m.failed) moved)
  row_failed messages.FailedBefore = refl
  row_failed messages.FailedAfter = refl

  -- ---- it is ready for the next row

  works_ready : (v : World) (d : ClientDisk) (tasks : List ClientTask) (lucks : List Luck) → client_at v c ≡ Some (record { disk = d; agenda = Some tasks }) → v.phases ≡ w.phases
      → is_closed_in (table_at (seen (all_changed d tasks)) table) ≡ false → (all_changed d tasks).last ≤ last + 1 → (seen (all_changed d tasks)).last ≤ last + 1 → (client_works c tasks lucks v).failed ≡ false
      → IsReady (client_works c tasks lucks v).world c table (last + 1)
  works_ready v d tasks lucks at same unshut given giving none =
      let e = works_end (λ (x : ClientDisk). Unit {0}) c tasks lucks v d at (any_always d tasks) in
      record {
        disk = all_changed d tasks;
        at = e.there ∙ ap Some (e.well none);
        free = unshut;
        phase = ap (λ (phases : List (ℕ × ℕ)). is_resolving (record w { phases = phases }) c table) (works_phases c tasks lucks v d at none ∙ same) ∙ r.phase;
        given = given;
        giving = giving;
      }

  idle_ready : (v : World) (d : ClientDisk) (tasks : List ClientTask) (lucks : List Luck) → client_at v c ≡ Some (record { disk = d; agenda = Some tasks }) → v.phases ≡ w.phases
      → is_closed_in (table_at (seen (all_changed d tasks)) table) ≡ false → (all_changed d tasks).last ≤ last + 1 → (seen (all_changed d tasks)).last ≤ last + 1 → (client_until_idle c lucks v).failed ≡ false
      → IsReady (client_until_idle c lucks v).world c table (last + 1)
  idle_ready v d tasks lucks at same unshut given giving =
      subst (λ (ts : List ClientTask). (client_works c ts lucks v).failed ≡ false → IsReady (client_works c ts lucks v).world c table (last + 1)) (sym (ap client_tasks at))
      (works_ready v d tasks lucks at same unshut given giving)

  resolved_ready : (lucks : List Luck) → (client_until_idle c lucks (row_by messages.Done).world).failed ≡ false → IsReady (client_until_idle c lucks (row_by messages.Done).world).world c table (last + 1)
  resolved_ready lucks = ⊎_elim
      (λ (is : step.client ≡ node). idle_ready v r.disk [] lucks (there ∙ ap Some is) (phases ∙ ap (λ (s : Client). phases_by c move step.answer s.agenda w.phases) is) r.free
      (let few = r.given in omega (arith, few)) (let few = r.giving in omega (arith, few)))
      (λ x. idle_ready v r.disk (planning shape (record { last = x.0; table = x.1; row = Some x.2; position = None; alters = None; facts = x.3 }) []) lucks (there ∙ ap Some x.5)
      (phases ∙ ap (λ (s : Client). phases_by c move step.answer s.agenda w.phases) x.5) (ended_free shape r.disk x.0 x.1 x.2 x.3 table r.free)
      (let is = ended_last shape r.disk x.0 x.1 x.2 x.3 in let few = r.given in let next = x.4 in omega (arith, is, few, next))
      (let is = ended_seen shape r.disk x.0 x.1 x.2 x.3 in let few = r.given in let next = x.4 in omega (arith, is, few, next)))
      takes.begins
    where
      v : World
      v = (row_by messages.Done).world

      there : client_at v c ≡ Some step.client
      there = ap (λ (m : Moved). client_at m.world c) moved ∙ moved_at w c move step

      phases : v.phases ≡ phases_by c move step.answer step.client.agenda w.phases
      phases = ap (λ (m : Moved). m.world.phases) moved

  pub row_ready : (lucks : List Luck) → (resolve_row c table way shape pair lucks w).failed ≡ false → IsReady (resolve_row c table way shape pair lucks w).world c table (last + 1)
  row_ready lucks = by (first_luck lucks)
    where
      works : World → Moved
      works = client_until_idle c (other_lucks lucks)

      or_first : (b : Bool) → b ≡ (row_by messages.Done).failed → (if b then row_by messages.Done else and_then (row_by messages.Done) works).failed ≡ false
          → IsReady (if b then row_by messages.Done else and_then (row_by messages.Done) works).world c table (last + 1)
      or_first true is none = absurd (let both : true ≡ false = is ∙ none in cc)
      or_first false is none = resolved_ready (other_lucks lucks) (or_false (row_by messages.Done).failed (works (row_by messages.Done).world).failed none).1

      by : (luck : Luck) → (and_unless (row_by luck) works).failed ≡ false → IsReady (and_unless (row_by luck) works).world c table (last + 1)
      by messages.Done none = or_first (row_by messages.Done).failed refl none
      by messages.FailedBefore none = absurd cc
      by messages.FailedAfter none = absurd cc

-- ---- lucks of a row, and those of the rows behind it

-- one luck for each task
abbrev pub fit_to : List ClientTask → List Luck → List Luck
fit_to [] lucks = []
fit_to (task ∷ tasks) lucks = first_luck lucks ∷ fit_to tasks (other_lucks lucks)

works_fit : (c : ℕ) (tasks : List ClientTask) (lucks more : List Luck) (w : World) → client_works c tasks (fit_to tasks lucks ++ more) w ≡ client_works c tasks lucks w
works_fit c [] lucks more w = refl
works_fit c (task ∷ tasks) lucks more w =
    let m : Moved = move_client c (Work (first_luck lucks)) no_shape w in
    ap (λ (y : Moved). record { world = y.world; outs = m.outs ++ y.outs; failed = m.failed || y.failed }) (works_fit c tasks (other_lucks lucks) more m.world)

drop_fit : (tasks : List ClientTask) (lucks more : List Luck) → drop (length tasks) (fit_to tasks lucks ++ more) ≡ more
drop_fit [] lucks more = refl
drop_fit (task ∷ tasks) lucks more = drop_fit tasks (other_lucks lucks) more

unless_same : (m : Moved) (f g : World → Moved) → f m.world ≡ g m.world → and_unless m f ≡ and_unless m g
unless_same m f g same = ap (λ (y : Moved). if m.failed then m else record { world = y.world; outs = m.outs ++ y.outs; failed = m.failed || y.failed }) same

module _ (c table : ℕ) (way : Stored) (shape : Shape) (shapes : List Shape) (pair : RowPair) (pairs : List RowPair) (w : World) (lucks more : List Luck) where
  abbrev first : Moved
  first = resolve_by c table way shape pair (first_luck lucks) w

  abbrev tasks : List ClientTask
  tasks = client_tasks (client_at first.world c)

  -- with these the row takes its own, and the next ones the others
  abbrev pub row_lucks : List Luck
  row_lucks = first_luck lucks ∷ (fit_to tasks (other_lucks lucks) ++ more)

  pub each_next : resolve_each c table way (shape ∷ shapes) row_lucks (pair ∷ pairs) w
      ≡ and_unless (resolve_row c table way shape pair lucks w) (resolve_each c table way shapes more pairs)
  each_next =
      ap (λ (m : Moved). and_unless m (resolve_each c table way shapes (drop (1 + plan_size c first.world) row_lucks) pairs))
      (unless_same first (client_until_idle c (fit_to tasks (other_lucks lucks) ++ more)) (client_until_idle c (other_lucks lucks)) (works_fit c tasks (other_lucks lucks) more first.world))
      ∙ ap (λ (l : List Luck). and_unless (resolve_row c table way shape pair lucks w) (resolve_each c table way shapes l pairs)) dropped
    where
      dropped : drop (1 + plan_size c first.world) row_lucks ≡ more
      dropped = ap (λ (n : ℕ). drop n row_lucks) (let is : 1 + length tasks ≡ suc (length tasks) = omega arith in is) ∙ drop_fit tasks (other_lucks lucks) more

-- ---- what stays of the world

pub row_keeps : (c table : ℕ) (way : Stored) (shape : Shape) (pair : RowPair) (lucks : List Luck) (w : World) → KeepsMoved w (resolve_row c table way shape pair lucks w)
row_keeps c table way shape pair lucks w =
    let first : Moved = resolve_by c table way shape pair (first_luck lucks) w in
    unless_then_keeps w first (client_until_idle c (other_lucks lucks)) (resolve_by_keeps c table way shape pair (first_luck lucks) w) (until_idle_keeps c (other_lucks lucks) first.world)

pub each_keeps : (c table : ℕ) (way : Stored) (shapes : List Shape) (lucks : List Luck) (pairs : List RowPair) (w : World) → KeepsMoved w (resolve_each c table way shapes lucks pairs w)
each_keeps c table way shapes lucks [] w = still_keeps w
each_keeps c table way shapes lucks (pair ∷ pairs) w =
    let first : Moved = resolve_by c table way (first_shape shapes) pair (first_luck lucks) w in
    let all : Moved = resolve_row c table way (first_shape shapes) pair lucks w in
    let more : List Luck = drop (1 + plan_size c first.world) lucks in
    unless_then_keeps w all (resolve_each c table way (other_shapes shapes) more pairs) (row_keeps c table way (first_shape shapes) pair lucks w)
    (each_keeps c table way (other_shapes shapes) more pairs all.world)
