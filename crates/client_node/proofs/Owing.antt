-- What tasks tell and send is what is owed behind their writes.
use Rattle.std.proofs.Common.{◌≡◌, ℕ, ◌++◌, Bool, true, false, List, [], ◌∷◌, Option, Some, None, refl, sym, ◌∙◌, ap, subst}
use Rattle.std.specs.Prelude.{if◌then◌else◌}
use Rattle.stab_base.specs.declared.step.Step.{Step}
use Rattle.held_value.specs.declared.local_name.LocalName.{LocalName}
use Rattle.client_journal.specs.Devs.{ClientDevs, Write, changed_by}
use Rattle.client_journal.specs.Standing.{step_of}
use Rattle.step_tables.specs.Facts.{Fact}
use Rattle.step_tables.specs.Messages.{Send}
use Rattle.step_tables.specs.ClientMoves.{Plan, RowPut, TableChange, ClientDisk, ClientChange, ClientTask, Shape, changed, told, only, keeps, row_task, table_task, put_tasks, rest_of, planning}
use Rattle.step_tables.specs.ClientMoves as moves
use Rattle.journal_laws.specs.Holds.{Follows}
use Rattle.journal_laws.specs.Moves.{put_steps, bring_steps}
use Rattle.client_node.specs.Due.{is_last_of, is_due, told_at, left_at, sent_at}
use Rattle.client_node.specs.declared.owed.When.{When}
use Rattle.client_node.specs.declared.owed.When.TheVariants.{AtCommit}
use Rattle.client_node.specs.Node.{AreOwed}
use Rattle.client_node.proofs.Following.{same_step}

abbrev pub is_last_task : List ClientTask → Bool
is_last_task [] = true
is_last_task (task ∷ tasks) = false

-- the same of tasks alone
abbrev pub OwedTasks : When → List Fact → List Send → List ClientTask → Type 0
OwedTasks when owed sends [] = Unit {0}
OwedTasks when owed sends (task ∷ tasks) = (task.facts ≡ told_at when owed (moves.step_of task.change) (is_last_task tasks)) × (task.sends ≡ sent_at sends (is_last_task tasks))
    × OwedTasks when (left_at when owed (moves.step_of task.change) (is_last_task tasks)) sends tasks

module _ (c : ℕ) (meaning : LocalName → List ℕ) where
  last_both : (d : ClientDevs) (ws : List Write) (disk : ClientDisk) (tasks : List ClientTask) → Follows c meaning d ws disk tasks → is_last_of ws ≡ is_last_task tasks
  last_both d [] disk [] f = refl
  last_both d [] disk (task ∷ tasks) f = absurd f
  last_both d (w ∷ ws) disk [] f = absurd f
  last_both d (w ∷ ws) disk (task ∷ tasks) f = refl

  pub owed_by : (d : ClientDevs) (ws : List Write) (disk : ClientDisk) (tasks : List ClientTask) → Follows c meaning d ws disk tasks → (when : When) (owed : List Fact) (sends : List Send) → OwedTasks when owed sends tasks → AreOwed when owed sends ws tasks
  owed_by d [] disk [] f when owed sends h = tt
  owed_by d [] disk (task ∷ tasks) f when owed sends h = absurd f
  owed_by d (w ∷ ws) disk [] f when owed sends h = absurd f
  owed_by d (w ∷ ws) disk (task ∷ tasks) f when owed sends h =
      let step = same_step c meaning w task.change f.1 in
      let last = last_both (changed_by d w) ws (changed disk task.change) tasks f.2 in
      let told_is : told_at when owed (step_of w) (is_last_of ws) ≡ told_at when owed (moves.step_of task.change) (is_last_task tasks) =
      ap (λ (s : Step). told_at when owed s (is_last_of ws)) step ∙ ap (λ (b : Bool). told_at when owed (moves.step_of task.change) b) last in
      let left_is : left_at when owed (step_of w) (is_last_of ws) ≡ left_at when owed (moves.step_of task.change) (is_last_task tasks) =
      ap (λ (s : Step). left_at when owed s (is_last_of ws)) step ∙ ap (λ (b : Bool). left_at when owed (moves.step_of task.change) b) last in (
        h.0 ∙ sym told_is,
        h.1 ∙ sym (ap (λ (b : Bool). sent_at sends b) last),
        subst (λ (l : List Fact). AreOwed when l sends ws tasks) (sym left_is) (owed_by (changed_by d w) ws (changed disk task.change) tasks f.2 when (left_at when owed (moves.step_of task.change) (is_last_task tasks)) sends h.2),
      )

-- ---- where nothing is owed but at the end

abbrev no_facts : List Fact
no_facts = []

pub none_told : (when : When) (step : Step) (last : Bool) → told_at when [] step last ≡ []
none_told when step last = pick (is_due when step last)
  where
    pick : (b : Bool) → (if b then no_facts else no_facts) ≡ no_facts
    pick true = refl
    pick false = refl

pub none_left : (when : When) (step : Step) (last : Bool) → left_at when [] step last ≡ []
none_left when step last = pick (is_due when step last)
  where
    pick : (b : Bool) → (if b then no_facts else no_facts) ≡ no_facts
    pick true = refl
    pick false = refl

abbrev pub AreQuiet : List ClientTask → Type 0
AreQuiet [] = Unit {0}
AreQuiet (task ∷ tasks) = (task.facts ≡ []) × (task.sends ≡ []) × AreQuiet tasks

not_last : (front rest : List ClientTask) → is_last_task rest ≡ false → is_last_task (front ++ rest) ≡ false
not_last [] rest h = h
not_last (task ∷ front) rest h = refl

quiet_front : (when : When) (sends : List Send) (front rest : List ClientTask) → AreQuiet front → is_last_task rest ≡ false → OwedTasks when [] sends rest → OwedTasks when [] sends (front ++ rest)
quiet_front when sends [] rest q last h = h
quiet_front when sends (task ∷ front) rest q last h =
    let step = moves.step_of task.change in
    let b = is_last_task (front ++ rest) in (
      q.0 ∙ sym (none_told when step b),
      q.1 ∙ sym (ap (λ (x : Bool). sent_at sends x) (not_last front rest last)),
      subst (λ (l : List Fact). OwedTasks when l sends (front ++ rest)) (sym (none_left when step b)) (quiet_front when sends front rest q.2 last h),
    )

pub keeps_quiet : (steps : List Step) → AreQuiet (keeps steps)
keeps_quiet [] = tt
keeps_quiet (step ∷ steps) = (refl, refl, keeps_quiet steps)

pub row_quiet : (p : Plan) (o : Option RowPut) → AreQuiet (row_task p o)
row_quiet p None = tt
row_quiet p (Some x) = (refl, refl, tt)

pub table_quiet : (p : Plan) (o : Option ℕ) → AreQuiet (table_task p o)
table_quiet p None = tt
table_quiet p (Some position) = (refl, refl, tt)

-- ---- a plan

module _ (shape : Shape) (p : Plan) (sends : List Send) where
  abbrev finish : List ClientTask
  finish = record { change = moves.Finish; facts = []; sends = sends } ∷ []

  abbrev ends : List ClientTask
  ends = keeps shape.after ++ finish

  ends_not_last : is_last_task ends ≡ false
  ends_not_last = not_last (keeps shape.after) finish refl

  puts_not_last : (o : Option TableChange) → is_last_task (put_tasks p o ends) ≡ false
  puts_not_last None = not_last (row_task p p.row) (table_task p p.position ++ ends) (not_last (table_task p p.position) ends ends_not_last)
  puts_not_last (Some change) = refl

  rest_not_last : is_last_task (rest_of shape p sends) ≡ false
  rest_not_last = puts_not_last p.alters

  ends_owed : OwedTasks AtCommit [] sends ends
  ends_owed = quiet_front AtCommit sends (keeps shape.after) finish (keeps_quiet shape.after) refl (refl, refl, tt)

  changes_owed : (o : Option TableChange) → OwedTasks AtCommit [] sends (put_tasks p o ends)
  changes_owed None =
      quiet_front AtCommit sends (row_task p p.row) (table_task p p.position ++ ends) (row_quiet p p.row) (not_last (table_task p p.position) ends ends_not_last)
      (quiet_front AtCommit sends (table_task p p.position) ends (table_quiet p p.position) ends_not_last ends_owed)
  changes_owed (Some change) = quiet_front AtCommit sends (only (moves.PutTable p) ∷ []) ends (refl, refl, tt) ends_not_last ends_owed

  rest_owed : OwedTasks AtCommit [] sends (rest_of shape p sends)
  rest_owed = changes_owed p.alters

  abbrev commit_on : List ClientTask
  commit_on = record { change = moves.Commit p; facts = told p; sends = [] } ∷ rest_of shape p sends

  commit_owed : OwedTasks AtCommit (told p) sends commit_on
  commit_owed = (refl, sym (ap (λ (b : Bool). sent_at sends b) rest_not_last), rest_owed)

  puts_owed : (bs : List (List ℕ)) → OwedTasks AtCommit (told p) sends (keeps (put_steps bs) ++ commit_on)
  puts_owed [] = commit_owed
  puts_owed (bytes ∷ bs) = (refl, sym (ap (λ (b : Bool). sent_at sends b) (not_last (keeps (put_steps bs)) commit_on refl)), puts_owed bs)

  brings_owed : (bs : List (List ℕ)) → OwedTasks AtCommit (told p) sends (keeps (bring_steps bs) ++ commit_on)
  brings_owed [] = commit_owed
  brings_owed (bytes ∷ bs) = (refl, refl, puts_owed (bytes ∷ bs))

  pub planning_owed : (brought : List (List ℕ)) → shape.before ≡ bring_steps brought → OwedTasks AtCommit (told p) sends (planning shape p sends)
  planning_owed brought is = subst (λ (l : List Step). OwedTasks AtCommit (told p) sends (keeps l ++ commit_on)) (sym is) (brings_owed brought)
