-- A client's node behind a call, and what it tells put behind what was told.
use Rattle.std.proofs.Common.{◌≡◌, ◌⊎◌, inl, inr, ⊎_elim, ℕ, suc, ◌<◌, ◌++◌, length, Bool, true, false, List, [], ◌∷◌, Option, Some, None, Result, Ok, Err, refl, sym, ap, ◌∙◌, subst, append-nil}
use Rattle.std.specs.Prelude.{not, ◌&&◌, ◌≢◌, IfOk, IfErr, OnErr, IsErrOf, if◌then◌else◌}
use Rattle.disk_trait.specs.Calls.{DiskState}
use Rattle.stab_base.specs.declared.step.Step.{Step}
use Rattle.stab_base.specs.declared.step.Step.TheVariants as steps
use Rattle.table_model.specs.declared.line.Answer.{Answer}
use Rattle.table_model.specs.declared.line.Answer.TheVariants as answers
use Rattle.table_model.specs.declared.line.Refusal.{Refusal}
use Rattle.table_model.specs.declared.line.RowPair.{RowPair}
use Rattle.table_model.specs.declared.line.Refusal.TheVariants as refusals
use Rattle.step_tables.specs.Facts.{Fact}
use Rattle.step_tables.specs.Facts as facts
use Rattle.step_tables.specs.Lines.{answer_of, refusal_of}
use Rattle.step_tables.specs.Messages.{Luck, Send}
use Rattle.step_tables.specs.Messages as messages
use Rattle.step_tables.specs.ClientMoves.{ClientDisk, ClientTask, Client, ClientStep, ClientMove, Shape, Opens, Closes, Conflicts, Work, Crash, Start, client_step, no_shape, quiet, is_cut_off, kept_out, table_at, seen}
use Rattle.client_node.specs.declared.fault.CallFault.{CallFault}
use Rattle.client_node.specs.declared.fault.CallFault.TheVariants as call
use Rattle.client_node.specs.declared.node.ClientNode.{ClientNode}
use Rattle.client_node.specs.Node.{IsClient, IsNode, has_task, HasPlansBelow}
use Rattle.client_node.specs.Calls.{IsBehind, Stays, Works, named}
use Rattle.client_node.specs.Does.{Does, IsOfNode, refusal_in, step_with}
use Rattle.client_node.specs.Linked.{linked_step, phased_step, unless_kept}
use Rattle.client_node.specs.Phases.{is_open}
use Rattle.client_node.specs.Starts.{Starts}
use Rattle.world_tables.specs.World.{next_write, tasks_in, packets_from, chosen_of}
use Rattle.stab_base.specs.declared.node.Node.TheVariants as nodes
use Rattle.journal_host.specs.declared.asking.Ask.{Ask}
use Rattle.journal_host.specs.declared.asking.Ask.TheVariants as asks
use Rattle.journal_host.specs.declared.asking.Request.{Request}
use Rattle.journal_host.specs.declared.asking.Request.TheVariants as requests
use Rattle.journal_host.specs.declared.fault.ClientFault.{ClientFault}
use Rattle.journal_host.specs.declared.fault.ClientFault.TheVariants as faults
use Rattle.journal_host.specs.declared.out.ClientOut.{ClientOut}
use Rattle.journal_host.specs.Asks.{move_of, asked_by, FitsDisk, as_answer, refused_as, answered_as}
use Rattle.journal_host.specs.Calls.{IsNumberCause}
use Rattle.journal_host.specs.Holds.{IsHosted, outs_in, AreSameOuts, said, node_faults}
use Rattle.journal_host.specs.Steps.{HasMade, HasDropped, Replies, IsTelling, HasTold, IsMadeOpen, IsListing, IsFallen, IsDropped, IsStarted, IsNotStarted, IsDeviceFault, HasNodeCause, HasAnswerCause, outbox_at}
use Rattle.journal_host.proofs.Replying.{same_err, replies_any}
use Rattle.journal_host.proofs.Refusals.{RefusesOnly, kept_only, write_only, edit_only, show_only, sum_only, sync_only, next_only, phase_only, conflicts_only, resolve_only, all_only, alter_only, take_only}

-- ---- what it is asked for, it refuses and does nothing else

move_only : (c : ℕ) (shape : Shape) (d : ClientDisk) (tasks : List ClientTask) (ask : Ask) → RefusesOnly d tasks (client_step c shape (record { disk = d; agenda = Some tasks }) (move_of ask))
move_only c shape d tasks (asks.Write table row content) = write_only c shape d tasks table row content (table_at (seen d) table)
move_only c shape d tasks (asks.Edit table row edit) = edit_only c shape d tasks table row edit (table_at (seen d) table)
move_only c shape d tasks (asks.Show table row) = show_only d tasks row (table_at (seen d) table)
move_only c shape d tasks (asks.Sum table row) = sum_only d tasks row (table_at (seen d) table)
move_only c shape d tasks (asks.Sync table) = sync_only c shape d tasks table (table_at (seen d) table)
move_only c shape d tasks (asks.Pull table) = next_only c shape d tasks table [] [] (table_at (seen d) table)
move_only c shape d tasks (asks.BeginCr table) = phase_only d tasks (table_at (seen d) table)
move_only c shape d tasks (asks.EndCr table) = phase_only d tasks (table_at (seen d) table)
move_only c shape d tasks (asks.Resolve table row version choice) = resolve_only c shape d tasks table row version choice (table_at (seen d) table)

pub asked_only : (c : ℕ) (shape : Shape) (d : ClientDisk) (tasks : List ClientTask) (request : Request)
    → RefusesOnly d tasks (client_step c shape (record { disk = d; agenda = Some tasks }) (asked_by (Some (record { disk = d; agenda = Some tasks })) request))
asked_only c shape d tasks (requests.Ask ask) = move_only c shape d tasks ask
asked_only c shape d tasks (requests.Deliver message) = take_only c shape d tasks _
asked_only c shape d tasks (requests.Resolvable table by) = all_only shape d tasks by (table_at (seen d) table)
asked_only c shape d tasks (requests.ResolveBy table row version by) =
    resolve_only c shape d tasks table row version (chosen_of by row (Some (record { disk = d; agenda = Some tasks })) table) (table_at (seen d) table)
asked_only c shape d tasks (requests.AskWhole table tears rows) = next_only c shape d tasks table tears rows (table_at (seen d) table)
asked_only c shape d tasks (requests.Open table schema) = alter_only c shape d tasks table (Opens schema)
asked_only c shape d tasks (requests.Close table) = alter_only c shape d tasks table Closes

-- the same of one whose link may be down
linked_only : (up : Bool) (c : ℕ) (shape : Shape) (d : ClientDisk) (tasks : List ClientTask) (move : ClientMove)
    → RefusesOnly d tasks (client_step c shape (record { disk = d; agenda = Some tasks }) move)
    → RefusesOnly d tasks (linked_step up c shape (record { disk = d; agenda = Some tasks }) move)
linked_only up c shape d tasks move only = either (not up && is_cut_off c shape (record { disk = d; agenda = Some tasks }) move)
  where
    either : (b : Bool) → RefusesOnly d tasks (if b then quiet d (Some tasks) (facts.Refuses facts.Offline) else client_step c shape (record { disk = d; agenda = Some tasks }) move)
    either true = λ r is. (ap (λ (a : facts.Answer). quiet d (Some tasks) a) is, λ bad. absurd cc)
    either false = only

-- and that resolves the conflicts of some tables
phased_only : (phase : ℕ → Bool) (up : Bool) (c : ℕ) (shape : Shape) (d : ClientDisk) (tasks : List ClientTask) (move : ClientMove)
    → RefusesOnly d tasks (client_step c shape (record { disk = d; agenda = Some tasks }) move)
    → RefusesOnly d tasks (phased_step phase up c shape (record { disk = d; agenda = Some tasks }) move)
phased_only phase up c shape d tasks move only =
    either (kept_out phase move (client_step c shape (record { disk = d; agenda = Some tasks }) move).answer) refl
  where
    either : (o : Option facts.Refusal) → kept_out phase move (client_step c shape (record { disk = d; agenda = Some tasks }) move).answer ≡ o
        → RefusesOnly d tasks (unless_kept (record { disk = d; agenda = Some tasks }) o (linked_step up c shape (record { disk = d; agenda = Some tasks }) move))
    either None is = linked_only up c shape d tasks move only
    either (Some r) is = kept_only phase move (client_step c shape (record { disk = d; agenda = Some tasks }) move).answer d tasks r is

module _ {D : Type 0} (state : D → DiskState) where
  pub up_tasks : (node : ClientNode D) (d : ClientDisk) (agenda : Option (List ClientTask)) → IsClient state node (record { disk = d; agenda = agenda }) → node.is_up ≡ true
      → (tasks : List ClientTask) × (agenda ≡ Some tasks)
  up_tasks node d None t up = let down = t.at.0 in absurd cc
  up_tasks node d (Some tasks) t up = (tasks, refl)

  pub down_none : (node : ClientNode D) (d : ClientDisk) (agenda : Option (List ClientTask)) → IsClient state node (record { disk = d; agenda = agenda }) → node.is_up ≡ false → agenda ≡ None
  down_none node d None t down = refl
  down_none node d (Some tasks) t down = let up = t.at.0 in absurd cc

  pub shape_of : (node : ClientNode D) → (shape : Shape) × IsOfNode state node shape
  shape_of node = (record no_shape { plan = _ }, record { plan = refl })

  module _ (cut : Bool) (c : ℕ) (s : Client) (old : ClientNode D) (h : IsHosted state cut c s old) where
    pub hosted_node : IsNode state old
    hosted_node = (s, h.client)

    -- what it tells
    pub telling : (mid : ClientNode D) (step : ClientStep) → IsBehind state old mid step → IsTelling state cut c step mid
    telling mid step b = record {
      client = b.client;
      number = b.same.number ∙ h.number;
      linked = b.same.linked ∙ h.linked;
      told = b.told ∙ ap (λ (l : List Fact). l ++ step.facts) h.told;
      sent = b.sent ∙ ap (λ (l : List Send). l ++ step.sends) h.sent;
    }

    pub telling_none : (mid : ClientNode D) (d : ClientDisk) (agenda : Option (List ClientTask)) (a : facts.Answer) → Stays state old mid (record { disk = d; agenda = agenda })
        → IsTelling state cut c (quiet d agenda a) mid
    telling_none mid d agenda a k = record {
      client = k.client;
      number = k.same.number ∙ h.number;
      linked = k.same.linked ∙ h.linked;
      told = k.told ∙ h.told;
      sent = k.sent ∙ h.sent;
    }

    pub step_is : (shape : Shape) (move : ClientMove) → step_with old shape s move ≡ phased_step (is_open old) (not cut) c shape s move
    step_is shape move =
        ap (λ (up : Bool). phased_step (is_open old) up old.number shape s move) h.linked ∙ ap (λ (n : ℕ). phased_step (is_open old) (not cut) n shape s move) h.number

  -- one that tells nothing
  pub told_none : (cut : Bool) (c : ℕ) (d : ClientDisk) (agenda : Option (List ClientTask)) (a : facts.Answer) (node : ClientNode D) (before after : List ClientOut)
      → HasTold state cut c (quiet d agenda a) node before after → IsHosted state cut c (record { disk = d; agenda = agenda }) node × AreSameOuts before after
  told_none cut c d agenda a node before after k = (k.behind, λ owners. k.outs owners ∙ append-nil (outs_in owners before))

-- ---- calls

module _ {D : Type 0} (state : D → DiskState) (images : D → ℕ → List ℕ → Type 0) (cut : Bool) (c : ℕ) (d : ClientDisk) (tasks : List ClientTask) (move : ClientMove)
    (only : (shape : Shape) → RefusesOnly d tasks (client_step c shape (record { disk = d; agenda = Some tasks }) move))
    (old mid new : ClientNode D) (before after : List ClientOut) (h : IsHosted state cut c (record { disk = d; agenda = Some tasks }) old)
    (tells : (step : ClientStep) → IsTelling state cut c step mid → HasTold state cut c step new before after) where
  abbrev s : Client
  s = record { disk = d; agenda = Some tasks }

  made : (shape : Shape) (answer : Answer) → IsBehind state old mid (step_with old shape s move) → (step_with old shape s move).answer ≡ answer_of answer
      → IsMadeOpen state (is_open old) cut c s move new before after answer
  made shape answer b is = let same = step_is state cut c s old h shape move in record {
    shape = shape;
    told = tells (phased_step (is_open old) (not cut) c shape s move)
        (telling state cut c s old h mid (phased_step (is_open old) (not cut) c shape s move) (subst (λ (x : ClientStep). IsBehind state old mid x) same b));
    answer_is = ap (λ (x : ClientStep). x.answer) (sym same) ∙ is;
  }

  -- a refusal is the step of its move
  refused : (shape : Shape) (r : Refusal) → Stays state old mid s → (step_with old shape s move).answer ≡ facts.Refuses (refusal_of r)
      → IsMadeOpen state (is_open old) cut c s move new before after (answers.Refused r)
  refused shape r k is =
      let same = step_is state cut c s old h shape move in
      let here : (phased_step (is_open old) (not cut) c shape s move).answer ≡ facts.Refuses (refusal_of r) = ap (λ (x : ClientStep). x.answer) (sym same) ∙ is in
      let does = phased_only (is_open old) (not cut) c shape d tasks move (only shape) (refusal_of r) here in
      record {
        shape = shape;
        told = tells (phased_step (is_open old) (not cut) c shape s move)
            (subst (λ (x : ClientStep). IsTelling state cut c x mid) (sym does.0) (telling_none state cut c s old h mid d (Some tasks) (facts.Refuses (refusal_of r)) k));
        answer_is = here;
      }

  fallen : Stays state old mid (record { disk = d; agenda = None }) → IsFallen state cut c s new before after (answers.Refused refusals.NoDevice)
  fallen k = record { told = tells (client_step c no_shape s (Crash messages.FailedBefore)) (crash_tells tasks); answer_is = refl }
    where
      crash_tells : (ts : List ClientTask) → IsTelling state cut c (client_step c no_shape (record { disk = d; agenda = Some ts }) (Crash messages.FailedBefore)) mid
      crash_tells [] = telling_none state cut c s old h mid d None facts.Done k
      crash_tells (task ∷ more) = telling_none state cut c s old h mid d None facts.Done k

  module _ (done_so : Answer → Type 0) where
    -- one that refused, or fell
    badly : (e : CallFault) → Replies state images s move old mid done_so (Err e)
        → IfOk (refused_as e) (λ answer. IsMadeOpen state (is_open old) cut c s move new before after answer ⊎ IsFallen state cut c s new before after answer)
    badly e k = by e (k.kept) (k.fallen) (λ r is. k.refused (refusal_of r) (shape_of state old).0 is (shape_of state old).1)
      where
        by : (e : CallFault) → ((IsErrOf {T = Answer} (Err e) call.Disk → ⊥) → Stays state old mid s)
            → (IsErrOf {T = Answer} (Err e) call.Disk → Stays state old mid (record { disk = d; agenda = None }))
            → ((r : Refusal) → refusal_in e ≡ Some (refusal_of r) → (step_with old (shape_of state old).0 s move).answer ≡ facts.Refuses (refusal_of r))
            → IfOk (refused_as e) (λ answer. IsMadeOpen state (is_open old) cut c s move new before after answer ⊎ IsFallen state cut c s new before after answer)
        by call.NoTable kept fell was = inl (refused (shape_of state old).0 refusals.NoTable (kept (λ bad. absurd cc)) (was refusals.NoTable refl))
        by (call.BadCell column) kept fell was = inl (refused (shape_of state old).0 (refusals.BadCell column) (kept (λ bad. absurd cc)) (was (refusals.BadCell column) refl))
        by (call.BadObject column len) kept fell was = inl (refused (shape_of state old).0 (refusals.BadObject column len) (kept (λ bad. absurd cc)) (was (refusals.BadObject column len) refl))
        by (call.RowTooLarge len) kept fell was = inl (refused (shape_of state old).0 (refusals.RowTooLarge len) (kept (λ bad. absurd cc)) (was (refusals.RowTooLarge len) refl))
        by (call.TooManyChunks count) kept fell was = inl (refused (shape_of state old).0 (refusals.TooManyChunks count) (kept (λ bad. absurd cc)) (was (refusals.TooManyChunks count) refl))
        by call.NoRow kept fell was = inl (refused (shape_of state old).0 refusals.NoRow (kept (λ bad. absurd cc)) (was refusals.NoRow refl))
        by (call.Busy with) kept fell was = inl (refused (shape_of state old).0 (refusals.Busy with) (kept (λ bad. absurd cc)) (was (refusals.Busy with) refl))
        by call.NotInResolution kept fell was = inl (refused (shape_of state old).0 refusals.NotInResolution (kept (λ bad. absurd cc)) (was refusals.NotInResolution refl))
        by call.InResolution kept fell was = inl (refused (shape_of state old).0 refusals.InResolution (kept (λ bad. absurd cc)) (was refusals.InResolution refl))
        by call.NoConflict kept fell was = inl (refused (shape_of state old).0 refusals.NoConflict (kept (λ bad. absurd cc)) (was refusals.NoConflict refl))
        by (call.Moved seen now) kept fell was = inl (refused (shape_of state old).0 (refusals.Moved seen now) (kept (λ bad. absurd cc)) (was (refusals.Moved seen now) refl))
        by (call.Outstanding number) kept fell was = inl (refused (shape_of state old).0 (refusals.Outstanding number) (kept (λ bad. absurd cc)) (was (refusals.Outstanding number) refl))
        by (call.Conflicted version) kept fell was = inl (refused (shape_of state old).0 (refusals.Conflicted version) (kept (λ bad. absurd cc)) (was (refusals.Conflicted version) refl))
        by call.Offline kept fell was = inl (refused (shape_of state old).0 refusals.Offline (kept (λ bad. absurd cc)) (was refusals.Offline refl))
        by (call.Spent last) kept fell was = tt
        by call.Disk kept fell was = inr (fallen (fell refl))
        by call.Memory kept fell was = tt

  pub called : (r : Result Answer CallFault) → Replies state images s move old mid (HasMade state s move old mid) r
      → IfOk (answered_as r) (λ answer. IsMadeOpen state (is_open old) cut c s move new before after answer ⊎ IsFallen state cut c s new before after answer)
  called (Ok answer) k = let x = k.done in inl (made x.0 answer x.2 x.3)
  called (Err e) k = badly (HasMade state s move old mid) e k

  pub dropped : (r : Result Answer CallFault) → Replies state images s move old mid (HasDropped state s old mid) r
      → IfOk (answered_as r) (λ answer. IsDropped state cut c s new before after answer
      ⊎ (IsMadeOpen state (is_open old) cut c s move new before after answer ⊎ IsFallen state cut c s new before after answer))
  dropped (Ok answer) k = inl (record { told = tells (quiet d (Some tasks) facts.Done) (telling_none state cut c s old h mid d (Some tasks) facts.Done k.done.1); answer_is = k.done.0 })
  dropped (Err e) k = weaker (refused_as e) (badly (HasDropped state s old mid) e k)
    where
      weaker : (a : Result Answer ClientFault) → IfOk a (λ answer. IsMadeOpen state (is_open old) cut c s move new before after answer ⊎ IsFallen state cut c s new before after answer)
          → IfOk a (λ answer. IsDropped state cut c s new before after answer ⊎ (IsMadeOpen state (is_open old) cut c s move new before after answer ⊎ IsFallen state cut c s new before after answer))
      weaker (Ok answer) k = inr k
      weaker (Err e) k = tt

  -- what a fault leaves
  pub kept : (done_so : Answer → Type 0) (r : Result Answer CallFault) → Replies state images s move old mid done_so r
      → OnErr (answered_as r) (IsHosted state cut c s new × AreSameOuts before after)
  kept done_so (Ok answer) k = tt
  kept done_so (Err e) k = by e k.kept
    where
      stays : Stays state old mid s → IsHosted state cut c s new × AreSameOuts before after
      stays k = told_none state cut c d (Some tasks) facts.Done new before after (tells (quiet d (Some tasks) facts.Done) (telling_none state cut c s old h mid d (Some tasks) facts.Done k))

      by : (e : CallFault) → ((IsErrOf {T = Answer} (Err e) call.Disk → ⊥) → Stays state old mid s) → OnErr (refused_as e) (IsHosted state cut c s new × AreSameOuts before after)
      by call.NoTable was = tt
      by (call.BadCell column) was = tt
      by (call.BadObject column len) was = tt
      by (call.RowTooLarge len) was = tt
      by (call.TooManyChunks count) was = tt
      by call.NoRow was = tt
      by (call.Busy with) was = tt
      by call.NotInResolution was = tt
      by call.InResolution was = tt
      by call.NoConflict was = tt
      by (call.Moved seen now) was = tt
      by (call.Outstanding number) was = tt
      by (call.Conflicted version) was = tt
      by call.Offline was = tt
      by (call.Spent last) was = stays (was (λ bad. absurd cc))
      by call.Disk was = tt
      by call.Memory was = stays (was (λ bad. absurd cc))

-- no number was left
pub spent_so : (n : ℕ) (s : Option Client) (r : Result Answer CallFault) → ((last : ℕ) → IsErrOf r (call.Spent last) → IsNumberCause n s faults.Spent) → IfErr (answered_as r) (IsNumberCause n s)
spent_so n s (Ok answer) k = tt
spent_so n s (Err call.NoTable) k = tt
spent_so n s (Err (call.BadCell column)) k = tt
spent_so n s (Err (call.BadObject column len)) k = tt
spent_so n s (Err (call.RowTooLarge len)) k = tt
spent_so n s (Err (call.TooManyChunks count)) k = tt
spent_so n s (Err call.NoRow) k = tt
spent_so n s (Err (call.Busy with)) k = tt
spent_so n s (Err call.NotInResolution) k = tt
spent_so n s (Err call.InResolution) k = tt
spent_so n s (Err call.NoConflict) k = tt
spent_so n s (Err (call.Moved seen now)) k = tt
spent_so n s (Err (call.Outstanding number)) k = tt
spent_so n s (Err (call.Conflicted version)) k = tt
spent_so n s (Err call.Offline) k = tt
spent_so n s (Err (call.Spent last)) k = k last refl
spent_so n s (Err call.Disk) k = tt
spent_so n s (Err call.Memory) k = tt

-- ---- causes

module _ {D : Type 0} (state : D → DiskState) (old mid new : ClientNode D) (devs : new.devs ≡ mid.devs) where
  same_faults : node_faults state new ≡ node_faults state mid
  same_faults = ap (λ x. node_faults state (record mid { devs = x })) devs

  -- a fault of a disk is the only one that is answered so
  fault_is : (r : Result Answer CallFault) → IfOk r (λ answer. answer ≢ answers.Refused refusals.NoDevice) → IsDeviceFault (answered_as r) → IsErrOf r call.Disk
  fault_is (Ok answer) other is = absurd (other cc)
  fault_is (Err call.NoTable) other is = absurd cc
  fault_is (Err (call.BadCell column)) other is = absurd cc
  fault_is (Err (call.BadObject column len)) other is = absurd cc
  fault_is (Err (call.RowTooLarge len)) other is = absurd cc
  fault_is (Err (call.TooManyChunks count)) other is = absurd cc
  fault_is (Err call.NoRow) other is = absurd cc
  fault_is (Err (call.Busy with)) other is = absurd cc
  fault_is (Err call.NotInResolution) other is = absurd cc
  fault_is (Err call.InResolution) other is = absurd cc
  fault_is (Err call.NoConflict) other is = absurd cc
  fault_is (Err (call.Moved seen now)) other is = absurd cc
  fault_is (Err (call.Outstanding number)) other is = absurd cc
  fault_is (Err (call.Conflicted version)) other is = absurd cc
  fault_is (Err call.Offline) other is = absurd cc
  fault_is (Err (call.Spent last)) other is = absurd cc
  fault_is (Err call.Disk) other is = refl
  fault_is (Err call.Memory) other is = absurd cc

  pub answer_cause : (r : Result Answer CallFault) → IfOk r (λ answer. answer ≢ answers.Refused refusals.NoDevice) → ((IsErrOf r call.Disk → ⊥) → node_faults state mid ≡ node_faults state old)
      → (IsErrOf r call.Disk → node_faults state old < node_faults state mid) → HasAnswerCause state old new (answered_as r)
  answer_cause r other counted cause = record {
    counted = λ none. same_faults ∙ counted (λ bad. none (ap answered_as bad));
    cause = λ is. subst (λ (n : ℕ). node_faults state old < n) (sym same_faults) (cause (fault_is r other is));
  }

  pub node_cause : {T : Type 0} (r : Result T CallFault) → HasNodeCause state old mid r → HasNodeCause state old new r
  node_cause r k = record {
    counted = λ none. same_faults ∙ k.counted none;
    cause = λ is. subst (λ (n : ℕ). node_faults state old < n) (sym same_faults) (k.cause is);
    only = k.only;
  }

-- what was made or dropped isn't answered by a device fault
module _ {D : Type 0} (state : D → DiskState) (images : D → ℕ → List ℕ → Type 0) (d : ClientDisk) (request : Request) (old mid new : ClientNode D) (devs : new.devs ≡ mid.devs) where
  other_made : (agenda : Option (List ClientTask)) (tasks : List ClientTask) → agenda ≡ Some tasks → (r : Result Answer CallFault)
      → Replies state images (record { disk = d; agenda = agenda }) (asked_by (Some (record { disk = d; agenda = agenda })) request) old mid (HasMade state (record { disk = d; agenda = agenda }) (asked_by (Some (record { disk = d; agenda = agenda })) request) old mid) r
      → IfOk r (λ answer. answer ≢ answers.Refused refusals.NoDevice)
  other_made agenda tasks is (Err e) k = tt
  other_made agenda tasks is (Ok answer) k = λ bad.
      let x = k.done in
      let same = ap (λ (o : Option (List ClientTask)). (step_with old x.0 (record { disk = d; agenda = o }) (asked_by (Some (record { disk = d; agenda = o })) request)).answer) (sym is) ∙ (x.3 ∙ ap answer_of bad) in
      (phased_only (is_open old) old.is_linked old.number x.0 d tasks (asked_by (Some (record { disk = d; agenda = Some tasks })) request) (asked_only old.number x.0 d tasks request) facts.NoDevice same).1 refl

  other_dropped : (s : Client) (r : Result Answer CallFault) → Replies state images s (asked_by (Some s) request) old mid (HasDropped state s old mid) r
      → IfOk r (λ answer. answer ≢ answers.Refused refusals.NoDevice)
  other_dropped it (Err e) k = tt
  other_dropped it (Ok answer) k = λ bad. let was = k.done.0 in absurd cc

  pub called_cause : (agenda : Option (List ClientTask)) (tasks : List ClientTask) → agenda ≡ Some tasks → (r : Result Answer CallFault)
      → Replies state images (record { disk = d; agenda = agenda }) (asked_by (Some (record { disk = d; agenda = agenda })) request) old mid (HasMade state (record { disk = d; agenda = agenda }) (asked_by (Some (record { disk = d; agenda = agenda })) request) old mid) r
      ⊎ Replies state images (record { disk = d; agenda = agenda }) (asked_by (Some (record { disk = d; agenda = agenda })) request) old mid (HasDropped state (record { disk = d; agenda = agenda }) old mid) r
      → HasAnswerCause state old new (answered_as r)
  called_cause agenda tasks is r (inl k) = answer_cause state old mid new devs r (other_made agenda tasks is r k) k.counted k.cause
  called_cause agenda tasks is r (inr k) = answer_cause state old mid new devs r (other_dropped (record { disk = d; agenda = agenda }) r k) k.counted k.cause

-- ---- a call of a node that is up

module _ {D : Type 0} (state : D → DiskState) (images : D → ℕ → List ℕ → Type 0) (cut : Bool) (c : ℕ) (request : Request) (old mid new : ClientNode D) (before after : List ClientOut)
    (tells : (step : ClientStep) → IsTelling state cut c step mid → HasTold state cut c step new before after) (r : Result Answer CallFault) where
  pub call_made : (d : ClientDisk) (agenda : Option (List ClientTask)) → IsHosted state cut c (record { disk = d; agenda = agenda }) old → old.is_up ≡ true
      → Replies state images (record { disk = d; agenda = agenda }) (asked_by (Some (record { disk = d; agenda = agenda })) request) old mid (HasMade state (record { disk = d; agenda = agenda }) (asked_by (Some (record { disk = d; agenda = agenda })) request) old mid) r
      → IfOk (answered_as r) (λ answer. IsMadeOpen state (is_open old) cut c (record { disk = d; agenda = agenda }) (asked_by (Some (record { disk = d; agenda = agenda })) request) new before after answer
      ⊎ IsFallen state cut c (record { disk = d; agenda = agenda }) new before after answer)
  call_made d None h up k = let down = h.client.at.0 in absurd cc
  call_made d (Some tasks) h up k = called state images cut c d tasks (asked_by (Some (record { disk = d; agenda = Some tasks })) request) (λ shape. asked_only c shape d tasks request) old mid new before after h tells r k

  pub call_dropped : (d : ClientDisk) (agenda : Option (List ClientTask)) → IsHosted state cut c (record { disk = d; agenda = agenda }) old → old.is_up ≡ true
      → Replies state images (record { disk = d; agenda = agenda }) (asked_by (Some (record { disk = d; agenda = agenda })) request) old mid (HasDropped state (record { disk = d; agenda = agenda }) old mid) r
      → IfOk (answered_as r) (λ answer. IsDropped state cut c (record { disk = d; agenda = agenda }) new before after answer
      ⊎ (IsMadeOpen state (is_open old) cut c (record { disk = d; agenda = agenda }) (asked_by (Some (record { disk = d; agenda = agenda })) request) new before after answer ⊎ IsFallen state cut c (record { disk = d; agenda = agenda }) new before after answer))
  call_dropped d None h up k = let down = h.client.at.0 in absurd cc
  call_dropped d (Some tasks) h up k = dropped state images cut c d tasks (asked_by (Some (record { disk = d; agenda = Some tasks })) request) (λ shape. asked_only c shape d tasks request) old mid new before after h tells r k

  pub call_kept : (d : ClientDisk) (agenda : Option (List ClientTask)) → IsHosted state cut c (record { disk = d; agenda = agenda }) old → old.is_up ≡ true
      → Replies state images (record { disk = d; agenda = agenda }) (asked_by (Some (record { disk = d; agenda = agenda })) request) old mid (HasMade state (record { disk = d; agenda = agenda }) (asked_by (Some (record { disk = d; agenda = agenda })) request) old mid) r
      ⊎ Replies state images (record { disk = d; agenda = agenda }) (asked_by (Some (record { disk = d; agenda = agenda })) request) old mid (HasDropped state (record { disk = d; agenda = agenda }) old mid) r
      → OnErr (answered_as r) (IsHosted state cut c (record { disk = d; agenda = agenda }) new × AreSameOuts before after)
  call_kept d None h up k = let down = h.client.at.0 in absurd cc
  call_kept d (Some tasks) h up (inl k) = kept state images cut c d tasks (asked_by (Some (record { disk = d; agenda = Some tasks })) request) (λ shape. asked_only c shape d tasks request) old mid new before after h tells (HasMade state (record { disk = d; agenda = Some tasks }) (asked_by (Some (record { disk = d; agenda = Some tasks })) request) old mid) r k
  call_kept d (Some tasks) h up (inr k) = kept state images cut c d tasks (asked_by (Some (record { disk = d; agenda = Some tasks })) request) (λ shape. asked_only c shape d tasks request) old mid new before after h tells (HasDropped state (record { disk = d; agenda = Some tasks }) old mid) r k

pub call_cause : {D : Type 0} (state : D → DiskState) (images : D → ℕ → List ℕ → Type 0) (request : Request) (old mid new : ClientNode D) → new.devs ≡ mid.devs
    → (d : ClientDisk) (agenda : Option (List ClientTask))
    → IsClient state old (record { disk = d; agenda = agenda }) → old.is_up ≡ true → (r : Result Answer CallFault)
    → Replies state images (record { disk = d; agenda = agenda }) (asked_by (Some (record { disk = d; agenda = agenda })) request) old mid (HasMade state (record { disk = d; agenda = agenda }) (asked_by (Some (record { disk = d; agenda = agenda })) request) old mid) r
    ⊎ Replies state images (record { disk = d; agenda = agenda }) (asked_by (Some (record { disk = d; agenda = agenda })) request) old mid (HasDropped state (record { disk = d; agenda = agenda }) old mid) r
    → HasAnswerCause state old new (answered_as r)
call_cause state images request old mid new devs d agenda t up r k = let some = up_tasks state old d agenda t up in called_cause state images d request old mid new devs agenda some.0 some.1 r k

-- in one of the two ways
pub either_way : {D : Type 0} (state : D → DiskState) (images : D → ℕ → List ℕ → Type 0) (request : Request) (s : Client) (old mid : ClientNode D) (r : Result Answer CallFault)
    → FitsDisk s.disk request ⊎ (FitsDisk s.disk request → ⊥) → (FitsDisk s.disk request → Replies state images s (asked_by (Some s) request) old mid (HasMade state s (asked_by (Some s) request) old mid) r)
    → ((FitsDisk s.disk request → ⊥) → Replies state images s (asked_by (Some s) request) old mid (HasDropped state s old mid) r)
    → Replies state images s (asked_by (Some s) request) old mid (HasMade state s (asked_by (Some s) request) old mid) r ⊎ Replies state images s (asked_by (Some s) request) old mid (HasDropped state s old mid) r
either_way state images request s old mid r (inl fits) made dropped = inl (made fits)
either_way state images request s old mid r (inr unfit) made dropped = inr (dropped unfit)

-- one plan more at most
pub either_plans : {D : Type 0} (state : D → DiskState) (images : D → ℕ → List ℕ → Type 0) (request : Request) (s : Client) (old mid : ClientNode D) (r : Result Answer CallFault)
    → Replies state images s (asked_by (Some s) request) old mid (HasMade state s (asked_by (Some s) request) old mid) r ⊎ Replies state images s (asked_by (Some s) request) old mid (HasDropped state s old mid) r
    → (n : ℕ) → HasPlansBelow state n old → HasPlansBelow state (suc n) mid
either_plans state images request s old mid r (inl k) = k.plans
either_plans state images request s old mid r (inr k) = k.plans

-- ---- the rows in conflict

module _ {D : Type 0} (state : D → DiskState) (images : D → ℕ → List ℕ → Type 0) (cut : Bool) (c : ℕ) (table : ℕ) (old mid new : ClientNode D) (before after : List ClientOut)
    (tells : (step : ClientStep) → IsTelling state cut c step mid → HasTold state cut c step new before after) where
  abbrev gives : List RowPair → Answer
  gives listed = answers.Number (length listed)

  -- these were listed, or none were, and listing_by refused or fell
  abbrev Lists : (d : ClientDisk) (agenda : Option (List ClientTask)) → (pairs none : List RowPair) → Answer → Type 0
  Lists d agenda pairs none answer = IsListing state (is_open old) cut c (record { disk = d; agenda = agenda }) table new before after pairs answer
      ⊎ ((pairs ≡ none) × (IsMadeOpen state (is_open old) cut c (record { disk = d; agenda = agenda }) (Conflicts table) new before after answer
      ⊎ IsFallen state cut c (record { disk = d; agenda = agenda }) new before after answer))

  module _ (d : ClientDisk) (tasks : List ClientTask) (h : IsHosted state cut c (record { disk = d; agenda = Some tasks }) old) where
    abbrev listing_by : Client
    listing_by = record { disk = d; agenda = Some tasks }

    listing : (shape : Shape) (pairs : List RowPair) → IsBehind state old mid (step_with old shape listing_by (Conflicts table)) → (step_with old shape listing_by (Conflicts table)).answer ≡ facts.Pairs pairs
        → IsListing state (is_open old) cut c listing_by table new before after pairs (gives pairs)
    listing shape pairs b is = let same = step_is state cut c listing_by old h shape (Conflicts table) in record {
      shape = shape;
      told = tells (phased_step (is_open old) (not cut) c shape listing_by (Conflicts table))
          (telling state cut c listing_by old h mid (phased_step (is_open old) (not cut) c shape listing_by (Conflicts table)) (subst (λ (x : ClientStep). IsBehind state old mid x) same b));
      pairs_are = ap (λ (x : ClientStep). x.answer) (sym same) ∙ is;
      answer_is = refl;
    }

    one_only : (shape : Shape) → RefusesOnly d tasks (client_step c shape listing_by (Conflicts table))
    one_only shape = conflicts_only d tasks (table_at (seen d) table)

    lists_up : (pairs none : List RowPair) (r : Result (List RowPair) CallFault) → Does state images listing_by (Conflicts table) (λ listed. facts.Pairs listed) old mid r → IfOk r (λ listed. pairs ≡ listed)
        → IfErr r (λ e. pairs ≡ none) → IfOk (answered_as (as_answer gives r)) (Lists d (Some tasks) pairs none)
    lists_up pairs none (Ok listed) k same kept = let x = k.done in
        subst (λ (l : List RowPair). Lists d (Some tasks) pairs none (gives l)) same
        (inl (listing x.0 pairs x.2 (subst (λ (l : List RowPair). (step_with old x.0 listing_by (Conflicts table)).answer ≡ facts.Pairs l) (sym same) x.3)))
    lists_up pairs none (Err e) k same kept = by (refused_as e)
        (badly state images cut c d tasks (Conflicts table) one_only old mid new before after h tells (λ answer. Unit {0}) e (replies_any state images listing_by old mid (Conflicts table) (λ listed. facts.Pairs listed) gives (Err e) k))
      where
        by : (a : Result Answer ClientFault) → IfOk a (λ answer. IsMadeOpen state (is_open old) cut c listing_by (Conflicts table) new before after answer ⊎ IsFallen state cut c listing_by new before after answer)
            → IfOk a (Lists d (Some tasks) pairs none)
        by (Ok answer) x = inr (kept, x)
        by (Err f) x = tt

  module _ (r : Result (List RowPair) CallFault) where
    pub call_lists : (d : ClientDisk) (agenda : Option (List ClientTask)) → IsHosted state cut c (record { disk = d; agenda = agenda }) old → old.is_up ≡ true → (pairs none : List RowPair)
        → Does state images (record { disk = d; agenda = agenda }) (Conflicts table) (λ listed. facts.Pairs listed) old mid r → IfOk r (λ listed. pairs ≡ listed) → IfErr r (λ e. pairs ≡ none)
        → IfOk (answered_as (as_answer gives r)) (Lists d agenda pairs none)
    call_lists d None h up pairs none k same kept = let down = h.client.at.0 in absurd cc
    call_lists d (Some tasks) h up pairs none k same kept = lists_up d tasks h pairs none r k same kept

    pub list_kept : (d : ClientDisk) (agenda : Option (List ClientTask)) → IsHosted state cut c (record { disk = d; agenda = agenda }) old → old.is_up ≡ true
        → Does state images (record { disk = d; agenda = agenda }) (Conflicts table) (λ listed. facts.Pairs listed) old mid r
        → OnErr (answered_as (as_answer gives r)) (IsHosted state cut c (record { disk = d; agenda = agenda }) new × AreSameOuts before after)
    list_kept d None h up k = let down = h.client.at.0 in absurd cc
    list_kept d (Some tasks) h up k = kept state images cut c d tasks (Conflicts table) (one_only d tasks h) old mid new before after h tells (λ answer. Unit {0}) (as_answer gives r)
        (replies_any state images (record { disk = d; agenda = Some tasks }) old mid (Conflicts table) (λ listed. facts.Pairs listed) gives r k)

pub list_cause : {D : Type 0} (state : D → DiskState) (images : D → ℕ → List ℕ → Type 0) (s : Client) (table : ℕ) (old mid new : ClientNode D) → new.devs ≡ mid.devs → (r : Result (List RowPair) CallFault)
    → Does state images s (Conflicts table) (λ listed. facts.Pairs listed) old mid r → HasAnswerCause state old new (answered_as (as_answer (λ (listed : List RowPair). answers.Number (length listed)) r))
list_cause state images s table old mid new devs r k =
    let x = replies_any state images s old mid (Conflicts table) (λ listed. facts.Pairs listed) (λ (listed : List RowPair). answers.Number (length listed)) r k in
    answer_cause state old mid new devs (as_answer (λ (listed : List RowPair). answers.Number (length listed)) r) (other r) x.counted x.cause
  where
    other : (r : Result (List RowPair) CallFault) → IfOk (as_answer (λ (listed : List RowPair). answers.Number (length listed)) r) (λ answer. answer ≢ answers.Refused refusals.NoDevice)
    other (Ok listed) = λ bad. absurd cc
    other (Err e) = tt

-- ---- a write

-- a node that has one is up
pub busy_up : {D : Type 0} (state : D → DiskState) (node : ClientNode D) (d : ClientDisk) (agenda : Option (List ClientTask)) → IsClient state node (record { disk = d; agenda = agenda })
    → has_task agenda ≡ true → node.is_up ≡ true
busy_up state node d None t busy = absurd cc
busy_up state node d (Some tasks) t busy = t.at.0

pub next_is : (agenda : Option (List ClientTask)) → named agenda ≡ next_write (tasks_in agenda)
next_is None = refl
next_is (Some []) = refl
next_is (Some (task ∷ tasks)) = refl

pub crash_silent : (c : ℕ) (d : ClientDisk) (agenda : Option (List ClientTask)) (luck : Luck)
    → ((client_step c no_shape (record { disk = d; agenda = agenda }) (Crash luck)).facts ≡ []) × ((client_step c no_shape (record { disk = d; agenda = agenda }) (Crash luck)).sends ≡ [])
crash_silent c d None luck = (refl, refl)
crash_silent c d (Some []) luck = (refl, refl)
crash_silent c d (Some (task ∷ tasks)) messages.Done = (refl, refl)
crash_silent c d (Some (task ∷ tasks)) messages.FailedBefore = (refl, refl)
crash_silent c d (Some (task ∷ tasks)) messages.FailedAfter = (refl, refl)

module _ {D : Type 0} (state : D → DiskState) (cut : Bool) (c : ℕ) where
  -- a step of a node whose number is the client's
  pub telling_at : (s : Client) (old mid : ClientNode D) (shape : Shape) (move : ClientMove) → IsHosted state cut c s old → IsBehind state old mid (client_step old.number shape s move)
      → IsTelling state cut c (client_step c shape s move) mid
  telling_at s old mid shape move h b = telling state cut c s old h mid (client_step c shape s move) (subst (λ (n : ℕ). IsBehind state old mid (client_step n shape s move)) h.number b)

  -- one that is up does it
  module _ (images : D → ℕ → List ℕ → Type 0) (old mid new : ClientNode D) (before after : List ClientOut)
      (tells : (step : ClientStep) → IsTelling state cut c step mid → HasTold state cut c step new before after)
      (s : Client) (h : IsHosted state cut c s old) where
    told_by_move : (move : ClientMove) → IsBehind state old mid (client_step old.number no_shape s move) → HasTold state cut c (client_step c no_shape s move) new before after
    told_by_move move b = tells (client_step c no_shape s move) (telling_at s old mid no_shape move h b)

    pub works_done : (r : Result Step CallFault) → Works state images s old mid r
        → IfOk r (λ step. HasTold state cut c (client_step c no_shape s (Work messages.Done)) new before after × (step ≡ next_write (tasks_in s.agenda)))
    works_done (Ok step) k = (told_by_move (Work messages.Done) k.done.0, k.done.1 ∙ next_is s.agenda)
    works_done (Err e) k = tt

    pub works_failed : (r : Result Step CallFault) → Works state images s old mid r → IsErrOf r call.Disk
        → HasTold state cut c (client_step c no_shape s (Work messages.FailedBefore)) new before after ⊎ HasTold state cut c (client_step c no_shape s (Work messages.FailedAfter)) new before after
    works_failed (Ok step) k is = absurd cc
    works_failed (Err e) k is = ⊎_elim (λ b. inl (told_by_move (Work messages.FailedBefore) b)) (λ b. inr (told_by_move (Work messages.FailedAfter) b)) k.failed

  -- one that has none does none
  pub idle_works : (d : ClientDisk) (agenda : Option (List ClientTask)) (node : ClientNode D) (outs : List ClientOut) → IsHosted state cut c (record { disk = d; agenda = agenda }) node
      → has_task agenda ≡ false
      → HasTold state cut c (client_step c no_shape (record { disk = d; agenda = agenda }) (Work messages.Done)) node outs outs × (steps.Idle ≡ next_write (tasks_in agenda))
  idle_works d (Some (task ∷ tasks)) node outs h idle = absurd cc
  idle_works d (Some []) node outs h idle = (record { behind = h; outs = λ owners. sym (append-nil (outs_in owners outs)) }, refl)
  idle_works d None node outs h idle = (record { behind = h; outs = λ owners. sym (append-nil (outs_in owners outs)) }, refl)

  -- one that is up goes on
  pub up_starts : (d : ClientDisk) (agenda : Option (List ClientTask)) (node : ClientNode D) (outs : List ClientOut) → IsHosted state cut c (record { disk = d; agenda = agenda }) node → node.is_up
      ≡ true
      → IsStarted state cut c (record { disk = d; agenda = agenda }) node outs outs answers.Done
  up_starts d None node outs h up = let down = h.client.at.0 in absurd cc
  up_starts d (Some tasks) node outs h up = record { shape = no_shape; told = record { behind = h; outs = λ owners. sym (append-nil (outs_in owners outs)) }; answer_is = refl }

  -- nor does one that is down crash
  pub down_crashes : (d : ClientDisk) (agenda : Option (List ClientTask)) (node : ClientNode D) (luck : Luck) → IsHosted state cut c (record { disk = d; agenda = agenda }) node → node.is_up ≡ false
      → HasTold state cut c (client_step c no_shape (record { disk = d; agenda = agenda }) (Crash luck)) node [] []
  down_crashes d (Some tasks) node luck h down = let up = h.client.at.0 in absurd cc
  down_crashes d None node luck h down = record { behind = h; outs = λ owners. refl }

  -- a crash tells nothing
  pub crashes_silent : (s : Client) (old new : ClientNode D) (luck : Luck) → IsHosted state cut c s old → IsBehind state old new (client_step old.number no_shape s (Crash luck))
      → HasTold state cut c (client_step c no_shape s (Crash luck)) new [] []
  crashes_silent s old new luck h b =
      let t = telling_at s old new no_shape (Crash luck) h b in
      let none = crash_silent c s.disk s.agenda luck in
      record {
        behind = record { client = t.client; number = t.number; linked = t.linked; told = t.told ∙ none.0; sent = t.sent ∙ none.1 };
        outs = λ owners. sym (ap (λ (l : List Fact). said (record (outbox_at owners c (client_step c no_shape s (Crash luck))) { facts = l } ∷ [])) none.0
            ∙ ap (λ (l : List Send). said (record { facts = []; packets = packets_from owners (nodes.Client c) l } ∷ [])) none.1);
      }

pub works_cause : {D : Type 0} (state : D → DiskState) (images : D → ℕ → List ℕ → Type 0) (s : Client) (old mid : ClientNode D) (r : Result Step CallFault) → Works state images s old mid r
    → HasNodeCause state old mid r
works_cause state images s old mid (Ok step) k = record { counted = λ is. k.counted; cause = λ bad. absurd cc; only = tt }
works_cause state images s old mid (Err e) k = record { counted = λ none. absurd (none (ap (λ (x : CallFault). Err x) k.only)); cause = λ is. k.cause; only = inl k.only }

-- ---- a start

module _ {D : Type 0} (state : D → DiskState) (images : D → ℕ → List ℕ → Type 0) (cut : Bool) (c : ℕ) (old mid new : ClientNode D) (before after : List ClientOut)
    (tells : (step : ClientStep) → IsTelling state cut c step mid → HasTold state cut c step new before after) (d : ClientDisk) (agenda : Option (List ClientTask))
    (h : IsHosted state cut c (record { disk = d; agenda = agenda }) old) (down : old.is_up ≡ false) where
  abbrev it : Client
  it = record { disk = d; agenda = agenda }

  stays_down : Stays state old mid it → IsHosted state cut c it new × AreSameOuts before after
  stays_down k = told_none state cut c d agenda facts.Done new before after (tells (quiet d agenda facts.Done) (telling_none state cut c it old h mid d agenda facts.Done k))

  pub start_answered : (r : Result (Unit {0}) CallFault) → Starts state images it old mid r
      → IfOk (answered_as (as_answer (λ x. answers.Done) r)) (λ answer. IsStarted state cut c it new before after answer ⊎ IsNotStarted state cut c it new before after answer)
  start_answered (Ok x) k = let b = k.started in inl (record { shape = b.0; told = tells (client_step c b.0 it Start) (telling_at state cut c it old mid b.0 Start h b.1); answer_is = refl })
  start_answered (Err call.Disk) k = let x = stays_down k.refused in inr (record { held = x.0; down = down_none state old d agenda h.client down; outs = x.1; answer_is = refl })
  start_answered (Err call.Memory) k = tt
  start_answered (Err call.NoTable) k = absurd (⊎_elim (λ is. absurd cc) (λ is. absurd cc) k.only)
  start_answered (Err (call.BadCell column)) k = absurd (⊎_elim (λ is. absurd cc) (λ is. absurd cc) k.only)
  start_answered (Err (call.BadObject column len)) k = absurd (⊎_elim (λ is. absurd cc) (λ is. absurd cc) k.only)
  start_answered (Err (call.RowTooLarge len)) k = absurd (⊎_elim (λ is. absurd cc) (λ is. absurd cc) k.only)
  start_answered (Err (call.TooManyChunks count)) k = absurd (⊎_elim (λ is. absurd cc) (λ is. absurd cc) k.only)
  start_answered (Err call.NoRow) k = absurd (⊎_elim (λ is. absurd cc) (λ is. absurd cc) k.only)
  start_answered (Err (call.Busy with)) k = absurd (⊎_elim (λ is. absurd cc) (λ is. absurd cc) k.only)
  start_answered (Err call.NotInResolution) k = absurd (⊎_elim (λ is. absurd cc) (λ is. absurd cc) k.only)
  start_answered (Err call.InResolution) k = absurd (⊎_elim (λ is. absurd cc) (λ is. absurd cc) k.only)
  start_answered (Err call.NoConflict) k = absurd (⊎_elim (λ is. absurd cc) (λ is. absurd cc) k.only)
  start_answered (Err (call.Moved seen now)) k = absurd (⊎_elim (λ is. absurd cc) (λ is. absurd cc) k.only)
  start_answered (Err (call.Outstanding number)) k = absurd (⊎_elim (λ is. absurd cc) (λ is. absurd cc) k.only)
  start_answered (Err (call.Conflicted version)) k = absurd (⊎_elim (λ is. absurd cc) (λ is. absurd cc) k.only)
  start_answered (Err call.Offline) k = absurd (⊎_elim (λ is. absurd cc) (λ is. absurd cc) k.only)
  start_answered (Err (call.Spent last)) k = absurd (⊎_elim (λ is. absurd cc) (λ is. absurd cc) k.only)

  pub start_kept : (r : Result (Unit {0}) CallFault) → Starts state images it old mid r
      → OnErr (answered_as (as_answer (λ x. answers.Done) r)) (IsHosted state cut c it new × AreSameOuts before after)
  start_kept (Ok x) k = tt
  start_kept (Err e) k = any (refused_as e) (stays_down k.refused)
    where
      any : {P : Type 0} (a : Result Answer ClientFault) → P → OnErr a P
      any (Ok answer) p = tt
      any (Err e) p = p

module _ {D : Type 0} (state : D → DiskState) (images : D → ℕ → List ℕ → Type 0) (it : Client) (old mid : ClientNode D) where
  pub start_cause : (new : ClientNode D) → new.devs ≡ mid.devs → (r : Result (Unit {0}) CallFault) → Starts state images it old mid r
      → HasAnswerCause state old new (answered_as (as_answer (λ x. answers.Done) r))
  start_cause new devs (Ok x) k = answer_cause state old mid new devs (Ok answers.Done) (λ bad. absurd cc) (λ is. k.counted (λ bad. absurd cc)) (λ bad. absurd cc)
  start_cause new devs (Err e) k = answer_cause state old mid new devs (Err e) tt (λ is. k.counted (λ bad. is (same_err e call.Disk bad))) (λ is. k.cause (same_err e call.Disk is))

  pub start_memory : (r : Result (Unit {0}) CallFault) → Starts state images it old mid r → IfErr (answered_as (as_answer (λ x. answers.Done) r)) (λ e. e ≡ faults.Memory)
  start_memory (Ok x) k = tt
  start_memory (Err call.Disk) k = tt
  start_memory (Err call.Memory) k = refl
  start_memory (Err call.NoTable) k = tt
  start_memory (Err (call.BadCell column)) k = tt
  start_memory (Err (call.BadObject column len)) k = tt
  start_memory (Err (call.RowTooLarge len)) k = tt
  start_memory (Err (call.TooManyChunks count)) k = tt
  start_memory (Err call.NoRow) k = tt
  start_memory (Err (call.Busy with)) k = tt
  start_memory (Err call.NotInResolution) k = tt
  start_memory (Err call.InResolution) k = tt
  start_memory (Err call.NoConflict) k = tt
  start_memory (Err (call.Moved seen now)) k = tt
  start_memory (Err (call.Outstanding number)) k = tt
  start_memory (Err (call.Conflicted version)) k = tt
  start_memory (Err call.Offline) k = tt
  start_memory (Err (call.Spent last)) k = absurd (⊎_elim (λ is. absurd cc) (λ is. absurd cc) k.only)
