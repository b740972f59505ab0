-- What a client makes of what it is asked about a table that it has closed, and a look at its disks before a call.
use Rattle.std.proofs.Common.{◌≡◌, ◌⊎◌, inl, inr, ℕ, ◌<◌, Bool, true, false, List, [], ◌∷◌, Option, Some, None, Result, Ok, Err, refl, sym, ap, ◌∙◌, subst, append-nil}
use Rattle.std.specs.Prelude.{not, IfOk, IfErr, OnOk, OnErr, IsErrOf, if◌then◌else◌}
use Rattle.std.specs.List.{list_any}
use Rattle.std.specs.Ordering.{nat_cmp}
use Rattle.std.specs.BTreeMap.{is_at}
use Rattle.disk_trait.specs.Calls.{DiskState}
use Rattle.table_model.specs.declared.line.Answer.{Answer}
use Rattle.table_model.specs.declared.line.Answer.TheVariants as answers
use Rattle.table_model.specs.declared.line.Refusal.TheVariants as refusals
use Rattle.table_model.specs.declared.line.RowPair.{RowPair}
use Rattle.step_tables.specs.Facts as facts
use Rattle.step_tables.specs.Lines.{answer_of}
use Rattle.step_tables.specs.Messages.{Message}
use Rattle.step_tables.specs.Messages as messages
use Rattle.step_tables.specs.Travels.{message_of}
use Rattle.step_tables.specs.ClientMoves.{TableDisk, ClientDisk, ClientTask, Client, ClientMove, ClientStep, Shape, Conflicts, Crash, Take, client_step, no_shape, quiet, table_at, seen}
use Rattle.client_node.specs.declared.fault.CallFault.{CallFault}
use Rattle.client_node.specs.declared.fault.CallFault.TheVariants as call
use Rattle.client_node.specs.declared.node.ClientNode.{ClientNode}
use Rattle.client_node.specs.Calls.{Stays}
use Rattle.client_node.specs.Closed.{closed_in}
use Rattle.client_node.specs.HeldRows.{OnlyReads}
use Rattle.client_node.specs.Linked.{phased_step}
use Rattle.client_node.specs.Node.{IsClient, IsNode, has_task, HasPlansBelow}
use Rattle.client_node.specs.Phases.{is_open, KeepsPhases}
use Rattle.client_node.proofs.PlanNumbers.{next_below}
use Rattle.world_tables.specs.World.{table_of_move, is_closed, is_closed_in, idle_answer, closed_answer}
use Rattle.journal_host.specs.declared.asking.Ask.{Ask}
use Rattle.journal_host.specs.declared.asking.Ask.TheVariants as asks
use Rattle.journal_host.specs.declared.asking.Request.{Request}
use Rattle.journal_host.specs.declared.asking.Request.TheVariants as requests
use Rattle.journal_host.specs.declared.fault.ClientFault.{ClientFault}
use Rattle.journal_host.specs.declared.out.ClientOut.{ClientOut}
use Rattle.journal_host.specs.Asks.{move_of, asked_by, ask_table, request_table, is_message, refused_as}
use Rattle.journal_host.specs.Calls.{IsNumberCause, if_open}
use Rattle.journal_host.specs.Holds.{IsHosted, outs_in, AreSameOuts, node_faults}
use Rattle.journal_host.specs.NodeCalls.{LooksAt}
use Rattle.journal_host.specs.Phases.{MovesPhases, answer_in, phase_behind}
use Rattle.journal_host.specs.Steps.{OnlyLooks, HasTold, IsStepped, IsMade, IsMadeOpen, IsListing, IsFallen, IsDropped, IsShut, IsDeviceFault, HasAnswerCause}
use Rattle.journal_host.proofs.Phased.{LeavesPhases, shut_leaves, fault_leaves, keeps_moves}

-- ---- what is answered then

pub idle_busy : (agenda : Option (List ClientTask)) (plan : ℕ) → true ≡ has_task agenda → (shape : Shape) × (idle_answer shape agenda ≡ facts.Refuses (facts.Busy plan))
idle_busy None plan busy = absurd cc
idle_busy (Some []) plan busy = absurd cc
idle_busy (Some (task ∷ more)) plan busy = (record no_shape { plan = plan }, refl)

pub idle_done : (agenda : Option (List ClientTask)) → false ≡ has_task agenda → (shape : Shape) × (idle_answer shape agenda ≡ facts.Done)
idle_done None idle = (no_shape, refl)
idle_done (Some []) idle = (no_shape, refl)
idle_done (Some (task ∷ more)) idle = absurd cc

-- a message is answered so, where its link is up
pub used_none : (up : Bool) (agenda : Option (List ClientTask)) (message : Message) (answer : facts.Answer) → up ≡ true → (shape : Shape) × (idle_answer shape agenda ≡ answer)
    → (shape : Shape) × (closed_answer shape (not up) agenda (Take message) ≡ answer)
used_none true agenda message answer is k = k
used_none false agenda message answer is k = absurd cc

pub used_offline : (up : Bool) (agenda : Option (List ClientTask)) (message : Message) → up ≡ false → (shape : Shape) × (closed_answer shape (not up) agenda (Take message) ≡ facts.Refuses facts.Offline)
used_offline false agenda message is = (no_shape, refl)
used_offline true agenda message is = absurd cc

pub message_shut : (cut : Bool) (agenda : Option (List ClientTask)) (o : Option Client) (request : Request) (answer : facts.Answer) → is_message request ≡ true
    → ((message : Message) → (shape : Shape) × (closed_answer shape cut agenda (Take message) ≡ answer)) → (shape : Shape) × (closed_answer shape cut agenda (asked_by o request) ≡ answer)
message_shut cut agenda o (requests.Deliver message) answer is k = k (message_of message)
message_shut cut agenda o other answer is k = absurd cc

ask_shut : (cut : Bool) (agenda : Option (List ClientTask)) (ask : Ask) → closed_answer no_shape cut agenda (move_of ask) ≡ facts.Refuses facts.NoTable
ask_shut cut agenda (asks.Write table row content) = refl
ask_shut cut agenda (asks.Edit table row edit) = refl
ask_shut cut agenda (asks.Show table row) = refl
ask_shut cut agenda (asks.Sum table row) = refl
ask_shut cut agenda (asks.Sync table) = refl
ask_shut cut agenda (asks.Pull table) = refl
ask_shut cut agenda (asks.BeginCr table) = refl
ask_shut cut agenda (asks.EndCr table) = refl
ask_shut cut agenda (asks.Resolve table row seen choice) = refl

pub call_shut : (cut : Bool) (agenda : Option (List ClientTask)) (o : Option Client) (request : Request) → is_message request ≡ false
    → (shape : Shape) × (closed_answer shape cut agenda (asked_by o request) ≡ facts.Refuses facts.NoTable)
call_shut cut agenda o (requests.Ask ask) is = (no_shape, ask_shut cut agenda ask)
call_shut cut agenda o (requests.Deliver message) is = absurd cc
call_shut cut agenda o (requests.Resolvable table by) is = (no_shape, refl)
call_shut cut agenda o (requests.ResolveBy table row seen by) is = (no_shape, refl)
call_shut cut agenda o (requests.AskWhole table tears rows) is = (no_shape, refl)
call_shut cut agenda o (requests.Open table schema) is = (no_shape, refl)
call_shut cut agenda o (requests.Close table) is = (no_shape, refl)

-- it is no number, and tells of no disk
abbrev IsPlain : facts.Answer → Type 0
IsPlain facts.Done = Unit {0}
IsPlain (facts.Refuses facts.NoDevice) = ⊥
IsPlain (facts.Refuses refusal) = Unit {0}
IsPlain other = ⊥

idle_plain : (shape : Shape) (agenda : Option (List ClientTask)) → IsPlain (idle_answer shape agenda)
idle_plain shape None = tt
idle_plain shape (Some []) = tt
idle_plain shape (Some (task ∷ more)) = tt

shut_plain : (shape : Shape) (cut : Bool) (agenda : Option (List ClientTask)) (move : ClientMove) → IsPlain (closed_answer shape cut agenda move)
shut_plain shape true agenda (Take message) = tt
shut_plain shape false agenda (Take message) = idle_plain shape agenda
shut_plain shape cut agenda other = tt

-- ---- which table it is

table_is : (ask : Ask) → table_of_move (move_of ask) ≡ ask_table ask
table_is (asks.Write table row content) = refl
table_is (asks.Edit table row edit) = refl
table_is (asks.Show table row) = refl
table_is (asks.Sum table row) = refl
table_is (asks.Sync table) = refl
table_is (asks.Pull table) = refl
table_is (asks.BeginCr table) = refl
table_is (asks.EndCr table) = refl
table_is (asks.Resolve table row seen choice) = refl

asked_table : (o : Option Client) (request : Request) → table_of_move (asked_by o request) ≡ request_table request
asked_table o (requests.Ask ask) = table_is ask
asked_table o (requests.Deliver message) = refl
asked_table o (requests.Resolvable table by) = refl
asked_table o (requests.ResolveBy table row seen by) = refl
asked_table o (requests.AskWhole table tears rows) = refl
asked_table o (requests.Open table schema) = refl
asked_table o (requests.Close table) = refl

closed_same : (o : Option TableDisk) → closed_in o ≡ is_closed_in o
closed_same None = refl
closed_same (Some table) = refl

pub shut_in : (s : Client) (o : Option Client) (request : Request) (table : ℕ) → request_table request ≡ Some table → (closed : Bool) → closed ≡ closed_in (table_at (seen s.disk) table)
    → IsShut s (asked_by o request) closed
shut_in s o request table there closed is =
    ap (λ (t : Option ℕ). is_closed s t) (asked_table o request ∙ there) ∙ sym (is ∙ closed_same (table_at (seen s.disk) table))

-- what is about no table isn't about a closed one
pub shut_none : (s : Client) (o : Option Client) (request : Request) → request_table request ≡ None → IsShut s (asked_by o request) false
shut_none s o request none = ap (λ (t : Option ℕ). is_closed s t) (asked_table o request ∙ none)

pub shut_listed : (s : Client) (table : ℕ) (closed : Bool) → closed ≡ closed_in (table_at (seen s.disk) table) → IsShut s (Conflicts table) closed
shut_listed s table closed is = sym (is ∙ closed_same (table_at (seen s.disk) table))

-- ---- what a look leaves

pub not_disk : {T : Type 0} (r : Result T CallFault) (x : T) → r ≡ Ok x → IsErrOf r call.Disk → ⊥
not_disk r x is bad = let no = sym is ∙ bad in cc

pub ok_so : {T : Type 0} (P : T → Type 0) (r : Result T CallFault) (x : T) → r ≡ Ok x → IfOk r P → P x
ok_so {T} P r x is k = subst (λ (y : Result T CallFault). IfOk y P) is k

pub on_so : {T : Type 0} (X : Type 0) (r : Result T CallFault) (x : T) → r ≡ Ok x → OnOk r X → X
on_so {T} X r x is k = subst (λ (y : Result T CallFault). OnOk y X) is k

-- what is answered to a fault of a look
refused_ok : (P : Answer → Type 0) (e : CallFault) → (e ≡ call.Disk) ⊎ (e ≡ call.Memory) → (e ≡ call.Disk → P (answers.Refused refusals.NoDevice)) → IfOk (refused_as e) P
refused_ok P e (inl is) k = subst (λ (x : CallFault). IfOk (refused_as x) P) (sym is) (k is)
refused_ok P e (inr is) k = subst (λ (x : CallFault). IfOk (refused_as x) P) (sym is) tt

refused_on : (X : Type 0) (e : CallFault) → (e ≡ call.Disk) ⊎ (e ≡ call.Memory) → (e ≡ call.Memory → X) → OnErr (refused_as e) X
refused_on X e (inl is) k = subst (λ (x : CallFault). OnErr (refused_as x) X) (sym is) tt
refused_on X e (inr is) k = subst (λ (x : CallFault). OnErr (refused_as x) X) (sym is) (k is)

module _ {D T : Type 0} (state : D → DiskState) where
  pub reads_looks : (images : D → ℕ → List ℕ → Type 0) (s : Client) (old new : ClientNode D) (r : Result T CallFault) → OnlyReads state images s old new r → OnlyLooks state s old new r
  reads_looks images s old new r k = record { kept = k.kept; fallen = k.fallen; counted = k.counted; cause = k.cause; only = k.only; plans = k.plans }

  -- what isn't asked stays
  pub looks_none : (s : Client) (node : ClientNode D) (x : T) → IsClient state node s → OnlyLooks state s node node (Ok x)
  looks_none s node x t = record {
    kept = λ no. record { client = t; told = refl; sent = refl; same = record { number = refl; linked = refl } };
    fallen = λ bad. absurd cc;
    counted = λ no. refl;
    cause = λ bad. absurd cc;
    only = tt;
    plans = λ n below. next_below state n node below;
  }

module _ {D : Type 0} (state : D → DiskState) (s : Client) (old mid : ClientNode D) where
  stays_then : (new : ClientNode D) (x y : Client) → Stays state old mid x → Stays state mid new y → Stays state old new y
  stays_then new x y k l = record {
    client = l.client;
    told = l.told ∙ k.told;
    sent = l.sent ∙ k.sent;
    same = record { number = l.same.number ∙ k.same.number; linked = l.same.linked ∙ k.same.linked };
  }

  -- a look that went well, and another
  pub looks_then : {S T : Type 0} (new : ClientNode D) (r : Result S CallFault) (x : S) → r ≡ Ok x → OnlyLooks state s old mid r → ((n : ℕ) → HasPlansBelow state n old → OnOk r (HasPlansBelow state n mid))
      → (q : Result T CallFault) → OnlyLooks state s mid new q → OnlyLooks state s old new q
  looks_then new r x is k below q l =
      let no = not_disk r x is in
      record {
        kept = λ n. stays_then new s s (k.kept no) (l.kept n);
        fallen = λ bad. stays_then new s (record { disk = s.disk; agenda = None }) (k.kept no) (l.fallen bad);
        counted = λ n. l.counted n ∙ k.counted no;
        cause = λ bad. subst (λ (n : ℕ). n < node_faults state new) (k.counted no) (l.cause bad);
        only = l.only;
        plans = λ n had. l.plans n (on_so (HasPlansBelow state n mid) r x is (below n had));
      }

  -- and no other
  pub looks_done : {S T : Type 0} (r : Result S CallFault) (x : S) → r ≡ Ok x → OnlyLooks state s old mid r → (y : T) → OnlyLooks state s old mid (Ok y)
  looks_done r x is k y =
      let no = not_disk r x is in
      record { kept = λ n. k.kept no; fallen = λ bad. absurd cc; counted = λ n. k.counted no; cause = λ bad. absurd cc; only = tt; plans = k.plans }

  -- one that fails
  pub looks_err : {S T : Type 0} (r : Result S CallFault) (e : CallFault) → r ≡ Err e → OnlyLooks state s old mid r → OnlyLooks {T = T} state s old mid (Err e)
  looks_err {S} {T} r e is k = record {
    kept = λ n. k.kept (λ bad. n (same_err bad));
    fallen = λ bad. k.fallen (as_err bad);
    counted = λ n. k.counted (λ bad. n (same_err bad));
    cause = λ bad. k.cause (as_err bad);
    only = subst (λ (y : Result S CallFault). IfErr y (λ f. (f ≡ call.Disk) ⊎ (f ≡ call.Memory))) is k.only;
    plans = k.plans;
  }
    where
      of_err : {X : Type 0} → IsErrOf {T = X} (Err e) call.Disk → e ≡ call.Disk
      of_err bad = cc

      same_err : IsErrOf r call.Disk → IsErrOf {T = T} (Err e) call.Disk
      same_err bad = ap (λ (f : CallFault). Err f) (of_err (sym is ∙ bad))

      as_err : IsErrOf {T = T} (Err e) call.Disk → IsErrOf r call.Disk
      as_err bad = is ∙ ap (λ (f : CallFault). Err f) (of_err bad)

  -- it is up
  pub up_still : {T : Type 0} (r : Result T CallFault) (x : T) → r ≡ Ok x → OnlyLooks state s old mid r → IsClient state old s → old.is_up ≡ true → mid.is_up ≡ true
  up_still r x is k t up = by s.agenda t (k.kept (not_disk r x is)).client
    where
      by : (agenda : Option (List ClientTask)) → IsClient state old (record s { agenda = agenda }) → IsClient state mid (record s { agenda = agenda }) → mid.is_up ≡ true
      by None t u = let down = t.at.0 in absurd cc
      by (Some tasks) t u = u.at.0

  -- and the same phases are open
  pub open_same : KeepsPhases old mid → mid.is_up ≡ true → is_open mid ≡ is_open old
  open_same keeps up = ap {B = ℕ → Bool} (λ (ks : List ℕ) (table : ℕ). list_any (is_at (nat_cmp table)) ks) (keeps up)

  pub phases_then : (new : ClientNode D) → KeepsPhases old mid → mid.is_up ≡ true → KeepsPhases mid new → KeepsPhases old new
  phases_then new keeps up more is = more is ∙ keeps up

  pub moves_then : (new : ClientNode D) (move : ClientMove) (answer : facts.Answer) → is_open mid ≡ is_open old → MovesPhases move answer mid new → MovesPhases move answer old new
  moves_then new move answer same k = subst (λ (phase : ℕ → Bool). new.is_up ≡ true → (table : ℕ) → is_open new table ≡ phase_behind move answer phase table) same k

  pub cause_then : (new : ClientNode D) (result : Result Answer ClientFault) → node_faults state mid ≡ node_faults state old → HasAnswerCause state mid new result → HasAnswerCause state old new result
  cause_then new result same k = record { counted = λ none. k.counted none ∙ same; cause = λ is. subst (λ (n : ℕ). n < node_faults state new) same (k.cause is) }

  -- a fault is answered so
  module _ {T : Type 0} (e : CallFault) (k : OnlyLooks {T = T} state s old mid (Err e)) where
    pub fault_cause : HasAnswerCause state old mid (refused_as e)
    fault_cause = by k.only k.counted k.cause
      where
        by : (e ≡ call.Disk) ⊎ (e ≡ call.Memory) → ((IsErrOf {T = T} (Err e) call.Disk → ⊥) → node_faults state mid ≡ node_faults state old)
            → (IsErrOf {T = T} (Err e) call.Disk → node_faults state old < node_faults state mid) → HasAnswerCause state old mid (refused_as e)
        by (inl is) counted cause = subst (λ (x : CallFault). HasAnswerCause state old mid (refused_as x)) (sym is)
            (record { counted = λ none. absurd (none refl); cause = λ bad. cause (ap (λ (x : CallFault). Err x) is) })
        by (inr is) counted cause = subst (λ (x : CallFault). HasAnswerCause state old mid (refused_as x)) (sym is)
            (record { counted = λ none. counted (λ bad. let no = sym is ∙ of_err bad in cc); cause = λ bad. absurd cc })
          where
            of_err : IsErrOf {T = T} (Err e) call.Disk → e ≡ call.Disk
            of_err bad = cc

    pub fault_spent : (n : ℕ) (o : Option Client) → IfErr (refused_as e) (IsNumberCause n o)
    fault_spent n o = by k.only
      where
        by : (e ≡ call.Disk) ⊎ (e ≡ call.Memory) → IfErr (refused_as e) (IsNumberCause n o)
        by (inl is) = subst (λ (x : CallFault). IfErr (refused_as x) (IsNumberCause n o)) (sym is) tt
        by (inr is) = subst (λ (x : CallFault). IfErr (refused_as x) (IsNumberCause n o)) (sym is) tt

    pub fault_no_number : (count : ℕ) → refused_as e ≡ Ok (answers.Number count) → ⊥
    fault_no_number count is = by k.only
      where
        by : (e ≡ call.Disk) ⊎ (e ≡ call.Memory) → ⊥
        by (inl same) = let no = ap refused_as (sym same) ∙ is in cc
        by (inr same) = let no = ap refused_as (sym same) ∙ is in cc

-- ---- a client of the world

module _ {D : Type 0} (state : D → DiskState) (cut : Bool) (c : ℕ) (s : Client) (old mid : ClientNode D) (h : IsHosted state cut c s old) where
  hosted_at : (x : Client) → Stays state old mid x → IsHosted state cut c x mid
  hosted_at x k = record { client = k.client; number = k.same.number ∙ h.number; linked = k.same.linked ∙ h.linked; told = k.told ∙ h.told; sent = k.sent ∙ h.sent }

  pub hosted_still : {T : Type 0} (r : Result T CallFault) (x : T) → r ≡ Ok x → OnlyLooks state s old mid r → IsHosted state cut c s mid
  hosted_still r x is k = hosted_at s (k.kept (not_disk r x is))

  module _ (before after : List ClientOut) (same : after ≡ before) where
    silent : (owners : ℕ → ℕ) → outs_in owners after ≡ outs_in owners before
    silent owners = ap (outs_in owners) same

    crash_told : (d : ClientDisk) (agenda : Option (List ClientTask)) → IsHosted state cut c (record { disk = d; agenda = None }) mid
        → HasTold state cut c (client_step c no_shape (record { disk = d; agenda = agenda }) (Crash messages.FailedBefore)) mid before after
    crash_told d None k = record { behind = k; outs = λ owners. silent owners ∙ sym (append-nil (outs_in owners before)) }
    crash_told d (Some []) k = record { behind = k; outs = λ owners. silent owners ∙ sym (append-nil (outs_in owners before)) }
    crash_told d (Some (task ∷ more)) k = record { behind = k; outs = λ owners. silent owners ∙ sym (append-nil (outs_in owners before)) }

    module _ {T : Type 0} (e : CallFault) (k : OnlyLooks {T = T} state s old mid (Err e)) where
      fallen : e ≡ call.Disk → IsFallen state cut c s mid before after (answers.Refused refusals.NoDevice)
      fallen is = record { told = crash_told s.disk s.agenda (hosted_at (record { disk = s.disk; agenda = None }) (k.fallen (ap (λ (x : CallFault). Err x) is))); answer_is = refl }

      pub fault_falls : (P : Answer → Type 0) → ((answer : Answer) → IsFallen state cut c s mid before after answer → P answer) → IfOk (refused_as e) P
      fault_falls P falls = refused_ok P e k.only (λ is. falls (answers.Refused refusals.NoDevice) (fallen is))

      pub fault_kept : OnErr (refused_as e) (IsHosted state cut c s mid × AreSameOuts before after)
      fault_kept = refused_on (IsHosted state cut c s mid × AreSameOuts before after) e k.only
          (λ is. (hosted_at s (k.kept (λ bad. let no = sym is ∙ of_err bad in cc)), silent))
        where
          of_err : IsErrOf {T = T} (Err e) call.Disk → e ≡ call.Disk
          of_err bad = cc

    -- a table that is closed is refused
    module _ (phase : ℕ → Bool) (move : ClientMove) where
      abbrev stepped : Bool → Shape → ClientStep
      stepped b shape = if b then quiet s.disk s.agenda (closed_answer shape cut s.agenda move) else phased_step phase (not cut) c shape s move

      pub shut_made : (answer : Answer) → IsShut s move true → IsHosted state cut c s mid → (shape : Shape) × (closed_answer shape cut s.agenda move ≡ answer_of answer)
          → IsMade state phase cut c s move mid before after answer
      shut_made answer is there k = subst (λ (b : Bool). IsStepped state cut c (stepped b) mid before after answer) (sym is)
          (record { shape = k.0; told = record { behind = there; outs = λ owners. silent owners ∙ sym (append-nil (outs_in owners before)) }; answer_is = k.1 })

  -- one that isn't is as where none looks
  module _ (new : ClientNode D) (before after : List ClientOut) (move : ClientMove) (same : is_open mid ≡ is_open old) (free : IsShut s move false) where
    pub open_made : (answer : Answer) → IsMadeOpen state (is_open mid) cut c s move new before after answer → IsMade state (is_open old) cut c s move new before after answer
    open_made answer k = subst (λ (b : Bool). IsStepped state cut c
        (λ (shape : Shape). if b then quiet s.disk s.agenda (closed_answer shape cut s.agenda move) else phased_step (is_open old) (not cut) c shape s move) new before after answer) (sym free)
        (subst (λ (phase : ℕ → Bool). IsMadeOpen state phase cut c s move new before after answer) same k)

    pub open_either : (answer : Answer) → IsMadeOpen state (is_open mid) cut c s move new before after answer ⊎ IsFallen state cut c s new before after answer
        → IsMade state (is_open old) cut c s move new before after answer ⊎ IsFallen state cut c s new before after answer
    open_either answer (inl k) = inl (open_made answer k)
    open_either answer (inr k) = inr k

    pub open_all : (r : Result Answer ClientFault) → IfOk r (λ answer. IsMadeOpen state (is_open mid) cut c s move new before after answer ⊎ IsFallen state cut c s new before after answer)
        → IfOk r (λ answer. IsMade state (is_open old) cut c s move new before after answer ⊎ IsFallen state cut c s new before after answer)
    open_all (Ok answer) k = open_either answer k
    open_all (Err e) k = tt

    pub open_dropped : (r : Result Answer ClientFault) → IfOk r (λ answer. IsDropped state cut c s new before after answer
        ⊎ (IsMadeOpen state (is_open mid) cut c s move new before after answer ⊎ IsFallen state cut c s new before after answer))
        → IfOk r (λ answer. IsDropped state cut c s new before after answer ⊎ (IsMade state (is_open old) cut c s move new before after answer ⊎ IsFallen state cut c s new before after answer))
    open_dropped (Ok answer) (inl k) = inl k
    open_dropped (Ok answer) (inr k) = inr (open_either answer k)
    open_dropped (Err e) k = tt

  module _ (new : ClientNode D) (before after : List ClientOut) (table : ℕ) (same : is_open mid ≡ is_open old) (free : IsShut s (Conflicts table) false) (pairs none : List RowPair) where
    pub open_lists : (r : Result Answer ClientFault) → IfOk r (λ answer. IsListing state (is_open mid) cut c s table new before after pairs answer
        ⊎ ((pairs ≡ none) × (IsMadeOpen state (is_open mid) cut c s (Conflicts table) new before after answer ⊎ IsFallen state cut c s new before after answer)))
        → IfOk r (λ answer. (IsShut s (Conflicts table) false × IsListing state (is_open old) cut c s table new before after pairs answer)
        ⊎ ((pairs ≡ none) × (IsMade state (is_open old) cut c s (Conflicts table) new before after answer ⊎ IsFallen state cut c s new before after answer)))
    open_lists (Ok answer) (inl k) = inl (free, subst (λ (phase : ℕ → Bool). IsListing state phase cut c s table new before after pairs answer) same k)
    open_lists (Ok answer) (inr k) = inr (k.0, open_either new before after (Conflicts table) same free answer k.1)
    open_lists (Err e) k = tt

pub if_ok : {T E : Type 0} (P Q : T → Type 0) → ((x : T) → P x → Q x) → (r : Result T E) → IfOk r P → IfOk r Q
if_ok P Q f (Ok x) k = f x k
if_ok P Q f (Err e) k = tt

-- its link
pub cut_is : {D : Type 0} (state : D → DiskState) (cut : Bool) (c : ℕ) (s : Client) (node : ClientNode D) → IsHosted state cut c s node → (P : Bool → Type 0) → P (not node.is_linked) → P cut
cut_is state cut c s node h P k = by cut h.linked
  where
    by : (b : Bool) → node.is_linked ≡ not b → P b
    by true is = subst (λ (x : Bool). P (not x)) is k
    by false is = subst (λ (x : Bool). P (not x)) is k

-- ---- what is answered about a closed table

abbrev IsNumber : Result Answer ClientFault → ℕ → Type 0
IsNumber result count = result ≡ Ok (answers.Number count)

module _ {D : Type 0} (old mid : ClientNode D) (cut : Bool) (agenda : Option (List ClientTask)) (move : ClientMove) (answer : Answer)
    (k : (shape : Shape) × (closed_answer shape cut agenda move ≡ answer_of answer)) where
  pub shut_moves : KeepsPhases old mid → MovesPhases move (answer_of answer) old mid
  shut_moves keeps = keeps_moves old mid move (answer_of answer) (subst (λ (a : facts.Answer). LeavesPhases move a) k.1 (shut_leaves k.0 cut agenda move)) keeps

  plain : IsPlain (answer_of answer)
  plain = subst IsPlain k.1 (shut_plain k.0 cut agenda move)

  pub shut_no_number : (count : ℕ) → IsNumber (Ok answer) count → ⊥
  shut_no_number count is = subst (λ (a : Answer). IsPlain (answer_of a)) (same is) plain
    where
      same : IsNumber (Ok answer) count → answer ≡ answers.Number count
      same is = cc

  pub shut_cause : (state : D → DiskState) → node_faults state mid ≡ node_faults state old → HasAnswerCause state old mid (Ok answer)
  shut_cause state counted = record { counted = λ none. counted; cause = λ bad. absurd (subst (λ (a : Answer). IsPlain (answer_of a)) (same bad) plain) }
    where
      same : IsDeviceFault (Ok answer) → answer ≡ answers.Refused refusals.NoDevice
      same bad = cc

pub fault_moves : {D : Type 0} (old mid : ClientNode D) (move : ClientMove) (e : CallFault) → KeepsPhases old mid → MovesPhases move (answer_in (refused_as e)) old mid
fault_moves old mid move e keeps = keeps_moves old mid move (answer_in (refused_as e)) (fault_leaves move e) keeps

-- ---- what is held of an open table

closed_none : (o : Option TableDisk) → true ≡ closed_in o → if_open o ≡ None
closed_none None is = absurd cc
closed_none (Some table) is = ap (λ (b : Bool). if b then None else Some table) (sym is)

open_some : (o : Option TableDisk) → false ≡ closed_in o → if_open o ≡ o
open_some None is = refl
open_some (Some table) is = ap (λ (b : Bool). if b then None else Some table) (sym is)

-- A look whether a table is closed, and then at what is made of one that isn't, as a look at the table.
module _ {D T : Type 0} (state : D → DiskState) (images : D → ℕ → List ℕ → Type 0) (table : ℕ) (made_of : Option TableDisk → T) (old mid : ClientNode D) (r : Result Bool CallFault)
    (held : (s : Client) → IsClient state old s → IfOk r (λ closed. closed ≡ closed_in (table_at (seen s.disk) table)))
    (reads : (s : Client) → IsClient state old s → OnlyReads state images s old mid r) (keeps : KeepsPhases old mid) where
  seen_so : (s : Client) → IsClient state old s → OnlyLooks state s old mid r
  seen_so s t = reads_looks state images s old mid r (reads s t)

  pub look_fails : (e : CallFault) → r ≡ Err e → LooksAt {T = T} state table made_of old mid (Err e)
  look_fails e is = record { held = λ s t. tt; looks = λ s t. looks_err state s old mid {T = T} r e is (seen_so s t); phases = keeps }

  pub look_closed : r ≡ Ok true → LooksAt state table made_of old mid (Ok (made_of None))
  look_closed is = record {
    held = λ s t. sym (ap made_of (closed_none (table_at (seen s.disk) table) (ok_so (λ closed. closed ≡ closed_in (table_at (seen s.disk) table)) r true is (held s t))));
    looks = λ s t. looks_done state s old mid r true is (seen_so s t) (made_of None);
    phases = keeps;
  }

  module _ (is : r ≡ Ok false) (node : IsNode state old) (up : old.is_up ≡ true) where
    pub still_up : mid.is_up ≡ true
    still_up = up_still state node.0 old mid r false is (seen_so node.0 node.1) node.1 up

    pub look_open : (new : ClientNode D) (q : Result T CallFault) → ((n : ℕ) → HasPlansBelow state n old → OnOk r (HasPlansBelow state n mid))
        → ((s : Client) → IsClient state mid s → IfOk q (λ found. found ≡ made_of (table_at (seen s.disk) table)))
        → ((s : Client) → IsClient state mid s → OnlyReads state images s mid new q) → KeepsPhases mid new → LooksAt state table made_of old new q
    look_open new q plans found more keep = record {
      held = λ s t. subst (λ (o : Option TableDisk). IfOk q (λ x. x ≡ made_of o))
          (sym (open_some (table_at (seen s.disk) table) (ok_so (λ closed. closed ≡ closed_in (table_at (seen s.disk) table)) r false is (held s t)))) (found s (there s t));
      looks = λ s t. looks_then state s old mid new r false is (seen_so s t) plans q (reads_looks state images s mid new q (more s (there s t)));
      phases = phases_then state node.0 old mid new keeps still_up keep;
    }
      where
        there : (s : Client) → IsClient state old s → IsClient state mid s
        there s t = ((seen_so s t).kept (not_disk r false is)).client
