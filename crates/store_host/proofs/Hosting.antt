-- A table behind a step of its node, and what it tells put behind what was told.
use Rattle.std.proofs.Common.{◌≡◌, ◌⊎◌, inl, inr, ⊎_elim, ℕ, ◌<◌, ◌++◌, length, map, Bool, true, false, cond, List, [], ◌∷◌, Option, Some, None, Result, Ok, Err, refl, sym, ◌∙◌, ap, subst, append-nil}
use Rattle.std.proofs.lemmas.Result.{on_ok_weaker, on_err_weaker}
use Rattle.std.specs.Prelude.{◌&&◌, filter, ◌==◌, nat_lt, ◌↔◌, OnOk, OnErr, IfErr, IsErrOf, if◌then◌else◌}
use Rattle.std.proofs.lemmas.List.{map-append}
use Rattle.disk_trait.specs.Calls.{DiskState}
use Rattle.row_value.specs.declared.schema.Schema.{Schema}
use Rattle.table_model.specs.declared.entry.Entry.{Entry}
use Rattle.step_tables.specs.Facts.{Fact}
use Rattle.stab_base.specs.declared.node.Node.{Node}
use Rattle.row_value.specs.declared.schema.Scheme.{Scheme}
use Rattle.step_tables.specs.Messages.{Luck, Send, Request, Pair}
use Rattle.step_tables.specs.Store.{current_of}
use Rattle.step_tables.specs.Travels.{message_of}
use Rattle.step_tables.specs.declared.message.Message.{Message}
use Rattle.step_tables.specs.Messages as messages
use Rattle.step_tables.specs.StoreMoves.{StoreDisk, StoreTask, TableStore, StoreStep, Take, Start, crashed, worked, store_step, StoreMove, SidePut, Place, placed}
use Rattle.step_tables.specs.StoreMoves.{takes, quiet, accepting, item_for, sending, responded, unaccepted, keeps_there, judged, decided, asked, version_of, version_at, taken, yours_in}
use Rattle.step_tables.specs.Chunks.{is_spelled}
use Rattle.store_node.specs.declared.node.TableNode.{TableNode}
use Rattle.stab_base.specs.declared.node.Node.TheVariants as nodes
use Rattle.store_node.specs.declared.node.StoreOut.{StoreOut}
use Rattle.step_tables.specs.Travels.{send_of}
use Rattle.store_node.specs.Due.{fact_of}
use Rattle.store_node.specs.Node.{IsTable, IsNode, IsSame, told_by, sent_by}
use Rattle.stab_base.specs.declared.step.Step.TheVariants as steps
use Rattle.stab_base.specs.declared.step.Step.{Step}
use Rattle.step_tables.specs.StoreMoves.{started, new_disk}
use Rattle.step_tables.specs.Facts as facts
use Rattle.disk_trait.specs.declared.fuse.FuseDisk.{FuseDisk}
use Rattle.store_commit.specs.declared.devs.TableDevs.{TableDevs}
use Rattle.store_node.specs.declared.fault.NodeFault.{NodeFault}
use Rattle.store_node.specs.declared.fault.NodeFault.TheVariants.{Busy, Spent, Disk as DiskFailed, Memory}
use Rattle.store_node.specs.declared.showing.ShownRow.{ShownRow}
use Rattle.store_node.specs.declared.showing.WholeRow.{WholeRow}
use Rattle.disk_trait.specs.Fuse.{behind, inner_of}
use Rattle.store_commit.specs.Standing.{RowsLeave}
use Rattle.table_model.specs.declared.table_state.TableState.{TableState}
use Rattle.store_node.specs.Node.{own_faults, has_task, HasBlankDisks, HasNoRows}
use Rattle.store_node.specs.Calls.{IsBehind, Declares, Starts, Stays, Shows, Gives, Delivers, IsAtWork, named, late, step_at, Places}
use Rattle.world_tables.specs.World.{Outbox, Packet, history_on, packets_from, next_step, tasks_in, declared_late, new_hosted, scheme_in, chunk_in, is_live_state}
use Rattle.world_tables.specs.World as world
use Rattle.store_host.specs.declared.hosted.Hosted.{Hosted}
use Rattle.store_host.specs.declared.hosted.TableOut.{TableOut}
use Rattle.store_host.specs.Holds.{IsHosted, IsUpAt, behind_step, outs_in, outbox_of, says_something}
use Rattle.store_host.specs.Steps.{IsTelling, HasTold, HasNodeCause, started_by, moved_at, outbox_at, IsBusy, HasTaken, HasNodeTakeCause, HasShown, HasGiven, HasPlaced, IsTakeFault, state_up}

-- ---- what says something

pub says_facts : (facts : List Fact) (packets : List Packet) → (length facts == 0) ≡ false → says_something (record { facts = facts; packets = packets }) ≡ true
says_facts [] packets some = absurd cc
says_facts (fact ∷ facts) packets some = refl

module _ {D : Type 0} (state : D → DiskState) (store : ℕ) (schema : Option Schema) (table : ℕ) (hosted : world.Hosted) where
  pub node_of : (it : Hosted D) → IsHosted state store schema table hosted it → IsNode state it.node
  node_of it h = (_, h.node)

  pub telling : (s : StoreStep) (old new : Hosted D) → IsHosted state store schema table hosted old → IsBehind state old.node new.node s
      → (made : Bool) → new.node.is_declared ≡ made → new.history ≡ old.history → IsTelling state store schema table (record hosted { made = made }) s new
  telling s old new h b made declared same = record {
    schema = h.schema ∙ ap Some (sym b.same.schema);
    number = b.same.table ∙ h.number;
    owner = b.same.store ∙ h.owner;
    node = b.table;
    made = declared;
    history = same ∙ h.history;
    told = b.told ∙ ap (λ (l : List Fact). l ++ s.facts) h.told;
    sent = b.sent ∙ ap (λ (l : List Send). l ++ s.sends) h.sent;
  }

  -- what a silent step tells is nothing
  pub silent : (s : StoreStep) (it : Hosted D) (outs : List TableOut) → IsTelling state store schema table hosted s it → s.facts ≡ [] → s.sends ≡ [] → HasTold state store schema table hosted s it outs outs
  silent s it outs t facts sends = record {
    behind = record {
      schema = t.schema;
      number = t.number;
      owner = t.owner;
      node = t.node;
      made = t.made;
      history = t.history ∙ sym (ap (λ (l : List Fact). history_on hosted.history l) facts);
      told = t.told ∙ facts;
      sent = t.sent ∙ sends;
    };
    outs = sym (told_none facts sends ∙ append-nil (outs_in outs));
  }
    where
      told_none : s.facts ≡ [] → s.sends ≡ [] → outs_in outs ++ filter says_something (outbox_at store s ∷ []) ≡ outs_in outs ++ []
      told_none f p =
          ap (λ (l : List Fact). outs_in outs ++ filter says_something (record { facts = l; packets = packets_from (λ table. store) (nodes.Store store) s.sends } ∷ [])) f
          ∙ ap (λ (l : List Send). outs_in outs ++ filter says_something (record { facts = []; packets = packets_from (λ table. store) (nodes.Store store) l } ∷ [])) p

  -- a node that has told all hands over what it told
  pub tells : (s : StoreStep) (old new : Hosted D) → IsTelling state store schema table hosted s old → ((t : TableStore) → IsTable state old.node t → IsTable state new.node t)
      → IsSame old.node new.node → new.node.is_declared ≡ old.node.is_declared → told_by new.node ≡ [] → sent_by new.node ≡ []
      → (facts : List Fact) → facts ≡ told_by old.node → new.history ≡ history_on old.history facts
      → IsHosted state store schema table (behind_step hosted s) new
  tells s old new t kept same declared told sent facts is history = record {
    schema = t.schema ∙ ap Some (sym same.schema);
    number = same.table ∙ t.number;
    owner = same.store ∙ t.owner;
    node = kept s.store t.node;
    made = declared ∙ t.made;
    history = history ∙ (ap (λ (l : List Fact). history_on old.history l) (is ∙ t.told) ∙ ap (λ (h : List Entry). history_on h s.facts) t.history);
    told = told;
    sent = sent;
  }

  pub outbox_is : (s : StoreStep) (old : Hosted D) (number : ℕ) (out : StoreOut) → IsTelling state store schema table hosted s old → number ≡ old.node.store
      → map fact_of out.facts ≡ told_by old.node → map send_of out.messages ≡ sent_by old.node → outbox_of (record { store = number; out = out }) ≡ outbox_at store s
  outbox_is s old number out t is facts sends =
      let f = facts ∙ t.told in
      let n : number ≡ store = is ∙ t.owner in
      let p = ap (λ (l : List Send). packets_from (λ table. number) (nodes.Store number) l) (sends ∙ t.sent) ∙ ap (λ (n : ℕ). packets_from (λ table. n) (nodes.Store n) s.sends) n in
      cc (f, p)

pub puts_out : (outs : List TableOut) (out : TableOut) → says_something (outbox_of out) ≡ true → outs_in (outs ++ out ∷ []) ≡ outs_in outs ++ filter says_something (outbox_of out ∷ [])
puts_out outs out says = map-append outbox_of outs (out ∷ []) ∙ sym (ap (λ (b : Bool). outs_in outs ++ cond b (outbox_of out ∷ []) []) says)

pub leaves_out : (outs : List TableOut) (out : TableOut) → says_something (outbox_of out) ≡ false → outs_in outs ≡ outs_in outs ++ filter says_something (outbox_of out ∷ [])
leaves_out outs out says = sym (append-nil (outs_in outs)) ∙ sym (ap (λ (b : Bool). outs_in outs ++ cond b (outbox_of out ∷ []) []) says)

-- ---- silent steps

pub crash_facts : (d : StoreDisk) (agenda : Option (List StoreTask)) (luck : Luck) → ((crashed d agenda luck).facts ≡ []) × ((crashed d agenda luck).sends ≡ [])
crash_facts d None luck = (refl, refl)
crash_facts d (Some []) luck = (refl, refl)
crash_facts d (Some (task ∷ tasks)) messages.Done = (refl, refl)
crash_facts d (Some (task ∷ tasks)) messages.FailedBefore = (refl, refl)
crash_facts d (Some (task ∷ tasks)) messages.FailedAfter = (refl, refl)

module _ {D : Type 0} (state : D → DiskState) (store : ℕ) (schema : Option Schema) (table : ℕ) where
  -- a node that is down stays as it is
  pub down_stays : (disk : StoreDisk) (agenda : Option (List StoreTask)) (history : List Entry) (made : Bool) (it : Hosted D) (outs : List TableOut)
      → IsHosted state store schema table (record { store = record { disk = disk; agenda = agenda }; history = history; made = made }) it → it.node.is_up ≡ false
      → HasTold state store schema table (record { store = record { disk = disk; agenda = agenda }; history = history; made = made }) (worked disk agenda messages.Done) it outs outs
      × ((luck : Luck) → HasTold state store schema table (record { store = record { disk = disk; agenda = agenda }; history = history; made = made }) (crashed disk agenda luck) it outs outs)
      × (steps.Idle ≡ next_step (tasks_in agenda))
  down_stays disk (Some tasks) history made it outs h down = let no = h.node.at.0 in absurd cc
  down_stays disk None history made it outs h down =
      let stays : IsHosted state store schema table (record { store = record { disk = disk; agenda = None }; history = history; made = made }) it = h in
      (record { behind = stays; outs = sym (append-nil (outs_in outs)) }, (λ luck. record { behind = stays; outs = sym (append-nil (outs_in outs)) }), refl)

  pub next_is : (agenda : Option (List StoreTask)) → named agenda ≡ next_step (tasks_in agenda)
  next_is None = refl
  next_is (Some []) = refl
  next_is (Some (task ∷ tasks)) = refl

  -- ---- starts

  pub up_declared : (node : TableNode D) (disk : StoreDisk) (agenda : Option (List StoreTask)) → IsTable state node (record { disk = disk; agenda = agenda }) → node.is_up ≡ true
      → node.is_declared ≡ true
  up_declared node disk None t up = let no = t.at.0 in absurd cc
  up_declared node disk (Some tasks) t up = t.at.1.declared

  stands_at : (old new : TableNode D) (s : TableStore) → IsBehind state old new (step_at old s Start) → old.store ≡ store → old.table ≡ table
      → IsBehind state old new (started store table s.disk s.agenda)
  stands_at old new s b kept number = subst (λ (t : ℕ). IsBehind state old new (started store t s.disk s.agenda)) number
      (subst (λ (n : ℕ). IsBehind state old new (started n old.table s.disk s.agenda)) kept b)

  -- the state in which a table is declared
  pub first_is : (node : TableNode D) (disk : StoreDisk) (agenda : Option (List StoreTask)) → IsTable state node (record { disk = disk; agenda = agenda }) → node.is_declared ≡ false
      → node.state ≡ disk.state
  first_is node disk None t isnt = sym (ap (λ (d : StoreDisk). d.state) (t.at.1.nothing isnt))
  first_is node disk (Some tasks) t isnt = let is = t.at.1.declared in absurd cc

  late_at : (old new : TableNode D) (stage : TableState) → IsBehind state old new (late old) → old.store ≡ store → old.table ≡ table → old.state ≡ stage
      → IsBehind state old new (declared_late store table stage)
  late_at old new stage b kept number first =
      subst (λ (l : TableState). IsBehind state old new (declared_late store table l)) first
      (subst (λ (t : ℕ). IsBehind state old new (declared_late store t old.state)) number (subst (λ (n : ℕ). IsBehind state old new (declared_late n old.table old.state)) kept b))

  pub starting : (images : D → ℕ → List ℕ → Type 0) (s : TableStore) (history : List Entry) (made : Bool) (old : Hosted D) (node : TableNode D)
      → IsHosted state store schema table (record { store = s; history = history; made = made }) old
      → Starts state images s old.node node (Ok tt) → node.is_up ≡ true
      → IsTelling state store schema table (record { store = s; history = history; made = true }) (started_by store schema table (record { store = s; history = history; made = made }) made)
      (record { node = node; history = old.history })
  starting images s history true old node h k up =
      let b = stands_at old.node node s (k.started h.made) h.owner h.number in
      telling state store schema table (record { store = s; history = history; made = true }) (started store table s.disk s.agenda) old (record { node = node; history = old.history }) h b true
      (up_declared node (started store table s.disk s.agenda).store.disk (started store table s.disk s.agenda).store.agenda b.table up) refl
  starting images s history false old node h k up =
      let b = late_at old.node node s.disk.state (k.declared h.made) h.owner h.number (first_is old.node s.disk s.agenda h.node h.made) in
      telling state store schema table (record { store = s; history = history; made = false }) (declared_late store table s.disk.state) old (record { node = node; history = old.history }) h b true
      (up_declared node (new_disk s.disk.state) (Some []) b.table up) refl

  pub not_started : (hosted : world.Hosted) (old : Hosted D) (node : TableNode D) → IsHosted state store schema table hosted old → Stays state old.node node hosted.store
      → node.is_declared ≡ old.node.is_declared
      → IsHosted state store schema table hosted (record { node = node; history = old.history })
  not_started hosted old node h k declared = record {
    schema = h.schema ∙ ap Some (sym k.same.schema);
    number = k.same.table ∙ h.number;
    owner = k.same.store ∙ h.owner;
    node = k.table;
    made = declared ∙ h.made;
    history = h.history;
    told = k.told ∙ h.told;
    sent = k.sent ∙ h.sent;
  }

-- ---- a table that is made

module _ {D : Type 0} (state : D → DiskState) (store : ℕ) (schema : Option Schema) (table : ℕ) (stage : TableState) (old : Hosted D) (h : IsHosted state store schema table (new_hosted stage false) old) where
  made_up : (node : TableNode D) → Stays state old.node node (record { disk = new_disk stage; agenda = Some [] }) → node.is_up ≡ true
      → IsHosted state store schema table (new_hosted stage true) (record { node = node; history = old.history })
  made_up node k up = record {
    schema = h.schema ∙ ap Some (sym k.same.schema);
    number = k.same.table ∙ h.number;
    owner = k.same.store ∙ h.owner;
    node = k.table;
    made = up_declared state store schema table node (new_disk stage) (Some []) k.table up;
    history = h.history;
    told = k.told ∙ h.told;
    sent = k.sent ∙ h.sent;
  }

  module _ (images : D → ℕ → List ℕ → Type 0) (node : TableNode D) where
    pub made_here : (r : Result (Unit {0}) NodeFault) → Declares state images (new_hosted stage false).store old.node node r → OnOk r (node.is_up ≡ true)
        → OnOk r (IsHosted state store schema table (new_hosted stage true) (record { node = node; history = old.history }))
    made_here (Ok x) k up = made_up node (subst (λ (l : TableState). Stays state old.node node (record { disk = new_disk l; agenda = Some [] })) first k.declared) up
      where
        first : old.node.state ≡ stage
        first = first_is state store schema table old.node (new_disk stage) None h.node h.made
    made_here (Err e) k up = tt

    pub not_made : (r : Result (Unit {0}) NodeFault) → Declares state images (new_hosted stage false).store old.node node r → OnErr r (node.is_declared ≡ old.node.is_declared)
        → OnErr r (IsHosted state store schema table (new_hosted stage false) (record { node = node; history = old.history }))
    not_made (Ok x) k kept = tt
    not_made (Err e) k kept = not_started state store schema table (new_hosted stage false) old node h k.refused kept

module _ {D : Type 0} (state : D → DiskState) (images : D → ℕ → List ℕ → Type 0) (s : TableStore) (old node : TableNode D) where
  pub made_blank : (r : Result (Unit {0}) NodeFault) → Declares state images s old node r → HasBlankDisks state old
      → OnOk r (RowsLeave (behind state) (λ f. images (inner_of f)) old.devs node.devs (HasNoRows old.schema old.state))
  made_blank (Ok x) k blank = (k.none blank).rows_left
  made_blank (Err e) k blank = tt

  pub made_schema : (r : Result (Unit {0}) NodeFault) → Declares state images s old node r → OnOk r (node.schema ≡ old.schema)
  made_schema (Ok x) k = k.declared.same.schema
  made_schema (Err e) k = tt

-- ---- causes

module _ {D : Type 0} (state : D → DiskState) (old mid new : TableNode D) (same : own_faults state mid ≡ own_faults state old) (devs : new.devs ≡ mid.devs) where
  still_there : own_faults state new ≡ own_faults state old
  still_there = ap (λ (x : TableDevs (FuseDisk D)). own_faults state (record mid { devs = x })) devs ∙ same

  pub told_cause : {T : Type 0} (r : Result T NodeFault) → IfErr r (λ e. e ≡ Memory) → HasNodeCause state old new r
  told_cause (Ok x) is = record { counted = λ _. still_there; cause = λ e. absurd cc; only = tt }
  told_cause (Err e) is = record { counted = λ _. still_there; cause = λ failed. absurd cc; only = inr is }

abbrev pub failing_with : NodeFault → Result Step NodeFault
failing_with e = Err e

pub done_cause : {D : Type 0} (state : D → DiskState) (old new : TableNode D) (e : NodeFault) → own_faults state old < own_faults state new → e ≡ DiskFailed
    → HasNodeCause state old new (failing_with e)
done_cause state old new e rose is = record { counted = λ no. absurd (no (ap failing_with is)); cause = λ _. rose; only = inl is }

-- ---- messages and rows

pub node_up : {D : Type 0} (state : D → DiskState) (node : TableNode D) (disk : StoreDisk) (agenda : Option (List StoreTask)) → IsTable state node (record { disk = disk; agenda = agenda }) → node.is_up ≡ true → IsUpAt agenda
node_up state node disk None t up = let no = t.at.0 in absurd cc
node_up state node disk (Some tasks) t up = (tasks, refl)

pub up_node : {D : Type 0} (state : D → DiskState) (node : TableNode D) (disk : StoreDisk) (agenda : Option (List StoreTask)) → IsTable state node (record { disk = disk; agenda = agenda }) → IsUpAt agenda → node.is_up ≡ true
up_node state node disk None t up = absurd (let e = up.1 in cc)
up_node state node disk (Some tasks) t up = t.at.0

abbrev well : Unit {0} → Result (Unit {0}) NodeFault
well x = Ok x

-- nothing is to be done
pub idle_is : (agenda : Option (List StoreTask)) → IsUpAt agenda → has_task agenda ≡ false → agenda ≡ Some []
idle_is None up none = absurd (let e = up.1 in cc)
idle_is (Some []) up none = refl
idle_is (Some (task ∷ tasks)) up none = absurd cc

idle_by : (disk : StoreDisk) (agenda : Option (List StoreTask)) (r : Result (Unit {0}) NodeFault) → IsUpAt agenda → ((version : ℕ) → IsErrOf r (Busy version) ↔ IsAtWork disk agenda version) → (IsBusy r → ⊥) → agenda ≡ Some []
idle_by disk None r up busy free = absurd (let e = up.1 in cc)
idle_by disk (Some []) r up busy free = refl
idle_by disk (Some (task ∷ tasks)) r up busy free = absurd (free (version_at disk task.change, (busy (version_at disk task.change)).1 refl))

none_at_work : (disk : StoreDisk) (agenda : Option (List StoreTask)) (version : ℕ) → agenda ≡ Some [] → IsAtWork disk agenda version → ⊥
none_at_work disk None version e w = w
none_at_work disk (Some []) version e w = w
none_at_work disk (Some (task ∷ tasks)) version e w = cc

-- a message tells no facts
module _ (g : Scheme) (size table : ℕ) (d : StoreDisk) (from : Node) where
  judged_facts : (q : Request) (current : ℕ) → (judged g size table d from q current).facts ≡ []
  judged_facts q current = go (takes g q.base current && keeps_there size d.items q)
    where
      go : (b : Bool) → (if b then quiet d (Some (accepting size table d.items from q (item_for d.items q))) facts.Done else sending d (responded from q (unaccepted g q.base current) ∷ [])).facts ≡ []
      go true = refl
      go false = refl

  decided_facts : (q : Request) (yours : Pair) → (decided g size table d from q yours).facts ≡ []
  decided_facts q yours = go (yours.number == q.number) (nat_lt q.number yours.number)
    where
      go : (a b : Bool) → (if a then sending d (responded from q (messages.Again yours.version) ∷ [])
          else (if b then sending d (responded from q (messages.Late yours.number) ∷ []) else judged g size table d from q (version_of (current_of d.items q.row)))).facts ≡ []
      go true b = refl
      go false true = refl
      go false false = judged_facts q (version_of (current_of d.items q.row))

  asked_facts : (q : Request) → (asked g size table d from q).facts ≡ []
  asked_facts q = go (is_spelled size q.content q.pieces)
    where
      go : (b : Bool) → (if b then decided g size table d from q (yours_in d.items q.client q.row) else quiet d (Some []) facts.Done).facts ≡ []
      go true = decided_facts q (yours_in d.items q.client q.row)
      go false = refl

  take_facts : (agenda : Option (List StoreTask)) (m : messages.Message) → (taken g size table d agenda from m).facts ≡ []
  take_facts None m = refl
  take_facts (Some (task ∷ more)) m = refl
  take_facts (Some []) (messages.SyncRequest q) = asked_facts q
  take_facts (Some []) (messages.PullRequest q) = refl
  take_facts (Some []) (messages.SyncResponse q) = refl
  take_facts (Some []) (messages.PullResponse q) = refl
  take_facts (Some []) (messages.TornRowRequest q) = refl
  take_facts (Some []) (messages.TornRowResponse q) = refl

-- a put beside the rows tells and sends nothing where it begins
place_silent : (table : ℕ) (d : StoreDisk) (agenda : Option (List StoreTask)) (put : SidePut) → ((placed table d agenda put).facts ≡ []) × ((placed table d agenda put).sends ≡ [])
place_silent table d None put = (refl, refl)
place_silent table d (Some (task ∷ more)) put = (refl, refl)
place_silent table d (Some []) put = (refl, refl)

versions_left : (r : Result (Unit {0}) NodeFault) (last : ℕ) → IfErr r (λ e. ((version : ℕ) × (e ≡ Busy version)) ⊎ ((e ≡ DiskFailed) ⊎ (e ≡ Memory))) → IsErrOf r (Spent last) → ⊥
versions_left (Ok x) last only is = cc
versions_left (Err e) last only is = let same : e ≡ Spent last = cc in ⊎_elim (λ b. let was = b.1 in cc) (λ more. ⊎_elim (λ a. cc) (λ a. cc) more) only

module _ {D : Type 0} (state : D → DiskState) (images : D → ℕ → List ℕ → Type 0) (store : ℕ) (schema : Option Schema) (table : ℕ) where
  abbrev at : StoreDisk → Option (List StoreTask) → List Entry → Bool → world.Hosted
  at disk agenda history made = record { store = record { disk = disk; agenda = agenda }; history = history; made = made }

  down_here : (disk : StoreDisk) (agenda : Option (List StoreTask)) (history : List Entry) (made : Bool) (old : Hosted D) (node : TableNode D)
      → IsHosted state store schema table (at disk agenda history made) old → Stays state old.node node (record { disk = disk; agenda = None }) → node.is_declared ≡ old.node.is_declared
      → IsHosted state store schema table (at disk None history made) (record { node = node; history = old.history })
  down_here disk agenda history made old node h k declared = record {
    schema = h.schema ∙ ap Some (sym k.same.schema);
    number = k.same.table ∙ h.number;
    owner = k.same.store ∙ h.owner;
    node = k.table;
    made = declared ∙ h.made;
    history = h.history;
    told = k.told ∙ h.told;
    sent = k.sent ∙ h.sent;
  }

  -- a table of which a disk has failed is down
  pub failed_down : (disk : StoreDisk) (agenda : Option (List StoreTask)) (history : List Entry) (made : Bool) (old : Hosted D) (node : TableNode D) → IsUpAt agenda
      → IsHosted state store schema table (at disk agenda history made) old → Stays state old.node node (record { disk = disk; agenda = None }) → node.is_declared ≡ old.node.is_declared
      → HasTold state store schema table (at disk agenda history made) (crashed disk agenda messages.FailedBefore) (record { node = node; history = old.history }) [] []
  failed_down disk None history made old node up h k declared = absurd (let e = up.1 in cc)
  failed_down disk (Some []) history made old node up h k declared = record { behind = down_here disk (Some []) history made old node h k declared; outs = refl }
  failed_down disk (Some (task ∷ tasks)) history made old node up h k declared = record { behind = down_here disk (Some (task ∷ tasks)) history made old node h k declared; outs = refl }

  module _ (hosted : world.Hosted) (old : Hosted D) (h : IsHosted state store schema table hosted old) (up : old.node.is_up ≡ true) where
    is_up : IsUpAt hosted.store.agenda
    is_up = node_up state old.node hosted.store.disk hosted.store.agenda h.node up

    pub shows_hosted : (row : List ℕ) (node : TableNode D) (r : Result (Option ShownRow) NodeFault) → Shows state images hosted.store row old.node node r → node.is_declared ≡ old.node.is_declared
        → HasShown state store schema table hosted row (record { node = node; history = old.history }) r
    shows_hosted row node r k declared = record {
      shown = k.shown;
      stays = λ no. not_started state store schema table hosted old node h (k.stays no) declared;
      fallen = λ is. failed_down hosted.store.disk hosted.store.agenda hosted.history hosted.made old node is_up h (k.fallen is) declared;
    }

    pub gives_hosted : (row : List ℕ) (node : TableNode D) (r : Result (Option WholeRow) NodeFault) → Gives state images hosted.store row old.node node r → node.is_declared ≡ old.node.is_declared
        → HasGiven state store schema table hosted row (record { node = node; history = old.history }) r
    gives_hosted row node r k declared = record {
      given = k.given;
      stays = λ no. not_started state store schema table hosted old node h (k.stays no) declared;
      fallen = λ is. failed_down hosted.store.disk hosted.store.agenda hosted.history hosted.made old node is_up h (k.fallen is) declared;
    }

    moved_as : (move : StoreMove) → step_at old.node hosted.store move ≡ moved_at store schema table hosted move
    moved_as move =
        ap (λ (n : ℕ). store_step n old.node.schema.scheme old.node.schema.chunk old.node.table hosted.store move) h.owner
        ∙ (ap (λ (t : ℕ). store_step store old.node.schema.scheme old.node.schema.chunk t hosted.store move) h.number
        ∙ ap (λ (o : Option Schema). store_step store (scheme_in o) (chunk_in o) table hosted.store move) (sym h.schema))

    pub places_hosted : (put : SidePut) (node : TableNode D) (r : Result (Unit {0}) NodeFault) → Places state images hosted.store put old.node node r → node.is_declared ≡ old.node.is_declared
        → HasPlaced state store schema table hosted put (record { node = node; history = old.history }) r
    places_hosted put node r k declared = record {
      placed = λ outs. on_ok_weaker r (λ b. placed_by outs b) k.placed;
      idle = idle_by hosted.store.disk hosted.store.agenda r is_up k.busy;
      busy = k.busy;
      not_spent = λ last is. versions_left r last k.only is;
      refused = λ no. on_err_weaker r (λ s. not_started state store schema table hosted old node h s declared) (k.refused no);
      fallen = λ is. failed_down hosted.store.disk hosted.store.agenda hosted.history hosted.made old node is_up h (k.fallen is) declared;
    }
      where
        placed_by : (outs : List TableOut) → IsBehind state old.node node (step_at old.node hosted.store (Place put))
            → HasTold state store schema table hosted (moved_at store schema table hosted (Place put)) (record { node = node; history = old.history }) outs outs
        placed_by outs b =
            let s = moved_at store schema table hosted (Place put) in
            let behind : IsBehind state old.node node s = subst (λ (x : StoreStep). IsBehind state old.node node x) (moved_as (Place put)) b in
            let none = place_silent table hosted.store.disk hosted.store.agenda put in
            silent state store schema table hosted s (record { node = node; history = old.history }) outs
            (telling state store schema table hosted s old (record { node = node; history = old.history }) h behind hosted.made (declared ∙ h.made) refl) none.0 none.1

    module _ (from : Node) (message : Message) where
      -- want of memory, where nothing is to be done
      pub short_taken : (outs : List TableOut) → has_task hosted.store.agenda ≡ false → (e : NodeFault) → e ≡ Memory → HasTaken state store schema table hosted from message old old outs outs (Err e)
      short_taken outs idle e is = record {
        taken = λ _. tt;
        dropped = λ _. tt;
        idle = λ _. none;
        busy = λ version. (λ b. absurd cc, λ w. absurd (none_at_work hosted.store.disk hosted.store.agenda version none w));
        given = λ _ _. tt;
        spent = λ last s. absurd cc;
        refused = λ _. (h, refl);
        fallen = λ f. absurd cc;
      }
        where
          none : hosted.store.agenda ≡ Some []
          none = idle_is hosted.store.agenda is_up idle

      -- a message that the node refused
      pub badly_taken : (outs : List TableOut) (node : TableNode D) (e : NodeFault) → Delivers state images hosted.store from message old.node node (Err e) → node.is_declared ≡ old.node.is_declared
          → HasTaken state store schema table hosted from message old (record { node = node; history = old.history }) outs outs (Err e)
      badly_taken outs node e k declared = record {
        taken = λ _. tt;
        dropped = λ _. tt;
        idle = idle_by hosted.store.disk hosted.store.agenda (Err e) is_up k.busy;
        busy = k.busy;
        given = λ _ _. tt;
        spent = λ last s. let x = k.spent last s in (x.2, x.1, x.3);
        refused = λ no. (not_started state store schema table hosted old node h (k.refused no) declared, refl);
        fallen = λ f. (failed_down hosted.store.disk hosted.store.agenda hosted.history hosted.made old node is_up h (k.fallen f) declared, refl);
      }

      -- a busy node refuses each
      pub busy_taken : (outs : List TableOut) (node : TableNode D) (r : Result (Unit {0}) NodeFault) → has_task hosted.store.agenda ≡ true → Delivers state images hosted.store from message old.node node r
          → node.is_declared ≡ old.node.is_declared → HasTaken state store schema table hosted from message old (record { node = node; history = old.history }) outs outs r
      busy_taken outs node (Err e) busy k declared = badly_taken outs node e k declared
      busy_taken outs node (Ok x) busy k declared = absurd (go hosted.store.agenda busy k.busy)
        where
          go : (agenda : Option (List StoreTask)) → has_task agenda ≡ true → ((version : ℕ) → IsErrOf (well x) (Busy version) ↔ IsAtWork hosted.store.disk agenda version) → ⊥
          go None some b = cc
          go (Some []) some b = cc
          go (Some (task ∷ tasks)) some b = let e = (b (version_at hosted.store.disk task.change)).1 refl in cc

      step_is : step_at old.node hosted.store (Take from (message_of message)) ≡ moved_at store schema table hosted (Take from (message_of message))
      step_is =
          let move = Take from (message_of message) in
          ap (λ (n : ℕ). store_step n old.node.schema.scheme old.node.schema.chunk old.node.table hosted.store move) h.owner
          ∙ (ap (λ (t : ℕ). store_step store old.node.schema.scheme old.node.schema.chunk t hosted.store move) h.number
          ∙ ap (λ (o : Option Schema). store_step store (scheme_in o) (chunk_in o) table hosted.store move) (sym h.schema))

      silent_out : (it : TableOut) → map fact_of it.out.facts ≡ [] → map send_of it.out.messages ≡ [] → says_something (outbox_of it) ≡ false
      silent_out it facts sends =
          ap (λ (l : List Fact). says_something (record { facts = l; packets = packets_from (λ table. it.store) (nodes.Store it.store) (map send_of it.out.messages) })) facts
          ∙ ap (λ (l : List Send). says_something (record { facts = []; packets = packets_from (λ table. it.store) (nodes.Store it.store) l })) sends

      -- a message that the node took or dropped
      pub well_taken : (mid new : TableNode D) (number : ℕ) (out : StoreOut) (before after : List TableOut) → Delivers state images hosted.store from message old.node mid (Ok tt) → mid.is_declared ≡ old.node.is_declared
          → map send_of out.messages ≡ sent_by mid → map fact_of out.facts ≡ told_by mid → told_by new ≡ [] → sent_by new ≡ [] → ((s : TableStore) → IsTable state mid s → IsTable state new s) → IsSame mid new
          → new.is_declared ≡ mid.is_declared → number ≡ mid.store → outs_in after ≡ outs_in before ++ filter says_something (outbox_of (record { store = number; out = out }) ∷ [])
          → (says_something (outbox_of (record { store = number; out = out })) ≡ false → after ≡ before)
          → HasTaken state store schema table hosted from message old (record { node = new; history = old.history }) before after (Ok tt)
      well_taken mid new number out before after k declared sends facts told sent kept same still number_is put silent = record {
        taken = λ is.
            let s = moved_at store schema table hosted (Take from (message_of message)) in
            let behind : IsBehind state old.node mid s = subst (λ (x : StoreStep). IsBehind state old.node mid x) step_is (k.taken is) in
            let t : IsTelling state store schema table hosted s (record { node = mid; history = old.history }) =
            telling state store schema table hosted s old (record { node = mid; history = old.history }) h behind hosted.made (declared ∙ h.made) refl in
            let none : s.facts ≡ [] = take_facts (scheme_in schema) (chunk_in schema) table hosted.store.disk from hosted.store.agenda (message_of message) in
            record {
              behind = tells state store schema table hosted s (record { node = mid; history = old.history }) (record { node = new; history = old.history }) t kept same still told sent [] (sym (t.told ∙ none)) refl;
              outs = put ∙ ap (λ (o : Outbox). outs_in before ++ filter says_something (o ∷ [])) (outbox_is state store schema table hosted s (record { node = mid; history = old.history }) number out t number_is facts sends);
            };
        dropped = λ no.
            let x = k.dropped no in (
              record {
                schema = h.schema ∙ ap Some (sym x.same.schema ∙ sym same.schema);
                number = same.table ∙ (x.same.table ∙ h.number);
                owner = same.store ∙ (x.same.store ∙ h.owner);
                node = kept hosted.store x.table;
                made = still ∙ (declared ∙ h.made);
                history = h.history;
                told = told;
                sent = sent;
              },
              silent (silent_out (record { store = number; out = out }) (facts ∙ (x.told ∙ h.told)) (sends ∙ (x.sent ∙ h.sent))),
            );
        idle = idle_by hosted.store.disk hosted.store.agenda (Ok tt) is_up k.busy;
        busy = k.busy;
        given = k.given;
        spent = λ last s. absurd cc;
        refused = λ _. tt;
        fallen = λ f. absurd cc;
      }

pub take_cause : {D : Type 0} (state : D → DiskState) (images : D → ℕ → List ℕ → Type 0) (s : TableStore) (from : Node) (message : Message) (old new : TableNode D) (r : Result (Unit {0}) NodeFault)
    → Delivers state images s from message old new r → HasNodeTakeCause state old new r
take_cause state images s from message old new r k = record { counted = k.counted; cause = k.cause; only = k.only }

pub place_cause : {D : Type 0} (state : D → DiskState) (images : D → ℕ → List ℕ → Type 0) (s : TableStore) (put : SidePut) (old new : TableNode D) (r : Result (Unit {0}) NodeFault)
    → Places state images s put old new r → HasNodeTakeCause state old new r
place_cause state images s put old new r k = record { counted = k.counted; cause = k.cause; only = wider r k.only }
  where
    wider : (r : Result (Unit {0}) NodeFault) → IfErr r (λ e. ((version : ℕ) × (e ≡ Busy version)) ⊎ ((e ≡ DiskFailed) ⊎ (e ≡ Memory))) → IfErr r IsTakeFault
    wider (Ok x) only = tt
    wider (Err e) only = ⊎_elim (λ b. inl b) (λ more. inr (inr more)) only

pub up_state : {D : Type 0} (state : D → DiskState) (node : TableNode D) (disk : StoreDisk) (agenda : Option (List StoreTask)) → IsTable state node (record { disk = disk; agenda = agenda }) → node.is_up ≡ true
    → (stage : TableState) → stage ≡ disk.state → Some stage ≡ state_up (record { disk = disk; agenda = agenda })
up_state state node disk None t up stage is = let down = t.at.0 in absurd cc
up_state state node disk (Some tasks) t up stage is = ap (λ (l : TableState). Some l) is

pub down_state : {D : Type 0} (state : D → DiskState) (node : TableNode D) (disk : StoreDisk) (agenda : Option (List StoreTask)) → IsTable state node (record { disk = disk; agenda = agenda }) → node.is_up ≡ false
    → None ≡ state_up (record { disk = disk; agenda = agenda })
down_state state node disk None t down = refl
down_state state node disk (Some tasks) t down = let up = t.at.0 in absurd cc

-- ---- a live table at work

none_and : (b : Bool) → false ≡ (b && false)
none_and true = refl
none_and false = refl

same_stage : (a b : TableState) → Some a ≡ Some b → a ≡ b
same_stage a b e = cc

pub live_work : (disk : StoreDisk) (agenda : Option (List StoreTask)) (stage : TableState) (busy : Bool) → Some stage ≡ state_up (record { disk = disk; agenda = agenda })
    → busy ≡ (is_live_state stage && has_task agenda) → busy ≡ (is_live_state disk.state && has_task agenda)
live_work disk None stage busy up is = absurd cc
live_work disk (Some tasks) stage busy up is = is ∙ ap (λ (l : TableState). is_live_state l && has_task (Some tasks)) (same_stage stage disk.state up)

pub down_work : (disk : StoreDisk) (agenda : Option (List StoreTask)) → None ≡ state_up (record { disk = disk; agenda = agenda }) → false ≡ (is_live_state disk.state && has_task agenda)
down_work disk None down = none_and (is_live_state disk.state)
down_work disk (Some tasks) down = absurd cc
