-- What a node makes of a message, by what is to be done and what the message is.
use Rattle.std.proofs.Common.{◌≡◌, ◌⊎◌, inl, inr, ⊎_elim, ℕ, true, List, [], ◌∷◌, Option, Some, None, Result, Ok, Err, refl, sym, ◌∙◌, ap, subst, append-nil}
use Rattle.std.specs.Prelude.{IsErrOf, OnOk, IfErr}
use Rattle.disk_trait.specs.Image.{IsImage}
use Rattle.disk_trait.specs.Calls.{DiskState}
use Rattle.disk_trait.specs.Fuse.{behind, inner_of}
use Rattle.disk_trait.specs.declared.fuse.FuseDisk.{FuseDisk}
use Rattle.stab_base.specs.declared.limits.TheConstants.{NUMBER_MAX}
use Rattle.stab_base.specs.declared.node.Node.{Node}
use Rattle.row_value.specs.declared.schema.Schema.{Schema}
use Rattle.status_log.specs.Entry.{Entry}
use Rattle.step_tables.specs.declared.message.Message.{Message}
use Rattle.step_tables.specs.Store.{Stored}
use Rattle.step_tables.specs.StoreMoves.{StoreDisk, StoreChange, StoreTask, StoreStep, SidePut, TableStore, Take, version_at, version_of}
use Rattle.step_tables.specs.StoreMoves as moves
use Rattle.step_tables.specs.Facts as facts_of
use Rattle.step_tables.specs.Travels.{message_of}
use Rattle.store_commit.specs.Devs.{Devs, Write, changed_by}
use Rattle.store_commit.specs.Devs as devs_of
use Rattle.store_commit.specs.Standing.{devs, writes_of}
use Rattle.store_commit.specs.Update.{at_work, version_if}
use Rattle.store_commit.proofs.Works.{rests_leave}
use Rattle.store_commit.proofs.Moments.{devs_weaker}
use Rattle.device_laws.specs.Stands.{Stands, StandsEntry, Follows, IsWriteOf}
use Rattle.store_node.specs.declared.fault.NodeFault.{NodeFault}
use Rattle.store_node.specs.declared.fault.NodeFault.TheVariants.{NoRow, Busy, Spent, Disk, Memory}
use Rattle.store_node.specs.declared.node.TableNode.{TableNode}
use Rattle.store_node.specs.Node.{IsWorking, IsTable, IsNode, told_by, sent_by, LeavesEither, has_task}
use Rattle.store_node.specs.Calls.{IsBehind, Stays, Answers, Delivers, Places, put_step, IsTaken, IsSpent, IsAtWork, step_at}
use Rattle.store_node.proofs.Following.{follows_now, no_task, no_write}
use Rattle.store_node.proofs.Working.{still_rows}

-- ---- the version at work

pending_same : (size : ℕ) (disk : StoreDisk) (o : Option Stored) (e : Option Entry) → StandsEntry size disk o e → version_if e ≡ version_of o
pending_same size disk None None h = refl
pending_same size disk None (Some entry) h = absurd h
pending_same size disk (Some item) None h = absurd h
pending_same size disk (Some item) (Some entry) h = h.entry_of.version

work_same : (schema : Schema) (d : Devs) (disk : StoreDisk) (w : Write) (ws : List Write) (change : StoreChange) → Stands schema d disk → IsWriteOf schema.chunk disk.items w change → at_work d (w ∷ ws) ≡ version_at disk change
work_same schema d disk devs_of.OpenChunks ws moves.OpenChunks st h = pending_same schema.chunk disk disk.pending d.pending st.entry
work_same schema d disk devs_of.OpenRows ws moves.OpenRows st h = pending_same schema.chunk disk disk.pending d.pending st.entry
work_same schema d disk devs_of.OpenLog ws moves.OpenLog st h = pending_same schema.chunk disk disk.pending d.pending st.entry
work_same schema d disk (devs_of.OpenEntry entry) ws (moves.Open item) st h = h.version
work_same schema d disk (devs_of.PutChunk name bytes) ws (moves.PutChunk other) st h = pending_same schema.chunk disk disk.pending d.pending st.entry
work_same schema d disk (devs_of.PutRow stored) ws (moves.Put item named old) st h = pending_same schema.chunk disk disk.pending d.pending st.entry
work_same schema d disk (devs_of.DropChunk name) ws (moves.DropChunk other) st h = pending_same schema.chunk disk disk.pending d.pending st.entry
work_same schema d disk devs_of.CloseEntry ws moves.Close st h = pending_same schema.chunk disk disk.pending d.pending st.entry
work_same schema d disk (devs_of.PutTable other number) ws (moves.PutBeside (moves.PutState stage)) st h = pending_same schema.chunk disk disk.pending d.pending st.entry
work_same schema d disk (devs_of.PutSub client terms) ws (moves.PutBeside (moves.PutSub other some)) st h = pending_same schema.chunk disk disk.pending d.pending st.entry
work_same schema d disk w ws change st h = absurd h

module _ {D : Type 0} (state : D → DiskState) (images : D → ℕ → List ℕ → Type 0) (only_now : (disk : FuseDisk D) (image : List ℕ) → images (inner_of disk) (behind state disk).moment image → IsImage (behind state disk).pending image) where
  abbrev st : FuseDisk D → DiskState
  st f = behind state f

  abbrev im : FuseDisk D → ℕ → List ℕ → Type 0
  im f = images (inner_of f)

  abbrev at : StoreDisk → Option (List StoreTask) → TableStore
  at disk agenda = record { disk = disk; agenda = agenda }

  rests : (node : TableNode D) (disk : StoreDisk) (tasks : List StoreTask) → IsWorking state node disk tasks → LeavesEither state images node node disk disk
  rests node disk tasks h =
      devs_weaker st im node.devs node.devs (λ d. d ≡ devs st node.devs) (λ d. Stands node.schema d disk ⊎ Stands node.schema d disk) (rests_leave st im only_now node.devs (writes_of node.devs) h.ready)
      (λ d is. inl (subst (λ (x : Devs). Stands node.schema x disk) (sym is) (follows_now node.schema (devs st node.devs) (writes_of node.devs) disk tasks h.follows)))

  stays : (node : TableNode D) (s : TableStore) → IsTable state node s → Stays state node node s
  stays node s t = record { table = t; told = refl; sent = refl; same = record { store = refl; table = refl; schema = refl } }

  -- ---- at work

  at_work_is : (schema : Schema) (d : Devs) (ws : List Write) (disk : StoreDisk) (task : StoreTask) (tasks : List StoreTask) → Follows schema d ws disk (task ∷ tasks) → at_work d ws ≡ version_at disk task.change
  at_work_is schema d [] disk task tasks f = absurd f
  at_work_is schema d (w ∷ ws) disk task tasks f = work_same schema d disk w ws task.change f.0 f.1

  pub busy : (node : TableNode D) (disk : StoreDisk) (agenda : Option (List StoreTask)) → IsTable state node (at disk agenda) → node.is_up ≡ true → (writes_of node.devs ≡ [] → ⊥) → (from : Node) (message : Message) (version : ℕ) → version ≡ at_work (devs st node.devs) (writes_of node.devs)
      → Delivers state images (at disk agenda) from message node node (Err (Busy version))
  busy node disk None t up some from message version is = let no_ = t.at.0 in absurd cc
  busy node disk (Some []) t up some from message version is = absurd (some (no_write node.schema (devs st node.devs) (writes_of node.devs) disk t.at.1.follows))
  busy node disk (Some (task ∷ tasks)) t up some from message version is = record {
    taken = λ _. tt;
    dropped = λ _. tt;
    busy = λ v. (λ e. let same : version ≡ v = cc in sym same ∙ work, λ w. let same : version ≡ v = work ∙ sym w in ap (λ (n : ℕ). Err (Busy n)) same);
    given = λ _ _. tt;
    spent = λ last e. absurd cc;
    refused = λ _. stays node (at disk (Some (task ∷ tasks))) t;
    fallen = λ e. absurd cc;
    counted = λ _. refl;
    cause = λ e. absurd cc;
    only = inl (version, refl);
    any_moment = rests node disk (task ∷ tasks) t.at.1;
    rows_left = still_rows state images only_now node disk (task ∷ tasks) t.at.1;
  }
    where
      work : version ≡ version_at disk task.change
      work = is ∙ at_work_is node.schema (devs st node.devs) (writes_of node.devs) disk task tasks t.at.1.follows

  pub busy_to_place : (node : TableNode D) (disk : StoreDisk) (agenda : Option (List StoreTask)) → IsTable state node (at disk agenda) → node.is_up ≡ true → (writes_of node.devs ≡ [] → ⊥)
      → (put : SidePut) (version : ℕ) → version ≡ at_work (devs st node.devs) (writes_of node.devs) → Places state images (at disk agenda) put node node (Err (Busy version))
  busy_to_place node disk None t up some put version is = let no_ = t.at.0 in absurd cc
  busy_to_place node disk (Some []) t up some put version is = absurd (some (no_write node.schema (devs st node.devs) (writes_of node.devs) disk t.at.1.follows))
  busy_to_place node disk (Some (task ∷ tasks)) t up some put version is = record {
    placed = tt;
    busy = λ v. (λ e. let same : version ≡ v = cc in sym same ∙ work, λ w. let same : version ≡ v = work ∙ sym w in ap (λ (n : ℕ). Err (Busy n)) same);
    refused = λ _. stays node (at disk (Some (task ∷ tasks))) t;
    fallen = λ e. absurd cc;
    counted = λ _. refl;
    cause = λ e. absurd cc;
    only = inl (version, refl);
    any_moment = rests node disk (task ∷ tasks) t.at.1;
    rows_left = still_rows state images only_now node disk (task ∷ tasks) t.at.1;
  }
    where
      work : version ≡ version_at disk task.change
      work = is ∙ at_work_is node.schema (devs st node.devs) (writes_of node.devs) disk task tasks t.at.1.follows

  -- the version that the devices tell is that of the first task
  pub works_on : (node : TableNode D) (disk : StoreDisk) (agenda : Option (List StoreTask)) → IsTable state node (at disk agenda) → has_task agenda ≡ true → (version : ℕ) → version ≡ at_work (devs st node.devs) (writes_of node.devs)
      → IsAtWork disk agenda version
  works_on node disk None t some version is = absurd cc
  works_on node disk (Some []) t some version is = absurd cc
  works_on node disk (Some (task ∷ tasks)) t some version is = is ∙ at_work_is node.schema (devs st node.devs) (writes_of node.devs) disk task tasks t.at.1.follows

  -- ---- at rest

  -- the state of a node that is up and has nothing to be done
  pub idle_state : (node : TableNode D) (disk : StoreDisk) (agenda : Option (List StoreTask)) → IsTable state node (at disk agenda) → node.is_up ≡ true → writes_of node.devs ≡ [] → agenda ≡ Some []
  idle_state node disk None t up none = let no_ = t.at.0 in absurd cc
  idle_state node disk (Some tasks) t up none =
      ap (λ (l : List StoreTask). Some l) (no_task node.schema (devs st node.devs) disk tasks (subst (λ (l : List Write). Follows node.schema (devs st node.devs) l disk tasks) none t.at.1.follows))

  drops_at : (node : TableNode D) (disk : StoreDisk) → IsTable state node (at disk (Some [])) → (from : Node) (message : Message) → (IsTaken node message → IsBehind state node node (step_at node (at disk (Some [])) (Take from (message_of message))))
      → (IsTaken node message → IsSpent node.schema.scheme node.schema.chunk disk message → ⊥)
      → Delivers state images (at disk (Some [])) from message node node (Ok tt)
  drops_at node disk t from message taken none = record {
    taken = taken;
    dropped = λ _. stays node (at disk (Some [])) t;
    busy = λ v. (λ e. absurd cc, λ w. absurd w);
    given = λ is s. absurd (none is s);
    spent = λ last e. absurd cc;
    refused = λ _. tt;
    fallen = λ e. absurd cc;
    counted = λ _. refl;
    cause = λ e. absurd cc;
    only = tt;
    any_moment = rests node disk [] t.at.1;
    rows_left = still_rows state images only_now node disk [] t.at.1;
  }

  pub drops : (node : TableNode D) (disk : StoreDisk) (agenda : Option (List StoreTask)) → agenda ≡ Some [] → IsTable state node (at disk agenda) → (from : Node) (message : Message) → (IsTaken node message → ⊥)
      → Delivers state images (at disk agenda) from message node node (Ok tt)
  drops node disk None is t from message isnt = absurd cc
  drops node disk (Some []) is t from message isnt = drops_at node disk t from message (λ taken. absurd (isnt taken)) (λ taken _. isnt taken)
  drops node disk (Some (task ∷ tasks)) is t from message isnt = absurd cc

  -- a message that no rule takes
  pub passes : (node : TableNode D) (disk : StoreDisk) (agenda : Option (List StoreTask)) → agenda ≡ Some [] → IsTable state node (at disk agenda) → (from : Node) (message : Message)
      → ((d : StoreDisk) → step_at node (at d (Some [])) (Take from (message_of message)) ≡ moves.quiet d (Some []) facts_of.Done) → (IsSpent node.schema.scheme node.schema.chunk disk message → ⊥)
      → Delivers state images (at disk agenda) from message node node (Ok tt)
  passes node disk None is t from message quiet none = absurd cc
  passes node disk (Some (task ∷ tasks)) is t from message quiet none = absurd cc
  passes node disk (Some []) is t from message quiet none =
      drops_at node disk t from message
      (λ _. subst (λ (step : StoreStep). IsBehind state node node step) (sym (quiet disk)) (record { table = t; told = sym (append-nil (told_by node)); sent = sym (append-nil (sent_by node)); same = record { store = refl; table = refl; schema = refl } }))
      (λ _ s. none s)

  not_busy : (r : Result (Unit {0}) NodeFault) (v : ℕ) → IfErr r (λ e. (e ≡ Spent NUMBER_MAX) ⊎ ((e ≡ Disk) ⊎ (e ≡ Memory))) → IsErrOf r (Busy v) → ⊥
  not_busy (Ok x) v only is = cc
  not_busy (Err e) v only is = let same : e ≡ Busy v = cc in ⊎_elim (λ a. cc) (λ more. ⊎_elim (λ a. cc) (λ a. cc) more) only

  is_last : (r : Result (Unit {0}) NodeFault) (last : ℕ) → IfErr r (λ e. (e ≡ Spent NUMBER_MAX) ⊎ ((e ≡ Disk) ⊎ (e ≡ Memory))) → IsErrOf r (Spent last) → (last ≡ NUMBER_MAX) × IsErrOf r (Spent NUMBER_MAX)
  is_last (Ok x) last only is = absurd cc
  is_last (Err e) last only is =
      let same : e ≡ Spent last = cc in
      ⊎_elim
      (λ a. let both : Spent last ≡ Spent NUMBER_MAX = sym same ∙ a in let one : last ≡ NUMBER_MAX = cc in (one, ap (λ (f : NodeFault). Err f) a))
      (λ more. ⊎_elim (λ a. absurd cc) (λ a. absurd cc) more)
      only

  wider : (r : Result (Unit {0}) NodeFault) → IfErr r (λ e. (e ≡ Spent NUMBER_MAX) ⊎ ((e ≡ Disk) ⊎ (e ≡ Memory)))
      → IfErr r (λ e. ((version : ℕ) × (e ≡ Busy version)) ⊎ ((e ≡ Spent NUMBER_MAX) ⊎ ((e ≡ Disk) ⊎ (e ≡ Memory))))
  wider (Ok x) only = tt
  wider (Err e) only = inr only

  -- a message that the devices were asked for
  pub answers : (old new : TableNode D) (disk : StoreDisk) (agenda : Option (List StoreTask)) → agenda ≡ Some [] → (from : Node) (message : Message) (r : Result (Unit {0}) NodeFault) (step : StoreDisk → StoreStep) (is_spent : Type 0)
      → ((d : StoreDisk) → step d ≡ step_at old (at d (Some [])) (Take from (message_of message))) → (IsSpent old.schema.scheme old.schema.chunk disk message → is_spent) → (is_spent → IsSpent old.schema.scheme old.schema.chunk disk message) → IsTaken old message
      → Answers state images (at disk agenda) (step disk) is_spent old new r → Delivers state images (at disk agenda) from message old new r
  answers old new disk None is from message r step is_spent same to back taken a = absurd cc
  answers old new disk (Some (task ∷ tasks)) is from message r step is_spent same to back taken a = absurd cc
  answers old new disk (Some []) is from message r step is_spent same to back taken a = record {
    taken = λ _. subst (λ (x : StoreStep). OnOk r (IsBehind state old new x)) (same disk) a.done;
    dropped = λ isnt. absurd (isnt taken);
    busy = λ v. (λ e. absurd (not_busy r v a.only e), λ w. absurd w);
    given = λ _ s. a.given (to s);
    spent = λ last e. let l = is_last r last a.only e in (taken, back (a.spent l.1), refl, l.0);
    refused = a.refused;
    fallen = a.fallen;
    counted = a.counted;
    cause = a.cause;
    only = wider r a.only;
    any_moment = a.any_moment;
    rows_left = a.rows_left;
  }

  -- what is put beside the rows

  put_faults : (r : Result (Unit {0}) NodeFault) → (IsErrOf r (Spent NUMBER_MAX) → ⊥) → IfErr r (λ e. (e ≡ Spent NUMBER_MAX) ⊎ ((e ≡ Disk) ⊎ (e ≡ Memory)))
      → IfErr r (λ e. ((version : ℕ) × (e ≡ Busy version)) ⊎ ((e ≡ Disk) ⊎ (e ≡ Memory)))
  put_faults (Ok x) none only = tt
  put_faults (Err e) none only = ⊎_elim (λ is. absurd (none (ap (λ (f : NodeFault). Err f) is))) (λ more. inr more) only

  pub places : (old new : TableNode D) (disk : StoreDisk) (agenda : Option (List StoreTask)) → agenda ≡ Some [] → (put : SidePut) (r : Result (Unit {0}) NodeFault)
      → Answers state images (at disk agenda) (put_step old.table disk put) ⊥ old new r → Places state images (at disk agenda) put old new r
  places old new disk None is put r a = absurd cc
  places old new disk (Some (task ∷ tasks)) is put r a = absurd cc
  places old new disk (Some []) is put r a = record {
    placed = a.done;
    busy = λ v. (λ e. absurd (not_busy r v a.only e), λ w. absurd w);
    refused = a.refused;
    fallen = a.fallen;
    counted = a.counted;
    cause = a.cause;
    only = put_faults r a.spent a.only;
    any_moment = a.any_moment;
    rows_left = a.rows_left;
  }

  pub places_node : (s : TableStore) (put : SidePut) (old new : TableNode D) (r : Result (Unit {0}) NodeFault) → Places state images s put old new r → IsNode state new
  places_node s put old new (Ok x) k = (_, k.placed.table)
  places_node s put old new (Err (Busy v)) k = (_, (k.refused (λ is. cc)).table)
  places_node s put old new (Err (Spent last)) k = absurd (⊎_elim (λ b. let no_ = b.1 in cc) (λ more. ⊎_elim (λ a. cc) (λ a. cc) more) k.only)
  places_node s put old new (Err Disk) k = (_, (k.fallen refl).table)
  places_node s put old new (Err Memory) k = (_, (k.refused (λ is. cc)).table)
  places_node s put old new (Err NoRow) k = absurd (⊎_elim (λ b. let no_ = b.1 in cc) (λ more. ⊎_elim (λ a. cc) (λ a. cc) more) k.only)

  -- a request that is dropped, and one that is taken as another step has it
  pub stays_put : (node : TableNode D) (disk : StoreDisk) → IsTable state node (at disk (Some [])) → (step : StoreStep) → step ≡ moves.quiet disk (Some []) facts_of.Done → (is_spent : Type 0) → (is_spent → ⊥)
      → Answers state images (at disk (Some [])) step is_spent node node (Ok tt)
  stays_put node disk t step is is_spent none =
      subst (λ (x : StoreStep). Answers state images (at disk (Some [])) x is_spent node node (Ok tt)) (sym is)
      (record {
        done = record { table = t; told = sym (append-nil (told_by node)); sent = sym (append-nil (sent_by node)); same = record { store = refl; table = refl; schema = refl } };
        given = λ s. absurd (none s);
        spent = λ e. absurd cc;
        refused = λ _. tt;
        fallen = λ e. absurd cc;
        counted = λ _. refl;
        cause = λ e. absurd cc;
        only = tt;
        any_moment = rests node disk [] t.at.1;
        rows_left = still_rows state images only_now node disk [] t.at.1;
      })

  pub answers_as : (s : TableStore) (step other : StoreStep) → step ≡ other → (a b : Type 0) → (b → a) → (a → b) → (old new : TableNode D) (r : Result (Unit {0}) NodeFault) → Answers state images s step a old new r → Answers state images s other b old new r
  answers_as s step other is a b to back old new r k =
      subst (λ (x : StoreStep). Answers state images s x b old new r) is
      (record {
        done = k.done;
        given = λ spent. k.given (to spent);
        spent = λ e. back (k.spent e);
        refused = k.refused;
        fallen = k.fallen;
        counted = k.counted;
        cause = k.cause;
        only = k.only;
        any_moment = k.any_moment;
        rows_left = k.rows_left;
      })

  -- ---- a node behind it

  pub delivers_node : (s : TableStore) (from : Node) (message : Message) (old new : TableNode D) (r : Result (Unit {0}) NodeFault) → (IsTaken old message) ⊎ (IsTaken old message → ⊥) → Delivers state images s from message old new r → IsNode state new
  delivers_node s from message old new (Ok x) (inl taken) k = (_, (k.taken taken).table)
  delivers_node s from message old new (Ok x) (inr isnt) k = (_, (k.dropped isnt).table)
  delivers_node s from message old new (Err (Busy v)) which k = (_, (k.refused (λ is. cc)).table)
  delivers_node s from message old new (Err (Spent last)) which k = (_, (k.refused (λ is. cc)).table)
  delivers_node s from message old new (Err Disk) which k = (_, (k.fallen refl).table)
  delivers_node s from message old new (Err Memory) which k = (_, (k.refused (λ is. cc)).table)
  delivers_node s from message old new (Err NoRow) which k = absurd (⊎_elim (λ b. let no_ = b.1 in cc) (λ more. ⊎_elim (λ a. cc) (λ rest. ⊎_elim (λ a. cc) (λ a. cc) rest) more) k.only)
