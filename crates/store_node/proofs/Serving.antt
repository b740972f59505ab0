-- What a node with nothing to be done makes of a message, from what its devices do.
use Rattle.std.proofs.Common.{◌≡◌, ◌⊎◌, inl, inr, ⊎_elim, ℕ, ◌+◌, ◌<◌, ◌^◌, ◌++◌, length, map, Bool, true, false, List, [], ◌∷◌, Option, Some, None, Result, Ok, Err, refl, sym, ◌∙◌, ap, subst, arith, append-nil}
use Rattle.std.specs.Prelude.{◌==◌, ◌&&◌, nat_lt, if◌then◌else◌, IsErrOf}
use Rattle.disk_trait.specs.Image.{IsImage}
use Rattle.disk_trait.specs.Calls.{DiskState}
use Rattle.disk_trait.specs.Fuse.{behind, inner_of}
use Rattle.disk_trait.specs.declared.fuse.FuseDisk.{FuseDisk}
use Rattle.vault.specs.Calls.{IsEither}
use Rattle.stab_base.specs.declared.limits.TheConstants.{NUMBER_MAX}
use Rattle.stab_base.specs.declared.node.Node.{Node}
use Rattle.row_value.specs.Fit.{fit_of}
use Rattle.row_value.specs.declared.schema.Scheme.{Scheme}
use Rattle.row_value.specs.declared.schema.Scheme.TheVariants.{Strong, Causal, Eventual}
use Rattle.schemes.specs.declared.decision.Decision.{Decision}
use Rattle.schemes.specs.declared.decision.Decision.TheVariants as decisions
use Rattle.schemes.specs.Decide as schemes
use Rattle.row_store.specs.Spelling.{IsClient}
use Rattle.step_tables.specs.declared.message.Message.{Message}
use Rattle.step_tables.specs.declared.message.SyncRequest.{SyncRequest}
use Rattle.step_tables.specs.Facts as facts_of
use Rattle.step_tables.specs.Messages.{Send, Pair, Outcome, Request, Again, Late, Stale, Conflict, NeedWhole}
use Rattle.step_tables.specs.Store.{Stored, current_of}
use Rattle.step_tables.specs.StoreMoves.{StoreDisk, StoreTask, StoreStep, TableStore, accepting, item_for, sending, quiet, responded, decided, takes, unaccepted, keeps_there, version_of}
use Rattle.step_tables.specs.StoreMoves.{beside_task}
use Rattle.step_tables.specs.Chunks.{is_spelled}
use Rattle.store_commit.specs.declared.devs.TableDevs.{TableDevs}
use Rattle.store_commit.specs.declared.fault.CommitFault.{CommitFault}
use Rattle.store_commit.specs.declared.fault.CommitFault.TheVariants as commits
use Rattle.store_commit.specs.Devs.{Devs, Write}
use Rattle.store_commit.specs.Standing.{devs, writes_of, DevsLeave}
use Rattle.store_commit.specs.TakesOn.{AllLeave}
use Rattle.store_commit.proofs.Works.{all_same}
use Rattle.store_commit.proofs.Moments.{devs_weaker, rows_weaker}
use Rattle.store_commit.specs.Agenda.{update_writes}
use Rattle.store_commit.specs.Update.{entry_for, stored_for}
use Rattle.device_laws.specs.Stands.{Stands, Follows, update_for}
use Rattle.device_laws.proofs.Updates.{update_follows}
use Rattle.step_tables.specs.Travels.{send_of}
use Rattle.store_node.specs.Due.{fact_of}
use Rattle.store_node.specs.Fault.{fault_of}
use Rattle.store_node.specs.Gathered.{HasRoom}
use Rattle.store_node.specs.Sides.{put_of, write_beside}
use Rattle.store_node.specs.Taking.{refusal_of, answer_to, or_whole, Serves, IsBegunBy, step_for}
use Rattle.store_node.specs.Update.{request_of}
use Rattle.store_node.specs.declared.gathered.Gathered.{Gathered}
use Rattle.store_node.specs.declared.told.StoreFact.{StoreFact}
use Rattle.store_node.specs.declared.owed.Owed.TheVariants as owed
use Rattle.store_node.specs.declared.side_put.SidePut.{SidePut}
use Rattle.store_node.specs.declared.fault.NodeFault.{NodeFault}
use Rattle.store_node.specs.declared.fault.NodeFault.TheVariants as node_faults
use Rattle.store_node.specs.declared.node.TableNode.{TableNode}
use Rattle.store_node.specs.Node.{AreOwed, IsWorking, IsTable, IsSame, told_by, sent_by, own_faults, facts_in, sends_in, LeavesEither}
use Rattle.store_node.specs.Calls.{Fell, Stays, Answers, put_step}
use Rattle.store_node.proofs.Accepting.{tell_owed, accepting_tells, accepting_facts, accepting_sends, accepting_well}
use Rattle.store_node.proofs.RowsLeft.{rows_of_disk}
use Rattle.store_node.proofs.Falling.{MayHold, fallen, fallen_leaves, fallen_rows}
use Rattle.store_node.proofs.Following.{own_stays, own_rises, follows_now}
use Rattle.store_node.proofs.Making.{same_hidden, ready_up}
use Rattle.store_node.proofs.Starting.{no_room}
use Rattle.store_node.proofs.Stages.{accepting_puts, place_puts, place_room, place_facts, place_follows, place_well}
use Rattle.store_node.proofs.Working.{still_leaves, still_rows}

-- ---- a request, as it is decided

pub decided_is : (g : Scheme) (size table : ℕ) (d : StoreDisk) (from : Node) (request : Request) (yours : Pair) (o : Option Outcome)
    → or_whole (keeps_there size d.items request) (refusal_of g request.base (version_of (current_of d.items request.row)) yours request.number) ≡ o
    → decided g size table d from request yours ≡ step_for size table d from request o
decided_is g size table d from request yours o is =
    subst (λ (x : Option Outcome). decided g size table d from request yours ≡ step_for size table d from request x) is
    (pick (version_of (current_of d.items request.row)) (keeps_there size d.items request) g (yours.number == request.number) (nat_lt request.number yours.number))
  where
    pick : (now : ℕ) (k : Bool) (x : Scheme) (b c : Bool)
        → (if b then sending d (responded from request (Again yours.version) ∷ []) else (if c then sending d (responded from request (Late yours.number) ∷ []) else (if takes x request.base now && k then quiet d (Some (accepting size table d.items from request (item_for d.items request))) facts_of.Done else sending d (responded from request (unaccepted x request.base now) ∷ []))))
        ≡ step_for size table d from request (or_whole k (answer_to (if b then decisions.Again yours.version else (if c then decisions.Late yours.number else schemes.judged x request.base now))))
    pick now k x true c = refl
    pick now k x false true = refl
    pick now k x false false = by_scheme x
      where
        by_base : (latest : Outcome) (decision : Decision) (e there : Bool) → answer_to decision ≡ Some latest
            → (if e && there then quiet d (Some (accepting size table d.items from request (item_for d.items request))) facts_of.Done else sending d (responded from request (if e then NeedWhole else latest) ∷ [])) ≡ step_for size table d from request (or_whole there (answer_to (if e then decisions.Accept else decision)))
        by_base latest decision true true is = refl
        by_base latest decision true false is = refl
        by_base latest decision false there is = ap (λ (a : Option Outcome). step_for size table d from request (or_whole there a)) (sym is)

        always : (there : Bool) → (if there then quiet d (Some (accepting size table d.items from request (item_for d.items request))) facts_of.Done else sending d (responded from request NeedWhole ∷ [])) ≡ step_for size table d from request (or_whole there None)
        always true = refl
        always false = refl

        by_scheme : (y : Scheme) → (if takes y request.base now && k then quiet d (Some (accepting size table d.items from request (item_for d.items request))) facts_of.Done else sending d (responded from request (unaccepted y request.base now) ∷ [])) ≡ step_for size table d from request (or_whole k (answer_to (schemes.judged y request.base now)))
        by_scheme Strong = by_base (Stale now) (decisions.Stale now) (request.base == now) k refl
        by_scheme Causal = by_base (Conflict now) (decisions.Conflict now) (request.base == now) k refl
        by_scheme Eventual = always k

-- what isn't refused keeps chunks of its row alone
pub kept_there : (k : Bool) (o : Option Outcome) → or_whole k o ≡ None → k ≡ true
kept_there k (Some outcome) is = absurd cc
kept_there true None is = refl
kept_there false None is = absurd cc

module _ {D : Type 0} (state : D → DiskState) (images : D → ℕ → List ℕ → Type 0) (only_now : (disk : FuseDisk D) (image : List ℕ) → images (inner_of disk) (behind state disk).moment image → IsImage (behind state disk).pending image) where
  abbrev st : FuseDisk D → DiskState
  st f = behind state f

  abbrev im : FuseDisk D → ℕ → List ℕ → Type 0
  im f = images (inner_of f)

  abbrev at : StoreDisk → Option (List StoreTask) → TableStore
  at disk agenda = record { disk = disk; agenda = agenda }

  -- the node with other devices, and with what it has gathered elsewhere
  abbrev with_all : TableNode D → TableDevs (FuseDisk D) → Gathered StoreFact → Gathered (Option Node × Message) → TableNode D
  with_all node table facts messages = record node { devs = table; facts = facts; messages = messages }

  -- with nothing to be done
  pub at_idle : (P : TableStore → Type 0) (node : TableNode D) (disk : StoreDisk) (agenda : Option (List StoreTask)) → agenda ≡ Some [] → IsTable state node (at disk agenda) → (IsTable state node (at disk (Some [])) → P (at disk (Some []))) → P (at disk agenda)
  at_idle P node disk None is t to = absurd cc
  at_idle P node disk (Some []) is t to = to t
  at_idle P node disk (Some (task ∷ tasks)) is t to = absurd cc

  leaves : (node : TableNode D) (table : TableDevs (FuseDisk D)) (disk : StoreDisk) → Stands node.schema (devs st node.devs) disk → AllLeave st im node.devs table
      → DevsLeave st im node.devs table (λ d. Stands node.schema d disk ⊎ Stands node.schema d disk)
  leaves node table disk stands l =
      devs_weaker st im node.devs table (λ d. d ≡ devs st node.devs) (λ d. Stands node.schema d disk ⊎ Stands node.schema d disk) (all_same st im only_now node.devs table l.chunks l.rows l.log)
      (λ d is. inl (subst (λ (x : Devs). Stands node.schema x disk) (sym is) stands))

  -- devices that were only read
  pub kept_working : (node : TableNode D) (table : TableDevs (FuseDisk D)) (facts : Gathered StoreFact) (messages : Gathered (Option Node × Message)) (disk : StoreDisk) (tasks : List StoreTask) {T : Type 0} (r : Result T CommitFault)
      → (IsErrOf r commits.Disk → ⊥) → IsWorking state node disk tasks → Serves st im node.devs table r → writes_of table ≡ writes_of node.devs → HasRoom facts (facts_in tasks) → HasRoom messages (sends_in tasks)
      → IsWorking state (with_all node table facts messages) disk tasks
  kept_working node table facts messages disk tasks r not_disk h k writes fact_room message_room =
      let ready = k.ready not_disk in
      record {
        declared = h.declared;
        up = ready_up st im table (writes_of table) ready;
        fresh = k.fuse.fresh h.fresh;
        hidden = same_hidden st im node.devs table k.scanned h.hidden;
        ready = ready;
        follows = subst (λ (l : List Write). Follows node.schema (devs st table) l disk tasks) (sym writes) (subst (λ (d : Devs). Follows node.schema d (writes_of node.devs) disk tasks) (sym (k.same not_disk)) h.follows);
        well = h.well;
        owed = subst (λ (l : List Write). AreOwed node.table node.owed l tasks) (sym writes) h.owed;
        stage = h.stage;
        stages = h.stages;
        fact_room = fact_room;
        message_room = message_room;
        few_facts = h.few_facts;
        few_messages = h.few_messages;
      }

  module _ (old : TableNode D) (disk : StoreDisk) (t : IsTable state old (at disk (Some []))) where
    abbrev s : TableStore
    s = at disk (Some [])

    h : IsWorking state old disk []
    h = t.at.1

    stands : Stands old.schema (devs st old.devs) disk
    stands = follows_now old.schema (devs st old.devs) (writes_of old.devs) disk [] h.follows

    idle : (table : TableDevs (FuseDisk D)) (facts : Gathered StoreFact) (messages : Gathered (Option Node × Message)) {T : Type 0} (r : Result T CommitFault) → (IsErrOf r commits.Disk → ⊥) → Serves st im old.devs table r → writes_of table ≡ writes_of old.devs
        → IsTable state (with_all old table facts messages) s
    idle table facts messages r not_disk k writes = record {
      size = t.size;
      spelled = t.spelled;
      short = t.short;
      at = (t.at.0, kept_working old table facts messages disk [] r not_disk h k writes (no_room facts) (no_room messages));
    }

    counted_at : (table : TableDevs (FuseDisk D)) (facts : Gathered StoreFact) (messages : Gathered (Option Node × Message)) {T : Type 0} (r : Result T CommitFault) → (IsErrOf r commits.Disk → ⊥) → Serves st im old.devs table r
        → own_faults state (with_all old table facts messages) ≡ own_faults state old
    counted_at table facts messages r not_disk k = own_stays state old (with_all old table facts messages) (k.counted not_disk) (k.fuse.stopped h.fresh.unset)

    -- a message is sent at once
    pub sends_one : (is_spent : Type 0) → (is_spent → ⊥) → (table : TableDevs (FuseDisk D)) (facts : Gathered StoreFact) (messages : Gathered (Option Node × Message)) {T : Type 0} (x : T) (send : Send) → Serves st im old.devs table (Ok x) → writes_of table ≡ writes_of old.devs
        → facts.items.items ≡ old.facts.items.items → map send_of messages.items.items ≡ sent_by old ++ send ∷ []
        → Answers state images s (sending disk (send ∷ [])) is_spent old (with_all old table facts messages) (Ok tt)
    sends_one is_spent not_spent table facts messages x send k writes told sent = record {
      done = record {
        table = idle table facts messages (Ok x) (λ is. cc) k writes;
        told = ap (map fact_of) told ∙ sym (append-nil (told_by old));
        sent = sent;
        same = record { store = refl; table = refl; schema = refl };
      };
      given = not_spent;
      spent = λ is. absurd cc;
      refused = λ _. tt;
      fallen = λ is. absurd cc;
      counted = λ _. counted_at table facts messages (Ok x) (λ is. cc) k;
      cause = λ is. absurd cc;
      only = tt;
      any_moment = leaves old table disk stands k.leave;
      rows_left = rows_of_disk st im old.schema (devs st old.devs) disk stands old.devs table k.leave.rows;
    }

    stays_at : (table : TableDevs (FuseDisk D)) (facts : Gathered StoreFact) (messages : Gathered (Option Node × Message)) {T : Type 0} (r : Result T CommitFault) → (IsErrOf r commits.Disk → ⊥) → Serves st im old.devs table r → writes_of table ≡ writes_of old.devs
        → facts.items.items ≡ old.facts.items.items → messages.items.items ≡ old.messages.items.items → Stays state old (with_all old table facts messages) s
    stays_at table facts messages r not_disk k writes told sent = record {
      table = idle table facts messages r not_disk k writes;
      told = ap (map fact_of) told;
      sent = ap (map send_of) sent;
      same = record { store = refl; table = refl; schema = refl };
    }

    -- a write is taken on
    pub takes_on : (is_spent : Type 0) → (is_spent → ⊥) → (table : TableDevs (FuseDisk D)) (facts : Gathered StoreFact) (messages : Gathered (Option Node × Message)) (from : Node) (request : SyncRequest) {T : Type 0} (x : T) (version : ℕ)
        → Serves st im old.devs table (Ok x) → IsBegunBy old.schema.chunk (devs st old.devs) disk request (writes_of table) version
        → is_spelled old.schema.chunk request.content request.pieces ≡ true → keeps_there old.schema.chunk disk.items (request_of request) ≡ true → request.table ≡ old.table → IsClient request.client → fit_of old.schema request.content ≡ Ok tt
        → facts.items.items ≡ old.facts.items.items → messages.items.items ≡ old.messages.items.items → HasRoom facts 1 → HasRoom messages 1
        → Answers state images s (quiet disk (Some (accepting old.schema.chunk old.table disk.items from (request_of request) (item_for disk.items (request_of request)))) facts_of.Done) is_spent old
        (record (with_all old table facts messages) { owed = owed.Update from (item_for disk.items (request_of request)).entry }) (Ok tt)
    takes_on is_spent not_spent table facts messages from request x version k b spelled there of_table client fits told sent fact_room message_room =
        let q : Request = request_of request in
        let item : Stored = item_for disk.items q in
        let size = old.schema.chunk in
        let here = devs st old.devs in
        let few : length disk.items + 1 < 2 ^ 64 = let v = b.version_is in let f = b.few in omega (arith, v, f) in
        let follows = update_follows old.schema here disk stands h.well.1 q spelled there client b.number few from old.table in
        let writes = b.writes_are ∙ ap (λ (v : ℕ). update_writes (entry_for here v (update_for size q)) (update_for size q).fresh (stored_for here v (update_for size q))) b.version_is in
        let ready = k.ready (λ is. cc) in
        let now = subst (λ (l : List Write). Follows old.schema here l disk (accepting size old.table disk.items from q item)) (sym writes) follows in
        let one_fact = accepting_facts old.table from q item of_table refl refl refl size disk.items in
        let one_send = accepting_sends old.table from q item of_table refl refl refl size disk.items in
        record {
          done = record {
            table = record {
              size = t.size;
              spelled = t.spelled;
              short = t.short;
              at = (
                t.at.0,
                record {
                  declared = h.declared;
                  up = ready_up st im table (writes_of table) ready;
                  fresh = k.fuse.fresh h.fresh;
                  hidden = same_hidden st im old.devs table k.scanned h.hidden;
                  ready = ready;
                  follows = subst (λ (d : Devs). Follows old.schema d (writes_of table) disk (accepting size old.table disk.items from q item)) (sym (k.same (λ is. cc))) now;
                  well = accepting_well old.schema size old.table disk from q item h.well.0 fits;
                  owed = tell_owed old.table (owed.Update from item.entry) old.schema here (writes_of table) disk (accepting size old.table disk.items from q item) now
                      (accepting_tells old.table from q item of_table refl refl refl size disk.items);
                  stage = h.stage;
                  stages = accepting_puts from item.entry size old.table disk.items q item;
                  fact_room = subst (λ (n : ℕ). HasRoom facts n) (sym one_fact) fact_room;
                  message_room = subst (λ (n : ℕ). HasRoom messages n) (sym one_send) message_room;
                  few_facts = omega (arith, one_fact);
                  few_messages = omega (arith, one_send);
                },
              );
            };
            told = ap (map fact_of) told ∙ sym (append-nil (told_by old));
            sent = ap (map send_of) sent ∙ sym (append-nil (sent_by old));
            same = record { store = refl; table = refl; schema = refl };
          };
          given = not_spent;
          spent = λ is. absurd cc;
          refused = λ _. tt;
          fallen = λ is. absurd cc;
          counted = λ _. own_stays state old (with_all old table facts messages) (k.counted (λ is. cc)) (k.fuse.stopped h.fresh.unset);
          cause = λ is. absurd cc;
          only = tt;
          any_moment = leaves old table disk stands k.leave;
          rows_left = rows_of_disk st im old.schema (devs st old.devs) disk stands old.devs table k.leave.rows;
        }

    -- the put of the table's state is taken on
    pub places_on : (table : TableDevs (FuseDisk D)) (facts : Gathered StoreFact) (put : SidePut) → {T : Type 0} (x : T) → Serves st im old.devs table (Ok x)
        → writes_of table ≡ write_beside old.schema put ∷ [] → facts.items.items ≡ old.facts.items.items → HasRoom facts 1
        → Answers state images s (put_step old.table disk (put_of put)) ⊥ old (record old { devs = table; facts = facts; owed = owed.Place put }) (Ok tt)
    places_on table facts put x k taken told room =
        let here = devs st old.devs in
        let tasks : List StoreTask = beside_task old.table (put_of put) ∷ [] in
        let ready = k.ready (λ is. cc) in
        let now = subst (λ (l : List Write). Follows old.schema here l disk tasks) (sym taken) (place_follows old.schema here disk old.table put stands) in
        record {
          done = record {
            table = record {
              size = t.size;
              spelled = t.spelled;
              short = t.short;
              at = (
                t.at.0,
                record {
                  declared = h.declared;
                  up = ready_up st im table (writes_of table) ready;
                  fresh = k.fuse.fresh h.fresh;
                  hidden = same_hidden st im old.devs table k.scanned h.hidden;
                  ready = ready;
                  follows = subst (λ (d : Devs). Follows old.schema d (writes_of table) disk tasks) (sym (k.same (λ is. cc))) now;
                  well = place_well old.schema disk old.table (put_of put) h.well;
                  owed = tell_owed old.table (owed.Place put) old.schema here (writes_of table) disk tasks now ((λ last. refl), refl, tt);
                  stage = h.stage;
                  stages = ((λ d. place_puts (put_of put) d), tt);
                  fact_room = place_room old.table (put_of put) facts room;
                  message_room = no_room old.messages;
                  few_facts = place_facts old.table (put_of put);
                  few_messages = omega arith;
                },
              );
            };
            told = ap (map fact_of) told ∙ sym (append-nil (told_by old));
            sent = sym (append-nil (sent_by old));
            same = record { store = refl; table = refl; schema = refl };
          };
          given = λ no_. absurd no_;
          spent = λ is. absurd cc;
          refused = λ _. tt;
          fallen = λ is. absurd cc;
          counted = λ _. own_stays state old (with_all old table facts old.messages) (k.counted (λ is. cc)) (k.fuse.stopped h.fresh.unset);
          cause = λ is. absurd cc;
          only = tt;
          any_moment = leaves old table disk stands k.leave;
          rows_left = rows_of_disk st im old.schema (devs st old.devs) disk stands old.devs table k.leave.rows;
        }

    -- ---- refusals

    -- memory was refused, or no version is left
    refuses : (step : StoreStep) (is_spent : Type 0) (table : TableDevs (FuseDisk D)) (facts : Gathered StoreFact) (messages : Gathered (Option Node × Message)) {T : Type 0} (e : CommitFault) → (e ≡ commits.Spent) ⊎ (e ≡ commits.Memory) → (e ≡ commits.Spent → is_spent)
        → Serves {T = T} st im old.devs table (Err e) → facts.items.items ≡ old.facts.items.items → messages.items.items ≡ old.messages.items.items
        → Answers state images s step is_spent old (with_all old table facts messages) (Err (fault_of e))
    refuses step is_spent table facts messages {T} e which spent k told sent = record {
      done = tt;
      given = λ _. tt;
      spent = λ is. ⊎_elim (λ was. spent was) (λ was. let no_ : fault_of e ≡ node_faults.Memory = ap fault_of was in absurd cc) which;
      refused = λ _. stays_at table facts messages {T = T} (Err e) not_disk k k.refused told sent;
      fallen = λ is. absurd (not_failed is);
      counted = λ _. counted_at table facts messages {T = T} (Err e) not_disk k;
      cause = λ is. absurd (not_failed is);
      only = ⊎_elim (λ was. inl (ap fault_of was)) (λ was. inr (inr (ap fault_of was))) which;
      any_moment = leaves old table disk stands k.leave;
      rows_left = rows_of_disk st im old.schema (devs st old.devs) disk stands old.devs table k.leave.rows;
    }
      where
        not_disk : IsErrOf {T = T} {E = CommitFault} (Err e) commits.Disk → ⊥
        not_disk is = let same : e ≡ commits.Disk = cc in ⊎_elim (λ was. cc) (λ was. cc) which

        not_failed : IsErrOf {T = Unit {0}} {E = NodeFault} (Err (fault_of e)) node_faults.Disk → ⊥
        not_failed is = ⊎_elim (λ was. let f : fault_of e ≡ node_faults.Spent NUMBER_MAX = ap fault_of was in cc) (λ was. let f : fault_of e ≡ node_faults.Memory = ap fault_of was in cc) which

    -- a disk has failed
    falls_down : (step : StoreStep) (is_spent : Type 0) (table : TableDevs (FuseDisk D)) (facts : Gathered StoreFact) (messages : Gathered (Option Node × Message)) (new : TableNode D) {T : Type 0}
        → Serves {T = T} st im old.devs table (Err commits.Disk) → facts.items.items ≡ old.facts.items.items → messages.items.items ≡ old.messages.items.items
        → Fell state images (with_all old table facts messages) new
        → Answers state images s step is_spent old new (Err node_faults.Disk)
    falls_down step is_spent table facts messages new k told sent f =
        let mid = with_all old table facts messages in
        let here = devs st old.devs in
        let same : IsSame old new = record { store = f.same.store; table = f.same.table; schema = f.same.schema } in
        let declared : new.is_declared ≡ true = f.declared ∙ h.declared in
        let may : MayHold old.schema here here disk disk = record { first = stands; second = stands; first_fit = h.well.0; second_fit = h.well.0 } in
        let run : DevsLeave st im old.devs table (IsEither here here) = devs_weaker st im old.devs table (λ d. d ≡ here) (IsEither here here) (all_same st im only_now old.devs table k.leave.chunks k.leave.rows k.leave.log) (λ d is. inl is) in
        record {
          done = tt;
          given = λ _. tt;
          spent = λ is. absurd cc;
          refused = λ n. absurd (n refl);
          fallen = λ _. record {
            table = ⊎_elim (λ a. a) (λ a. a) (fallen state images old mid new s t same declared f.down f.falls old.devs here here disk disk may run);
            told = ap (λ (g : Gathered StoreFact). map fact_of g.items.items) f.facts ∙ ap (map fact_of) told;
            sent = ap (λ (g : Gathered (Option Node × Message)). map send_of g.items.items) f.messages ∙ ap (map send_of) sent;
            same = same;
          };
          counted = λ n. absurd (n refl);
          cause = λ _. let r = own_rises state old mid (k.disk refl) (k.fuse.stopped h.fresh.unset) in let c = f.falls.counted in omega (arith, r, c);
          only = inr (inl refl);
          any_moment = fallen_leaves state images old mid new s t same declared f.down f.falls old.devs here here disk disk may run;
          rows_left = fallen_rows state images mid new f.falls old.schema old.devs here here disk disk may
              (rows_weaker st im old.devs table (λ held. held ≡ here.held) (IsEither here.held here.held) k.leave.rows (λ held is. inl is));
        }

    -- what the devices were refused is handed on
    pub fails : (step : StoreStep) (is_spent : Type 0) (table : TableDevs (FuseDisk D)) (facts : Gathered StoreFact) (messages : Gathered (Option Node × Message)) (new : TableNode D) {T : Type 0} (e : CommitFault) → (e ≡ commits.Spent → is_spent)
        → Serves {T = T} st im old.devs table (Err e) → facts.items.items ≡ old.facts.items.items → messages.items.items ≡ old.messages.items.items
        → (e ≡ commits.Disk → Fell state images (with_all old table facts messages) new) → ((e ≡ commits.Disk → ⊥) → new ≡ with_all old table facts messages)
        → Answers state images s step is_spent old new (Err (fault_of e))
    fails step is_spent table facts messages new {T} e spent k told sent fell stays = ⊎_elim down (λ more. refused more) k.only
      where
        down : e ≡ commits.Disk → Answers state images s step is_spent old new (Err (fault_of e))
        down is =
            let failed : Serves {T = T} st im old.devs table (Err commits.Disk) = subst (λ (f : CommitFault). Serves {T = T} st im old.devs table (Err f)) is k in
            subst (λ (f : CommitFault). Answers state images s step is_spent old new (Err (fault_of f))) (sym is) (falls_down step is_spent table facts messages new failed told sent (fell is))

        refused : (e ≡ commits.Spent) ⊎ (e ≡ commits.Memory) → Answers state images s step is_spent old new (Err (fault_of e))
        refused which =
            subst (λ (n : TableNode D). Answers state images s step is_spent old n (Err (fault_of e))) (sym (stays (λ is. ⊎_elim (λ was. cc) (λ was. cc) which))) (refuses step is_spent table facts messages e which spent k told sent)

    -- memory was refused before the devices were asked
    pub short_of : (step : StoreStep) (is_spent : Type 0) (facts : Gathered StoreFact) (messages : Gathered (Option Node × Message)) → facts.items.items ≡ old.facts.items.items → messages.items.items ≡ old.messages.items.items
        → Answers state images s step is_spent old (record old { facts = facts; messages = messages }) (Err node_faults.Memory)
    short_of step is_spent facts messages told sent = record {
      done = tt;
      given = λ _. tt;
      spent = λ is. absurd cc;
      refused = λ _. record {
        table = record {
          size = t.size;
          spelled = t.spelled;
          short = t.short;
          at = (
            t.at.0,
            record {
              declared = h.declared;
              up = h.up;
              fresh = h.fresh;
              hidden = h.hidden;
              ready = h.ready;
              follows = h.follows;
              well = h.well;
              owed = h.owed;
              stage = h.stage;
              stages = h.stages;
              fact_room = no_room facts;
              message_room = no_room messages;
              few_facts = h.few_facts;
              few_messages = h.few_messages;
            },
          );
        };
        told = ap (map fact_of) told;
        sent = ap (map send_of) sent;
        same = record { store = refl; table = refl; schema = refl };
      };
      fallen = λ is. absurd cc;
      counted = λ _. refl;
      cause = λ is. absurd cc;
      only = inr (inr refl);
      any_moment = still;
      rows_left = still_rows state images only_now old disk [] h;
    }
      where
        still : LeavesEither state images old (record old { facts = facts; messages = messages }) disk disk
        still = still_leaves state images only_now old disk h
