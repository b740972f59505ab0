-- What a node that is up and has nothing to be done makes of a request, a pull or a client that asks for a row whole, from what its devices do.
use Rattle.std.proofs.Common.{◌≡◌, ◌⊎◌, ⊎_elim, ℕ, ◌<◌, ◌++◌, length, map, Bool, true, false, true≢false, List, [], ◌∷◌, Option, Some, None, Result, Ok, Err, refl, sym, ◌∙◌, ap, subst}
use Rattle.std.proofs.lemmas.List.{map-append}
use Rattle.disk_trait.specs.Image.{IsImage}
use Rattle.disk_trait.specs.Calls.{DiskState}
use Rattle.disk_trait.specs.Fuse.{behind, inner_of}
use Rattle.disk_trait.specs.declared.fuse.FuseDisk.{FuseDisk}
use Rattle.stab_base.specs.declared.limits.TheConstants.{NUMBER_MAX}
use Rattle.stab_base.specs.declared.node.Node.{Node}
use Rattle.row_value.specs.Fit.{fit_of}
use Rattle.row_store.specs.Spelling.{IsClient}
use Rattle.step_tables.specs.declared.message.Message.{Message}
use Rattle.step_tables.specs.declared.message.Message.TheVariants as kinds
use Rattle.step_tables.specs.declared.message.Outcome.{Outcome}
use Rattle.step_tables.specs.declared.message.PullRequest.{PullRequest}
use Rattle.step_tables.specs.declared.message.PullResponse.{PullResponse}
use Rattle.step_tables.specs.declared.message.SyncRequest.{SyncRequest}
use Rattle.step_tables.specs.declared.message.SyncResponse.{SyncResponse}
use Rattle.step_tables.specs.declared.message.TornRowRequest.{TornRowRequest}
use Rattle.step_tables.specs.declared.message.TornRowResponse.{TornRowResponse}
use Rattle.step_tables.specs.Messages.{Send, Pulled, TornPulled}
use Rattle.step_tables.specs.Messages as ends
use Rattle.std.specs.Prelude.{if◌then◌else◌}
use Rattle.step_tables.specs.Chunks.{is_spelled}
use Rattle.step_tables.specs.Facts as facts_of
use Rattle.step_tables.specs.Store.{current_of, next_changed}
use Rattle.step_tables.specs.StoreMoves.{StoreDisk, StoreStep, StoreTask, TableStore, asked, decided, quiet, answered, responded, pulled_for, item_for, yours_in, version_of, keeps_there}
use Rattle.step_tables.specs.StoreMoves.{torn_answered, torn_pulled_for, SidePut}
use Rattle.step_tables.specs.Travels.{outcome_of, pulled_of, torn_of, torn_pulled_of, send_of}
use Rattle.store_commit.specs.declared.devs.TableDevs.{TableDevs}
use Rattle.store_commit.specs.declared.fault.CommitFault.{CommitFault}
use Rattle.store_commit.specs.declared.fault.CommitFault.TheVariants as commits
use Rattle.store_commit.specs.Standing.{devs, writes_of, IsReady}
use Rattle.device_laws.specs.Stands.{Stands}
use Rattle.table_model.specs.declared.entry.Entry.{Entry}
use Rattle.store_node.specs.declared.gathered.Gathered.{Gathered}
use Rattle.store_node.specs.declared.told.StoreFact.{StoreFact}
use Rattle.store_node.specs.declared.owed.Owed.TheVariants as owed
use Rattle.store_node.specs.declared.fault.NodeFault.{NodeFault}
use Rattle.store_node.specs.declared.fault.NodeFault.TheVariants as node_faults
use Rattle.store_node.specs.declared.node.TableNode.{TableNode}
use Rattle.store_node.specs.declared.taking.Taken.{Taken}
use Rattle.store_node.specs.declared.taking.Taken.TheVariants.{Answered, Begun}
use Rattle.store_node.specs.Fault.{fault_of}
use Rattle.store_node.specs.Gathered.{HasRoom}
use Rattle.store_node.specs.Messages.{entry_of}
use Rattle.store_node.specs.Node.{IsTable, sent_by}
use Rattle.store_node.specs.Calls.{Fell, Answers, Delivers, Places, IsTaken, IsSpentOn, put_step}
use Rattle.store_node.specs.Sides.{put_of, write_beside}
use Rattle.store_node.specs.declared.side_put.SidePut as sides
use Rattle.store_node.specs.Taking.{Serves, IsPulled, IsTornPulled, IsTaking, refusal_of, refused_by, step_for}
use Rattle.store_node.specs.Update.{request_of, pull_of}
use Rattle.store_node.proofs.Following.{follows_now}
use Rattle.store_node.proofs.Delivering.{idle_state, drops, passes, answers, stays_put, answers_as, places}
use Rattle.store_node.proofs.Serving.{decided_is, kept_there, at_idle, sends_one, takes_on, places_on, fails, short_of}
use Rattle.store_node.proofs.Telling.{pulled_is, torn_is}

pub pushed : {T : Type 0} (new mid old : List T) (x : T) → new ≡ mid ++ x ∷ [] → mid ≡ old → new ≡ old ++ x ∷ []
pushed {T} new mid old x is same = is ∙ ap (λ (l : List T). l ++ x ∷ []) same

pub never_spent : (e : CommitFault) → (e ≡ commits.Disk) ⊎ ((e ≡ commits.Down) ⊎ (e ≡ commits.Memory)) → e ≡ commits.Spent → ⊥
never_spent e which is = ⊎_elim (λ was. cc) (λ more. ⊎_elim (λ was. cc) (λ was. cc) more) which

module _ {D : Type 0} (state : D → DiskState) (images : D → ℕ → List ℕ → Type 0) (only_now : (disk : FuseDisk D) (image : List ℕ) → images (inner_of disk) (behind state disk).moment image → IsImage (behind state disk).pending image) where
  abbrev st : FuseDisk D → DiskState
  st f = behind state f

  abbrev im : FuseDisk D → ℕ → List ℕ → Type 0
  im f = images (inner_of f)

  abbrev at : StoreDisk → Option (List StoreTask) → TableStore
  at disk agenda = record { disk = disk; agenda = agenda }

  module _ (old : TableNode D) (up : old.is_up ≡ true) (none : writes_of old.devs ≡ []) where
    -- what holds with nothing to be done holds of the node
    idly : (P : TableStore → Type 0) (s : TableStore) → IsTable state old s → ((disk : StoreDisk) → IsTable state old (at disk (Some [])) → P (at disk (Some []))) → P s
    idly P s t to = at_idle state images only_now P old s.disk s.agenda (idle_state state images only_now old s.disk s.agenda t up none) t (λ u. to s.disk u)

    stands_at : (disk : StoreDisk) → IsTable state old (at disk (Some [])) → Stands old.schema (devs st old.devs) disk
    stands_at disk t = follows_now old.schema (devs st old.devs) (writes_of old.devs) disk [] t.at.1.follows

    abbrev Held : Type 0
    Held = (disk : StoreDisk) × Stands old.schema (devs st old.devs) disk × (disk.pending ≡ None)

    pub stands_closed : (s : TableStore) → IsTable state old s → Held
    stands_closed s t = idly (λ _. Held) s t (λ disk u. (disk, stands_at disk u, u.at.1.well.1))

    pub size_of : (s : TableStore) → IsTable state old s → 0 < old.schema.chunk
    size_of s t = t.size

    pub ready_idle : IsReady st old.devs (writes_of old.devs) → IsReady st old.devs []
    ready_idle r = subst (λ l. IsReady st old.devs l) none r

    -- ---- a message, as it is delivered

    pub dropped_at : (from : Node) (message : Message) → (IsTaken old message → ⊥) → (s : TableStore) → IsTable state old s → Delivers state images s from message old old (Ok tt)
    dropped_at from message isnt s t = drops state images only_now old s.disk s.agenda (idle_state state images only_now old s.disk s.agenda t up none) t from message isnt

    -- a request as the step table asks for it
    abbrev asks : Node → SyncRequest → StoreDisk → StoreStep
    asks from request d = asked old.schema.scheme old.schema.chunk old.table d from (request_of request)

    abbrev is_spent_on : SyncRequest → StoreDisk → Type 0
    is_spent_on request d = IsSpentOn old.schema.scheme old.schema.chunk d request

    pub unspelled_at : (from : Node) (request : SyncRequest) → is_spelled old.schema.chunk request.content request.pieces ≡ false
        → (s : TableStore) → IsTable state old s → Answers state images s (asks from request s.disk) (is_spent_on request s.disk) old old (Ok tt)
    unspelled_at from request isnt s t =
        idly (λ x. Answers state images x (asks from request x.disk) (is_spent_on request x.disk) old old (Ok tt)) s t
        (λ disk u. stays_put state images only_now old disk u (asks from request disk)
        (ap (λ (b : Bool). if b then decided old.schema.scheme old.schema.chunk old.table disk from (request_of request) (yours_in disk.items request.client request.row) else quiet disk (Some []) facts_of.Done) isnt)
        (is_spent_on request disk) (λ spent. true≢false (sym spent.0 ∙ isnt)))

    pub spelled_at : (from : Node) (request : SyncRequest) → is_spelled old.schema.chunk request.content request.pieces ≡ true → (new : TableNode D) (r : Result (Unit {0}) NodeFault) → (s : TableStore)
        → Answers state images s (step_for old.schema.chunk old.table s.disk from (request_of request) (refused_by old.schema.scheme old.schema.chunk s.disk request))
        ((refused_by old.schema.scheme old.schema.chunk s.disk request ≡ None) × (length s.disk.items ≡ NUMBER_MAX)) old new r
        → Answers state images s (asks from request s.disk) (is_spent_on request s.disk) old new r
    spelled_at from request is new r s a =
        let d = s.disk in
        let step : StoreStep = step_for old.schema.chunk old.table d from (request_of request) (refused_by old.schema.scheme old.schema.chunk d request) in
        let same : step ≡ asks from request d =
        sym (ap (λ (b : Bool). if b then decided old.schema.scheme old.schema.chunk old.table d from (request_of request) (yours_in d.items request.client request.row) else quiet d (Some []) facts_of.Done) is
        ∙ decided_is old.schema.scheme old.schema.chunk old.table d from (request_of request) (yours_in d.items request.client request.row) (refused_by old.schema.scheme old.schema.chunk d request) refl) in
        answers_as state images only_now s step (asks from request d) same ((refused_by old.schema.scheme old.schema.chunk d request ≡ None) × (length d.items ≡ NUMBER_MAX)) (is_spent_on request d) (λ spent. (spent.1, spent.2)) (λ spent. (is, spent.0, spent.1)) old new r a

    pub delivers_request : (new : TableNode D) (from : Node) (message : Message) (request : SyncRequest) → message ≡ kinds.SyncRequest request → (r : Result (Unit {0}) NodeFault) → IsTaken old message
        → ((s : TableStore) → IsTable state old s → Answers state images s (asks from request s.disk) (is_spent_on request s.disk) old new r)
        → (s : TableStore) → IsTable state old s → Delivers state images s from message old new r
    delivers_request new from message request is r taken a s t =
        subst (λ (m : Message). Delivers state images s from m old new r) (sym is)
        (answers state images only_now old new s.disk s.agenda (idle_state state images only_now old s.disk s.agenda t up none) from (kinds.SyncRequest request) r (asks from request) (is_spent_on request s.disk)
        (λ d. refl) (λ x. x) (λ x. x) (subst (IsTaken old) is taken) (a s t))

    pub delivers_pull : (new : TableNode D) (from : Node) (message : Message) (request : PullRequest) → message ≡ kinds.PullRequest request → (r : Result (Unit {0}) NodeFault) → IsTaken old message
        → ((s : TableStore) → IsTable state old s → Answers state images s (answered s.disk from (pull_of request)) ⊥ old new r)
        → (s : TableStore) → IsTable state old s → Delivers state images s from message old new r
    delivers_pull new from message request is r taken a s t =
        subst (λ (m : Message). Delivers state images s from m old new r) (sym is)
        (answers state images only_now old new s.disk s.agenda (idle_state state images only_now old s.disk s.agenda t up none) from (kinds.PullRequest request) r (λ d. answered d from (pull_of request)) ⊥
        (λ d. refl) (λ x. x) (λ x. x) (subst (IsTaken old) is taken) (a s t))

    pub delivers_torn : (new : TableNode D) (from : Node) (message : Message) (request : TornRowRequest) → message ≡ kinds.TornRowRequest request
        → (r : Result (Unit {0}) NodeFault) → IsTaken old message
        → ((s : TableStore) → IsTable state old s → Answers state images s (torn_answered s.disk from (torn_of request)) ⊥ old new r)
        → (s : TableStore) → IsTable state old s → Delivers state images s from message old new r
    delivers_torn new from message request is r taken a s t =
        subst (λ (m : Message). Delivers state images s from m old new r) (sym is)
        (answers state images only_now old new s.disk s.agenda (idle_state state images only_now old s.disk s.agenda t up none) from (kinds.TornRowRequest request) r
        (λ d. torn_answered d from (torn_of request)) ⊥
        (λ d. refl) (λ x. x) (λ x. x) (subst (IsTaken old) is taken) (a s t))

    pub passes_response : (from : Node) (message : Message) (response : SyncResponse) → message ≡ kinds.SyncResponse response → (s : TableStore) → IsTable state old s → Delivers state images s from message old old (Ok tt)
    passes_response from message response is s t =
        subst (λ (m : Message). Delivers state images s from m old old (Ok tt)) (sym is)
        (passes state images only_now old s.disk s.agenda (idle_state state images only_now old s.disk s.agenda t up none) t from (kinds.SyncResponse response) (λ d. refl) (λ x. x))

    pub passes_pulled : (from : Node) (message : Message) (response : PullResponse) → message ≡ kinds.PullResponse response → (s : TableStore) → IsTable state old s → Delivers state images s from message old old (Ok tt)
    passes_pulled from message response is s t =
        subst (λ (m : Message). Delivers state images s from m old old (Ok tt)) (sym is)
        (passes state images only_now old s.disk s.agenda (idle_state state images only_now old s.disk s.agenda t up none) t from (kinds.PullResponse response) (λ d. refl) (λ x. x))

    pub passes_torn : (from : Node) (message : Message) (response : TornRowResponse) → message ≡ kinds.TornRowResponse response
        → (s : TableStore) → IsTable state old s → Delivers state images s from message old old (Ok tt)
    passes_torn from message response is s t =
        subst (λ (m : Message). Delivers state images s from m old old (Ok tt)) (sym is)
        (passes state images only_now old s.disk s.agenda (idle_state state images only_now old s.disk s.agenda t up none) t from
        (kinds.TornRowResponse response) (λ d. refl) (λ x. x))

    pub placed_at : (put : SidePut) (new : TableNode D) (r : Result (Unit {0}) NodeFault) → ((s : TableStore) → IsTable state old s → Answers state images s (put_step old.table s.disk put) ⊥ old new r)
        → (s : TableStore) → IsTable state old s → Places state images s put old new r
    placed_at put new r a s t = places state images only_now old new s.disk s.agenda (idle_state state images only_now old s.disk s.agenda t up none) put r (a s t)

    -- ---- want of memory before the devices were asked

    pub shortly : (step : StoreDisk → StoreStep) (is_spent : StoreDisk → Type 0) (facts : Gathered StoreFact) (messages : Gathered (Option Node × Message)) → facts.items.items ≡ old.facts.items.items → messages.items.items ≡ old.messages.items.items
        → (s : TableStore) → IsTable state old s → Answers state images s (step s.disk) (is_spent s.disk) old (record old { facts = facts; messages = messages }) (Err node_faults.Memory)
    shortly step is_spent facts messages told sent s t =
        idly (λ x. Answers state images x (step x.disk) (is_spent x.disk) old (record old { facts = facts; messages = messages }) (Err node_faults.Memory)) s t
        (λ disk u. short_of state images only_now old disk u (step disk) (is_spent disk) facts messages told sent)

    module _ (table : TableDevs (FuseDisk D)) (facts : Gathered StoreFact) (messages : Gathered (Option Node × Message)) where
      -- ---- a fault of the devices

      pub refusedly : (step : StoreDisk → StoreStep) (is_spent : StoreDisk → Type 0) (new : TableNode D) {T : Type 0} (e : CommitFault) → ((disk : StoreDisk) → Stands old.schema (devs st old.devs) disk → e ≡ commits.Spent → is_spent disk)
          → Serves {T = T} st im old.devs table (Err e) → facts.items.items ≡ old.facts.items.items → messages.items.items ≡ old.messages.items.items
          → (e ≡ commits.Disk → Fell state images (record old { devs = table; facts = facts; messages = messages }) new) → ((e ≡ commits.Disk → ⊥) → new ≡ record old { devs = table; facts = facts; messages = messages })
          → (s : TableStore) → IsTable state old s → Answers state images s (step s.disk) (is_spent s.disk) old new (Err (fault_of e))
      refusedly step is_spent new {T} e spent k told sent fell stays s t =
          idly (λ x. Answers state images x (step x.disk) (is_spent x.disk) old new (Err (fault_of e))) s t
          (λ disk u. fails state images only_now old disk u (step disk) (is_spent disk) table facts messages new {T = T} e (spent disk (stands_at disk u)) k told sent fell stays)

      -- ---- a put beside the rows

      pub puts_beside : (put : sides.SidePut) → {T : Type 0} (x : T) → Serves st im old.devs table (Ok x) → writes_of table ≡ write_beside old.schema put ∷ []
          → facts.items.items ≡ old.facts.items.items → HasRoom facts 1
          → (s : TableStore) → IsTable state old s → Answers state images s (put_step old.table s.disk (put_of put)) ⊥ old (record old { devs = table; facts = facts; owed = owed.Place put }) (Ok tt)
      puts_beside put x k taken told room s t =
          idly (λ y. Answers state images y (put_step old.table y.disk (put_of put)) ⊥ old (record old { devs = table; facts = facts; owed = owed.Place put }) (Ok tt)) s t
          (λ disk u. places_on state images only_now old disk u table facts put x k taken told room)

      -- ---- a pull

      pub pulls : (from : Node) (request : PullRequest) (response : PullResponse) → Serves st im old.devs table (Ok response) → writes_of table ≡ writes_of old.devs → IsPulled (devs st old.devs) request response
          → facts.items.items ≡ old.facts.items.items → messages.items.items ≡ old.messages.items.items ++ (Some from, kinds.PullResponse response) ∷ []
          → (s : TableStore) → IsTable state old s → Answers state images s (answered s.disk from (pull_of request)) ⊥ old (record old { devs = table; facts = facts; messages = messages }) (Ok tt)
      pulls from request response k writes is told sent s t =
          idly (λ x. Answers state images x (answered x.disk from (pull_of request)) ⊥ old (record old { devs = table; facts = facts; messages = messages }) (Ok tt)) s t
          (λ disk u.
          let same : pulled_of response ≡ pulled_for disk.items (pull_of request) (next_changed request.position disk.items) = pulled_is old.schema (devs st old.devs) disk u.size (stands_at disk u) request response is in
          sends_one state images only_now old disk u ⊥ (λ no_. no_) table facts messages response (record { to = Some from; message = ends.PullResponse (pulled_for disk.items (pull_of request) (next_changed request.position disk.items)) }) k writes told
          (ap (map send_of) sent ∙ (map-append send_of old.messages.items.items ((Some from, kinds.PullResponse response) ∷ [])
          ∙ ap (λ (q : Pulled). sent_by old ++ record { to = Some from; message = ends.PullResponse q } ∷ []) same)))

      -- ---- a row that is asked for whole

      pub pulls_torn : (from : Node) (request : TornRowRequest) (response : TornRowResponse) → Serves st im old.devs table (Ok response) → writes_of table ≡ writes_of old.devs
          → IsTornPulled (devs st old.devs) request response → facts.items.items ≡ old.facts.items.items
          → messages.items.items ≡ old.messages.items.items ++ (Some from, kinds.TornRowResponse response) ∷ []
          → (s : TableStore) → IsTable state old s → Answers state images s (torn_answered s.disk from (torn_of request)) ⊥ old
          (record old { devs = table; facts = facts; messages = messages }) (Ok tt)
      pulls_torn from request response k writes is told sent s t =
          idly (λ x. Answers state images x (torn_answered x.disk from (torn_of request)) ⊥ old (record old { devs = table; facts = facts; messages = messages }) (Ok tt)) s t
          (λ disk u.
          let answer : TornPulled = torn_pulled_for disk.items (torn_of request) (current_of disk.items request.row) in
          let same : torn_pulled_of response ≡ answer = torn_is old.schema (devs st old.devs) disk u.size (stands_at disk u) request response is in
          sends_one state images only_now old disk u ⊥ (λ no_. no_) table facts messages response
          (record { to = Some from; message = ends.TornRowResponse answer }) k writes told
          (ap (map send_of) sent ∙ (map-append send_of old.messages.items.items ((Some from, kinds.TornRowResponse response) ∷ [])
          ∙ ap (λ (q : TornPulled). sent_by old ++ record { to = Some from; message = ends.TornRowResponse q } ∷ []) same)))

      -- ---- a request

      abbrev step_of : Node → SyncRequest → StoreDisk → StoreStep
      step_of from request disk = step_for old.schema.chunk old.table disk from (request_of request) (refused_by old.schema.scheme old.schema.chunk disk request)

      abbrev is_spent_of : SyncRequest → StoreDisk → Type 0
      is_spent_of request disk = (refused_by old.schema.scheme old.schema.chunk disk request ≡ None) × (length disk.items ≡ NUMBER_MAX)

      pub answers_request : (from : Node) (request : SyncRequest) (outcome : Outcome) (send : Option Node × Message) (x : Taken) → x ≡ Answered outcome → Serves st im old.devs table (Ok x)
          → ((disk : StoreDisk) → Stands old.schema (devs st old.devs) disk → disk.pending ≡ None → IsTaking old.schema.scheme old.schema.chunk (devs st old.devs) disk request (writes_of table) x)
          → send_of send ≡ responded from (request_of request) (outcome_of outcome) → facts.items.items ≡ old.facts.items.items → messages.items.items ≡ old.messages.items.items ++ send ∷ []
          → (s : TableStore) → IsTable state old s → Answers state images s (step_of from request s.disk) (is_spent_of request s.disk) old (record old { devs = table; facts = facts; messages = messages }) (Ok tt)
      answers_request from request outcome send x is_answered k takes made told sent s t =
          idly (λ y. Answers state images y (step_of from request y.disk) (is_spent_of request y.disk) old (record old { devs = table; facts = facts; messages = messages }) (Ok tt)) s t
          (λ disk u.
          let taking = subst (λ (y : Taken). IsTaking old.schema.scheme old.schema.chunk (devs st old.devs) disk request (writes_of table) y) is_answered (takes disk (stands_at disk u) u.at.1.well.1) in
          let refused : refused_by old.schema.scheme old.schema.chunk disk request ≡ Some (outcome_of outcome) = taking.0 in
          subst (λ (o : Option ends.Outcome). Answers state images (at disk (Some [])) (step_for old.schema.chunk old.table disk from (request_of request) o) (is_spent_of request disk) old (record old { devs = table; facts = facts; messages = messages }) (Ok tt)) (sym refused)
          (sends_one state images only_now old disk u (is_spent_of request disk) (λ is. let both : Some (outcome_of outcome) ≡ None = sym refused ∙ is.0 in cc) table facts messages x (responded from (request_of request) (outcome_of outcome)) k (taking.1 ∙ sym none) told
          (ap (map send_of) sent ∙ (map-append send_of old.messages.items.items (send ∷ []) ∙ ap (λ (q : Send). sent_by old ++ q ∷ []) made))))

      pub begins_request : (from : Node) (request : SyncRequest) (version : ℕ) (entry : Entry) (x : Taken) → x ≡ Begun version → Serves st im old.devs table (Ok x)
          → ((disk : StoreDisk) → Stands old.schema (devs st old.devs) disk → disk.pending ≡ None → IsTaking old.schema.scheme old.schema.chunk (devs st old.devs) disk request (writes_of table) x)
          → is_spelled old.schema.chunk request.content request.pieces ≡ true → entry ≡ entry_of request version → request.table ≡ old.table → IsClient request.client → fit_of old.schema request.content ≡ Ok tt
          → facts.items.items ≡ old.facts.items.items → messages.items.items ≡ old.messages.items.items → HasRoom facts 1 → HasRoom messages 1
          → (s : TableStore) → IsTable state old s → Answers state images s (step_of from request s.disk) (is_spent_of request s.disk) old (record old { devs = table; facts = facts; messages = messages; owed = owed.Update from entry }) (Ok tt)
      begins_request from request version entry x is_begun k takes spelled made of_table client fits told sent fact_room message_room s t =
          idly (λ y. Answers state images y (step_of from request y.disk) (is_spent_of request y.disk) old (record old { devs = table; facts = facts; messages = messages; owed = owed.Update from entry }) (Ok tt)) s t
          (λ disk u.
          let taking = subst (λ (y : Taken). IsTaking old.schema.scheme old.schema.chunk (devs st old.devs) disk request (writes_of table) y) is_begun (takes disk (stands_at disk u) u.at.1.well.1) in
          let refused : refused_by old.schema.scheme old.schema.chunk disk request ≡ None = taking.0 in
          let begun = taking.1 in
          let same : entry ≡ (item_for disk.items (request_of request)).entry = made ∙ ap (entry_of request) begun.version_is in
          subst (λ (o : Option ends.Outcome). Answers state images (at disk (Some [])) (step_for old.schema.chunk old.table disk from (request_of request) o) (is_spent_of request disk) old (record old { devs = table; facts = facts; messages = messages; owed = owed.Update from entry }) (Ok tt)) (sym refused)
          (subst (λ (e : Entry). Answers state images (at disk (Some [])) (step_for old.schema.chunk old.table disk from (request_of request) None) (is_spent_of request disk) old (record old { devs = table; facts = facts; messages = messages; owed = owed.Update from e }) (Ok tt)) (sym same)
          (takes_on state images only_now old disk u (is_spent_of request disk) (λ is. begun.left is.1) table facts messages from request x version k begun spelled
          (kept_there (keeps_there old.schema.chunk disk.items (request_of request))
          (refusal_of old.schema.scheme request.base (version_of (current_of disk.items request.row)) (yours_in disk.items request.client request.row) request.number) refused)
          of_table client fits told sent fact_room message_room)))
