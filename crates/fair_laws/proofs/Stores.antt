-- What a Store's step keeps of a table: each row is one of the table and has a version, and so has each one that is sent.
use Rattle.std.proofs.Common.{◌≡◌, ℕ, ◌≤◌, Bool, true, false, cond, List, [], ◌∷◌, ◌++◌, Option, Some, None, refl, sym, ◌∙◌, subst, arith}
use Rattle.std.specs.Prelude.{if◌then◌else◌, nat_lt, ◌==◌, ◌&&◌, not, option_map}
use Rattle.std.specs.Option.{option_or}
use Rattle.std.specs.List.{AllByRecursion, list_any}
use Rattle.stab_base.specs.declared.node.Node.{Node}
use Rattle.stab_base.specs.declared.chunk_name.ChunkName.{ChunkName}
use Rattle.row_value.specs.declared.content.Content.{Content}
use Rattle.row_value.specs.declared.schema.Schema.{Schema}
use Rattle.row_value.specs.declared.schema.Scheme.{Scheme}
use Rattle.row_store.specs.Spelling.{IsClient}
use Rattle.table_model.specs.declared.table_state.TableState.{TableState}
use Rattle.step_tables.specs.Store.{Stored, current_of, next_changed, is_of_row}
use Rattle.step_tables.specs.Chunks.{rising, new_names, old_names, is_spelled}
use Rattle.step_tables.specs.Facts.{Answer}
use Rattle.step_tables.specs.Facts as facts
use Rattle.step_tables.specs.Messages.{Request, Pull, Pair, Header, Pulled, Message, Send, Luck, SyncRequest, SyncResponse, PullRequest, PullResponse}
use Rattle.step_tables.specs.Messages.{TornPull, TornRowRequest, TornRowResponse}
use Rattle.step_tables.specs.Messages as messages
use Rattle.step_tables.specs.StoreMoves.{StoreDisk, SidePut, StoreChange, StoreTask, TableStore, StoreMove, StoreStep}
use Rattle.step_tables.specs.StoreMoves.{store_step, changed, done, crashed, worked, failed, recovering, reopening, recover}
use Rattle.step_tables.specs.StoreMoves.{started, recovered, item_at, takes, keeps_there, judged, decided, asked, pulled_for, header_for, taken, accepting, item_for, puts, drops, only}
use Rattle.step_tables.specs.StoreMoves.{version_of, yours_in, unaccepted}
use Rattle.step_tables.specs.StoreMoves.{torn_pulled_for}
use Rattle.step_tables.specs.StoreMoves as store
use Rattle.world_tables.specs.World.{tasks_in, declared_late}
use Rattle.step_tables.proofs.Lists.{last_where-cons}
use Rattle.fair_laws.specs.Worlds.{IsRowOf, IsFairHeader, IsFromStore, IsFairItem, PutsFair, AreStoreSends, AreFairTasks, IsFairStore}

all_join : {X : Type 0} (P : X → Type 0) (xs ys : List X) → AllByRecursion P xs → AllByRecursion P ys → AllByRecursion P (xs ++ ys)
all_join P [] ys a b = b
all_join P (x ∷ xs) ys a b = (a.0, all_join P xs ys a.1 b)

-- a message for this table, of one of the clients: the content of a request is a row of it
abbrev pub TakesFair : (ℕ → Option Schema) → ℕ → Message → Type 0
TakesFair known table (SyncRequest q) = IsRowOf (known table) q.content × IsClient q.client
TakesFair known table (PullRequest q) = (q.table ≡ table) × IsClient q.client
TakesFair known table (SyncResponse r) = Unit {0}
TakesFair known table (PullResponse q) = Unit {0}
TakesFair known table (TornRowRequest q) = (q.table ≡ table) × IsClient q.client
TakesFair known table (TornRowResponse q) = Unit {0}

abbrev pub IsFairMove : (ℕ → Option Schema) → ℕ → StoreMove → Type 0
IsFairMove known table (store.Take from message) = TakesFair known table message
IsFairMove known table other = Unit {0}

-- a step keeps the table fair, and sends what a Store sends
pub record IsFairStep (known : ℕ → Option Schema) (table : ℕ) (s : StoreStep) : Type 0 where
  pub store : IsFairStore known table s.store
  pub sends : AreStoreSends known s.sends

module _ (known : ℕ → Option Schema) (table : ℕ) where
  abbrev AreItems : List Stored → Type 0
  AreItems items = AllByRecursion (IsFairItem (known table)) items

  abbrev AreTasks : List StoreTask → Type 0
  AreTasks tasks = AreFairTasks known table tasks

  quiet_fair : (d : StoreDisk) (agenda : Option (List StoreTask)) (answer : Answer) → AreItems d.items → AreTasks (tasks_in agenda) → IsFairStep known table (store.quiet d agenda answer)
  quiet_fair d agenda answer items tasks = record { store = record { items = items; tasks = tasks }; sends = tt }

  drops_fair : (names : List ChunkName) → AreTasks (drops names)
  drops_fair [] = tt
  drops_fair (name ∷ names) = ((tt, tt), drops_fair names)

  puts_fair : (names : List ChunkName) → AreTasks (puts names)
  puts_fair [] = tt
  puts_fair (name ∷ names) = ((tt, tt), puts_fair names)

  tasks_join : (xs ys : List StoreTask) → AreTasks xs → AreTasks ys → AreTasks (xs ++ ys)
  tasks_join xs ys a b = all_join (λ (task : StoreTask). PutsFair (known table) task.change × AreStoreSends known task.sends) xs ys a b

  -- ---- a write

  changed_fair : (d : StoreDisk) (change : StoreChange) → AreItems d.items → PutsFair (known table) change → AreItems (changed d change).items
  changed_fair d store.OpenChunks f p = f
  changed_fair d store.OpenRows f p = f
  changed_fair d store.OpenLog f p = f
  changed_fair d (store.Open item) f p = f
  changed_fair d (store.PutChunk name) f p = f
  changed_fair d (store.Put item named old) f p = all_join (IsFairItem (known table)) d.items (item ∷ []) f (p, tt)
  changed_fair d (store.DropChunk name) f p = f
  changed_fair d store.Close f p = f
  changed_fair d (store.PutBeside (store.PutState state)) f p = f
  changed_fair d (store.PutBeside (store.PutSub client terms)) f p = f

  done_fair : (d : StoreDisk) (agenda : Option (List StoreTask)) → AreItems d.items → AreTasks (tasks_in agenda) → IsFairStep known table (done d agenda)
  done_fair d None f p = quiet_fair d None _ f tt
  done_fair d (Some []) f p = quiet_fair d (Some []) _ f tt
  done_fair d (Some (task ∷ more)) f p = record { store = record { items = changed_fair d task.change f p.0.0; tasks = p.1 }; sends = p.0.1 }

  crashed_fair : (d : StoreDisk) (agenda : Option (List StoreTask)) (luck : Luck) → AreItems d.items → AreTasks (tasks_in agenda) → IsFairStep known table (crashed d agenda luck)
  crashed_fair d None luck f p = quiet_fair d None _ f tt
  crashed_fair d (Some []) luck f p = quiet_fair d None _ f tt
  crashed_fair d (Some (task ∷ more)) messages.Done f p = quiet_fair (changed d task.change) None _ (changed_fair d task.change f p.0.0) tt
  crashed_fair d (Some (task ∷ more)) messages.FailedBefore f p = quiet_fair d None _ f tt
  crashed_fair d (Some (task ∷ more)) messages.FailedAfter f p = quiet_fair (changed d task.change) None _ (changed_fair d task.change f p.0.0) tt

  failed_fair : (d : StoreDisk) (agenda : Option (List StoreTask)) (luck : Luck) → AreItems d.items → AreTasks (tasks_in agenda) → IsFairStep known table (failed d agenda luck)
  failed_fair d agenda luck f p = let x = crashed_fair d agenda luck f p in record { store = x.store; sends = x.sends }

  worked_fair : (d : StoreDisk) (agenda : Option (List StoreTask)) (luck : Luck) → AreItems d.items → AreTasks (tasks_in agenda) → IsFairStep known table (worked d agenda luck)
  worked_fair d agenda messages.Done f p = done_fair d agenda f p
  worked_fair d agenda messages.FailedBefore f p = failed_fair d agenda messages.FailedBefore f p
  worked_fair d agenda messages.FailedAfter f p = failed_fair d agenda messages.FailedAfter f p

  -- ---- a start

  module _ (number : ℕ) (d : StoreDisk) (f : AreItems d.items) where
    recovering_fair : AreTasks (recovering number table d)
    recovering_fair = ((tt, tt), ((tt, tt), ((tt, tt), tasks_join (drops (rising d.left)) _ (drops_fair (rising d.left)) ((tt, tt), tt))))

    recovered_fair : (pending : Stored) (found : Option Stored) → IsFairStep known table (recovered number table d pending found)
    recovered_fair pending (Some item) = record { store = record { items = f; tasks = recovering_fair }; sends = tt }
    recovered_fair pending None = record { store = record { items = f; tasks = recovering_fair }; sends = tt }

    recover_fair : (pending : Option Stored) → IsFairStep known table (recover number table d pending)
    recover_fair None = quiet_fair d (Some (reopening number table)) _ f ((tt, tt), ((tt, tt), ((tt, tt), tt)))
    recover_fair (Some pending) = recovered_fair pending (item_at pending.entry.version d.items)

    started_fair : (agenda : Option (List StoreTask)) → AreTasks (tasks_in agenda) → IsFairStep known table (started number table d agenda)
    started_fair (Some agenda) p = quiet_fair d (Some agenda) _ f p
    started_fair None p = recover_fair d.pending

  -- ---- a message

  next_fair : (position : ℕ) (items : List Stored) (item : Stored) → AreItems items → next_changed position items ≡ Some item → IsFairItem (known table) item
  next_fair position [] item f e = absurd cc
  next_fair position (first ∷ later) item f e = go (nat_lt position first.entry.version && not (list_any (is_of_row first.entry.row) later)) (next_fair position later item f.1) e
    where
      go : (b : Bool) → (next_changed position later ≡ Some item → IsFairItem (known table) item) → (if b then Some first else next_changed position later) ≡ Some item
          → IsFairItem (known table) item
      go true rest e = let same : first ≡ item = cc in subst (IsFairItem (known table)) same f.0
      go false rest e = rest e

  current_fair : (row : List ℕ) (items : List Stored) (item : Stored) → AreItems items → current_of items row ≡ Some item → IsFairItem (known table) item
  current_fair row [] item f e = absurd cc
  current_fair row (first ∷ later) item f e = go (current_of later row) (current_fair row later item f.1) (sym (last_where-cons (is_of_row row) first later) ∙ e)
    where
      one : (b : Bool) → cond b (Some first) None ≡ Some item → IsFairItem (known table) item
      one true e = let same : first ≡ item = cc in subst (IsFairItem (known table)) same f.0
      one false e = absurd cc

      go : (o : Option Stored) → (o ≡ Some item → IsFairItem (known table) item) → option_or o (cond (is_of_row row first) (Some first) None) ≡ Some item → IsFairItem (known table) item
      go None rest e = one (is_of_row row first) e
      go (Some last) rest e = rest e

  header_fair : (items : List Stored) (client : ℕ) (found : Option Stored) → ((item : Stored) → found ≡ Some item → IsFairItem (known table) item)
      → (header : Header) → option_map (header_for items client) found ≡ Some header → (1 ≤ header.version) × IsRowOf (known table) header.content
  header_fair items client None f header e = absurd cc
  header_fair items client (Some item) f header e =
      let same : header_for items client item ≡ header = cc in
      let fair : IsFairItem (known table) item = f item refl in
      subst (λ (h : Header). (1 ≤ h.version) × IsRowOf (known table) h.content) same (fair.version, fair.content)

  module _ (g : Scheme) (size : ℕ) (d : StoreDisk) (from : Node) (f : AreItems d.items) where
    accepting_fair : (q : Request) → IsClient q.client → IsRowOf (known table) q.content → AreTasks (accepting size table d.items from q (item_for d.items q))
    accepting_fair q client fits =
        let item = item_for d.items q in
        let one : IsFairItem (known table) item = record { version = omega arith; content = fits } in (
          (tt, tt),
          tasks_join (puts (new_names size item)) _ (puts_fair (new_names size item))
              ((one, tt), tasks_join (drops (old_names size d.items item)) _ (drops_fair (old_names size d.items item)) ((tt, (client, tt)), tt)),
        )

    answers : (send : Send) → IsFromStore known send.message → IsFairStep known table (store.sending d (send ∷ []))
    answers send is = record { store = record { items = f; tasks = tt }; sends = (is, tt) }

    judged_fair : (q : Request) → IsClient q.client → IsRowOf (known table) q.content → (current : ℕ) → IsFairStep known table (judged g size table d from q current)
    judged_fair q client fits current = go (takes g q.base current && keeps_there size d.items q)
      where
        go : (b : Bool) → IsFairStep known table (if b then store.quiet d (Some (accepting size table d.items from q (item_for d.items q))) facts.Done else store.sending d
            (store.responded from q (unaccepted g q.base current) ∷ []))
        go true = quiet_fair d (Some (accepting size table d.items from q (item_for d.items q))) _ f (accepting_fair q client fits)
        go false = answers (store.responded from q (unaccepted g q.base current)) client

    decided_fair : (q : Request) → IsClient q.client → IsRowOf (known table) q.content → (yours : Pair) → IsFairStep known table (decided g size table d from q yours)
    decided_fair q client fits yours = first (yours.number == q.number)
      where
        second : (b : Bool) → IsFairStep known table (if b then store.sending d (store.responded from q (messages.Late yours.number) ∷ []) else judged g size table d from q
            (version_of (current_of d.items q.row)))
        second true = answers (store.responded from q (messages.Late yours.number)) client
        second false = judged_fair q client fits (version_of (current_of d.items q.row))

        first : (b : Bool) → IsFairStep known table (if b then store.sending d (store.responded from q (messages.Again yours.version) ∷ [])
            else (if nat_lt q.number yours.number then store.sending d (store.responded from q (messages.Late yours.number) ∷ []) else judged g size table d from q
            (version_of (current_of d.items q.row))))
        first true = answers (store.responded from q (messages.Again yours.version)) client
        first false = second (nat_lt q.number yours.number)

    asked_fair : (q : Request) → IsClient q.client → IsRowOf (known table) q.content → IsFairStep known table (asked g size table d from q)
    asked_fair q client fits = go (is_spelled size q.content q.pieces)
      where
        go : (b : Bool) → IsFairStep known table (if b then decided g size table d from q (yours_in d.items q.client q.row) else store.quiet d (Some []) facts.Done)
        go true = decided_fair q client fits (yours_in d.items q.client q.row)
        go false = quiet_fair d (Some []) _ f tt

    pull_fair : (pull : Pull) → IsClient pull.client → pull.table ≡ table → IsFairStep known table (store.answered d from pull)
    pull_fair pull client is = answers (record { to = Some from; message = PullResponse (pulled_for d.items pull (next_changed pull.position d.items)) }) (
      λ header e. subst (λ (t : ℕ). (1 ≤ header.version) × IsRowOf (known t) header.content) (sym is)
          (header_fair d.items pull.client (next_changed pull.position d.items) (λ item at. next_fair pull.position d.items item f at) header e),
      client,
    )

    torn_fair : (torn : TornPull) → IsClient torn.client → torn.table ≡ table → IsFairStep known table (store.torn_answered d from torn)
    torn_fair torn client is = answers (record { to = Some from; message = TornRowResponse (torn_pulled_for d.items torn (current_of d.items torn.row)) }) (
      λ header e. subst (λ (t : ℕ). (1 ≤ header.version) × IsRowOf (known t) header.content) (sym is)
          (header_fair d.items torn.client (current_of d.items torn.row) (λ item at. current_fair torn.row d.items item f at) header e),
      client,
    )

    taken_fair : (agenda : Option (List StoreTask)) (message : Message) → TakesFair known table message → AreTasks (tasks_in agenda) → IsFairStep known table (taken g size table d agenda from message)
    taken_fair None message t p = quiet_fair d None _ f tt
    taken_fair (Some (task ∷ more)) message t p = quiet_fair d (Some (task ∷ more)) _ f p
    taken_fair (Some []) (SyncRequest q) t p = asked_fair q t.1 t.0
    taken_fair (Some []) (PullRequest pull) t p = pull_fair pull t.1 t.0
    taken_fair (Some []) (SyncResponse r) t p = quiet_fair d (Some []) _ f tt
    taken_fair (Some []) (PullResponse q) t p = quiet_fair d (Some []) _ f tt
    taken_fair (Some []) (TornRowRequest torn) t p = torn_fair torn t.1 t.0
    taken_fair (Some []) (TornRowResponse q) t p = quiet_fair d (Some []) _ f tt

  placed_fair : (d : StoreDisk) → AreItems d.items → (agenda : Option (List StoreTask)) (put : SidePut) → AreTasks (tasks_in agenda) → IsFairStep known table (store.placed table d agenda put)
  placed_fair d f None put p = quiet_fair d None _ f tt
  placed_fair d f (Some (task ∷ more)) put p = quiet_fair d (Some (task ∷ more)) _ f p
  placed_fair d f (Some []) put p = quiet_fair d (Some (store.beside_task table put ∷ [])) _ f ((tt, tt), tt)

  pub move_fair : (number : ℕ) (g : Scheme) (size : ℕ) (s : TableStore) (move : StoreMove) → IsFairMove known table move → IsFairStore known table s
      → IsFairStep known table (store_step number g size table s move)
  move_fair number g size s (store.Take from message) t f = taken_fair g size s.disk from f.items s.agenda message t f.tasks
  move_fair number g size s (store.Place put) t f = placed_fair s.disk f.items s.agenda put f.tasks
  move_fair number g size s (store.Work luck) t f = worked_fair s.disk s.agenda luck f.items f.tasks
  move_fair number g size s (store.Crash luck) t f = crashed_fair s.disk s.agenda luck f.items f.tasks
  move_fair number g size s store.Start t f = started_fair number s.disk f.items s.agenda f.tasks

  pub late_fair : (number : ℕ) (state : TableState) → IsFairStep known table (declared_late number table state)
  late_fair number state = record { store = record { items = tt; tasks = tt }; sends = tt }

  pub none_fair : (state : TableState) (agenda : Option (List StoreTask)) → AreTasks (tasks_in agenda) → IsFairStore known table (record { disk = store.new_disk state; agenda = agenda })
  none_fair state agenda p = record { items = tt; tasks = p }

-- ---- where more is known

module _ (known more : ℕ → Option Schema) (is : (number : ℕ) (schema : Schema) → known number ≡ Some schema → more number ≡ Some schema) where
  pub row_more : (table : ℕ) (content : Content) → IsRowOf (known table) content → IsRowOf (more table) content
  row_more table content r = (r.0, is table r.0 r.1, r.2)

  pub header_more : (table : ℕ) (row : Option Header) → IsFairHeader known table row → IsFairHeader more table row
  header_more table row f header e = let h = f header e in (h.0, row_more table header.content h.1)

  from_more : (m : Message) → IsFromStore known m → IsFromStore more m
  from_more (SyncRequest q) f = f
  from_more (PullRequest q) f = f
  from_more (SyncResponse r) f = f
  from_more (PullResponse q) f = (header_more q.table q.header f.0, f.1)
  from_more (TornRowRequest q) f = f
  from_more (TornRowResponse q) f = (header_more q.table q.header f.0, f.1)

  sends_more : (sends : List Send) → AreStoreSends known sends → AreStoreSends more sends
  sends_more [] a = tt
  sends_more (send ∷ sends) a = (from_more send.message a.0, sends_more sends a.1)

  item_more : (table : ℕ) (item : Stored) → IsFairItem (known table) item → IsFairItem (more table) item
  item_more table item f = record { version = f.version; content = row_more table item.content f.content }

  items_more : (table : ℕ) (items : List Stored) → AllByRecursion (IsFairItem (known table)) items → AllByRecursion (IsFairItem (more table)) items
  items_more table [] a = tt
  items_more table (item ∷ items) a = (item_more table item a.0, items_more table items a.1)

  change_more : (table : ℕ) (change : StoreChange) → PutsFair (known table) change → PutsFair (more table) change
  change_more table store.OpenChunks f = f
  change_more table store.OpenRows f = f
  change_more table store.OpenLog f = f
  change_more table (store.Open item) f = f
  change_more table (store.PutChunk name) f = f
  change_more table (store.Put item named old) f = item_more table item f
  change_more table (store.DropChunk name) f = f
  change_more table store.Close f = f
  change_more table (store.PutBeside put) f = f

  tasks_more : (table : ℕ) (tasks : List StoreTask) → AreFairTasks known table tasks → AreFairTasks more table tasks
  tasks_more table [] a = tt
  tasks_more table (task ∷ tasks) a = ((change_more table task.change a.0.0, sends_more task.sends a.0.1), tasks_more table tasks a.1)

  pub store_more : (table : ℕ) (s : TableStore) → IsFairStore known table s → IsFairStore more table s
  store_more table s f = record { items = items_more table s.disk.items f.items; tasks = tasks_more table (tasks_in s.agenda) f.tasks }
