-- What a Store sends is an answer, and goes to the client that it is for.
use Rattle.std.proofs.Common.{◌≡◌, ℕ, Bool, true, false, List, [], ◌∷◌, ◌++◌, Option, Some, None, ap}
use Rattle.std.specs.Prelude.{◌==◌, ◌&&◌, nat_lt, if◌then◌else◌}
use Rattle.std.specs.List.{AllByRecursion}
use Rattle.stab_base.specs.declared.node.Node.{Node}
use Rattle.stab_base.specs.declared.node.Node.TheVariants as nodes
use Rattle.stab_base.specs.declared.chunk_name.ChunkName.{ChunkName}
use Rattle.row_value.specs.declared.schema.Scheme.{Scheme}
use Rattle.step_tables.specs.Chunks.{rising, new_names, old_names, is_spelled}
use Rattle.step_tables.specs.Facts.{Fact, Answer}
use Rattle.step_tables.specs.Facts as facts
use Rattle.step_tables.specs.Messages.{Request, Pair, Outcome, Message, Send, Luck, SyncRequest, SyncResponse, PullRequest, PullResponse, TornRowRequest, TornRowResponse}
use Rattle.step_tables.specs.Messages as messages
use Rattle.step_tables.specs.Store.{Stored, current_of}
use Rattle.step_tables.specs.StoreMoves as store
use Rattle.step_tables.specs.StoreMoves.{StoreDisk, SidePut, StoreTask, TableStore, StoreMove, StoreStep, store_step}
use Rattle.world_tables.specs.World.{tasks_in}

-- an answer to a client
abbrev pub IsReply : Option Node → Message → Type 0
IsReply to (SyncRequest q) = ⊥
IsReply to (SyncResponse r) = to ≡ Some (nodes.Client r.client)
IsReply to (PullRequest q) = ⊥
IsReply to (PullResponse q) = to ≡ Some (nodes.Client q.client)
IsReply to (TornRowRequest q) = ⊥
IsReply to (TornRowResponse t) = to ≡ Some (nodes.Client t.client)

abbrev pub AreReplies : List Send → Type 0
AreReplies sends = AllByRecursion (λ (send : Send). IsReply send.to send.message) sends

abbrev pub TasksReply : List StoreTask → Type 0
TasksReply tasks = AllByRecursion (λ (task : StoreTask). AreReplies task.sends) tasks

pub record IsReplying (s : StoreStep) : Type 0 where
  pub sends : AreReplies s.sends
  pub tasks : TasksReply (tasks_in s.store.agenda)

-- what a client asks comes from it
abbrev pub IsAsking : Node → Message → Type 0
IsAsking from (SyncRequest q) = from ≡ nodes.Client q.client
IsAsking from (SyncResponse r) = Unit {0}
IsAsking from (PullRequest q) = from ≡ nodes.Client q.client
IsAsking from (PullResponse q) = Unit {0}
IsAsking from (TornRowRequest q) = from ≡ nodes.Client q.client
IsAsking from (TornRowResponse t) = Unit {0}

abbrev pub AsksOwn : StoreMove → Type 0
AsksOwn (store.Take from m) = IsAsking from m
AsksOwn other = Unit {0}

quiet_replies : (d : StoreDisk) (agenda : Option (List StoreTask)) (a : Answer) → TasksReply (tasks_in agenda) → IsReplying (store.quiet d agenda a)
quiet_replies d agenda a t = record { sends = tt; tasks = t }

puts_reply : (names : List ChunkName) (more : List StoreTask) → TasksReply more → TasksReply (store.puts names ++ more)
puts_reply [] more t = t
puts_reply (n ∷ names) more t = (tt, puts_reply names more t)

drops_reply : (names : List ChunkName) (more : List StoreTask) → TasksReply more → TasksReply (store.drops names ++ more)
drops_reply [] more t = t
drops_reply (n ∷ names) more t = (tt, drops_reply names more t)

sending_replies : (d : StoreDisk) (sends : List Send) → AreReplies sends → IsReplying (store.sending d sends)
sending_replies d sends r = record { sends = r; tasks = tt }

to_client : (from : Node) (c : ℕ) → from ≡ nodes.Client c → Some from ≡ Some (nodes.Client c)
to_client from c is = ap (λ (n : Node). Some n) is

-- ---- a message

module _ (g : Scheme) (size table : ℕ) (d : StoreDisk) (from : Node) where
  module _ (q : Request) (own : from ≡ nodes.Client q.client) where
    judged_replies : (current : ℕ) → IsReplying (store.judged g size table d from q current)
    judged_replies current = go (store.takes g q.base current && store.keeps_there size d.items q)
      where
        item : Stored
        item = store.item_for d.items q

        go : (b : Bool) → IsReplying (if b then store.quiet d (Some (store.accepting size table d.items from q item)) facts.Done
            else store.sending d (store.responded from q (store.unaccepted g q.base current) ∷ []))
        go true = quiet_replies d (Some (store.accepting size table d.items from q item)) facts.Done
            (tt, puts_reply (new_names size item) _ (tt, drops_reply (old_names size d.items item) _ ((to_client from q.client own, tt), tt)))
        go false = sending_replies d _ (to_client from q.client own, tt)

    decided_replies : (yours : Pair) → IsReplying (store.decided g size table d from q yours)
    decided_replies yours = go (yours.number == q.number) (nat_lt q.number yours.number)
      where
        go : (a b : Bool) → IsReplying (if a then store.sending d (store.responded from q (messages.Again yours.version) ∷ [])
            else (if b then store.sending d (store.responded from q (messages.Late yours.number) ∷ [])
            else store.judged g size table d from q (store.version_of (current_of d.items q.row))))
        go true b = sending_replies d _ (to_client from q.client own, tt)
        go false true = sending_replies d _ (to_client from q.client own, tt)
        go false false = judged_replies (store.version_of (current_of d.items q.row))

    asked_replies : IsReplying (store.asked g size table d from q)
    asked_replies = go (is_spelled size q.content q.pieces)
      where
        go : (b : Bool) → IsReplying (if b then store.decided g size table d from q (store.yours_in d.items q.client q.row) else store.quiet d (Some []) facts.Done)
        go true = decided_replies (store.yours_in d.items q.client q.row)
        go false = quiet_replies d (Some []) _ tt

  taken_replies : (agenda : Option (List StoreTask)) (m : Message) → IsAsking from m → TasksReply (tasks_in agenda) → IsReplying (store.taken g size table d agenda from m)
  taken_replies None m own t = quiet_replies d None _ tt
  taken_replies (Some (task ∷ more)) m own t = quiet_replies d (Some (task ∷ more)) _ t
  taken_replies (Some []) (SyncRequest q) own t = asked_replies q own
  taken_replies (Some []) (PullRequest q) own t = sending_replies d _ (to_client from q.client own, tt)
  taken_replies (Some []) (SyncResponse q) own t = quiet_replies d (Some []) _ tt
  taken_replies (Some []) (PullResponse q) own t = quiet_replies d (Some []) _ tt
  taken_replies (Some []) (TornRowRequest q) own t = sending_replies d _ (to_client from q.client own, tt)
  taken_replies (Some []) (TornRowResponse q) own t = quiet_replies d (Some []) _ tt

-- ---- a write beside the rows, any write, a crash and a start

placed_replies : (table : ℕ) (d : StoreDisk) (agenda : Option (List StoreTask)) (put : SidePut) → TasksReply (tasks_in agenda) → IsReplying (store.placed table d agenda put)
placed_replies table d None put t = quiet_replies d None _ tt
placed_replies table d (Some (task ∷ more)) put t = quiet_replies d (Some (task ∷ more)) _ t
placed_replies table d (Some []) put t = quiet_replies d (Some (store.beside_task table put ∷ [])) _ (tt, tt)

worked_replies : (d : StoreDisk) (agenda : Option (List StoreTask)) (luck : Luck) → TasksReply (tasks_in agenda) → IsReplying (store.worked d agenda luck)
worked_replies d None messages.Done t = record { sends = tt; tasks = tt }
worked_replies d None messages.FailedBefore t = record { sends = tt; tasks = tt }
worked_replies d None messages.FailedAfter t = record { sends = tt; tasks = tt }
worked_replies d (Some []) messages.Done t = record { sends = tt; tasks = tt }
worked_replies d (Some []) messages.FailedBefore t = record { sends = tt; tasks = tt }
worked_replies d (Some []) messages.FailedAfter t = record { sends = tt; tasks = tt }
worked_replies d (Some (task ∷ more)) messages.Done t = record { sends = t.0; tasks = t.1 }
worked_replies d (Some (task ∷ more)) messages.FailedBefore t = record { sends = tt; tasks = tt }
worked_replies d (Some (task ∷ more)) messages.FailedAfter t = record { sends = tt; tasks = tt }

crashed_replies : (d : StoreDisk) (agenda : Option (List StoreTask)) (luck : Luck) → IsReplying (store.crashed d agenda luck)
crashed_replies d None luck = record { sends = tt; tasks = tt }
crashed_replies d (Some []) luck = record { sends = tt; tasks = tt }
crashed_replies d (Some (task ∷ more)) messages.Done = record { sends = tt; tasks = tt }
crashed_replies d (Some (task ∷ more)) messages.FailedBefore = record { sends = tt; tasks = tt }
crashed_replies d (Some (task ∷ more)) messages.FailedAfter = record { sends = tt; tasks = tt }

recovering_replies : (number table : ℕ) (d : StoreDisk) → TasksReply (store.recovering number table d)
recovering_replies number table d = (tt, (tt, (tt, drops_reply (rising d.left) _ (tt, tt))))

started_replies : (number table : ℕ) (d : StoreDisk) (agenda : Option (List StoreTask)) → TasksReply (tasks_in agenda) → IsReplying (store.started number table d agenda)
started_replies number table d (Some agenda) t = quiet_replies d (Some agenda) _ t
started_replies number table d None t = go d.pending
  where
    found : (i : Stored) (o : Option Stored) → IsReplying (store.recovered number table d i o)
    found i None = record { sends = tt; tasks = recovering_replies number table d }
    found i (Some item) = record { sends = tt; tasks = recovering_replies number table d }

    go : (o : Option Stored) → IsReplying (store.recover number table d o)
    go None = quiet_replies d _ _ (tt, (tt, (tt, tt)))
    go (Some i) = found i (store.item_at i.entry.version d.items)

pub move_replies : (number : ℕ) (g : Scheme) (size table : ℕ) (s : TableStore) (move : StoreMove) → AsksOwn move → TasksReply (tasks_in s.agenda) → IsReplying (store_step number g size table s move)
move_replies number g size table s (store.Take from m) own t = taken_replies g size table s.disk from s.agenda m own t
move_replies number g size table s (store.Place put) own t = placed_replies table s.disk s.agenda put t
move_replies number g size table s (store.Work luck) own t = worked_replies s.disk s.agenda luck t
move_replies number g size table s (store.Crash luck) own t = crashed_replies s.disk s.agenda luck
move_replies number g size table s store.Start own t = started_replies number table s.disk s.agenda t
