-- What the Store tells speaks of no client's conflicts.
use Rattle.std.proofs.Common.{ℕ, Bool, true, false, List, [], ◌∷◌, ◌++◌, Option, Some, None}
use Rattle.std.specs.Prelude.{if◌then◌else◌, ◌==◌, ◌&&◌, nat_lt}
use Rattle.stab_base.specs.declared.node.Node.{Node}
use Rattle.stab_base.specs.declared.chunk_name.ChunkName.{ChunkName}
use Rattle.row_value.specs.declared.schema.Scheme.{Scheme}
use Rattle.table_model.specs.declared.table_state.TableState.TheVariants as states
use Rattle.step_tables.specs.Facts as facts
use Rattle.step_tables.specs.Messages.{Request, Pair, Message, Luck, SyncRequest, SyncResponse, PullRequest, PullResponse, TornRowRequest, TornRowResponse}
use Rattle.step_tables.specs.Messages as messages
use Rattle.step_tables.specs.Store.{Stored, current_of}
use Rattle.step_tables.specs.StoreMoves as store
use Rattle.step_tables.specs.StoreMoves.{StoreDisk, SidePut, StoreTask, TableStore, StoreMove, StoreStep, store_step}
use Rattle.step_tables.specs.Chunks.{rising, new_names, old_names, is_spelled}
use Rattle.world_tables.specs.World.{tasks_in}
use Rattle.asked_laws.proofs.Fine.{ArePlainFacts}

abbrev pub ArePlainWrites : List StoreTask → Type 0
ArePlainWrites [] = Unit {0}
ArePlainWrites (task ∷ more) = ArePlainFacts task.facts × ArePlainWrites more

abbrev pub IsPlainStep : StoreStep → Type 0
IsPlainStep s = ArePlainFacts s.facts × ArePlainWrites (tasks_in s.store.agenda)

puts_plain : (names : List ChunkName) (more : List StoreTask) → ArePlainWrites more → ArePlainWrites (store.puts names ++ more)
puts_plain [] more p = p
puts_plain (n ∷ names) more p = (tt, puts_plain names more p)

drops_plain : (names : List ChunkName) (more : List StoreTask) → ArePlainWrites more → ArePlainWrites (store.drops names ++ more)
drops_plain [] more p = p
drops_plain (n ∷ names) more p = (tt, drops_plain names more p)

module _ (g : Scheme) (size table : ℕ) (d : StoreDisk) (from : Node) where
  judged_plain : (q : Request) (current : ℕ) → IsPlainStep (store.judged g size table d from q current)
  judged_plain q current = go (store.takes g q.base current && store.keeps_there size d.items q)
    where
      item : Stored
      item = store.item_for d.items q

      go : (b : Bool) → IsPlainStep (if b then store.quiet d (Some (store.accepting size table d.items from q item)) facts.Done
          else store.sending d (store.responded from q (store.unaccepted g q.base current) ∷ []))
      go true = (tt, (tt, puts_plain (new_names size item) _ ((tt, tt), drops_plain (old_names size d.items item) _ (tt, tt))))
      go false = (tt, tt)

  decided_plain : (q : Request) (yours : Pair) → IsPlainStep (store.decided g size table d from q yours)
  decided_plain q yours = go (yours.number == q.number) (nat_lt q.number yours.number)
    where
      go : (a b : Bool) → IsPlainStep (if a then store.sending d (store.responded from q (messages.Again yours.version) ∷ [])
          else (if b then store.sending d (store.responded from q (messages.Late yours.number) ∷ [])
          else store.judged g size table d from q (store.version_of (current_of d.items q.row))))
      go true b = (tt, tt)
      go false true = (tt, tt)
      go false false = judged_plain q (store.version_of (current_of d.items q.row))

  asked_plain : (q : Request) → IsPlainStep (store.asked g size table d from q)
  asked_plain q = go (is_spelled size q.content q.pieces)
    where
      go : (b : Bool) → IsPlainStep (if b then store.decided g size table d from q (store.yours_in d.items q.client q.row) else store.quiet d (Some []) facts.Done)
      go true = decided_plain q (store.yours_in d.items q.client q.row)
      go false = (tt, tt)

  taken_plain : (agenda : Option (List StoreTask)) (m : Message) → ArePlainWrites (tasks_in agenda) → IsPlainStep (store.taken g size table d agenda from m)
  taken_plain None m p = (tt, tt)
  taken_plain (Some (task ∷ more)) m p = (tt, p)
  taken_plain (Some []) (SyncRequest q) p = asked_plain q
  taken_plain (Some []) (PullRequest q) p = (tt, tt)
  taken_plain (Some []) (SyncResponse q) p = (tt, tt)
  taken_plain (Some []) (PullResponse q) p = (tt, tt)
  taken_plain (Some []) (TornRowRequest q) p = (tt, tt)
  taken_plain (Some []) (TornRowResponse q) p = (tt, tt)

worked_plain : (d : StoreDisk) (agenda : Option (List StoreTask)) (luck : Luck) → ArePlainWrites (tasks_in agenda) → IsPlainStep (store.worked d agenda luck)
worked_plain d None messages.Done p = (tt, tt)
worked_plain d None messages.FailedBefore p = (tt, tt)
worked_plain d None messages.FailedAfter p = (tt, tt)
worked_plain d (Some []) messages.Done p = (tt, tt)
worked_plain d (Some []) messages.FailedBefore p = (tt, tt)
worked_plain d (Some []) messages.FailedAfter p = (tt, tt)
worked_plain d (Some (task ∷ more)) messages.Done p = p
worked_plain d (Some (task ∷ more)) messages.FailedBefore p = (tt, tt)
worked_plain d (Some (task ∷ more)) messages.FailedAfter p = (tt, tt)

crashed_plain : (d : StoreDisk) (agenda : Option (List StoreTask)) (luck : Luck) → IsPlainStep (store.crashed d agenda luck)
crashed_plain d None luck = (tt, tt)
crashed_plain d (Some []) luck = (tt, tt)
crashed_plain d (Some (task ∷ more)) messages.Done = (tt, tt)
crashed_plain d (Some (task ∷ more)) messages.FailedBefore = (tt, tt)
crashed_plain d (Some (task ∷ more)) messages.FailedAfter = (tt, tt)

recovering_plain : (number table : ℕ) (d : StoreDisk) → ArePlainWrites (store.recovering number table d)
recovering_plain number table d = (tt, (tt, (tt, drops_plain (rising d.left) _ ((tt, tt), tt))))

started_plain : (number table : ℕ) (d : StoreDisk) (agenda : Option (List StoreTask)) → ArePlainWrites (tasks_in agenda) → IsPlainStep (store.started number table d agenda)
started_plain number table d (Some agenda) p = (tt, p)
started_plain number table d None p = go d.pending
  where
    found : (i : Stored) (o : Option Stored) → IsPlainStep (store.recovered number table d i o)
    found i None = ((tt, tt), recovering_plain number table d)
    found i (Some item) = ((tt, tt), recovering_plain number table d)

    go : (o : Option Stored) → IsPlainStep (store.recover number table d o)
    go None = (tt, (tt, (tt, ((tt, tt), tt))))
    go (Some i) = found i (store.item_at i.entry.version d.items)

told_plain : (table : ℕ) (put : SidePut) → ArePlainFacts (store.told_beside table put)
told_plain table (store.PutState states.Draft) = tt
told_plain table (store.PutState states.Live) = (tt, tt)
told_plain table (store.PutState states.Dropped) = (tt, tt)
told_plain table (store.PutSub client terms) = (tt, tt)

placed_plain : (table : ℕ) (d : StoreDisk) (agenda : Option (List StoreTask)) (put : SidePut) → ArePlainWrites (tasks_in agenda) → IsPlainStep (store.placed table d agenda put)
placed_plain table d None put p = (tt, tt)
placed_plain table d (Some []) put p = (tt, (told_plain table put, tt))
placed_plain table d (Some (task ∷ more)) put p = (tt, p)

pub store_plain : (number : ℕ) (g : Scheme) (size table : ℕ) (s : TableStore) (move : StoreMove) → ArePlainWrites (tasks_in s.agenda) → IsPlainStep (store_step number g size table s move)
store_plain number g size table s (store.Take from m) p = taken_plain g size table s.disk from s.agenda m p
store_plain number g size table s (store.Place put) p = placed_plain table s.disk s.agenda put p
store_plain number g size table s (store.Work luck) p = worked_plain s.disk s.agenda luck p
store_plain number g size table s (store.Crash luck) p = crashed_plain s.disk s.agenda luck
store_plain number g size table s store.Start p = started_plain number table s.disk s.agenda p
