-- The items of a table are well named at every moment of what it has begun.
use Rattle.std.proofs.Common.{◌≡◌, ℕ, Bool, true, false, List, [], ◌∷◌, ◌++◌, Option, Some, None, refl, sym, subst}
use Rattle.std.specs.Prelude.{◌==◌, ◌&&◌, nat_lt, if◌then◌else◌}
use Rattle.std.proofs.lemmas.Bool.{and_parts}
use Rattle.stab_base.specs.declared.node.Node.{Node}
use Rattle.stab_base.specs.declared.chunk_name.ChunkName.{ChunkName}
use Rattle.row_value.specs.declared.schema.Scheme.{Scheme}
use Rattle.step_tables.specs.Store.{Stored, current_of}
use Rattle.step_tables.specs.Facts as facts
use Rattle.step_tables.specs.Messages.{Request, Pair, Message, Send, Luck, SyncRequest, SyncResponse, PullRequest, PullResponse, TornRowRequest, TornRowResponse}
use Rattle.step_tables.specs.Messages as messages
use Rattle.step_tables.specs.Chunks.{rising, new_names, old_names, is_spelled}
use Rattle.step_tables.specs.StoreMoves.{StoreDisk, StoreTask, StoreChange, OpenChunks, OpenRows, OpenLog, Open, PutChunk, Put, DropChunk, Close, PutBeside, PutState, PutSub, SidePut, changed}
use Rattle.step_tables.specs.StoreMoves.{TableStore, StoreMove, Take, Place, Work, Crash, Start, store_step, placed, quiet, worked, crashed, item_at, drops, recovering, recovered, recover, started, takes, unaccepted, responded, sending, item_for, puts}
use Rattle.step_tables.specs.StoreMoves.{accepting, version_of, keeps_there, judged, decided, asked, taken, yours_in}
use Rattle.name_laws.proofs.Rows.{AreWellNamed}
use Rattle.name_laws.proofs.Spelled.{all_named}

-- the items behind a device write
abbrev items_behind : List Stored → StoreChange → List Stored
items_behind items (Put item named old) = items ++ item ∷ []
items_behind items other = items

-- before each write of an agenda, and behind all
abbrev pub KeepsNames : ℕ → List Stored → List StoreTask → Type 0
KeepsNames size items [] = AreWellNamed size items
KeepsNames size items (task ∷ more) = AreWellNamed size items × KeepsNames size (items_behind items task.change) more

abbrev pub HasNames : ℕ → StoreDisk → Option (List StoreTask) → Type 0
HasNames size d None = AreWellNamed size d.items
HasNames size d (Some agenda) = KeepsNames size d.items agenda

abbrev pub IsNamedStore : ℕ → TableStore → Type 0
IsNamedStore size s = HasNames size s.disk s.agenda

pub named_now : (size : ℕ) (items : List Stored) (agenda : List StoreTask) → KeepsNames size items agenda → AreWellNamed size items
named_now size items [] k = k
named_now size items (task ∷ more) k = k.0

behind_is : (d : StoreDisk) (change : StoreChange) → (changed d change).items ≡ items_behind d.items change
behind_is d OpenChunks = refl
behind_is d OpenRows = refl
behind_is d OpenLog = refl
behind_is d (Open item) = refl
behind_is d (PutChunk name) = refl
behind_is d (Put item named old) = refl
behind_is d (DropChunk name) = refl
behind_is d Close = refl
behind_is d (PutBeside (PutState state)) = refl
behind_is d (PutBeside (PutSub client terms)) = refl

done_keeps : (size : ℕ) (d : StoreDisk) (task : StoreTask) (more : List StoreTask) → KeepsNames size d.items (task ∷ more) → KeepsNames size (changed d task.change).items more
done_keeps size d task more k = subst (λ (items : List Stored). KeepsNames size items more) (sym (behind_is d task.change)) k.1

-- ---- agendas

puts_keep : (size : ℕ) (items : List Stored) (names : List ChunkName) (more : List StoreTask) → AreWellNamed size items → KeepsNames size items more → KeepsNames size items (puts names ++ more)
puts_keep size items [] more named k = k
puts_keep size items (name ∷ names) more named k = (named, puts_keep size items names more named k)

drops_keep : (size : ℕ) (items : List Stored) (names : List ChunkName) (more : List StoreTask) → AreWellNamed size items → KeepsNames size items more
    → KeepsNames size items (drops names ++ more)
drops_keep size items [] more named k = k
drops_keep size items (name ∷ names) more named k = (named, drops_keep size items names more named k)

accepting_keeps : (size table : ℕ) (items : List Stored) (from : Node) (request : Request) (item : Stored) → AreWellNamed size items → AreWellNamed size (items ++ item ∷ [])
    → KeepsNames size items (accepting size table items from request item)
accepting_keeps size table items from request item named then_ = (
  named,
  puts_keep size items (new_names size item) _ named (named, drops_keep size (items ++ item ∷ []) (old_names size items item) _ then_ (then_, then_)),
)

recovering_keeps : (size store table : ℕ) (d : StoreDisk) → AreWellNamed size d.items → KeepsNames size d.items (recovering store table d)
recovering_keeps size store table d named = (named, (named, (named, drops_keep size d.items (rising d.left) _ named (named, named))))

-- ---- moves

worked_keeps : (size : ℕ) (d : StoreDisk) (agenda : Option (List StoreTask)) (luck : Luck) → HasNames size d agenda → IsNamedStore size (worked d agenda luck).store
worked_keeps size d None messages.Done k = k
worked_keeps size d None messages.FailedBefore k = k
worked_keeps size d None messages.FailedAfter k = k
worked_keeps size d (Some []) messages.Done k = k
worked_keeps size d (Some []) messages.FailedBefore k = k
worked_keeps size d (Some []) messages.FailedAfter k = k
worked_keeps size d (Some (task ∷ more)) messages.Done k = done_keeps size d task more k
worked_keeps size d (Some (task ∷ more)) messages.FailedBefore k = k.0
worked_keeps size d (Some (task ∷ more)) messages.FailedAfter k = named_now size (changed d task.change).items more (done_keeps size d task more k)

crashed_keeps : (size : ℕ) (d : StoreDisk) (agenda : Option (List StoreTask)) (luck : Luck) → HasNames size d agenda → IsNamedStore size (crashed d agenda luck).store
crashed_keeps size d None luck k = k
crashed_keeps size d (Some []) luck k = k
crashed_keeps size d (Some (task ∷ more)) messages.Done k = named_now size (changed d task.change).items more (done_keeps size d task more k)
crashed_keeps size d (Some (task ∷ more)) messages.FailedBefore k = k.0
crashed_keeps size d (Some (task ∷ more)) messages.FailedAfter k = named_now size (changed d task.change).items more (done_keeps size d task more k)

started_keeps : (size store table : ℕ) (d : StoreDisk) (agenda : Option (List StoreTask)) → HasNames size d agenda → IsNamedStore size (started store table d agenda).store
started_keeps size store table d (Some agenda) k = k
started_keeps size store table d None k = go d.pending
  where
    found : (i : Stored) (o : Option Stored) → IsNamedStore size (recovered store table d i o).store
    found i None = recovering_keeps size store table d k
    found i (Some item) = recovering_keeps size store table d k

    go : (o : Option Stored) → IsNamedStore size (recover store table d o).store
    go None = (k, (k, (k, k)))
    go (Some i) = found i (item_at i.entry.version d.items)

module _ (g : Scheme) (size table : ℕ) (d : StoreDisk) (named : AreWellNamed size d.items) (from : Node) where
  judged_keeps : (q : Request) (current : ℕ) → is_spelled size q.content q.pieces ≡ true → IsNamedStore size (judged g size table d from q current).store
  judged_keeps q current spelled = go (takes g q.base current && keeps_there size d.items q) refl
    where
      go : (b : Bool) → (takes g q.base current && keeps_there size d.items q) ≡ b
          → IsNamedStore size (if b then quiet d (Some (accepting size table d.items from q (item_for d.items q))) facts.Done else sending d (responded from q (unaccepted g q.base current) ∷ [])).store
      go true is = accepting_keeps size table d.items from q (item_for d.items q) named
          (all_named size d.items named q spelled (and_parts (takes g q.base current) (keeps_there size d.items q) is).1)
      go false is = named

  decided_keeps : (q : Request) (yours : Pair) → is_spelled size q.content q.pieces ≡ true → IsNamedStore size (decided g size table d from q yours).store
  decided_keeps q yours spelled = go (yours.number == q.number) (nat_lt q.number yours.number)
    where
      go : (a b : Bool) → IsNamedStore size (if a then sending d (responded from q (messages.Again yours.version) ∷ [])
          else (if b then sending d (responded from q (messages.Late yours.number) ∷ []) else judged g size table d from q (version_of (current_of d.items q.row)))).store
      go true b = named
      go false true = named
      go false false = judged_keeps q (version_of (current_of d.items q.row)) spelled

  asked_keeps : (q : Request) → IsNamedStore size (asked g size table d from q).store
  asked_keeps q = go (is_spelled size q.content q.pieces) refl
    where
      go : (b : Bool) → is_spelled size q.content q.pieces ≡ b → IsNamedStore size (if b then decided g size table d from q (yours_in d.items q.client q.row) else quiet d (Some []) facts.Done).store
      go true is = decided_keeps q (yours_in d.items q.client q.row) is
      go false is = named

taken_keeps : (g : Scheme) (size table : ℕ) (d : StoreDisk) (agenda : Option (List StoreTask)) (from : Node) (m : Message) → HasNames size d agenda
    → IsNamedStore size (taken g size table d agenda from m).store
taken_keeps g size table d None from m k = k
taken_keeps g size table d (Some (task ∷ more)) from m k = k
taken_keeps g size table d (Some []) from (SyncRequest q) k = asked_keeps g size table d k from q
taken_keeps g size table d (Some []) from (PullRequest q) k = k
taken_keeps g size table d (Some []) from (SyncResponse q) k = k
taken_keeps g size table d (Some []) from (PullResponse q) k = k
taken_keeps g size table d (Some []) from (TornRowRequest q) k = k
taken_keeps g size table d (Some []) from (TornRowResponse q) k = k

placed_keeps : (size table : ℕ) (d : StoreDisk) (agenda : Option (List StoreTask)) (put : SidePut) → HasNames size d agenda → IsNamedStore size (placed table d agenda put).store
placed_keeps size table d None put k = k
placed_keeps size table d (Some (task ∷ more)) put k = k
placed_keeps size table d (Some []) put k = (k, k)

-- every move keeps it
pub move_keeps : (store : ℕ) (g : Scheme) (size table : ℕ) (s : TableStore) (move : StoreMove) → IsNamedStore size s → IsNamedStore size (store_step store g size table s move).store
move_keeps store g size table s (Take from m) k = taken_keeps g size table s.disk s.agenda from m k
move_keeps store g size table s (Place put) k = placed_keeps size table s.disk s.agenda put k
move_keeps store g size table s (Work luck) k = worked_keeps size s.disk s.agenda luck k
move_keeps store g size table s (Crash luck) k = crashed_keeps size s.disk s.agenda luck k
move_keeps store g size table s Start k = started_keeps size store table s.disk s.agenda k
