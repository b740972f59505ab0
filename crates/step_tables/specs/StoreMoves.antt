-- The Store's step table, for one table: what a move makes of it, and what is told and sent. Its state is what its
-- devices stand for, and the device writes that it has begun.
use Rattle.std.specs.Prelude.{ℕ, ◌+◌, ◌==◌, nat_lt, Bool, true, ◌&&◌, List, [], ◌∷◌, ◌++◌, length, map, Option, Some}
use Rattle.std.specs.Prelude.{None, option_map, not, filter, if◌then◌else◌}
use Rattle.std.specs.List.{find}
use Rattle.std.specs.Ordering.{nat_cmp}
use Rattle.std.specs.BTreeMap.{insert_entry}
use Rattle.stab_base.specs.declared.chunk_name.ChunkName.{ChunkName}
use Rattle.stab_base.specs.declared.step.Step.{Step}
use Rattle.stab_base.specs.declared.step.Step.TheVariants as steps
use Rattle.row_value.specs.declared.schema.Scheme.{Scheme}
use Rattle.row_value.specs.declared.schema.Scheme.TheVariants.{Strong, Causal, Eventual}
use Rattle.stab_base.specs.declared.node.Node.{Node}
use Rattle.table_model.specs.declared.table_state.TableState.{TableState}
use Rattle.table_model.specs.declared.table_state.TableState.TheVariants as states
use Rattle.table_model.specs.History.{same_row}
use Rattle.table_model.specs.Last.{last_where}
use Rattle.step_tables.specs.Store.{Stored, current_of, next_changed, version_or}
use Rattle.step_tables.specs.Chunks.{without_names, rising, chunks_of, names_with, new_names, old_names, names_at}
use Rattle.step_tables.specs.Chunks.{is_spelled, has_kept}
use Rattle.step_tables.specs.Facts.{Fact, Answer}
use Rattle.step_tables.specs.Facts as facts
use Rattle.step_tables.specs.Messages.{Request, Response, Pull, Pair, Header, Pulled, Outcome, Message, Send, Luck}
use Rattle.step_tables.specs.Messages.{SyncRequest, SyncResponse, PullRequest, PullResponse, TornPull, TornPulled}
use Rattle.step_tables.specs.Messages.{TornRowRequest, TornRowResponse}
use Rattle.step_tables.specs.Messages as messages
use Rattle.table_model.specs.declared.event.SubTerms.{SubTerms}

-- ---- state

-- a client's subscription: the gateway that the client came by, and how often it is told, in ticks
abbrev pub Terms : Type 0
Terms = SubTerms

-- what the devices stand for: each update whose row write landed, the entry that is open in the log, the chunks that
-- are there and that no row names, whether the table is live, and the subscriptions by their clients
pub record StoreDisk : Type 0 where
  pub items : List Stored
  pub pending : Option Stored
  pub left : List ChunkName
  pub state : TableState
  pub subs : List (ℕ × Terms)

-- a table that was declared in this state
abbrev pub new_disk : TableState → StoreDisk
new_disk state = record { items = []; pending = None; left = []; state = state; subs = [] }

-- what stands beside the rows: whether the table is live; a client's subscription, or that it has none
pub data SidePut : Type 0 where
  PutState : (state : TableState) → SidePut
  PutSub : (client : ℕ) → (terms : Option Terms) → SidePut

-- One device write: a vault is opened, which changes nothing; an entry is opened in the log; a chunk is put; an
-- update's row is put, which names these chunks and leaves those; a chunk is dropped; the entry is closed; something is
-- put beside the rows.
pub data StoreChange : Type 0 where
  OpenChunks : StoreChange
  OpenRows : StoreChange
  OpenLog : StoreChange
  Open : (item : Stored) → StoreChange
  PutChunk : (name : ChunkName) → StoreChange
  Put : (item : Stored) → (named old : List ChunkName) → StoreChange
  DropChunk : (name : ChunkName) → StoreChange
  Close : StoreChange
  PutBeside : (put : SidePut) → StoreChange

-- a device write, with what is told and sent when it is done
pub record StoreTask : Type 0 where
  pub change : StoreChange
  pub facts : List Fact
  pub sends : List Send

-- no agenda: the table is down
pub record TableStore : Type 0 where
  pub disk : StoreDisk
  pub agenda : Option (List StoreTask)

pub data StoreMove : Type 0 where
  Take : (from : Node) → (message : Message) → StoreMove
  Place : (put : SidePut) → StoreMove
  Work : (luck : Luck) → StoreMove
  Crash : (luck : Luck) → StoreMove
  Start : StoreMove

pub record StoreStep : Type 0 where
  pub store : TableStore
  pub answer : Answer
  pub facts : List Fact
  pub sends : List Send

abbrev pub quiet : StoreDisk → Option (List StoreTask) → Answer → StoreStep
quiet d agenda answer = record { store = record { disk = d; agenda = agenda }; answer = answer; facts = []; sends = [] }

abbrev pub down : StoreDisk → StoreStep
down d = quiet d None (facts.Refuses facts.Down)

-- ---- a device write

abbrev pub with_sub : List (ℕ × Terms) → ℕ → Option Terms → List (ℕ × Terms)
with_sub subs client None = filter (λ (entry : ℕ × Terms). not (entry.0 == client)) subs
with_sub subs client (Some terms) = insert_entry nat_cmp subs client terms

abbrev pub put_beside : StoreDisk → SidePut → StoreDisk
put_beside d (PutState state) = record d { state = state }
put_beside d (PutSub client terms) = record d { subs = with_sub d.subs client terms }

abbrev pub changed : StoreDisk → StoreChange → StoreDisk
changed d OpenChunks = d
changed d OpenRows = d
changed d OpenLog = d
changed d (Open item) = record d { pending = Some item }
changed d (PutChunk name) = record d { left = d.left ++ name ∷ [] }
changed d (Put item named old) =
    record d { items = d.items ++ item ∷ []; left = without_names named d.left ++ old }
changed d (DropChunk name) = record d { left = without_names (name ∷ []) d.left }
changed d Close = record d { pending = None }
changed d (PutBeside put) = put_beside d put

-- what the write is called
abbrev pub step_of : StoreChange → Step
step_of OpenChunks = steps.OpenChunks
step_of OpenRows = steps.OpenRows
step_of OpenLog = steps.OpenLog
step_of (Open item) = steps.LogOpen
step_of (PutChunk name) = steps.ChunkPut
step_of (Put item named old) = steps.RowPut
step_of (DropChunk name) = steps.ChunkDrop
step_of Close = steps.LogClose
step_of (PutBeside (PutState state)) = steps.TablePut
step_of (PutBeside (PutSub client terms)) = steps.SubPut

abbrev pub done : StoreDisk → Option (List StoreTask) → StoreStep
done d None = down d
done d (Some []) = quiet d (Some []) facts.Done
done d (Some (task ∷ more)) = record {
  store = record { disk = changed d task.change; agenda = Some more };
  answer = facts.Done;
  facts = task.facts;
  sends = task.sends;
}

-- a crash: the write at work is undone, or done with nothing told and sent, and all that isn't on a device is lost
abbrev pub crashed : StoreDisk → Option (List StoreTask) → Luck → StoreStep
crashed d (Some (task ∷ more)) messages.FailedBefore = quiet d None facts.Done
crashed d (Some (task ∷ more)) messages.FailedAfter = quiet (changed d task.change) None facts.Done
crashed d (Some (task ∷ more)) messages.Done = quiet (changed d task.change) None facts.Done
crashed d (Some []) luck = quiet d None facts.Done
crashed d None luck = down d

-- a write that fails takes the table down
abbrev pub failed : StoreDisk → Option (List StoreTask) → Luck → StoreStep
failed d agenda luck = record (crashed d agenda luck) { answer = facts.Refuses facts.NoDevice }

abbrev pub worked : StoreDisk → Option (List StoreTask) → Luck → StoreStep
worked d agenda messages.Done = done d agenda
worked d agenda messages.FailedBefore = failed d agenda messages.FailedBefore
worked d agenda messages.FailedAfter = failed d agenda messages.FailedAfter

-- ---- a start

abbrev pub item_at : ℕ → List Stored → Option Stored
item_at version items = find (λ (item : Stored). item.entry.version == version) items

abbrev pub ends_with : StoreChange → Fact → StoreTask
ends_with change fact = record { change = change; facts = fact ∷ []; sends = [] }

abbrev pub only : StoreChange → StoreTask
only change = record { change = change; facts = []; sends = [] }

abbrev pub drops : List ChunkName → List StoreTask
drops names = map (λ name. only (DropChunk name)) names

-- opens the vaults, drops what no row names, and closes the entry
abbrev pub recovering : ℕ → ℕ → StoreDisk → List StoreTask
recovering store table d =
    only OpenChunks ∷ only OpenRows ∷ only OpenLog
    ∷ (drops (rising d.left) ++ ends_with Close (facts.StoreRecovered store table) ∷ [])

-- opens the vaults, where no entry is pending
abbrev pub reopening : ℕ → ℕ → List StoreTask
reopening store table =
    only OpenChunks ∷ only OpenRows ∷ ends_with OpenLog (facts.StoreRecovered store table) ∷ []

-- the pending entry, and the item that has its version
abbrev pub recovered : ℕ → ℕ → StoreDisk → Stored → Option Stored → StoreStep
recovered store table d pending (Some found) = record {
  store = record { disk = d; agenda = Some (recovering store table d) };
  answer = facts.Done;
  facts = facts.Forward table found.entry ∷ [];
  sends = [];
}
recovered store table d pending None = record {
  store = record { disk = d; agenda = Some (recovering store table d) };
  answer = facts.Done;
  facts = facts.Back table pending.entry.version ∷ [];
  sends = [];
}

abbrev pub recover : ℕ → ℕ → StoreDisk → Option Stored → StoreStep
recover store table d None = quiet d (Some (reopening store table)) facts.Done
recover store table d (Some pending) = recovered store table d pending (item_at pending.entry.version d.items)

-- a table that is up goes on
abbrev pub started : ℕ → ℕ → StoreDisk → Option (List StoreTask) → StoreStep
started store table d (Some agenda) = quiet d (Some agenda) facts.Done
started store table d None = recover store table d d.pending

-- ---- a request

-- whether a scheme takes a write over a base, where the row's last version is this
abbrev pub takes : Scheme → ℕ → ℕ → Bool
takes Strong base current = base == current
takes Causal base current = base == current
takes Eventual base current = true

abbrev pub outdated : Scheme → ℕ → Outcome
outdated Strong latest = messages.Stale latest
outdated Causal latest = messages.Conflict latest
outdated Eventual latest = messages.Stale latest

-- why a new write isn't taken on: it keeps a chunk that the row hasn't, or its base is outdated
abbrev pub unaccepted : Scheme → ℕ → ℕ → Outcome
unaccepted g base current = if takes g base current then messages.NeedWhole else outdated g current

abbrev pub responded : Node → Request → Outcome → Send
responded from request outcome = record {
  to = Some from;
  message = SyncResponse (record {
    client = request.client;
    table = request.table;
    row = request.row;
    number = request.number;
    outcome = outcome;
  });
}

abbrev pub sending : StoreDisk → List Send → StoreStep
sending d sends =
    record { store = record { disk = d; agenda = Some [] }; answer = facts.Done; facts = []; sends = sends }

-- the item that a request makes: its version is the next, and its new chunks are named by it
abbrev pub item_for : List Stored → Request → Stored
item_for items request = record {
  entry = record {
    row = request.row;
    version = length items + 1;
    client = request.client;
    number = request.number;
    base = request.base;
  };
  content = request.content;
  names = names_at (length items + 1) request.pieces;
}

abbrev pub puts : List ChunkName → List StoreTask
puts names = map (λ name. only (PutChunk name)) names

-- opens the entry, puts each new chunk, puts the row, drops each old chunk that the row names no more, closes the entry
abbrev pub accepting : ℕ → ℕ → List Stored → Node → Request → Stored → List StoreTask
accepting size table items from request item =
    let named : List ChunkName = names_with size item in
    let old : List ChunkName = old_names size items item in
    only (Open item)
    ∷ (puts (new_names size item)
    ++ (ends_with (Put item named old) (facts.Accepted table item.entry)
    ∷ (drops old
    ++ record { change = Close; facts = []; sends = responded from request (messages.Accepted item.entry.version) ∷ [] }
    ∷ [])))

abbrev pub version_of : Option Stored → ℕ
version_of None = 0
version_of (Some item) = item.entry.version

-- whether the row has each chunk that a request keeps
abbrev pub keeps_there : ℕ → List Stored → Request → Bool
keeps_there size items request = has_kept size (chunks_of size items request.row) request.content request.pieces

-- a new write is taken over a base that the scheme takes, where the row has each chunk that it keeps
abbrev pub judged : Scheme → ℕ → ℕ → StoreDisk → Node → Request → ℕ → StoreStep
judged g size table d from request current =
    if takes g request.base current && keeps_there size d.items request
    then quiet d (Some (accepting size table d.items from request (item_for d.items request))) facts.Done
    else sending d (responded from request (unaccepted g request.base current) ∷ [])

abbrev pub pair_of : Option Stored → Pair
pair_of None = record { number = 0; version = 0 }
pair_of (Some item) = record { number = item.entry.number; version = item.entry.version }

abbrev pub is_by : ℕ → List ℕ → Stored → Bool
is_by client row item = (item.entry.client == client) && same_row item.entry.row row

-- a client's last accepted write on a row
abbrev pub yours_in : List Stored → ℕ → List ℕ → Pair
yours_in items client row = pair_of (last_where (is_by client row) items)

-- accepted before, too late, or new
abbrev pub decided : Scheme → ℕ → ℕ → StoreDisk → Node → Request → Pair → StoreStep
decided g size table d from request yours =
    if yours.number == request.number then sending d (responded from request (messages.Again yours.version) ∷ [])
    else (if nat_lt request.number yours.number
    then sending d (responded from request (messages.Late yours.number) ∷ [])
    else judged g size table d from request (version_of (current_of d.items request.row)))

-- ---- a pull

abbrev pub header_for : List Stored → ℕ → Stored → Header
header_for items client item = record {
  row = item.entry.row;
  version = item.entry.version;
  yours = yours_in items client item.entry.row;
  content = item.content;
  names = item.names;
}

abbrev pub pulled_for : List Stored → Pull → Option Stored → Pulled
pulled_for items pull found = record {
  client = pull.client;
  table = pull.table;
  from = pull.position;
  to = version_or pull.position found;
  latest = length items;
  header = option_map (header_for items pull.client) found;
}

abbrev pub answered : StoreDisk → Node → Pull → StoreStep
answered d from pull =
    sending d (record {
      to = Some from;
      message = PullResponse (pulled_for d.items pull (next_changed pull.position d.items));
    } ∷ [])

-- ---- a row that is asked for whole: the row as it is now, none where nothing was written to it

abbrev pub torn_pulled_for : List Stored → TornPull → Option Stored → TornPulled
torn_pulled_for items torn found = record {
  client = torn.client;
  table = torn.table;
  row = torn.row;
  header = option_map (header_for items torn.client) found;
}

abbrev pub torn_answered : StoreDisk → Node → TornPull → StoreStep
torn_answered d from torn =
    sending d (record {
      to = Some from;
      message = TornRowResponse (torn_pulled_for d.items torn (current_of d.items torn.row));
    } ∷ [])

-- ---- what is at work: an update, from its first write on, or the end of one that a start found; else 0

-- where this is the next write
abbrev pub version_at : StoreDisk → StoreChange → ℕ
version_at d (Open item) = item.entry.version
version_at d other = version_of d.pending

-- ---- what is put beside the rows; a table at work takes nothing on

-- a table that becomes live, or is dropped, is told of, and so is a subscription that is kept
abbrev pub told_beside : ℕ → SidePut → List Fact
told_beside table (PutState states.Draft) = []
told_beside table (PutState states.Live) = facts.Made table ∷ []
told_beside table (PutState states.Dropped) = facts.Unmade table ∷ []
told_beside table (PutSub client terms) = facts.Saved table ∷ []

abbrev pub beside_task : ℕ → SidePut → StoreTask
beside_task table put = record { change = PutBeside put; facts = told_beside table put; sends = [] }

abbrev pub placed : ℕ → StoreDisk → Option (List StoreTask) → SidePut → StoreStep
placed table d None put = down d
placed table d (Some (task ∷ more)) put =
    quiet d (Some (task ∷ more)) (facts.Refuses (facts.Busy (version_at d task.change)))
placed table d (Some []) put = quiet d (Some (beside_task table put ∷ [])) facts.Done

-- ---- a message; a table at work doesn't take it, and one that no rule takes is dropped. So is a request that doesn't
-- spell its chunks

abbrev pub asked : Scheme → ℕ → ℕ → StoreDisk → Node → Request → StoreStep
asked g size table d from request =
    if is_spelled size request.content request.pieces
    then decided g size table d from request (yours_in d.items request.client request.row)
    else quiet d (Some []) facts.Done

abbrev pub taken : Scheme → ℕ → ℕ → StoreDisk → Option (List StoreTask) → Node → Message → StoreStep
taken g size table d None from message = down d
taken g size table d (Some (task ∷ more)) from message =
    quiet d (Some (task ∷ more)) (facts.Refuses (facts.Busy (version_at d task.change)))
taken g size table d (Some []) from (SyncRequest request) = asked g size table d from request
taken g size table d (Some []) from (PullRequest pull) = answered d from pull
taken g size table d (Some []) from (SyncResponse response) = quiet d (Some []) facts.Done
taken g size table d (Some []) from (PullResponse pulled) = quiet d (Some []) facts.Done
taken g size table d (Some []) from (TornRowRequest torn) = torn_answered d from torn
taken g size table d (Some []) from (TornRowResponse answer) = quiet d (Some []) facts.Done

-- what a move makes of a table of this number, scheme and size of chunks, at a Store of this number
abbrev pub store_step : ℕ → Scheme → ℕ → ℕ → TableStore → StoreMove → StoreStep
store_step store g size table s (Take from message) = taken g size table s.disk s.agenda from message
store_step store g size table s (Place put) = placed table s.disk s.agenda put
store_step store g size table s (Work luck) = worked s.disk s.agenda luck
store_step store g size table s (Crash luck) = crashed s.disk s.agenda luck
store_step store g size table s Start = started store table s.disk s.agenda
