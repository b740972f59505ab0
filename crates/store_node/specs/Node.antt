-- A table's node on its devices, as the state of the Store's step table.
use Rattle.std.specs.Prelude.{◌≡◌, ◌⊎◌, ℕ, ◌+◌, ◌<◌, ◌≤◌, Bool, true, false, List, [], ◌∷◌, length, map, Option, Some}
use Rattle.std.specs.Prelude.{None, Ok}
use Rattle.disk_trait.specs.Calls.{DiskState}
use Rattle.disk_trait.specs.Fuse.{behind, inner_of}
use Rattle.vault.specs.Limit.{payload_most}
use Rattle.vault.specs.Standing.{disk_of}
use Rattle.row_value.specs.declared.schema.Schema.{Schema}
use Rattle.row_value.specs.Fit.{fit_of}
use Rattle.value_codec.specs.SchemaSpelling.{HasSchemaSpelling}
use Rattle.chunk_store.specs.Standing as chunks
use Rattle.row_store.specs.Data.{TableData, nothing_held}
use Rattle.row_store.specs.Spelling.{IsClient, table_payload}
use Rattle.row_store.specs.Standing as rows
use Rattle.status_log.specs.Standing as logs
use Rattle.vault.specs.Calls.{IsEither}
use Rattle.store_commit.specs.Devs.{Write}
use Rattle.store_commit.specs.Standing.{devs, writes_of, step_of, AreUp, AreSound, AreSynced, IsReady, DevsLeave}
use Rattle.store_commit.specs.Standing.{RowsLeave, NothingHidden, AreBlank, nothing}
use Rattle.store_commit.specs.Unset.{AreFresh}
use Rattle.table_model.specs.declared.table_state.TableState.{TableState}
use Rattle.step_tables.specs.Facts.{Fact}
use Rattle.step_tables.specs.Messages.{Send}
use Rattle.step_tables.specs.Store.{Stored}
use Rattle.step_tables.specs.StoreMoves.{StoreDisk, StoreTask, TableStore, changed, new_disk}
use Rattle.step_tables.specs.declared.message.Message.{Message}
use Rattle.step_tables.specs.declared.message.Message.TheVariants as kinds
use Rattle.device_laws.specs.Stands.{Stands, Follows, HasRows}
use Rattle.step_tables.specs.Travels.{send_of}
use Rattle.store_node.specs.Devices.{no_rows, HoldNone}
use Rattle.store_node.specs.Due.{fact_of, told_at, sent_at, state_at, is_last_of}
use Rattle.store_node.specs.Gathered.{HasRoom}
use Rattle.store_node.specs.declared.node.TableNode.{TableNode}
use Rattle.store_node.specs.declared.owed.Owed.{Owed}

-- ---- what is told and sent

-- what was gathered to be told and sent
abbrev pub told_by : {D : Type 0} → TableNode D → List Fact
told_by node = map fact_of node.facts.items.items

abbrev pub sent_by : {D : Type 0} → TableNode D → List Send
sent_by node = map send_of node.messages.items.items

-- These tasks tell and send what is owed behind their writes.
abbrev pub AreOwed : ℕ → Owed → List Write → List StoreTask → Type 0
AreOwed table o [] [] = Unit {0}
AreOwed table o (w ∷ ws) (task ∷ tasks) = (task.facts ≡ told_at table o (step_of w) (is_last_of ws))
    × (task.sends ≡ sent_at table o (step_of w)) × AreOwed table o ws tasks
AreOwed table o ws tasks = ⊥

-- These tasks make of the table's state what is owed.
abbrev pub PutStates : Owed → List StoreTask → Type 0
PutStates o [] = Unit {0}
PutStates o (task ∷ tasks) = ((disk : StoreDisk) → (changed disk task.change).state ≡ state_at o disk.state)
    × PutStates o tasks

-- how many facts these tasks tell, and how many messages they send
abbrev pub facts_in : List StoreTask → ℕ
facts_in [] = 0
facts_in (task ∷ tasks) = length task.facts + facts_in tasks

abbrev pub sends_in : List StoreTask → ℕ
sends_in [] = 0
sends_in (task ∷ tasks) = length task.sends + sends_in tasks

-- ---- what the disk keeps

-- each content is a row of the table
abbrev pub AreFit : Schema → List Stored → Type 0
AreFit schema [] = Unit {0}
AreFit schema (item ∷ items) = (fit_of schema item.content ≡ Ok tt) × AreFit schema items

-- now and behind each of these tasks; and behind the last one no entry is pending
abbrev pub GoesWell : Schema → StoreDisk → List StoreTask → Type 0
GoesWell schema disk [] = AreFit schema disk.items × (disk.pending ≡ None)
GoesWell schema disk (task ∷ tasks) = AreFit schema disk.items × GoesWell schema (changed disk task.change) tasks

-- ---- the node

-- how often the three disks themselves have failed, the stops of their fuses apart
abbrev pub own_faults : {D : Type 0} → (D → DiskState) → TableNode D → ℕ
own_faults state node =
    (state (inner_of (disk_of (chunks.vault_of node.devs.chunks)))).faults
    + ((state (inner_of (disk_of (rows.vault_of node.devs.rows)))).faults
    + (state (inner_of (disk_of (logs.vault_of node.devs.log)))).faults)

-- Up: the devices hold this disk, and behind each of their writes what the tasks make of it; the state is the disk's,
-- and behind each what is owed; and there is room for what the tasks tell and send.
pub record IsWorking {D : Type 0} (state : D → DiskState) (node : TableNode D) (disk : StoreDisk)
    (tasks : List StoreTask) : Type 0 where
  pub declared : node.is_declared ≡ true
  pub up : AreUp node.devs
  pub fresh : AreFresh (behind state) node.devs
  pub hidden : NothingHidden node.devs
  pub ready : IsReady (behind state) node.devs (writes_of node.devs)
  pub follows : Follows node.schema (devs (behind state) node.devs) (writes_of node.devs) disk tasks
  pub well : GoesWell node.schema disk tasks
  pub owed : AreOwed node.table node.owed (writes_of node.devs) tasks
  pub stage : node.state ≡ disk.state
  pub stages : PutStates node.owed tasks
  pub fact_room : HasRoom node.facts (facts_in tasks)
  pub message_room : HasRoom node.messages (sends_in tasks)
  pub few_facts : facts_in tasks ≤ 1
  pub few_messages : sends_in tasks ≤ 1

-- Down: its disks were restarted, and hold this. What wasn't declared holds nothing yet.
pub record IsResting {D : Type 0} (state : D → DiskState) (node : TableNode D) (disk : StoreDisk) : Type 0 where
  pub up : AreUp node.devs
  pub fresh : AreFresh (behind state) node.devs
  pub idle : writes_of node.devs ≡ []
  pub synced : node.is_declared ≡ true → AreSynced (behind state) node.devs
  pub sound : node.is_declared ≡ true → AreSound (behind state) node.devs
  pub stands : node.is_declared ≡ true → Stands node.schema (devs (behind state) node.devs) disk
  pub fit : AreFit node.schema disk.items
  pub nothing : node.is_declared ≡ false → disk ≡ new_disk node.state

abbrev pub IsAt : {D : Type 0} → (D → DiskState) → TableNode D → StoreDisk → Option (List StoreTask) → Type 0
IsAt state node disk None = (node.is_up ≡ false) × IsResting state node disk
IsAt state node disk (Some tasks) = (node.is_up ≡ true) × IsWorking state node disk tasks

-- the node is in this state of the step table
pub record IsTable {D : Type 0} (state : D → DiskState) (node : TableNode D) (s : TableStore) : Type 0 where
  pub size : 0 < node.schema.chunk
  pub spelled : HasSchemaSpelling node.schema
  pub short : length (table_payload node.schema 2) ≤ payload_most
  pub at : IsAt state node s.disk s.agenda

-- and in one of them
abbrev pub IsNode : {D : Type 0} → (D → DiskState) → TableNode D → Type 0
IsNode state node = (s : TableStore) × IsTable state node s

-- the disk behind the next task
abbrev pub behind_next : StoreDisk → Option (List StoreTask) → StoreDisk
behind_next disk None = disk
behind_next disk (Some []) = disk
behind_next disk (Some (task ∷ tasks)) = changed disk task.change

-- a crash at any moment since the old node leaves devices that hold this disk or that one
abbrev pub LeavesEither : {D : Type 0} → (D → DiskState) → (D → ℕ → List ℕ → Type 0) → TableNode D → TableNode D
    → StoreDisk → StoreDisk → Type 0
LeavesEither state images old new a b =
    DevsLeave (behind state) (λ f. images (inner_of f)) old.devs new.devs
    (λ d. Stands old.schema d a ⊎ Stands old.schema d b)

-- and of the disk of the rows it leaves the rows of this one or of that one
abbrev pub LeavesRows : {D : Type 0} → (D → DiskState) → (D → ℕ → List ℕ → Type 0) → TableNode D → TableNode D
    → StoreDisk → StoreDisk → Type 0
LeavesRows state images old new a b =
    RowsLeave (behind state) (λ f. images (inner_of f)) old.devs new.devs
    (λ held. HasRows old.schema held a ⊎ HasRows old.schema held b)

-- ---- a node whose disks hold no row

-- each of its three disks is blank: empty, or with a gate and nothing more, and all of it on the disk
abbrev pub HasBlankDisks : {D : Type 0} → (D → DiskState) → TableNode D → Type 0
HasBlankDisks state node = AreBlank (behind state) node.devs

-- no row: none at all, or those of a table that is declared in this state and has none
abbrev pub HasNoRows : Schema → TableState → TableData → Type 0
HasNoRows schema stage held = (held ≡ nothing_held) ⊎ HasRows schema held (new_disk stage)

-- A crash at any moment since the old node leaves devices with no chunk, no row and no open entry: nothing, or the
-- record of the table alone.
pub record LeavesNone {D : Type 0} (state : D → DiskState) (images : D → ℕ → List ℕ → Type 0)
    (old new : TableNode D) : Type 0 where
  pub any_moment : DevsLeave (behind state) (λ f. images (inner_of f)) old.devs new.devs
      (IsEither nothing (no_rows old.schema old.state))
  pub rows_left : RowsLeave (behind state) (λ f. images (inner_of f)) old.devs new.devs
      (HasNoRows old.schema old.state)

-- Its disks hold nothing, or the record of the table alone, and not by chance, and all of it is on them.
abbrev pub HoldsNone : {D : Type 0} → (D → DiskState) → TableNode D → Type 0
HoldsNone state node = HoldNone (behind state) node.schema node.state node.devs

-- the same table, of the same Store
pub record IsSame {D : Type 0} (old new : TableNode D) : Type 0 where
  pub store : new.store ≡ old.store
  pub table : new.table ≡ old.table
  pub schema : new.schema ≡ old.schema

-- whether a write is to be done
abbrev pub has_task : Option (List StoreTask) → Bool
has_task None = false
has_task (Some []) = false
has_task (Some (task ∷ tasks)) = true

-- ---- messages

-- a request whose content is a row of the table, of one of the clients; any other message
abbrev pub Fits : Schema → Message → Type 0
Fits schema (kinds.SyncRequest request) = (fit_of schema request.content ≡ Ok tt) × IsClient request.client
Fits schema other = Unit {0}
