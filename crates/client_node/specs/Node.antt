-- A client's node on its devices, as the state of the client's step table.
use Rattle.std.specs.Prelude.{◌≡◌, ◌⊎◌, ℕ, ◌+◌, ◌≤◌, Bool, true, false, List, [], ◌∷◌, length, map, Option, Some, None}
use Rattle.std.specs.List.{AllByRecursion}
use Rattle.std.specs.Ordering.{nat_cmp}
use Rattle.std.specs.BTreeMap.{insert_entry}
use Rattle.std.specs.BTreeSet.{keys}
use Rattle.row_value.specs.declared.schema.Schema.{Schema}
use Rattle.value_codec.specs.SchemaSpelling.{HasSchemaSpelling}
use Rattle.plan_log.specs.Spelling.{IsTable}
use Rattle.disk_trait.specs.Calls.{DiskState}
use Rattle.disk_trait.specs.Fuse.{behind, inner_of}
use Rattle.vault.specs.Standing.{disk_of}
use Rattle.chunk_store.specs.Standing as chunks
use Rattle.slot_store.specs.Standing as slots
use Rattle.plan_log.specs.Standing as journals
use Rattle.held_value.specs.declared.local_name.LocalName.{LocalName}
use Rattle.client_journal.specs.Devs.{ClientDevs, Write, changed_by, changed_by_all}
use Rattle.client_journal.specs.NamedSlots.{IsAtRest}
use Rattle.client_journal.specs.Redone.{redone}
use Rattle.client_journal.specs.Standing.{devs, writes_of, step_of, AreUp, AreSound, AreSynced, IsReady, DevsLeave}
use Rattle.client_journal.specs.Unset.{AreFresh}
use Rattle.step_tables.specs.Facts.{Fact}
use Rattle.step_tables.specs.Messages.{Send}
use Rattle.step_tables.specs.ClientMoves.{TableDisk, ClientDisk, ClientTask, Client, changed, opened_table}
use Rattle.step_tables.specs.Travels.{send_of}
use Rattle.journal_laws.specs.Holds.{Stands, Follows}
use Rattle.plan_limits.specs.Fit.{AreFitRows}
use Rattle.gathering.specs.Room.{HasRoom}
use Rattle.step_tables.specs.Lines.{fact_of}
use Rattle.client_node.specs.Due.{is_last_of, told_at, left_at, sent_at}
use Rattle.client_node.specs.Steady.{IsShortSchema, IsSteady, AreSteady}
use Rattle.client_node.specs.Waiting.{NoneNoted}
use Rattle.client_node.specs.declared.node.ClientNode.{ClientNode}
use Rattle.client_node.specs.declared.owed.Owed.{Owed}
use Rattle.client_node.specs.declared.waiting.Waiting.{Waiting}
use Rattle.client_node.specs.declared.owed.When.{When}

-- ---- what is told and sent

-- what was gathered to be told and sent
abbrev pub told_by : {D : Type 0} → ClientNode D → List Fact
told_by node = map fact_of node.facts.items.items

abbrev pub sent_by : {D : Type 0} → ClientNode D → List Send
sent_by node = map send_of node.messages.items.items

-- what is owed
abbrev pub facts_owed : Owed → List Fact
facts_owed owed = map fact_of owed.facts.items

abbrev pub sends_owed : Owed → List Send
sends_owed owed = map send_of owed.messages.items

-- These tasks tell and send what is owed behind their writes.
abbrev pub AreOwed : When → List Fact → List Send → List Write → List ClientTask → Type 0
AreOwed when owed sends [] [] = Unit {0}
AreOwed when owed sends (w ∷ ws) (task ∷ tasks) = (task.facts ≡ told_at when owed (step_of w) (is_last_of ws))
    × (task.sends ≡ sent_at sends (is_last_of ws))
    × AreOwed when (left_at when owed (step_of w) (is_last_of ws)) sends ws tasks
AreOwed when owed sends ws tasks = ⊥

-- ---- the node

-- a table that a declaration or a call opens, whose schema has a spelling that isn't too long
pub record IsToOpen (table : ℕ × Schema) : Type 0 where
  pub numbered : IsTable table.0
  pub spelled : HasSchemaSpelling table.1
  pub short : IsShortSchema table.1

-- the tables that a declaration opens, without a row
abbrev pub opened_all : List (ℕ × TableDisk) → List (ℕ × Schema) → List (ℕ × TableDisk)
opened_all some [] = some
opened_all some (table ∷ tables) = opened_all (insert_entry nat_cmp some table.0 (opened_table table.1)) tables

abbrev pub to_open : List (ℕ × Schema) → ClientDisk
to_open tables = record { last = 0; tables = opened_all [] tables; plan = None }

-- the devices stand for this disk, whatever the names stand for, and each row fits its table
abbrev pub StandsFor : ℕ → ClientDevs → ClientDisk → Type 0
StandsFor c d disk = (meaning : LocalName → List ℕ) × Stands c meaning d disk × AreFitRows meaning (redone d)

-- each row fits its table now and behind each of these writes
abbrev pub StayFit : (LocalName → List ℕ) → ClientDevs → List Write → Type 0
StayFit meaning d [] = AreFitRows meaning (redone d)
StayFit meaning d (w ∷ ws) = AreFitRows meaning (redone d) × StayFit meaning (changed_by d w) ws

-- the devices stand for this disk now and behind each of these writes, which are those of these tasks
abbrev pub FollowsFor : ℕ → ClientDevs → List Write → ClientDisk → List ClientTask → Type 0
FollowsFor c d ws disk tasks = (meaning : LocalName → List ℕ) × Follows c meaning d ws disk tasks
    × StayFit meaning d ws

-- how often the three disks themselves have failed, the stops of their fuses apart
abbrev pub own_faults : {D : Type 0} → (D → DiskState) → ClientNode D → ℕ
own_faults state node =
    (state (inner_of (disk_of (chunks.vault_of node.devs.chunks)))).faults
    + ((state (inner_of (disk_of (slots.vault_of node.devs.slots)))).faults
    + (state (inner_of (disk_of (journals.vault_of node.devs.journal)))).faults)

-- no plan of a declared client has a number above this, now and behind all its writes
abbrev pub HasPlansBelow : {D : Type 0} → (D → DiskState) → ℕ → ClientNode D → Type 0
HasPlansBelow state n node = node.is_declared ≡ true
    → (changed_by_all (devs (behind state) node.devs) (writes_of node.devs)).journal.greatest ≤ n

-- Up: the devices hold this disk, and behind each of their writes what the tasks make of it; behind the last nothing is
-- at work; and there is room for what the tasks tell and send.
pub record IsWorking {D : Type 0} (state : D → DiskState) (node : ClientNode D) (disk : ClientDisk)
    (tasks : List ClientTask) : Type 0 where
  pub declared : node.is_declared ≡ true
  pub up : AreUp node.devs
  pub fresh : AreFresh (behind state) node.devs
  pub ready : IsReady (behind state) node.devs (writes_of node.devs)
  pub follows : FollowsFor node.number (devs (behind state) node.devs) (writes_of node.devs) disk tasks
  pub rests : IsAtRest (changed_by_all (devs (behind state) node.devs) (writes_of node.devs))
  pub steady : IsSteady node.waiting disk
  pub tasks_steady : AreSteady node.waiting tasks
  pub owed : AreOwed node.owed.when (facts_owed node.owed) (sends_owed node.owed) (writes_of node.devs) tasks
  pub fact_room : HasRoom node.facts (length node.owed.facts.items)
  pub message_room : HasRoom node.messages (length node.owed.messages.items)

-- Down: its disks were restarted, and hold this, and no phase is open. What wasn't declared is to hold its tables. No row
-- is noted; what the disk keeps it keeps whatever is.
pub record IsResting {D : Type 0} (state : D → DiskState) (node : ClientNode D) (disk : ClientDisk) : Type 0 where
  pub up : AreUp node.devs
  pub fresh : AreFresh (behind state) node.devs
  pub idle : writes_of node.devs ≡ []
  pub synced : node.is_declared ≡ true → AreSynced (behind state) node.devs
  pub sound : node.is_declared ≡ true → AreSound (behind state) node.devs
  pub stands : node.is_declared ≡ true → StandsFor node.number (devs (behind state) node.devs) disk
  pub undeclared : node.is_declared ≡ false → disk ≡ to_open node.tables.items
  pub opens : node.is_declared ≡ false → AllByRecursion IsToOpen node.tables.items
  pub waiting : NoneNoted node.waiting
  pub steady : (waiting : Waiting) × IsSteady waiting disk
  pub phaseless : keys node.phases ≡ []

abbrev pub IsAt : {D : Type 0} → (D → DiskState) → ClientNode D → ClientDisk → Option (List ClientTask) → Type 0
IsAt state node disk None = (node.is_up ≡ false) × IsResting state node disk
IsAt state node disk (Some tasks) = (node.is_up ≡ true) × IsWorking state node disk tasks

-- the node is in this state of the step table
pub record IsClient {D : Type 0} (state : D → DiskState) (node : ClientNode D) (s : Client) : Type 0 where
  pub at : IsAt state node s.disk s.agenda

-- and in one of them
abbrev pub IsNode : {D : Type 0} → (D → DiskState) → ClientNode D → Type 0
IsNode state node = (s : Client) × IsClient state node s

-- the disk behind the next task
abbrev pub behind_next : ClientDisk → Option (List ClientTask) → ClientDisk
behind_next disk None = disk
behind_next disk (Some []) = disk
behind_next disk (Some (task ∷ tasks)) = changed disk task.change

-- a crash at any moment since the old node leaves devices that stand for this disk or for that one
abbrev pub LeavesEither : {D : Type 0} → (D → DiskState) → (D → ℕ → List ℕ → Type 0) → ClientNode D → ClientNode D
    → ClientDisk → ClientDisk → Type 0
LeavesEither state images old new a b =
    DevsLeave (behind state) (λ f. images (inner_of f)) old.devs new.devs
    (λ d. StandsFor old.number d a ⊎ StandsFor old.number d b)

-- the same client, whose link is as it was
pub record IsSame {D : Type 0} (old new : ClientNode D) : Type 0 where
  pub number : new.number ≡ old.number
  pub linked : new.is_linked ≡ old.is_linked

-- whether a write is to be done
abbrev pub has_task : Option (List ClientTask) → Bool
has_task None = false
has_task (Some []) = false
has_task (Some (task ∷ tasks)) = true
