-- What the Stores with their tables hold of the world of the laws: of the Stores that are declared, of the tables,
-- their schemas and owners, and of the Stores that are down. Packets, clients and holds are whoever's.
use Rattle.std.specs.Prelude.{◌≡◌, ◌≢◌, ℕ, ◌≤◌, ◌<◌, Bool, true, false, not, ◌&&◌, ◌||◌, List, [], ◌∷◌, map}
use Rattle.std.specs.Prelude.{length, filter, Option, Some, None, is_some}
use Rattle.std.specs.FinSet as set
use Rattle.std.specs.Ordering.{nat_cmp}
use Rattle.std.specs.BTreeMap as tree
use Rattle.std.specs.Map.{keys_of}
use Rattle.std.specs.List.Sorted.{IsStrictlySortedBy}
use Rattle.disk_trait.specs.Image.{settled}
use Rattle.disk_trait.specs.Calls.{DiskState, LeavesOnly}
use Rattle.disk_trait.specs.Fuse.{behind, inner_of}
use Rattle.vault.specs.File.{StandsForOne}
use Rattle.vault.specs.Standing.{disk_of}
use Rattle.chunk_store.specs.Standing as chunks
use Rattle.row_store.specs.Data.{TableData, data_of}
use Rattle.row_store.specs.Standing as rows
use Rattle.status_log.specs.Standing as logs
use Rattle.stab_base.specs.declared.node.Node.{Node}
use Rattle.stab_base.specs.declared.node.Node.TheVariants as nodes
use Rattle.row_value.specs.declared.schema.Schema.{Schema}
use Rattle.store_commit.specs.Standing.{RowsLeave}
use Rattle.step_tables.specs.StoreMoves.{StoreStep, StoreTask}
use Rattle.device_laws.specs.Stands.{HasRows}
use Rattle.step_tables.specs.Travels.{send_of}
use Rattle.store_node.specs.Due.{fact_of}
use Rattle.store_node.specs.Node.{IsTable, told_by, sent_by, own_faults, HasNoRows}
use Rattle.world_tables.specs.World.{World, Outbox, Moved, schema_at, hosted_at, owner_of, has_store, tables_of}
use Rattle.world_tables.specs.World.{has_node, has_unmade, history_on, packets_from, tasks_in}
use Rattle.world_tables.specs.World as world
use Rattle.world_tables.specs.Passed.{after_tasks}
use Rattle.store_host.specs.declared.hosted.Hosted.{Hosted}
use Rattle.store_host.specs.declared.hosted.TableOut.{TableOut}
use Rattle.store_host.specs.declared.host.StoreHost.{StoreHost}
use Rattle.store_host.specs.declared.store.StoreState.{StoreState}

-- ---- a table

-- It is the world's table of this number, kept by this Store, with nothing left to tell or to send.
pub record IsHosted {D : Type 0} (state : D → DiskState) (store : ℕ) (declared : Option Schema) (table : ℕ)
    (hosted : world.Hosted) (it : Hosted D) : Type 0 where
  pub schema : declared ≡ Some it.node.schema
  pub number : it.node.table ≡ table
  pub owner : it.node.store ≡ store
  pub node : IsTable state it.node hosted.store
  pub made : it.node.is_declared ≡ hosted.made
  pub history : it.history ≡ hosted.history
  pub told : told_by it.node ≡ []
  pub sent : sent_by it.node ≡ []

abbrev pub HostedThere : {D : Type 0} → (D → DiskState) → ℕ → Option Schema → ℕ → Option world.Hosted
    → Option (Hosted D) → Type 0
HostedThere state store schema table None None = Unit {0}
HostedThere state store schema table None (Some it) = ⊥
HostedThere state store schema table (Some hosted) None = ⊥
HostedThere state store schema table (Some hosted) (Some it) = IsHosted state store schema table hosted it

-- the table behind a move
abbrev pub behind_step : world.Hosted → StoreStep → world.Hosted
behind_step hosted s =
    record { store = s.store; history = history_on hosted.history s.facts; made = hosted.made }

-- ---- all tables

-- The tables, each kept by its owner.
pub record HoldsTables {D : Type 0} (state : D → DiskState) (w : World) (tables : tree.BTreeMap ℕ (Hosted D))
    : Type 0 where
  pub there : (table : ℕ) → HostedThere state (owner_of w table) (schema_at w table) table (hosted_at w table)
      (tree.get nat_cmp tables table)
  pub keys : keys_of w.tables ≡ keys_of tables.entries
  pub rising : IsStrictlySortedBy nat_cmp (keys_of w.tables)

-- it holds some world
abbrev pub AreTables : {D : Type 0} → (D → DiskState) → tree.BTreeMap ℕ (Hosted D) → Type 0
AreTables state tables = (w : World) × HoldsTables state w tables

-- the Store that keeps a table; 0 for one that isn't there
abbrev pub store_in : {D : Type 0} → Option (Hosted D) → ℕ
store_in None = 0
store_in (Some it) = it.node.store

abbrev pub owner_at : {D : Type 0} → tree.BTreeMap ℕ (Hosted D) → ℕ → ℕ
owner_at tables table = store_in (tree.get nat_cmp tables table)

-- a table that is there is up
abbrev pub IsUpNode : {D : Type 0} → Option (Hosted D) → Type 0
IsUpNode None = Unit {0}
IsUpNode (Some it) = it.node.is_up ≡ true

abbrev pub IsUpTable : {D : Type 0} → tree.BTreeMap ℕ (Hosted D) → ℕ → Type 0
IsUpTable tables table = IsUpNode (tree.get nat_cmp tables table)

-- ---- the Stores

-- It is the world's Store of this number: with the numbers of its tables, and whether a crash or a disk took it down,
-- or a table whose declaration failed does.
pub record IsStoreAt (w : World) (number : ℕ) (store : StoreState) : Type 0 where
  pub declared : has_store w number ≡ true
  pub tables : store.tables ≡ tables_of w number
  pub down : store.is_down ≡ has_node w.downs (nodes.Store number)
  pub late : store.is_late ≡ has_unmade w number

abbrev pub StoreThere : World → ℕ → Option StoreState → Type 0
StoreThere w number None = has_store w number ≡ false
StoreThere w number (Some store) = IsStoreAt w number store

-- each Store that is down is declared
abbrev pub IsDeclared : World → Node → Type 0
IsDeclared w (nodes.Store number) = has_store w number ≡ true
IsDeclared w (nodes.Client c) = ⊥
IsDeclared w (nodes.Gate gate) = ⊥

abbrev pub AreDeclared : World → List Node → Type 0
AreDeclared w [] = Unit {0}
AreDeclared w (node ∷ more) = IsDeclared w node × AreDeclared w more

-- it is up: it has an agenda
abbrev pub IsUpAt : Option (List StoreTask) → Type 0
IsUpAt o = (agenda : List StoreTask) × (o ≡ Some agenda)

-- whether a table is there and up
abbrev pub is_up_there : Option world.Hosted → Bool
is_up_there None = false
is_up_there (Some hosted) = is_some hosted.store.agenda

-- each table that was made is up, whose owner no crash and no disk has taken down
abbrev pub AreUp : World → Type 0
AreUp w = (table : ℕ) (hosted : world.Hosted) → hosted_at w table ≡ Some hosted → hosted.made ≡ true
    → has_node w.downs (nodes.Store (owner_of w table)) ≡ false → IsUpAt hosted.store.agenda

-- the same, but for the tables of one Store
abbrev pub AreUpBut : World → ℕ → Type 0
AreUpBut w number = (table : ℕ) (hosted : world.Hosted) → hosted_at w table ≡ Some hosted → hosted.made ≡ true
    → has_node w.downs (nodes.Store (owner_of w table)) ≡ false → owner_of w table ≢ number → IsUpAt hosted.store.agenda

-- It has the numbers of the Store's tables.
abbrev pub IsPartThere : World → ℕ → Option StoreState → Type 0
IsPartThere w number None = has_store w number ≡ false
IsPartThere w number (Some store) = (has_store w number ≡ true) × (store.tables ≡ tables_of w number)

-- The Stores, one of which is about to fall: what it says of itself is to be said anew, and its tables may be down.
pub record HoldsParts {D : Type 0} (state : D → DiskState) (w : World) (number : ℕ) (host : StoreHost D)
    : Type 0 where
  pub ring : host.ring ≡ set.from_list w.stores
  pub own : IsPartThere w number (tree.get nat_cmp host.stores number)
  pub others : (store : ℕ) → store ≢ number → StoreThere w store (tree.get nat_cmp host.stores store)
  pub tables : HoldsTables state w host.tables
  pub downs : AreDeclared w w.downs
  pub ups : AreUpBut w number

-- The Stores, whose tables are up where they are.
pub record HoldsStore {D : Type 0} (state : D → DiskState) (w : World) (host : StoreHost D) : Type 0 where
  pub ring : host.ring ≡ set.from_list w.stores
  pub stores : (store : ℕ) → StoreThere w store (tree.get nat_cmp host.stores store)
  pub tables : HoldsTables state w host.tables
  pub downs : AreDeclared w w.downs
  pub ups : AreUp w

abbrev pub IsStore : {D : Type 0} → (D → DiskState) → StoreHost D → Type 0
IsStore state host = (w : World) × HoldsStore state w host

-- whether a Store is up; one that isn't declared is down
abbrev pub is_up_by : Option StoreState → Bool
is_up_by None = false
is_up_by (Some store) = not (store.is_down || store.is_late)

abbrev pub is_up_at : {D : Type 0} → StoreHost D → ℕ → Bool
is_up_at host store = is_up_by (tree.get nat_cmp host.stores store)

-- whether the Store that keeps a table is up; true for a table that isn't there
abbrev pub is_up_if : {D : Type 0} → StoreHost D → Option (Hosted D) → Bool
is_up_if host None = true
is_up_if host (Some it) = is_up_at host it.node.store

abbrev pub is_up_for : {D : Type 0} → StoreHost D → ℕ → Bool
is_up_for host table = is_up_if host (tree.get nat_cmp host.tables table)

-- ---- what was told and sent

-- what a Store sends is addressed to a node
abbrev pub outbox_of : TableOut → Outbox
outbox_of it = record {
  facts = map fact_of it.out.facts;
  packets = packets_from (λ table. it.store) (nodes.Store it.store) (map send_of it.out.messages);
}

abbrev pub outs_in : List TableOut → List Outbox
outs_in outs = map outbox_of outs

abbrev pub outs_of : {D : Type 0} → StoreHost D → List Outbox
outs_of host = outs_in host.outs

abbrev pub is_empty : {X : Type 0} → List X → Bool
is_empty [] = true
is_empty (x ∷ xs) = false

-- some fact, or some packet
abbrev pub says_something : Outbox → Bool
says_something out = not (is_empty out.facts && is_empty out.packets)

-- what moves told and sent, those that did neither left out
abbrev pub said_by : Moved → List Outbox
said_by m = filter says_something m.outs

-- ---- faults of disks

abbrev pub faults_in : {D : Type 0} → (D → DiskState) → Option (Hosted D) → ℕ
faults_in state None = 0
faults_in state (Some it) = own_faults state it.node

-- how often the disks of a table have failed
abbrev pub faults_at : {D : Type 0} → (D → DiskState) → tree.BTreeMap ℕ (Hosted D) → ℕ → ℕ
faults_at state tables table = faults_in state (tree.get nat_cmp tables table)

-- none of them has failed less often
abbrev pub LaterFaults : {D : Type 0} → (D → DiskState) → (old new : tree.BTreeMap ℕ (Hosted D)) → Type 0
LaterFaults state old new = (table : ℕ) → faults_at state old table ≤ faults_at state new table

abbrev pub SameFaults : {D : Type 0} → (D → DiskState) → (old new : tree.BTreeMap ℕ (Hosted D)) → Type 0
SameFaults state old new = (table : ℕ) → faults_at state new table ≡ faults_at state old table

-- the disks of one table have failed more often
pub record RisenFaults {D : Type 0} (state : D → DiskState) (old new : tree.BTreeMap ℕ (Hosted D)) : Type 0 where
  pub each : (table : ℕ) → faults_at state old table ≤ faults_at state new table
  pub one : (table : ℕ) × (faults_at state old table < faults_at state new table)

-- ---- disks

-- a table's number, with its disks of the chunks, the rows and the log
abbrev pub disks_at : {D : Type 0} → ℕ × Hosted D → ℕ × (D × D × D)
disks_at e = (
  e.0,
  (
    inner_of (disk_of (chunks.vault_of e.1.node.devs.chunks)),
    inner_of (disk_of (rows.vault_of e.1.node.devs.rows)),
    inner_of (disk_of (logs.vault_of e.1.node.devs.log)),
  ),
)

-- ---- blank disks

-- The disk is blank: empty, or with one byte, and all of it on the disk.
pub record IsBlankDisk {D : Type 0} (state : D → DiskState) (disk : D) : Type 0 where
  pub synced : (state disk).pending ≡ settled (state disk).seen
  pub short : length (state disk).seen ≤ 1

-- a table's disks of the chunks, the rows and the log are
pub record AreBlankDisks {D : Type 0} (state : D → DiskState) (chunk_disk row_disk log_disk : D) : Type 0 where
  pub chunks : IsBlankDisk state chunk_disk
  pub rows : IsBlankDisk state row_disk
  pub log : IsBlankDisk state log_disk

-- at every moment since this disk of rows was handed in, a crash leaves no row of the table that has it now
abbrev pub LeavesNoRow : {D : Type 0} → (D → DiskState) → (D → ℕ → List ℕ → Type 0) → D → Hosted D → Type 0
LeavesNoRow state images row_disk it =
    LeavesOnly state images row_disk (inner_of (disk_of (rows.vault_of it.node.devs.rows)))
    (StandsForOne (λ list. HasNoRows it.node.schema it.node.state (data_of list)))

-- ---- rows at every moment

-- of each table that was declared before: at every moment since the old tables a crash leaves rows with R
abbrev pub LeftBy : {D : Type 0} → (D → DiskState) → (D → ℕ → List ℕ → Type 0) → World → (old new : tree.BTreeMap ℕ
    (Hosted D)) → (world.Hosted → Schema → TableData → Type 0) → Type 0
LeftBy {D} state images w old new R = (table : ℕ) (hosted : world.Hosted) (before after : Hosted D)
    → hosted_at w table ≡ Some hosted → hosted.made ≡ true → tree.get nat_cmp old table ≡ Some before
    → tree.get nat_cmp new table ≡ Some after
    → RowsLeave (behind state) (λ f. images (inner_of f)) before.node.devs after.node.devs
    (R hosted before.node.schema)

-- and these are those of the table's disk behind some of its next writes
pub record AreLeft {D : Type 0} (state : D → DiskState) (images : D → ℕ → List ℕ → Type 0) (w : World)
    (old new : tree.BTreeMap ℕ (Hosted D)) : Type 0 where
  pub rows : LeftBy state images w old new (λ hosted schema held. (k : ℕ)
      × HasRows schema held (after_tasks k hosted.store.disk (tasks_in hosted.store.agenda)))

-- or those of its disk as it was
pub record AreStill {D : Type 0} (state : D → DiskState) (images : D → ℕ → List ℕ → Type 0) (w : World)
    (old new : tree.BTreeMap ℕ (Hosted D)) : Type 0 where
  pub rows : LeftBy state images w old new (λ hosted schema held. HasRows schema held hosted.store.disk)
