-- What the clients on their devices hold of the world of the laws: its clients, whose link is down, and which phases
-- are open. Tables, packets, holds, and the Stores that are down are whoever's.
use Rattle.std.specs.Prelude.{◌≡◌, ◌≢◌, ℕ, ◌<◌, Bool, true, false, not, ◌&&◌, List, [], ◌∷◌, map}
use Rattle.std.specs.Prelude.{filter, Option, Some, None}
use Rattle.std.specs.Ordering.{nat_cmp}
use Rattle.std.specs.BTreeMap as tree
use Rattle.disk_trait.specs.Calls.{DiskState}
use Rattle.disk_trait.specs.Fuse.{behind, inner_of}
use Rattle.vault.specs.Standing.{disk_of}
use Rattle.chunk_store.specs.Standing as chunks
use Rattle.slot_store.specs.Standing as slots
use Rattle.plan_log.specs.Standing as journals
use Rattle.client_journal.specs.Plan.{plan_at_work}
use Rattle.client_journal.specs.Standing.{devs, writes_of}
use Rattle.stab_base.specs.declared.node.Node.TheVariants as nodes
use Rattle.row_value.specs.declared.schema.Schema.{Schema}
use Rattle.step_tables.specs.ClientMoves.{Client}
use Rattle.step_tables.specs.Lines.{fact_of}
use Rattle.step_tables.specs.Travels.{send_of}
use Rattle.client_node.specs.declared.node.ClientNode.{ClientNode}
use Rattle.client_node.specs.Node.{IsClient, IsToOpen, told_by, sent_by, own_faults, HasPlansBelow}
use Rattle.client_node.specs.Phases.{is_open}
use Rattle.world_tables.specs.World.{World, Outbox, schema_at, client_at, is_cut, is_resolving, packets_from}
use Rattle.journal_host.specs.declared.out.ClientOut.{ClientOut}
use Rattle.journal_host.specs.declared.host.ClientHost.{ClientHost}

-- ---- a client

-- It is the world's client of this number, whose link is down or not, with nothing left to tell or to send.
pub record IsHosted {D : Type 0} (state : D → DiskState) (cut : Bool) (c : ℕ) (s : Client) (node : ClientNode D)
    : Type 0 where
  pub client : IsClient state node s
  pub number : node.number ≡ c
  pub linked : node.is_linked ≡ not cut
  pub told : told_by node ≡ []
  pub sent : sent_by node ≡ []

-- the client of this number is in both, or in neither; the link of one that isn't there isn't down
abbrev pub ClientThere : {D : Type 0} → (D → DiskState) → Bool → ℕ → Option Client → Option (ClientNode D) → Type 0
ClientThere state cut c None None = cut ≡ false
ClientThere state cut c None (Some node) = ⊥
ClientThere state cut c (Some s) None = ⊥
ClientThere state cut c (Some s) (Some node) = IsHosted state cut c s node

-- ---- all clients

abbrev pub HasClients : {D : Type 0} → (D → DiskState) → World → tree.BTreeMap ℕ (ClientNode D) → Type 0
HasClients state w clients =
    (c : ℕ) → ClientThere state (is_cut w c) c (client_at w c) (tree.get nat_cmp clients c)

-- these phases are open; of a client that isn't there none is
abbrev pub HasPhases : {D : Type 0} → (ℕ → Bool) → Option (ClientNode D) → Type 0
HasPhases phase None = (table : ℕ) → phase table ≡ false
HasPhases phase (Some node) = (table : ℕ) → is_open node table ≡ phase table

abbrev pub HavePhases : {D : Type 0} → World → tree.BTreeMap ℕ (ClientNode D) → Type 0
HavePhases w clients = (c : ℕ) → HasPhases (is_resolving w c) (tree.get nat_cmp clients c)

-- The host's clients are the world's, and resolve the conflicts of the same tables.
pub record HoldsClients {D : Type 0} (state : D → DiskState) (w : World) (host : ClientHost D) : Type 0 where
  pub there : HasClients state w host.clients
  pub phases : HavePhases w host.clients

-- it holds some world
abbrev pub AreClients : {D : Type 0} → (D → DiskState) → ClientHost D → Type 0
AreClients state host = (w : World) × HoldsClients state w host

-- ---- what stays of a world

-- the world has the clients of another, the same links are down, and the same phases are open
pub record KeepsClients (before after : World) : Type 0 where
  pub clients : after.clients ≡ before.clients
  pub cuts : after.cuts ≡ before.cuts
  pub phases : after.phases ≡ before.phases

-- ---- the declared tables

-- These are the declared tables with their schemas.
pub record HasSchemas (w : World) (schemas : tree.BTreeMap ℕ Schema) : Type 0 where
  pub there : (table : ℕ) → tree.get nat_cmp schemas table ≡ schema_at w table

-- each of them can be opened
abbrev pub AreToOpen : tree.BTreeMap ℕ Schema → Type 0
AreToOpen schemas = (table : ℕ) (schema : Schema) → tree.get nat_cmp schemas table ≡ Some schema
    → IsToOpen (table, schema)

-- ---- what was told and sent

-- a message without an address goes to the owner of its table
abbrev pub outbox_of : (ℕ → ℕ) → ClientOut → Outbox
outbox_of owners it = record {
  facts = map fact_of it.out.facts;
  packets = packets_from owners (nodes.Client it.client) (map send_of it.out.messages);
}

abbrev pub outs_in : (ℕ → ℕ) → List ClientOut → List Outbox
outs_in owners outs = map (outbox_of owners) outs

abbrev pub outs_of : {D : Type 0} → (ℕ → ℕ) → ClientHost D → List Outbox
outs_of owners host = outs_in owners host.outs.items

-- whoever keeps the tables, they are the same
abbrev pub AreSameOuts : (old new : List ClientOut) → Type 0
AreSameOuts old new = (owners : ℕ → ℕ) → outs_in owners new ≡ outs_in owners old

abbrev pub is_empty : {X : Type 0} → List X → Bool
is_empty [] = true
is_empty (x ∷ xs) = false

-- some fact, or some packet
abbrev pub says_something : Outbox → Bool
says_something out = not (is_empty out.facts && is_empty out.packets)

-- those of some moves that told or sent something
abbrev pub said : List Outbox → List Outbox
said outs = filter says_something outs

-- ---- faults of disks

-- how often the disks of a client have failed, the stops of their fuses apart
abbrev pub node_faults : {D : Type 0} → (D → DiskState) → ClientNode D → ℕ
node_faults state node = own_faults state node

abbrev pub faults_in : {D : Type 0} → (D → DiskState) → Option (ClientNode D) → ℕ
faults_in state None = 0
faults_in state (Some node) = node_faults state node

abbrev pub faults_at : {D : Type 0} → (D → DiskState) → tree.BTreeMap ℕ (ClientNode D) → ℕ → ℕ
faults_at state clients c = faults_in state (tree.get nat_cmp clients c)

abbrev pub SameFaults : {D : Type 0} → (D → DiskState) → (old new : tree.BTreeMap ℕ (ClientNode D)) → Type 0
SameFaults state old new = (c : ℕ) → faults_at state new c ≡ faults_at state old c

-- the disks of this client have failed more often, and no other's
pub record RisenFaults {D : Type 0} (state : D → DiskState) (c : ℕ) (old new : tree.BTreeMap ℕ (ClientNode D))
    : Type 0 where
  pub one : faults_at state old c < faults_at state new c
  pub others : (q : ℕ) → q ≢ c → faults_at state new q ≡ faults_at state old q

-- ---- plans

-- no plan of a declared client has a number above this, now and behind all its writes
abbrev pub HavePlansBelow : {D : Type 0} → (D → DiskState) → ℕ → tree.BTreeMap ℕ (ClientNode D) → Type 0
HavePlansBelow {D} state n clients =
    (c : ℕ) (node : ClientNode D) → tree.get nat_cmp clients c ≡ Some node → HasPlansBelow state n node

-- the plan that a client's node is at work on
abbrev pub plan_of : {D : Type 0} → (D → DiskState) → ClientNode D → ℕ
plan_of state node = plan_at_work (devs (behind state) node.devs) (writes_of node.devs)

-- this is it, of a client that is there
abbrev pub IsPlanAt : {D : Type 0} → (D → DiskState) → Option (ClientNode D) → ℕ → Type 0
IsPlanAt state None plan = ⊥
IsPlanAt state (Some node) plan = plan ≡ plan_of state node

-- ---- disks

-- a client's number, with its disks of the journal, the slots and the chunks
abbrev pub disks_at : {D : Type 0} → ℕ × ClientNode D → ℕ × (D × D × D)
disks_at e = (
  e.0,
  (
    inner_of (disk_of (journals.vault_of e.1.devs.journal)),
    inner_of (disk_of (slots.vault_of e.1.devs.slots)),
    inner_of (disk_of (chunks.vault_of e.1.devs.chunks)),
  ),
)
