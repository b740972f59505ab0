-- What every world has that a script leads to: each row is one of its table, each request is its client's own, and each
-- message is of one of the clients.
use Rattle.std.specs.Prelude.{◌≡◌, ℕ, ◌≤◌, true, List, Option, Some, is_some}
use Rattle.std.specs.List.{AllByRecursion}
use Rattle.stab_base.specs.declared.node.Node.{Node}
use Rattle.stab_base.specs.declared.node.Node.TheVariants as nodes
use Rattle.row_value.specs.declared.content.Content.{Content}
use Rattle.row_value.specs.declared.schema.Schema.{Schema}
use Rattle.row_store.specs.Spelling.{IsClient}
use Rattle.step_tables.specs.Members.{Among}
use Rattle.step_tables.specs.ClientMoves.{Client}
use Rattle.step_tables.specs.Messages.{Message, Header, Send, SyncRequest, SyncResponse, PullRequest, PullResponse}
use Rattle.step_tables.specs.Messages.{TornRowRequest, TornRowResponse}
use Rattle.step_tables.specs.Store.{Stored}
use Rattle.step_tables.specs.StoreMoves.{StoreChange, StoreTask, TableStore, Put}
use Rattle.world_tables.specs.World.{World, Packet, Hosted, schema_at, hosted_at, client_at, tasks_in}
use Rattle.fair_laws.specs.Fair.{IsFitContent, IsFairClient}
use Rattle.fair_laws.specs.Reached.{IsMade, IsReached}

-- ---- messages: of each table the schema is known by its number

-- the content is one of a row of this table
abbrev pub IsRowOf : Option Schema → Content → Type 0
IsRowOf known content = (schema : Schema) × (known ≡ Some schema) × IsFitContent schema content

-- a row that a Store sends has a version, and is one of its table
abbrev pub IsFairHeader : (ℕ → Option Schema) → ℕ → Option Header → Type 0
IsFairHeader known table row = (header : Header) → row ≡ Some header
    → (1 ≤ header.version) × IsRowOf (known table) header.content

-- what a Store sends, to one of the clients
abbrev pub IsFromStore : (ℕ → Option Schema) → Message → Type 0
IsFromStore known (SyncRequest q) = ⊥
IsFromStore known (PullRequest q) = ⊥
IsFromStore known (SyncResponse r) = IsClient r.client
IsFromStore known (PullResponse q) = IsFairHeader known q.table q.header × IsClient q.client
IsFromStore known (TornRowRequest t) = ⊥
IsFromStore known (TornRowResponse t) = IsFairHeader known t.table t.header × IsClient t.client

-- Each message is of one of the clients. A request's content is a row of its table, and its client sent it; and so is a
-- row in an answer, with a version.
abbrev pub IsFairMessage : (ℕ → Option Schema) → Node → Message → Type 0
IsFairMessage known from (SyncRequest q) =
    IsRowOf (known q.table) q.content × IsClient q.client × (from ≡ nodes.Client q.client)
IsFairMessage known from (PullRequest q) = IsClient q.client
IsFairMessage known from (SyncResponse r) = IsClient r.client
IsFairMessage known from (PullResponse q) = IsFairHeader known q.table q.header × IsClient q.client
IsFairMessage known from (TornRowRequest t) = IsClient t.client
IsFairMessage known from (TornRowResponse t) = IsFairHeader known t.table t.header × IsClient t.client

-- ---- tables

-- it has a version, and is a row of its table
pub record IsFairItem (known : Option Schema) (item : Stored) : Type 0 where
  pub version : 1 ≤ item.entry.version
  pub content : IsRowOf known item.content

abbrev pub PutsFair : Option Schema → StoreChange → Type 0
PutsFair known (Put item named old) = IsFairItem known item
PutsFair known other = Unit {0}

abbrev pub AreStoreSends : (ℕ → Option Schema) → List Send → Type 0
AreStoreSends known sends = AllByRecursion (λ (send : Send). IsFromStore known send.message) sends

abbrev pub AreFairTasks : (ℕ → Option Schema) → ℕ → List StoreTask → Type 0
AreFairTasks known table tasks = AllByRecursion
    (λ (task : StoreTask). PutsFair (known table) task.change × AreStoreSends known task.sends) tasks

-- each row is one of the table with a version, now and behind each write
pub record IsFairStore (known : ℕ → Option Schema) (table : ℕ) (s : TableStore) : Type 0 where
  pub items : AllByRecursion (IsFairItem (known table)) s.disk.items
  pub tasks : AreFairTasks known table (tasks_in s.agenda)

-- ---- the world

pub record IsFair (w : World) : Type 0 where
  pub both : (table : ℕ) → is_some (schema_at w table) ≡ is_some (hosted_at w table)
  pub made : (table : ℕ) (schema : Schema) → schema_at w table ≡ Some schema → IsMade table schema
  pub numbers : (client : ℕ) → is_some (client_at w client) ≡ true → IsClient client
  pub tables : (table : ℕ) (hosted : Hosted) → hosted_at w table ≡ Some hosted
      → IsFairStore (schema_at w) table hosted.store
  pub clients : (c : ℕ) (s : Client) → client_at w c ≡ Some s → IsFairClient (schema_at w) c s
  pub packets : (packet : Packet) → Among w.packets packet
      → IsFairMessage (schema_at w) packet.from packet.message

abbrev pub ReachedAreFair : Type 0
ReachedAreFair = (w : World) → IsReached w → IsFair w
