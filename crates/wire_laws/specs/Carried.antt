-- What a node of the wire is handed for a part, as a delivery of a whole packet, and what a delivery comes to.
use Rattle.std.specs.Prelude.{◌≡◌, ◌≢◌, ◌⊎◌, ℕ, ◌==◌, Bool, false, not, List, slice_get, Option, Some, None}
use Rattle.stab_base.specs.declared.node.Node.{Node}
use Rattle.stab_base.specs.declared.node.Node.TheVariants as nodes
use Rattle.row_value.specs.declared.schema.Schema.{Schema}
use Rattle.row_store.specs.Spelling.{IsClient}
use Rattle.table_model.specs.declared.event.Event.TheVariants as events
use Rattle.step_tables.specs.Facts as facts
use Rattle.step_tables.specs.Messages.{Message, SyncRequest, SyncResponse, PullRequest, PullResponse, TornRowRequest}
use Rattle.step_tables.specs.Messages.{TornRowResponse}
use Rattle.step_tables.specs.Sayings.{nothing_said, hear_lines}
use Rattle.step_tables.specs.StoreMoves.{TableStore}
use Rattle.step_tables.specs.ClientMoves.{Client, TableDisk, table_at, seen}
use Rattle.world_tables.specs.Passed.{taken_by, taken_part}
use Rattle.world_tables.specs.Ready.{is_table_ready, is_client_ready}
use Rattle.world_tables.specs.Turns.{Happening, transcript_of}
use Rattle.world_tables.specs.World.{World, Packet, Hosted, Lucks, Moved, owner_of, schema_at, hosted_at, client_at}
use Rattle.world_tables.specs.World.{carried, step, answering, failing, store_falls, client_falls}
use Rattle.fair_laws.specs.Worlds.{IsRowOf, IsFairHeader}
use Rattle.part_tables.specs.ClientParts as at_client
use Rattle.part_tables.specs.StoreParts as at_store
use Rattle.part_tables.specs.Arriving.{arrived}
use Rattle.wire_tables.specs.Wire.{PartPacket, Wire, start, gathered_at, arriving_at, part_table, spread, any_of}
use Rattle.wire_tables.specs.Wire.{untaken, parted_at, store_taken, client_taken, wire_step}
use Rattle.wire_tables.specs.Runs.{wire_from, wire_turns}
use Rattle.wire_laws.specs.Runs.{AreBuilt}

-- ---- what is handed to a node

-- where a message has a row, it is one of its table; and a request is its client's own
abbrev pub IsFit : (ℕ → Option Schema) → Node → Message → Type 0
IsFit known from (SyncRequest q) = IsRowOf (known q.table) q.content × IsClient q.client
    × (from ≡ nodes.Client q.client)
IsFit known from (SyncResponse r) = Unit {0}
IsFit known from (PullRequest pull) = Unit {0}
IsFit known from (PullResponse pulled) = IsFairHeader known pulled.table pulled.header
IsFit known from (TornRowRequest torn) = Unit {0}
IsFit known from (TornRowResponse t) = IsFairHeader known t.table t.header

abbrev pub store_of : Option Hosted → Option TableStore
store_of None = None
store_of (Some hosted) = Some hosted.store

-- each table's disk and what it has to do are the same in both
abbrev pub HaveSameTables : World → World → Type 0
HaveSameTables w other = (table : ℕ) → store_of (hosted_at other table) ≡ store_of (hosted_at w table)

-- A message that is handed to a node is one that was sent, or is taken as one. What comes first in its delivery is the
-- first part of the packet's, or leaves all tables as they are.
pub record IsCarriedAs (w : World) (from to : Node) (m : Message) : Type 0 where
  pub number : ℕ
  pub packet : Packet
  pub at : slice_get w.packets number ≡ Some packet
  pub to_is : packet.to ≡ to
  pub same : (lucks : Lucks) → carried w (record { from = from; to = to; message = m }) lucks.shape lucks.calls to
      ≡ step w (events.Deliver number) lucks
  pub first : (taken_by w (record { from = from; to = to; message = m }) to ≡ taken_part w (events.Deliver number))
      ⊎ HaveSameTables w (taken_by w (record { from = from; to = to; message = m }) to)
  pub fair : IsFit (schema_at w) from m

-- ---- a part that was sent, on a wire that built events lead to

pub record IsSent (v : Wire) (number : ℕ) (p : PartPacket) : Type 0 where
  pub run : List Happening
  pub built : AreBuilt run
  pub is : v ≡ wire_from start run
  pub at : slice_get v.packets number ≡ Some p

abbrev pub is_open_in : Option TableDisk → Bool
is_open_in None = false
is_open_in (Some table) = not table.closed

-- the client hasn't opened the table, or has closed it since
pub record IsUnopened (w : World) (c table : ℕ) : Type 0 where
  pub node : Client
  pub there : client_at w c ≡ Some node
  pub none : is_open_in (table_at (seen node.disk) table) ≡ false

-- the node takes nothing of the table now; a Store that doesn't keep it never does
abbrev pub TakesNothing : World → ℕ → Node → Type 0
TakesNothing w table (nodes.Store n) = (is_table_ready w table ≡ false) ⊎ ((owner_of w table == n) ≡ false)
TakesNothing w table (nodes.Client c) = (is_client_ready w c ≡ false) ⊎ IsUnopened w c table
TakesNothing w table (nodes.Gate gate) = Unit {0}

-- The step is that of a delivery in which the node takes a message of the table, whichever.
pub record IsUntaken (v : Wire) (number : ℕ) (p : PartPacket) : Type 0 where
  pub carried : IsCarriedAs v.world p.from p.to (any_of (part_table p.part))
  pub step_is : (lucks : Lucks) → wire_step v (events.Deliver number) lucks ≡ untaken v p lucks

-- The step goes by what the table makes of the part, and a message that this completes is one that was sent.
pub record IsAtStore (v : Wire) (number : ℕ) (p : PartPacket) (hosted : Hosted) : Type 0 where
  pub step_is : (lucks : Lucks) → wire_step v (events.Deliver number) lucks
      ≡ store_taken v p lucks (parted_at v p hosted.store.disk.items)
  pub whole : (m : Message) → (parted_at v p hosted.store.disk.items).taken ≡ at_store.Whole m
      → IsCarriedAs v.world p.from p.to m

-- the same of a client that has the table open
pub record IsAtClient (v : Wire) (number : ℕ) (p : PartPacket) (c : ℕ) (opened : TableDisk) : Type 0 where
  pub step_is : (lucks : Lucks) → wire_step v (events.Deliver number) lucks
      ≡ client_taken v c p lucks (arrived opened (arriving_at v c) p.part)
  pub whole : (m : Message) → (arrived opened (arriving_at v c) p.part).taken ≡ at_client.Whole m
      → IsCarriedAs v.world p.from p.to m

-- The step of a delivery in which the node's first call fails: the node falls, whatever the part is, and so it does in
-- the delivery of the part's packet. What the node has of parts may have gone on.
pub record IsFallen (v : Wire) (number : ℕ) (lucks : Lucks) (falls : Moved) : Type 0 where
  pub kept : Wire
  pub world : kept.world ≡ v.world
  pub packets : kept.packets ≡ v.packets
  pub step_is : wire_step v (events.Deliver number) lucks ≡ spread kept (answering facts.Done (failing falls))
  pub packet : ℕ
  pub whole : answering facts.Done (failing falls) ≡ step v.world (events.Deliver packet) lucks

-- only what this table has gathered differs
pub record IsFallenStore (v : Wire) (number : ℕ) (lucks : Lucks) (table : ℕ) : Type 0 where
  pub fallen : IsFallen v number lucks (store_falls (owner_of v.world table) v.world)
  pub arriving : fallen.kept.arriving ≡ v.arriving
  pub others : (t : ℕ) → t ≢ table → gathered_at fallen.kept t ≡ gathered_at v t

-- only what this client has differs
pub record IsFallenClient (v : Wire) (number : ℕ) (lucks : Lucks) (c : ℕ) : Type 0 where
  pub fallen : IsFallen v number lucks (client_falls c v.world)
  pub gathered : fallen.kept.gathered ≡ v.gathered
  pub others : (d : ℕ) → d ≢ c → arriving_at fallen.kept d ≡ arriving_at v d

-- ---- what a run tells

-- of each table the history that the wire's lines tell
abbrev pub TellsHistories : List Happening → Type 0
TellsHistories run = (table : ℕ) (hosted : Hosted) → hosted_at (wire_from start run).world table ≡ Some hosted
    → hosted.history ≡ (hear_lines nothing_said (transcript_of (wire_turns run))).history table
