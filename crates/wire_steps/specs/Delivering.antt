-- A part that comes to a node, and what is kept of it.
use Rattle.std.specs.Prelude.{false, ◌≡◌, ◌<◌, ◌==◌, ◌&&◌, ℕ, Bool, true, Option, Some, slice_get}
use Rattle.disk_trait.specs.Calls.{DiskState}
use Rattle.stab_base.specs.declared.node.Node.{Node}
use Rattle.stab_base.specs.declared.node.Node.TheVariants as nodes
use Rattle.table_model.specs.declared.event.Event.TheVariants as events
use Rattle.table_model.specs.declared.message.Message.{Message}
use Rattle.step_tables.specs.ClientMoves.{Client, TableDisk, table_at, seen}
use Rattle.world_tables.specs.Ready.{is_table_ready, is_client_ready}
use Rattle.world_tables.specs.World.{World as AWorld, Hosted, Lucks, owner_of, schema_at, hosted_at, client_at}
use Rattle.world_tables.specs.World.{chunk_in}
use Rattle.message_parts.specs.Parts.{part_of}
use Rattle.part_tables.specs.Parts.{Part}
use Rattle.part_tables.specs.StoreParts.{StoreTaken}
use Rattle.part_tables.specs.Arriving.{Arrived, arrived}
use Rattle.part_store.specs.Calls as store_calls
use Rattle.part_store.specs.View.{IsViewOf}
use Rattle.part_store.specs.declared.gatherings.Gatherings.{Gatherings}
use Rattle.part_store.specs.declared.gatherings.Taken.{Taken as StoreTook}
use Rattle.part_store.specs.declared.view.RowView.{RowView}
use Rattle.part_client.specs.Calls as client_calls
use Rattle.part_client.specs.Held.{IsHeldOf}
use Rattle.part_client.specs.Keeping as keeping
use Rattle.part_client.specs.declared.arriving.Arriving.{Arriving}
use Rattle.part_client.specs.declared.held.RowHeld.{RowHeld}
use Rattle.part_client.specs.declared.taken.Taken.{Taken as ClientTook}
use Rattle.wire_tables.specs.Wire.{PartPacket, Wire, WireStep, part_table, gathered_at, arriving_at, with_gathered}
use Rattle.wire_tables.specs.Wire.{with_arriving, parted_at, wire_step}
use Rattle.wire_steps.specs.declared.world.World.{World}
use Rattle.wire_steps.specs.Reached.{IsReached}
use Rattle.wire_steps.specs.Holds.{Holds, HasGatheredThere, KeepsThere}

-- ---- a part that was sent

-- on a wire that a script leads to
pub record IsSentPart (v : Wire) (from to : Node) (p : PartPacket) : Type 0 where
  pub reached : IsReached v
  pub number : ℕ
  pub at : slice_get v.packets number ≡ Some p
  pub from_is : p.from ≡ from
  pub to_is : p.to ≡ to

abbrev pub delivery : (v : Wire) → {from to : Node} → {p : PartPacket} → IsSentPart v from to p → Lucks → WireStep
delivery v sent lucks = wire_step v (events.Deliver sent.number) lucks

-- the world holds the wire, and this message is the part
pub record IsBrought {D : Type 0} (state : D → DiskState) (world : World D) (from to : Node) (message : Message)
    : Type 0 where
  pub v : Wire
  pub held : Holds state v world
  pub p : PartPacket
  pub sent : IsSentPart v from to p
  pub part_is : part_of message ≡ Some p.part

-- ---- to a Store that keeps the table, which takes messages

abbrev pub takes_at : AWorld → ℕ → ℕ → Bool
takes_at w store table = (owner_of w table == store) && is_table_ready w table

pub record IsOfTable {D : Type 0} (state : D → DiskState) (world : World D) (store : ℕ) (from : Node) (table : ℕ)
    (message : Message) : Type 0 where
  pub brought : IsBrought state world from (nodes.Store store) message
  pub table_is : table ≡ part_table brought.p.part
  pub takes : takes_at brought.v.world store table ≡ true

-- what the table has of the row decides what a part comes to only where it is looked at
abbrev pub IsViewFor : Wire → ℕ → Part → RowView → Type 0
IsViewFor v table part view = (hosted : Hosted) → hosted_at v.world table ≡ Some hosted
    → store_calls.needs_row (gathered_at v table) part ≡ true
    → IsViewOf (chunk_in (schema_at v.world table)) hosted.store.disk.items (store_calls.client_of part)
    (store_calls.row_of part) view

pub record IsSeenOf {D : Type 0} (state : D → DiskState) (world : World D) (store : ℕ) (from : Node) (table : ℕ)
    (seen : RowView) (message : Message) : Type 0 where
  pub of_table : IsOfTable state world store from table message
  pub view : IsViewFor of_table.brought.v table of_table.brought.p.part seen

-- what the part came to, and what is kept then
abbrev pub IsGatheredThere : StoreTaken → Option Gatherings → StoreTook → Type 0
IsGatheredThere x kept told = (store_calls.taken_of told ≡ x.taken) × HasGatheredThere x.gatherings kept

-- it has come to this, and the world holds what is kept of it
pub record IsGatheredAs {D : Type 0} (state : D → DiskState) (world : World D) (store : ℕ) (from : Node)
    (told : StoreTook) : Type 0 where
  pub v : Wire
  pub p : PartPacket
  pub sent : IsSentPart v from (nodes.Store store) p
  pub takes : takes_at v.world store (part_table p.part) ≡ true
  pub hosted : Hosted
  pub there : hosted_at v.world (part_table p.part) ≡ Some hosted
  pub taken : store_calls.taken_of told ≡ (parted_at v p hosted.store.disk.items).taken
  pub held : Holds state
      (with_gathered (part_table p.part) (parted_at v p hosted.store.disk.items).gatherings v) world

-- ---- to a client that takes messages

pub record IsOfClient {D : Type 0} (state : D → DiskState) (world : World D) (c : ℕ) (from : Node) (table : ℕ)
    (message : Message) : Type 0 where
  pub brought : IsBrought state world from (nodes.Client c) message
  pub table_is : table ≡ part_table brought.p.part
  pub ready : is_client_ready brought.v.world c ≡ true

-- and has the table opened, and hasn't closed it since
pub record IsOpenedAt (v : Wire) (c table : ℕ) : Type 0 where
  pub node : Client
  pub there : client_at v.world c ≡ Some node
  pub opened : TableDisk
  pub at : table_at (seen node.disk) table ≡ Some opened
  pub free : opened.closed ≡ false

pub record IsOfOpened {D : Type 0} (state : D → DiskState) (world : World D) (c : ℕ) (from : Node) (table : ℕ)
    (message : Message) : Type 0 where
  pub of_client : IsOfClient state world c from table message
  pub opened : IsOpenedAt of_client.brought.v c table

pub record IsHeldFor (v : Wire) (c table : ℕ) (part : Part) (seen : RowHeld) : Type 0 where
  pub chunk : 0 < seen.chunk
  pub held : (it : IsOpenedAt v c table) → client_calls.needs_row (arriving_at v c) part ≡ true
      → IsHeldOf it.opened (client_calls.row_of part) seen

pub record IsHeldOfPart {D : Type 0} (state : D → DiskState) (world : World D) (c : ℕ) (from : Node) (table : ℕ)
    (seen : RowHeld) (message : Message) : Type 0 where
  pub of_opened : IsOfOpened state world c from table message
  pub held : IsHeldFor of_opened.of_client.brought.v c table of_opened.of_client.brought.p.part seen

abbrev pub IsKeptThere : Arrived → Option Arriving → ClientTook → Type 0
IsKeptThere x kept told = (keeping.taken_of told ≡ x.taken) × KeepsThere x.arriving kept

pub record IsArrivedAs {D : Type 0} (state : D → DiskState) (world : World D) (c : ℕ) (from : Node) (table : ℕ)
    (told : ClientTook) : Type 0 where
  pub v : Wire
  pub p : PartPacket
  pub sent : IsSentPart v from (nodes.Client c) p
  pub table_is : table ≡ part_table p.part
  pub ready : is_client_ready v.world c ≡ true
  pub it : IsOpenedAt v c (part_table p.part)
  pub taken : keeping.taken_of told ≡ (arrived it.opened (arriving_at v c) p.part).taken
  pub held : Holds state (with_arriving c (arrived it.opened (arriving_at v c) p.part).arriving v) world
