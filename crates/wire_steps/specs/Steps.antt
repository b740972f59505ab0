-- What a step of the world promises.
use Rattle.std.specs.Prelude.{◌≡◌, ℕ, suc, ◌<◌, Bool, true, false, List, map, length}
use Rattle.disk_trait.specs.Calls.{DiskState}
use Rattle.table_model.specs.declared.event.Event.{Event}
use Rattle.table_model.specs.declared.event.Event.TheVariants as events
use Rattle.table_model.specs.declared.line.TextLine.{TextLine}
use Rattle.step_tables.specs.Lines.{line_of}
use Rattle.world_tables.specs.World.{World as AWorld, Lucks, client_at, client_pairs}
use Rattle.world_laws.specs.Begun.{IsSingle}
use Rattle.wire_tables.specs.Wire.{Wire, wire_step, lines_of}
use Rattle.wire_tables.specs.Faults.{is_wire_fault}
use Rattle.part_network.specs.Packets.{most_bytes, bytes_of}
use Rattle.node_steps.specs.Faults as nodes
use Rattle.node_steps.specs.Holds as nodes_hold
use Rattle.node_steps.specs.Holds.{AreOut}
use Rattle.node_steps.specs.Rows.{RowsStay}
use Rattle.node_steps.specs.Steps as node_steps
use Rattle.node_steps.specs.Fits.{IsOwn}
use Rattle.wire_steps.specs.declared.world.World.{World}
use Rattle.wire_steps.specs.Holds.{Holds}

abbrev pub all_faults : {D : Type 0} → (D → DiskState) → World D → ℕ
all_faults state world = nodes.all_faults state world.nodes

-- The nodes are behind the event, with these lucks. Where it shows a device fault disks have failed, and else none has.
-- At every moment of it, whatever a crash leaves of a table's disk of rows stands in the table's history.
pub record IsMoved {D : Type 0} (state : D → DiskState) (images : D → ℕ → List ℕ → Type 0) (v : Wire) (event : Event)
    (lucks : Lucks) (is_out : ℕ → Bool) (old new : World D) : Type 0 where
  pub held : nodes_hold.Holds state (wire_step v event lucks).wire.world new.nodes
  pub out : AreOut is_out (wire_step v event lucks).wire.world
  pub rose : is_wire_fault v event lucks ≡ true → all_faults state old < all_faults state new
  pub same : is_wire_fault v event lucks ≡ false → all_faults state new ≡ all_faults state old
  pub rows : RowsStay state images v.world (wire_step v event lucks).wire.world old.nodes new.nodes

-- The event is carried out: with some lucks, these are the lines of its step, and the program's world holds the wire
-- behind it.
pub record IsStep {D : Type 0} (state : D → DiskState) (images : D → ℕ → List ℕ → Type 0) (v : Wire) (event : Event)
    (lines : List TextLine) (is_out : ℕ → Bool) (old new : World D) : Type 0 where
  pub lucks : Lucks
  pub lines_are : map line_of lines ≡ lines_of v (wire_step v event lucks)
  pub held : Holds state (wire_step v event lucks).wire new
  pub moved : IsMoved state images v event lucks is_out old new

-- The nodes are behind the event, which sends more bytes than may be sent.
pub record IsOver {D : Type 0} (state : D → DiskState) (images : D → ℕ → List ℕ → Type 0) (v : Wire) (event : Event)
    (is_out : ℕ → Bool) (old new : World D) : Type 0 where
  pub lucks : Lucks
  pub over : most_bytes < bytes_of (wire_step v event lucks).wire.packets
  pub moved : IsMoved state images v event lucks is_out old new

-- The event isn't carried out: the program's world still holds the wire, and no disk has failed.
pub record IsUndone {D : Type 0} (state : D → DiskState) (v : Wire) (is_out : ℕ → Bool) (old new : World D)
    : Type 0 where
  pub held : Holds state v new
  pub out : AreOut is_out v.world
  pub same : all_faults state new ≡ all_faults state old

-- ---- plans

-- no plan of a client has a number above this
abbrev pub HavePlansBelow : {D : Type 0} → (D → DiskState) → ℕ → World D → Type 0
HavePlansBelow state n world = node_steps.HavePlansBelow state n world.nodes

-- how many plans an event may begin: a delivery reads what a client has, and then hands it a message; where all
-- conflicts of a table are resolved, one for each of them and one more
abbrev pub may_begin : AWorld → Event → ℕ
may_begin w (events.ResolveAll client table by) = suc (length (client_pairs (client_at w client) table))
may_begin w (events.Deliver packet) = 3
may_begin w other = 1

-- a number of a write or of a plan, or a version, above the last would be needed
abbrev pub Spends : ℕ → AWorld → Event → Type 0
Spends n w event = node_steps.Spends (suc (suc n)) w event

-- where all conflicts of a table are resolved, a limit may come between two rows, and where a part is delivered, behind
-- what is kept of it
abbrev pub IsWhole : Event → Type 0
IsWhole event = IsSingle event × IsOwn event
