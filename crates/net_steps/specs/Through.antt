-- A step of the wire with what it sends on its way, whatever the event is to the world; and what comes behind it.
use Rattle.std.specs.Prelude.{◌≡◌, ℕ, ◌<◌, ◌∷◌, Bool, true, false, List, Option, Some, is_some}
use Rattle.disk_trait.specs.Calls.{DiskState}
use Rattle.row_value.specs.declared.schema.Schema.{Schema}
use Rattle.table_model.specs.declared.event.Event.{Event}
use Rattle.table_model.specs.declared.event.Event.TheVariants as events
use Rattle.table_model.specs.declared.line.TextLine.{TextLine}
use Rattle.world_tables.specs.World.{Lucks, client_at}
use Rattle.wire_tables.specs.Faults.{is_wire_fault}
use Rattle.wire_tables.specs.Wire.{wire_step}
use Rattle.part_network.specs.Packets.{most_bytes}
use Rattle.gate_tables.specs.Gate.{Gateway}
use Rattle.gated_tables.specs.Devices.{Device}
use Rattle.gate_host.specs.Moves.{with_schema, with_gate}
use Rattle.gated_tables.specs.Net.{Net, carried_on, joined_by, restarted, device_at}
use Rattle.gated_laws.specs.Runs.{IsReached}
use Rattle.net_network.specs.Packets.{net_bytes}
use Rattle.node_steps.specs.Holds.{AreOut}
use Rattle.wire_steps.specs.Holds as holds
use Rattle.net_steps.specs.declared.world.World.{World}
use Rattle.net_steps.specs.Carrying.{IsCarried}
use Rattle.net_steps.specs.Holds.{Holds}
use Rattle.net_steps.specs.Steps.{IsMoved}

-- the world of the program stands where a script has led
pub record IsStood {D : Type 0} (state : D → DiskState) (is_out : ℕ → Bool) (n : Net) (world : World D)
    : Type 0 where
  pub reached : IsReached n
  pub held : Holds state n world
  pub out : AreOut is_out n.wire.world

-- and a client of it has this of its gateway
pub record IsGated {D : Type 0} (state : D → DiskState) (is_out : ℕ → Bool) (c : ℕ) (d : Device) (n : Net)
    (world : World D) : Type 0 where
  pub stood : IsStood state is_out n world
  pub device : device_at n c ≡ Some d

-- The world's wire is behind the step, and what it sent is on its way.
pub record IsThrough {D : Type 0} (state : D → DiskState) (images : D → ℕ → List ℕ → Type 0) (n : Net) (event : Event)
    (lucks : Lucks) (lines : List TextLine) (is_out : ℕ → Bool) (old new : World D) : Type 0 where
  pub wire : holds.Holds state (wire_step n.wire event lucks).wire new.wire
  pub carried : IsCarried n (wire_step n.wire event lucks) lines new.network
  pub moved : IsMoved state images n (is_wire_fault n.wire event lucks) (wire_step n.wire event lucks).wire is_out
      old new

-- The nodes are behind the step, which sends more bytes than may be sent.
pub record IsBeyond {D : Type 0} (state : D → DiskState) (images : D → ℕ → List ℕ → Type 0) (n : Net) (event : Event)
    (lucks : Lucks) (is_out : ℕ → Bool) (old new : World D) : Type 0 where
  pub over : most_bytes < net_bytes (carried_on n (wire_step n.wire event lucks)).net.sent
  pub moved : IsMoved state images n (is_wire_fault n.wire event lucks) (wire_step n.wire event lucks).wire is_out
      old new

-- ---- what gateways know behind a declaration

abbrev pub stores_with : Event → List ℕ → List ℕ
stores_with (events.Store number) stores = number ∷ stores
stores_with other stores = stores

abbrev pub schemas_with : Event → List (ℕ × Schema) → List (ℕ × Schema)
schemas_with (events.Table table schema) schemas = with_schema table schema schemas
schemas_with (events.Draft table schema) schemas = with_schema table schema schemas
schemas_with other schemas = schemas

abbrev pub gates_with : Event → List (ℕ × Gateway) → List (ℕ × Gateway)
gates_with (events.Gate number) gates = with_gate number gates
gates_with other gates = gates

-- ---- sessions

-- a client that was there already stays as it is
abbrev pub joined_unless : Bool → ℕ → Option ℕ → Net → Net
joined_unless true c gate n = n
joined_unless false c gate n = joined_by c gate n

-- the client is there, where it has a gateway
abbrev pub IsThere : ℕ → Net → Type 0
IsThere c n = (d : Device) → device_at n c ≡ Some d → is_some (client_at n.wire.world c) ≡ true

-- a client that was down has no session
abbrev pub restarted_if : Bool → ℕ → Net → Net
restarted_if true c n = restarted c (device_at n c) n
restarted_if false c n = n
