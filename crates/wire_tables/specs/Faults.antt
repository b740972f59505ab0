-- The device faults of a run of wires, as its events show them.
use Rattle.std.specs.Prelude.{ℕ, ◌+◌, Bool, List, [], ◌∷◌}
use Rattle.table_model.specs.declared.event.Event.{Event}
use Rattle.table_model.specs.declared.event.Event.TheVariants as events
use Rattle.world_tables.specs.World.{Lucks}
use Rattle.world_tables.specs.Faults.{is_device_fault, is_fault_answer, one_if}
use Rattle.world_tables.specs.Turns.{Happening}
use Rattle.wire_tables.specs.Wire.{Wire, wire_step}

-- whether a device fault shows in an event, as in the world of whole messages
abbrev pub is_wire_fault : Wire → Event → Lucks → Bool
is_wire_fault v (events.Table table schema) lucks = is_device_fault v.world (events.Table table schema) lucks
is_wire_fault v (events.Draft table schema) lucks = is_device_fault v.world (events.Draft table schema) lucks
is_wire_fault v (events.Client c gate tables) lucks = is_device_fault v.world (events.Client c gate tables) lucks
is_wire_fault v (events.Crash node calls pick) lucks = is_device_fault v.world (events.Crash node calls pick) lucks
is_wire_fault v event lucks = is_fault_answer (wire_step v event lucks).answer

-- how many
abbrev pub wire_faults : Wire → List Happening → ℕ
wire_faults v [] = 0
wire_faults v (h ∷ more) =
    one_if (is_wire_fault v h.event h.lucks) + wire_faults (wire_step v h.event h.lucks).wire more
