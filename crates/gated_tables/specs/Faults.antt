-- The device faults of a run with gateways, as its events show them.
use Rattle.std.specs.Prelude.{ℕ, ◌+◌, Bool, false, List, [], ◌∷◌}
use Rattle.stab_base.specs.declared.node.Node.TheVariants as nodes
use Rattle.table_model.specs.declared.event.Event.{Event}
use Rattle.table_model.specs.declared.event.Event.TheVariants as events
use Rattle.world_tables.specs.World.{Lucks}
use Rattle.world_tables.specs.Faults.{is_fault_answer, one_if}
use Rattle.world_tables.specs.Turns.{Happening}
use Rattle.wire_tables.specs.Faults.{is_wire_fault}
use Rattle.gated_tables.specs.Net.{Net, net_step}

-- whether a device fault shows in an event, as on the wire; a gateway has no devices
abbrev pub is_net_fault : Net → Event → Lucks → Bool
is_net_fault n (events.Table table schema) lucks = is_wire_fault n.wire (events.Table table schema) lucks
is_net_fault n (events.Draft table schema) lucks = is_wire_fault n.wire (events.Draft table schema) lucks
is_net_fault n (events.Client c gate tables) lucks = is_wire_fault n.wire (events.Client c gate tables) lucks
is_net_fault n (events.Crash (nodes.Gate number) calls pick) lucks = false
is_net_fault n (events.Crash node calls pick) lucks = is_wire_fault n.wire (events.Crash node calls pick) lucks
is_net_fault n event lucks = is_fault_answer (net_step n event lucks).answer

-- how many
abbrev pub net_faults : Net → List Happening → ℕ
net_faults n [] = 0
net_faults n (h ∷ more) =
    one_if (is_net_fault n h.event h.lucks) + net_faults (net_step n h.event h.lucks).net more
