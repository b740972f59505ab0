-- Which messages a node may be given.
use Rattle.stab_base.specs.declared.node.Node.{Node}
use Rattle.stab_base.specs.declared.node.Node.TheVariants as nodes
use Rattle.step_tables.specs.declared.message.Message.{Message}
use Rattle.step_tables.specs.Travels.{message_of}
use Rattle.table_model.specs.declared.event.Event.{Event}
use Rattle.table_model.specs.declared.event.Event.TheVariants as events
use Rattle.store_host.specs.Calls.{FitsIn}
use Rattle.client_events.specs.Fits.{FitsMessage}
use Rattle.world_tables.specs.World.{World, Packet}

-- a row that it brings is one of its table
abbrev pub FitsNode : World → Node → Message → Type 0
FitsNode w (nodes.Store number) message = FitsIn w message
FitsNode w (nodes.Client c) message = FitsMessage w c message
FitsNode w (nodes.Gate gate) message = Unit {0}

-- a message on its way
abbrev pub packet_with : Node → Node → Message → Packet
packet_with from to message = record { from = from; to = to; message = message_of message }

-- an event of the nodes alone: neither a delivery nor a pull
abbrev pub IsOwn : Event → Type 0
IsOwn (events.Deliver packet) = ⊥
IsOwn (events.Pull client table) = ⊥
IsOwn (events.Ask client table) = ⊥
IsOwn other = Unit {0}
