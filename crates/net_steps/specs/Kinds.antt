-- The events of which the world makes something beside what the wire makes of them.
use Rattle.stab_base.specs.declared.node.Node.TheVariants as nodes
use Rattle.table_model.specs.declared.event.Event.{Event}
use Rattle.table_model.specs.declared.event.Event.TheVariants as events
use Rattle.net_steps.specs.declared.kinds.Deed.TheVariants as deeds
use Rattle.net_steps.specs.declared.kinds.Kind.{Kind}
use Rattle.net_steps.specs.declared.kinds.Kind.TheVariants as kinds

abbrev pub kind_of : Event → Kind
kind_of (events.Store store) = kinds.Declare
kind_of (events.Gate gate) = kinds.Declare
kind_of (events.Table table schema) = kinds.Declare
kind_of (events.Draft table schema) = kinds.Declare
kind_of (events.Client client gate tables) = kinds.Join
kind_of (events.Deliver packet) = kinds.Deliver packet
kind_of (events.Link client up) = kinds.Link client up
kind_of (events.Start (nodes.Client client)) = kinds.Wake client
kind_of (events.Create (nodes.Client client) table) = kinds.Create client table
kind_of (events.Create node table) = kinds.Aside
kind_of (events.Drop (nodes.Client client) table) = kinds.Drop client table
kind_of (events.Drop node table) = kinds.Aside
kind_of (events.Hold (nodes.Gate gate)) = kinds.Gate gate deeds.Hold
kind_of (events.Free (nodes.Gate gate)) = kinds.Gate gate deeds.Hold
kind_of (events.Work (nodes.Gate gate)) = kinds.Gate gate deeds.Work
kind_of (events.WorkAll (nodes.Gate gate)) = kinds.Gate gate deeds.WorkAll
kind_of (events.Crash (nodes.Gate gate) calls pick) = kinds.Gate gate deeds.Crash
kind_of (events.Start (nodes.Gate gate)) = kinds.Gate gate deeds.Start
kind_of event = kinds.Other
