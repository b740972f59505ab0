-- The events of which the world makes something beside what its nodes make of them.
use Rattle.std.specs.Prelude.{Option, Some, None}
use Rattle.stab_base.specs.declared.node.Node.{Node}
use Rattle.table_model.specs.declared.event.Event.{Event}
use Rattle.table_model.specs.declared.event.Event.TheVariants as events
use Rattle.wire_steps.specs.declared.kinds.Kind.{Kind}
use Rattle.wire_steps.specs.declared.kinds.Kind.TheVariants as kind

abbrev pub kind_of : Event → Kind
kind_of (events.Deliver packet) = kind.Deliver packet
kind_of (events.Pull client table) = kind.Pull client table
kind_of (events.Ask client table) = kind.Ask client table
kind_of other = kind.Other

-- the node that is to be started
abbrev pub started : Event → Option Node
started (events.Start node) = Some node
started other = None
