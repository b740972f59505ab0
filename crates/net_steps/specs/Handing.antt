-- What a gateway makes of a message that comes to it: what it sends, and why it ends the run.
use Rattle.std.specs.Prelude.{◌≡◌, ◌⊎◌, ℕ, List, map, Option, Some, None}
use Rattle.std.specs.List.{AllByRecursion}
use Rattle.disk_trait.specs.Calls.{DiskState}
use Rattle.stab_base.specs.declared.node.Node.{Node}
use Rattle.table_model.specs.declared.message.Message.{Message}
use Rattle.part_tables.specs.Parts.{Part}
use Rattle.message_parts.specs.Parts.{part_of}
use Rattle.wire_tables.specs.Wire.{Wire, PartPacket}
use Rattle.gate_tables.specs.Gate.{Running, Sends, taken}
use Rattle.gate_tables.specs.Gate as gates
use Rattle.gated_tables.specs.Net.{Net, NetStep, Sent, gate_at, gate_done, directory_of}
use Rattle.gateway_core.specs.declared.gate_fault.GateFault.{GateFault}
use Rattle.gateway_core.specs.declared.gate_fault.GateFault.TheVariants as faults
use Rattle.net_network.specs.declared.packet.Way.{Way}
use Rattle.net_network.specs.Packets.{HasSent, IsPartAt}
use Rattle.net_network.specs.Short.{IsShort}
use Rattle.gate_host.specs.Moves.{up}
use Rattle.node_steps.specs.declared.fault.WorldFault.{WorldFault}
use Rattle.node_steps.specs.declared.fault.WorldFault.TheVariants.{Memory, Limit as LimitPassed}
use Rattle.wire_steps.specs.Holds as wires
use Rattle.net_steps.specs.declared.world.World.{World}
use Rattle.net_steps.specs.Holds.{Holds}
use Rattle.net_steps.specs.Steps.{HasDrawnAll}

-- ---- what a gateway sends: the part that came, with its token, or a message that is short

abbrev pub IsThatPart : List PartPacket → Option (ℕ × ℕ) → Message → Type 0
IsThatPart ps None message = ⊥
IsThatPart ps (Some it) message = IsPartAt ps it.0 it.1 message

abbrev pub IsSentOn : List PartPacket → Option (ℕ × ℕ) → Message → Option Part → Type 0
IsSentOn ps came message None = IsShort message
IsSentOn ps came message (Some part) = IsThatPart ps came message

abbrev pub GoesOn : List PartPacket → Option (ℕ × ℕ) → Message → Type 0
GoesOn ps came message = IsSentOn ps came message (part_of message)

abbrev pub AllGoOn : List PartPacket → Option (ℕ × ℕ) → Sends → Type 0
AllGoOn ps came sends = AllByRecursion (λ (send : Node × Message). GoesOn ps came send.1) sends

-- it is short where it is no part
abbrev pub IsShortSend : Node × Message → Type 0
IsShortSend send = part_of send.1 ≡ None → IsShort send.1

abbrev pub AreShortSends : Sends → Type 0
AreShortSends sends = AllByRecursion IsShortSend sends

abbrev pub sent_from : Node → Node × Message → Sent
sent_from from send = record { from = from; to = send.0; message = send.1 }

abbrev pub all_from : Node → Sends → List Sent
all_from from sends = map (sent_from from) sends

-- the wire has sent its parts, and these messages were sent
pub record HasGone {D : Type 0} (state : D → DiskState) (v : Wire) (gone : List Sent) (world : World D) : Type 0 where
  pub wire : wires.Holds state v world.wire
  pub sent : HasSent world.network v.packets gone

-- ---- a message that comes

abbrev pub spent_of : GateFault → WorldFault
spent_of (faults.Spent last) = LimitPassed 11 last
spent_of faults.Memory = Memory

-- it may go on, and the gateway is up
pub record IsToTake {D : Type 0} (state : D → DiskState) (n : Net) (gate : ℕ) (way : Way) (message : Message)
    (world : World D) : Type 0 where
  pub held : Holds state n world
  pub comes : GoesOn n.wire.packets way.part message
  pub starts : ℕ
  pub running : Running
  pub at : gate_at n gate ≡ Some (up starts running)

-- what the gateway makes of it
abbrev pub done_at : Net → ℕ → ℕ → Running → Node → Message → gates.Done
done_at n gate starts running from message = taken (directory_of n.wire.world) gate starts running from message

abbrev pub step_at : Net → ℕ → ℕ → Running → Node → Message → NetStep
step_at n gate starts running from message = gate_done n gate starts (done_at n gate starts running from message)

-- limit 10, or limit 11 where the last token is drawn
abbrev pub IsDrawn : Running → WorldFault → Type 0
IsDrawn running e = (code count : ℕ) → e ≡ LimitPassed code count
    → (code ≡ 10) ⊎ ((code ≡ 11) × HasDrawnAll (Some running))
