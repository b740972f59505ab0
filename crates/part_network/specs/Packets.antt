-- The packets of the network as those of the laws, whose parts of messages go as the frames of messages.
use Rattle.std.specs.Prelude.{◌≡◌, ℕ, ◌+◌, ◌-◌, ◌^◌, ◌<◌, ◌≤◌, min, List, [], ◌∷◌, length, map, Option, Some}
use Rattle.std.specs.List.{AllByRecursion, sum_by}
use Rattle.stab_base.specs.declared.node.Node.{Node}
use Rattle.table_model.specs.declared.message.Message.{Message}
use Rattle.table_model.specs.MessageNames.{name_of}
use Rattle.step_tables.specs.Facts.{Line, FactLine}
use Rattle.step_tables.specs.Facts as facts
use Rattle.step_tables.specs.Messages as wholes
use Rattle.part_tables.specs.Parts.{Part, parts_of}
use Rattle.wire_tables.specs.Wire.{PartPacket}
use Rattle.message_frames.specs.Frames.{HasFrame, frame_of}
use Rattle.message_parts.specs.Parts.{part_of, message_at}
use Rattle.part_network.specs.declared.fault.NetworkFault.{NetworkFault}
use Rattle.part_network.specs.declared.fault.NetworkFault.TheVariants as faults
use Rattle.part_network.specs.declared.packet.Packet.{Packet}
use Rattle.part_network.specs.declared.network.Network.{Network}

-- ---- packets by their bytes

pub record BytePacket : Type 0 where
  pub from : Node
  pub to : Node
  pub bytes : List ℕ

abbrev pub packet_of : Packet → BytePacket
packet_of packet = record { from = packet.from; to = packet.to; bytes = packet.frame.items }

abbrev pub length_of : Packet → ℕ
length_of packet = length packet.frame.items

-- a message on its way
abbrev pub packet_with : Node → Node → Message → BytePacket
packet_with from to message = record { from = from; to = to; bytes = frame_of message }

-- a part goes as the frame of its message
abbrev pub framed : PartPacket → BytePacket
framed p = packet_with p.from p.to (message_at p.part)

-- ---- their frames

abbrev pub HasPartFrame : Part → Type 0
HasPartFrame part = HasFrame (message_at part)

-- each part of a message has a frame
abbrev pub HasFrames : ℕ → wholes.Message → Type 0
HasFrames chunk message = AllByRecursion HasPartFrame (parts_of chunk message)

-- how many bytes the frames of messages have, and those of packets
abbrev pub frame_length : Message → ℕ
frame_length message = length (frame_of message)

abbrev pub frame_lengths : List Message → ℕ
frame_lengths messages = sum_by frame_length messages

abbrev pub bytes_of : List PartPacket → ℕ
bytes_of ps = sum_by (λ (p : PartPacket). frame_length (message_at p.part)) ps

-- no more bytes are sent
abbrev pub most_bytes : ℕ
most_bytes = 268435456

-- ---- the network

-- these packets were sent, in order
pub record HasPackets (network : Network) (ps : List PartPacket) : Type 0 where
  pub packets : map packet_of network.packets.items ≡ map framed ps
  pub frames : AllByRecursion (λ (p : PartPacket). HasPartFrame p.part) ps
  pub bytes : network.bytes ≡ bytes_of ps
  pub most : bytes_of ps ≤ most_bytes

-- the sender of a packet and its message, and the sender and the part that the message is
abbrev pub read_of : PartPacket → Node × Message
read_of p = (p.from, message_at p.part)

abbrev pub part_in : Node × Message → Node × Option Part
part_in it = (it.0, part_of it.1)

abbrev pub part_with : PartPacket → Node × Option Part
part_with p = (p.from, Some p.part)

-- the parts of a message between two parties, where chunks have this size
abbrev pub sent_parts : Node → Node → ℕ → wholes.Message → List PartPacket
sent_parts from to chunk message =
    map (λ (part : Part). record { from = from; to = to; part = part }) (parts_of chunk message)

-- ---- what sending tells, and why it fails

abbrev pub told : ℕ → Node → Node → List Message → List Line
told number from to [] = []
told number from to (message ∷ messages) =
    FactLine (facts.Sent number from to (name_of message)) ∷ told (number + 1) from to messages

-- where so many bytes would have been sent; a number of 64 bits tells them
abbrev pub IsFault : ℕ → NetworkFault → Type 0
IsFault bytes (faults.Limit told) = (most_bytes < bytes) × (told ≡ min bytes (2 ^ 64 - 1))
IsFault bytes faults.Memory = Unit {0}
