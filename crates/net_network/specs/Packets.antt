-- The packets of the network with gateways: every message that was sent. One that is a part of a whole message is
-- kept by the number of the wire's packet with its token, and any other as its frame.
use Rattle.std.specs.Prelude.{◌≡◌, ℕ, ◌≤◌, List, [], ◌∷◌, Option, Some, None, slice_get}
use Rattle.std.specs.List.{sum_by}
use Rattle.table_model.specs.declared.message.Message.{Message}
use Rattle.table_model.specs.declared.message.Message.TheVariants as messages
use Rattle.part_tables.specs.Parts.{Part}
use Rattle.wire_tables.specs.Wire.{PartPacket}
use Rattle.message_frames.specs.Frames.{HasFrame, frame_of}
use Rattle.message_parts.specs.Parts.{part_of, message_at}
use Rattle.part_network.specs.Packets.{frame_length, most_bytes}
use Rattle.gated_tables.specs.Devices.{stamped}
use Rattle.gated_tables.specs.Net.{Sent}
use Rattle.net_network.specs.declared.packet.Kept.{Kept}
use Rattle.net_network.specs.declared.packet.Kept.TheVariants as kinds
use Rattle.net_network.specs.declared.packet.Packet.{Packet}
use Rattle.net_network.specs.declared.packet.Way.{Way}
use Rattle.net_network.specs.declared.network.Network.{Network}

-- ---- tokens

-- the token in a message, 0 where it has none
abbrev pub token_in : Message → ℕ
token_in (messages.CreateTable m) = m.token
token_in (messages.DropTable m) = m.token
token_in (messages.SubscribeTable m) = m.token
token_in (messages.UnsubscribeTable m) = m.token
token_in (messages.ObjectFragment m) = m.token
token_in (messages.PullRequest m) = m.token
token_in (messages.SyncRequest m) = m.token
token_in (messages.TornRowRequest m) = m.token
token_in (messages.OperationResponse m) = m.token
token_in other = 0

-- ---- what is kept of a message

-- a message is the part that the wire's packet of this number has, with this token
abbrev pub IsPartAt : List PartPacket → ℕ → ℕ → Message → Type 0
IsPartAt ps number token message =
    (p : PartPacket) × (slice_get ps number ≡ Some p) × (message ≡ stamped token (message_at p.part)) ×
    HasFrame (message_at p.part)

abbrev pub IsKept : List PartPacket → Kept → Message → Type 0
IsKept ps (kinds.Part number token) message = IsPartAt ps number token message
IsKept ps (kinds.Frame frame) message = HasFrame message × (frame.items ≡ frame_of message) × (part_of message ≡ None)

pub record IsPacketOf (ps : List PartPacket) (packet : Packet) (one : Sent) : Type 0 where
  pub from : packet.from ≡ one.from
  pub to : packet.to ≡ one.to
  pub kept : IsKept ps packet.kept one.message

abbrev pub AreKept : List PartPacket → List Packet → List Sent → Type 0
AreKept ps [] [] = Unit {0}
AreKept ps [] (one ∷ sent) = ⊥
AreKept ps (packet ∷ packets) [] = ⊥
AreKept ps (packet ∷ packets) (one ∷ sent) = IsPacketOf ps packet one × AreKept ps packets sent

-- ---- the network

-- how many bytes the frames of messages have
abbrev pub net_bytes : List Sent → ℕ
net_bytes sent = sum_by (λ (one : Sent). frame_length one.message) sent

-- these messages were sent, in order, where the wire has sent these parts
pub record HasSent (network : Network) (ps : List PartPacket) (sent : List Sent) : Type 0 where
  pub kept : AreKept ps network.packets.items sent
  pub bytes : network.bytes ≡ net_bytes sent
  pub most : net_bytes sent ≤ most_bytes

-- ---- what is read of it

-- which part a message is: none, or that of the wire's packet of a number, with a token
abbrev pub IsPartIf : List PartPacket → Option (ℕ × ℕ) → Message → Type 0
IsPartIf ps None message = part_of message ≡ None
IsPartIf ps (Some it) message = IsPartAt ps it.0 it.1 message

pub record IsWayOf (ps : List PartPacket) (way : Way) (one : Sent) : Type 0 where
  pub from : way.from ≡ one.from
  pub to : way.to ≡ one.to
  pub part : IsPartIf ps way.part one.message

-- the way of the message that stands there, and none where none does
abbrev pub IsWayAt : List PartPacket → Option Way → Option Sent → Type 0
IsWayAt ps None None = Unit {0}
IsWayAt ps None (Some one) = ⊥
IsWayAt ps (Some way) None = ⊥
IsWayAt ps (Some way) (Some one) = IsWayOf ps way one

-- a message that is no part
abbrev pub unless_part : Message → Option Part → Option Message
unless_part message None = Some message
unless_part message (Some part) = None

abbrev pub whole_of : Message → Option Message
whole_of message = unless_part message (part_of message)

abbrev pub whole_in : Option Sent → Option Message
whole_in None = None
whole_in (Some one) = whole_of one.message
