-- What the nodes told and sent, as lines and as parts on the network.
use Rattle.std.specs.Prelude.{◌≡◌, ◌⊎◌, ℕ, ◌++◌, ◌<◌, List, [], map, length, Option}
use Rattle.std.specs.List.{AllByRecursion, flat_map}
use Rattle.disk_trait.specs.Calls.{DiskState}
use Rattle.stab_base.specs.declared.node.Node.{Node}
use Rattle.stab_base.specs.declared.node.Node.TheVariants as nodes
use Rattle.table_model.specs.declared.line.TextLine.{TextLine}
use Rattle.step_tables.specs.Facts.{FactLine}
use Rattle.step_tables.specs.Lines.{line_of}
use Rattle.step_tables.specs.Members.{Among}
use Rattle.step_tables.specs.Travels.{send_of}
use Rattle.step_tables.specs.declared.message.Message.{Message}
use Rattle.world_tables.specs.World.{World as AWorld, Packet, Outbox, WorldStep, owner_of, packets_from}
use Rattle.store_host.specs.Holds as stores
use Rattle.journal_host.specs.Holds as hosts
use Rattle.fair_laws.specs.Reached as fair
use Rattle.wire_tables.specs.Wire.{PartPacket, Wire, split, in_parts, sent_lines, lines_from, lines_of, spread}
use Rattle.part_network.specs.Packets.{HasPackets, most_bytes, bytes_of}
use Rattle.part_network.specs.declared.fault.NetworkFault.{NetworkFault}
use Rattle.part_network.specs.declared.fault.NetworkFault.TheVariants as faults
use Rattle.part_network.specs.declared.network.Network.{Network}
use Rattle.node_steps.specs.declared.fault.WorldFault.{WorldFault}
use Rattle.node_steps.specs.declared.fault.WorldFault.TheVariants.{Memory, Limit as LimitPassed}
use Rattle.node_steps.specs.declared.told.Outs.{Outs}
use Rattle.node_steps.specs.declared.told.Outs.TheVariants as outs
use Rattle.node_steps.specs.declared.told.Told.{Told}
use Rattle.node_steps.specs.declared.world.World.{World as Nodes}
use Rattle.node_steps.specs.Holds.{Holds as NodesHold}
use Rattle.node_steps.specs.Told.{AreOuts, answer_lines}
use Rattle.wire_steps.specs.declared.world.World.{World}
use Rattle.wire_steps.specs.Holds.{Holds, HoldsMemory}

-- ---- packets in parts

abbrev pub parts_of : AWorld → List Packet → List PartPacket
parts_of w packets = flat_map (split w) packets

abbrev pub parts_in : AWorld → List Outbox → List PartPacket
parts_in w moves = flat_map (λ (out : Outbox). flat_map (split w) out.packets) moves

abbrev pub packets_in : List Outbox → List Packet
packets_in moves = flat_map (λ (out : Outbox). out.packets) moves

-- the outboxes of moves that told or sent something, where these Stores keep the tables
abbrev pub outs_of : (ℕ → ℕ) → Outs → List Outbox
outs_of owners outs.Nothing = []
outs_of owners (outs.OfStore some) = stores.outs_in some
outs_of owners (outs.OfClients some) = hosts.outs_in owners some

-- to whom a message without an address goes: to the Store that keeps its table, or the Store that sent it
abbrev pub owners_for : AWorld → Node → ℕ → ℕ
owners_for w (nodes.Store number) = λ table. number
owners_for w (nodes.Client c) = owner_of w
owners_for w (nodes.Gate gate) = owner_of w

-- what a party sends
abbrev pub packets_by : AWorld → Node → List (Option Node × Message) → List Packet
packets_by w from messages = packets_from (owners_for w from) from (map send_of messages)

-- ---- what is sent was sent in a world that a script leads to, whose tables' schemas the nodes have

abbrev pub AllSent : AWorld → List Packet → Type 0
AllSent w packets = AllByRecursion (Among w.packets) packets

abbrev pub AllOutsSent : AWorld → List Outbox → Type 0
AllOutsSent w moves = AllByRecursion (λ (out : Outbox). AllSent w out.packets) moves

pub record IsSender {D : Type 0} (state : D → DiskState) (at_work : Nodes D) (w : AWorld) : Type 0 where
  pub reached : fair.IsReached w
  pub held : NodesHold state w at_work

-- ---- what sending comes to

-- these parts were sent behind the others, and their lines stand behind the lines so far
pub record AreSent (ps sent : List PartPacket) (network : Network) (before after : List TextLine) : Type 0 where
  pub packets : HasPackets network (ps ++ sent)
  pub lines : map line_of after ≡ map line_of before ++ sent_lines (length ps) sent

-- the same of the packets of a move, behind its facts
pub record IsToldOne (w : AWorld) (ps : List PartPacket) (out : Outbox) (network : Network)
    (before after : List TextLine) : Type 0 where
  pub packets : HasPackets network (ps ++ parts_of w out.packets)
  pub lines : map line_of after
      ≡ map line_of before ++ (map FactLine out.facts ++ sent_lines (length ps) (parts_of w out.packets))

-- and of what moves told and sent
pub record AreTold (w : AWorld) (ps : List PartPacket) (moves : List Outbox) (network : Network)
    (before after : List TextLine) : Type 0 where
  pub packets : HasPackets network (ps ++ parts_in w moves)
  pub lines : map line_of after ≡ map line_of before ++ lines_from (length ps) (map (in_parts w) moves)

-- ---- why it fails: memory is refused, or more bytes would be sent than may be

abbrev pub fault_of : NetworkFault → WorldFault
fault_of (faults.Limit bytes) = LimitPassed 10 bytes
fault_of faults.Memory = Memory

abbrev pub IsSendFault : WorldFault → Type 0
IsSendFault e = (e ≡ Memory) ⊎ ((count : ℕ) × (e ≡ LimitPassed 10 count))

abbrev pub IsOverFault : List PartPacket → WorldFault → Type 0
IsOverFault ps e = (count : ℕ) → e ≡ LimitPassed 10 count → most_bytes < bytes_of ps

-- ---- what the nodes told in a step of theirs

-- The nodes are behind this step, told this in it, and what it sent hasn't been sent in parts yet. The wire is the one
-- before, with what is kept of parts; what is in memory is that of the wire behind the step.
pub record IsToTell {D : Type 0} (state : D → DiskState) (world : World D) (told : Told) : Type 0 where
  pub kept : Wire
  pub s : WorldStep
  pub reached : fair.IsReached s.world
  pub lines_are : map line_of told.lines ≡ answer_lines s
  pub outs_are : AreOuts (owner_of s.world) told.outs s.outs
  pub held : NodesHold state s.world world.nodes
  pub packets : HasPackets world.network kept.packets
  pub memory : HoldsMemory (spread kept s).wire world.gathered world.arriving
  pub sent : s.world.packets ≡ kept.world.packets ++ packets_in s.outs
  pub sizes : (s.outs ≡ []) ⊎ (s.world.schemas ≡ kept.world.schemas)

-- it is told and sent
pub record IsTold {D : Type 0} (state : D → DiskState) (kept : Wire) (s : WorldStep) (lines : List TextLine)
    (new : World D) : Type 0 where
  pub lines_are : map line_of lines ≡ lines_of kept (spread kept s)
  pub held : Holds state (spread kept s).wire new
