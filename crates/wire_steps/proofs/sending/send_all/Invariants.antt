use Rattle.std.proofs.Common.{List}
use Rattle.world_tables.specs.World.{World as AWorld}
use Rattle.wire_tables.specs.Wire.{PartPacket}
use Rattle.part_network.specs.Packets.{HasPackets}
use Rattle.node_steps.specs.Holds.{Holds as NodesHold}
use Rattle.wire_steps.specs.Sending.{packets_by, AllSent, IsSender}
use Rattle.wire_steps.proofs.Sent.{SendsOn}
use Rattle.wire_steps.proofs.sending.send_all.Given as goal

abbrev pub invariant-loop-to : goal.invariant-loop-to
invariant-loop-to g l = record {
  sent : (w : AWorld) × IsSender g.D.Disk.state l.nodes w × AllSent w (packets_by w l.from l.to-iterator.rest.items);
  told : (w : AWorld) (ps : List PartPacket) → NodesHold g.D.Disk.state w l.nodes → HasPackets l.fn.network ps
      → SendsOn w ps (packets_by w l.from l.fn.messages) (packets_by w l.from l.to-iterator.rest.items) l.network l.fn.lines l.lines;
}
