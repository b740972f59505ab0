use Rattle.std.proofs.Common.{List}
use Rattle.store_host.specs.Holds.{outs_in}
use Rattle.world_tables.specs.World.{World as AWorld}
use Rattle.wire_tables.specs.Wire.{PartPacket}
use Rattle.part_network.specs.Packets.{HasPackets}
use Rattle.node_steps.specs.Holds.{Holds as NodesHold}
use Rattle.wire_steps.specs.Sending.{AllOutsSent, IsSender}
use Rattle.wire_steps.proofs.Sent.{TellsOn}
use Rattle.wire_steps.proofs.sending.tell_store.Given as goal

abbrev pub invariant-loop-out : goal.invariant-loop-out
invariant-loop-out g l = record {
  sent : (w : AWorld) × IsSender g.D.Disk.state l.nodes w × AllOutsSent w (outs_in l.out-iterator.rest.items);
  told : (w : AWorld) (ps : List PartPacket) → NodesHold g.D.Disk.state w l.nodes → HasPackets l.fn.network ps
      → TellsOn w ps (outs_in l.fn.outs) (outs_in l.out-iterator.rest.items) l.network l.fn.lines l.lines;
}
