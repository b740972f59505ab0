use Rattle.std.proofs.Common.{List}
use Rattle.journal_host.specs.Holds.{outs_in}
use Rattle.world_tables.specs.World.{World as AWorld, owner_of}
use Rattle.wire_tables.specs.Wire.{PartPacket}
use Rattle.part_network.specs.Packets.{HasPackets}
use Rattle.node_steps.specs.Holds.{Holds as NodesHold}
use Rattle.wire_steps.specs.Sending.{AllOutsSent, IsSender}
use Rattle.wire_steps.proofs.Sent.{TellsOn}
use Rattle.wire_steps.proofs.sending.tell_clients.Given as goal

abbrev pub invariant-loop-out : goal.invariant-loop-out
invariant-loop-out g l = record {
  sent : (w : AWorld) × IsSender g.D.Disk.state l.nodes w × AllOutsSent w (outs_in (owner_of w) l.out-iterator.rest.items);
  told : (w : AWorld) (ps : List PartPacket) → NodesHold g.D.Disk.state w l.nodes → HasPackets l.fn.network ps
      → TellsOn w ps (outs_in (owner_of w) l.fn.outs) (outs_in (owner_of w) l.out-iterator.rest.items) l.network l.fn.lines l.lines;
}
