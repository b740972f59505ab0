use Rattle.std.proofs.Common.{◌≡◌, List, map}
use Rattle.step_tables.specs.Lines.{line_of}
use Rattle.wire_tables.specs.Wire.{Wire}
use Rattle.gated_tables.specs.Net.{Net, Sent}
use Rattle.net_network.specs.Packets.{HasSent}
use Rattle.net_steps.specs.Walking.{AreThere, IsAlong, WalksOn}
use Rattle.net_steps.proofs.world.World.carry_lines.Given as goal

abbrev pub invariant-loop-line : goal.invariant-loop-line
invariant-loop-line g l = record {
  same : l.self ≡ record l.fn.self { network = l.self.network };
  there : (n : Net) × (v : Wire) × IsAlong g.D.Disk.state n v l.fn.self × AreThere n v (map line_of l.line-iterator.rest.items);
  walks : (n : Net) (v : Wire) (sent : List Sent) → IsAlong g.D.Disk.state n v l.fn.self → HasSent l.fn.self.network v.packets sent
      → AreThere n v (map line_of l.fn.lines)
      → WalksOn n v sent (map line_of l.fn.lines) (map line_of l.line-iterator.rest.items) l.self.network l.fn.told l.told;
}
