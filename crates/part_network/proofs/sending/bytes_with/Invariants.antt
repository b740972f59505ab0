use Rattle.std.proofs.Common.{◌≡◌, ◌+◌, ◌-◌, ◌≤◌, drop}
use Rattle.std.specs.Prelude.{◌^◌, min}
use Rattle.std.specs.List.{sum_by}
use Rattle.part_network.specs.Packets.{length_of}
use Rattle.part_network.proofs.sending.bytes_with.Given as goal

abbrev pub invariant-loop-packet : goal.invariant-loop-packet
invariant-loop-packet l = record {
  most : l.all ≤ 2 ^ 64 - 1;
  sum : min (l.all + sum_by length_of (drop l.packet-index l.packets)) (2 ^ 64 - 1) ≡ min (l.bytes + sum_by length_of l.packets) (2 ^ 64 - 1);
}
