use Rattle.std.proofs.Common.{◌≡◌, ◌++◌, drop, map}
use Rattle.part_network.specs.Packets.{packet_of, packet_with}
use Rattle.part_network.proofs.sending.packets_with.Given as goal

abbrev pub invariant-loop-part : goal.invariant-loop-part
invariant-loop-part l =
    map packet_of l.packets.items ++ map (λ part. packet_with l.from l.to part) (drop l.part-index l.parts)
    ≡ map (λ part. packet_with l.from l.to part) l.parts
