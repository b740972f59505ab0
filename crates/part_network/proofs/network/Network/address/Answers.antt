use Rattle.std.proofs.Common.{Some, sym, ap, ◌∙◌}
use Rattle.std.specs.Prelude.{option_map, option_copied}
use Rattle.wire_tables.specs.Wire.{PartPacket}
use Rattle.part_network.proofs.Sent.{part_there}
use Rattle.part_network.proofs.network.Network.address.Goals as goal

pub returns : goal.returns
returns c ps h =
    let it = part_there c.args.self.now ps c.args.number c.in_ok-packet.packet.now h (sym (ap option_copied c.in_ok-packet.was) ∙ c.get.ensures) in
    ap (λ n. Some n) it.to ∙ sym (ap (option_map (λ (p : PartPacket). p.to)) it.there)
