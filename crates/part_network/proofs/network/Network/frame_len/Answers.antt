use Rattle.std.proofs.Common.{Some, length, sym, ap, ◌∙◌}
use Rattle.std.specs.Prelude.{option_map, option_copied}
use Rattle.message_parts.specs.Parts.{message_at}
use Rattle.wire_tables.specs.Wire.{PartPacket}
use Rattle.part_network.specs.Packets.{frame_length}
use Rattle.part_network.proofs.Sent.{part_there}
use Rattle.part_network.proofs.network.Network.frame_len.Goals as goal

pub returns : goal.returns
returns c ps h =
    let it = part_there c.args.self.now ps c.args.number c.in_ok-packet.packet.now h (sym (ap option_copied c.in_ok-packet.was) ∙ c.get.ensures) in
    ap (λ n. Some n) (c.len.ensures ∙ c.in_ok-packet.packet.now.frame.ok.0 ∙ ap length it.frame.is) ∙ sym (ap (option_map (λ (p : PartPacket). frame_length (message_at p.part))) it.there)
