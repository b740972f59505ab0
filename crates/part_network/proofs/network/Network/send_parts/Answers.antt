use Rattle.part_network.specs.Packets.{frame_lengths}
use Rattle.part_network.proofs.Sent.{with_packets, too_many, not_too_many}
use Rattle.part_network.proofs.network.Network.send_parts.Goals as goal

pub returns-then-bytes-gt-MOST_BYTES-clause-fault : goal.returns-then-bytes-gt-MOST_BYTES-clause-fault
returns-then-bytes-gt-MOST_BYTES-clause-fault c =
    let is = with_packets c.args.self.now.bytes c.args.from c.args.to c.as_slice.result.now c.in_ok-packets.packets.items c.args.parts.now c.bytes_with-bytes.result
    c.as_slice.ensures.value c.in_ok-packets.ensures c.bytes_with-bytes.ensures in
    (too_many c.args.self.now.bytes (frame_lengths c.args.parts.now) c.bytes_with-bytes.result is c.if-bytes-gt-MOST_BYTES.true, is)

pub returns-clause-bytes : goal.returns-clause-bytes
returns-clause-bytes c =
    let is = with_packets c.args.self.now.bytes c.args.from c.args.to c.as_slice.result.now c.in_ok-packets.packets.items c.args.parts.now c.bytes_with-bytes.result
    c.as_slice.ensures.value c.in_ok-packets.ensures c.bytes_with-bytes.ensures in
    not_too_many c.args.self.now.bytes (frame_lengths c.args.parts.now) c.bytes_with-bytes.result is c.if-bytes-gt-MOST_BYTES.false
