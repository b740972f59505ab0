use Rattle.part_network.proofs.Sent.{all_added}
use Rattle.part_network.proofs.sending.bytes_with.Goals as goal

pub returns : goal.returns
returns c = all_added c.loop-packet.all c.args.packets.now c.loop-packet.packet-index _ c.loop-packet.invariant.most c.loop-packet-test.false c.loop-packet.invariant.sum
