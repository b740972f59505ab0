use Rattle.std.proofs.Common.{List, sym, ap, subst, ◌∙◌}
use Rattle.std.specs.Prelude.{ℕ, slice_get, option_map, option_copied}
use Rattle.message_frames.specs.Frames.{IsFrameOf}
use Rattle.message_parts.specs.Parts.{message_at}
use Rattle.part_network.specs.Packets.{part_in}
use Rattle.part_network.proofs.Sent.{part_there, reads, by_parts}
use Rattle.part_network.proofs.network.Network.read.Goals as goal

pub returns-in-Ok-clause-message : goal.returns-in-Ok-clause-message
returns-in-Ok-clause-message c ps h =
    let it = part_there c.args.self.now ps c.args.number c.in-Some.packet.now h (sym (ap option_copied c.in-Some.is) ∙ c.get.ensures) in
    let frame = subst (λ (bytes : List ℕ). IsFrameOf bytes (message_at it.p.part)) (sym c.as_slice.ensures.value) it.frame in
    reads c.in-Some.packet.now (slice_get ps c.args.number) it c.in-Ok.message (c.in-Ok.ensures.only (message_at it.p.part) frame).0

pub returns-in-Ok-clause-part : goal.returns-in-Ok-clause-part
returns-in-Ok-clause-part c ps h = ap (option_map part_in) (returns-in-Ok-clause-message c ps h) ∙ by_parts (slice_get ps c.args.number)
