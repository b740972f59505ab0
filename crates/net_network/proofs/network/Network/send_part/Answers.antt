use Rattle.std.proofs.Common.{◌∙◌, refl, sym}
use Rattle.message_parts.specs.Parts.{message_at}
use Rattle.gated_tables.specs.Devices.{stamped}
use Rattle.net_network.proofs.Stamped.{stamped_length}
use Rattle.net_network.proofs.network.Network.send_part.Goals as goal

pub returns-clause-sent : goal.returns-clause-sent
returns-clause-sent c ps sent p h there frame same =
    c.push.ensures.sent ps sent (record { from = c.args.from; to = c.args.to; message = stamped c.args.token (message_at p.part) }) h
    (record { from = refl; to = refl; kept = (p, there, refl, frame) })
    (same ∙ sym (stamped_length c.args.token (message_at p.part)))

pub returns-clause-limit : goal.returns-clause-limit
returns-clause-limit c ps sent p h there same =
    c.push.ensures.limit ps sent (record { from = c.args.from; to = c.args.to; message = stamped c.args.token (message_at p.part) }) h
    (same ∙ sym (stamped_length c.args.token (message_at p.part)))
