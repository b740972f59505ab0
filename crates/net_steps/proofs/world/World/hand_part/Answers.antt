use Rattle.std.proofs.Common.{◌++◌, ◌∷◌, [], length, sym, subst}
use Rattle.table_model.specs.declared.message.Message.{Message}
use Rattle.net_network.specs.Packets.{HasSent}
use Rattle.net_steps.proofs.InTurn.{line_added, len_is}
use Rattle.net_steps.proofs.world.World.hand_part.Goals as goal

pub returns-clause-sent : goal.returns-clause-sent
returns-clause-sent g c v sent h k = record {
  sent = subst (λ (m : Message). HasSent c.send_part.new.self v.packets (sent ++ record { from = c.args.from; to = c.args.to; message = m } ∷ [])) (sym k.2)
      (c.in_default-send_part.ensures.sent v.packets sent k.0 h.sent k.1 k.3 (len_is v.packets c.args.packet c.args.token c.args.message.now k c.in-Some.len (c.in-Some.ensures v h.wire)));
  lines = line_added c.args.lines.now c.push.new.self c.sent-number.result (length sent) c.args.from c.args.to c.name.result c.args.message.now c.in_ok-push.ensures.ok
      (c.sent-number.ensures v.packets sent h.sent) c.name.ensures;
}
