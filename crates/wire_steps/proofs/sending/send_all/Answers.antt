use Rattle.std.proofs.Common.{List, Option, sym, ◌∙◌, subst}
use Rattle.std.proofs.lemmas.List.{nil_from_length}
use Rattle.std.proofs.lemmas.Result.{err_from_is_err_and}
use Rattle.stab_base.specs.declared.node.Node.{Node}
use Rattle.step_tables.specs.declared.message.Message.{Message}
use Rattle.world_tables.specs.World.{Packet}
use Rattle.node_steps.specs.Fits.{packet_with}
use Rattle.wire_steps.specs.Sending.{packets_by, AllSent}
use Rattle.wire_steps.proofs.Sent.{SendsOn, next_packet, sends_next, sends_all, sends_over}
use Rattle.wire_steps.proofs.sending.send_all.Goals as goal

pub loop-to-preserved : goal.loop-to-preserved
loop-to-preserved g c =
    let inv = c.loop-to.invariant in
    let packet = packet_with c.args.from c.address-to.result c.in-Some.message in
    let rest = c.next.new.self.rest.items in
    let first = next_packet inv.sent.0 c.args.from c.address-to.result c.loop-to.to-iterator.rest.items c.in-Some.to c.in-Some.message rest c.in-Some.ensures.steps.0
    (c.address-to.ensures inv.sent.0 inv.sent.1.held) in
    record {
      sent = (inv.sent.0, inv.sent.1, (subst (AllSent inv.sent.0) first inv.sent.2).1);
      told = λ w ps held h.
          let all = packets_by w c.args.from c.args.messages in
          let is = next_packet w c.args.from c.address-to.result c.loop-to.to-iterator.rest.items c.in-Some.to c.in-Some.message rest c.in-Some.ensures.steps.0 (c.address-to.ensures w held) in
          let s = subst (λ (l : List Packet). SendsOn w ps all l c.loop-to.network c.args.lines.now c.loop-to.lines) is (inv.told w ps held h) in
          sends_next w ps all c.args.lines.now packet (packets_by w c.args.from rest) c.loop-to.network c.send.new.network c.loop-to.lines c.send.new.lines s
          (c.in_ok-send.ensures.sent w s.qs held s.packets);
    }

pub returns-in_err-send-clause-over : goal.returns-in_err-send-clause-over
returns-in_err-send-clause-over g c w ps held h =
    let all = packets_by w c.args.from c.args.messages in
    let packet = packet_with c.args.from c.address-to.result c.in-Some.message in
    let rest = c.next.new.self.rest.items in
    let is = next_packet w c.args.from c.address-to.result c.loop-to.to-iterator.rest.items c.in-Some.to c.in-Some.message rest c.in-Some.ensures.steps.0 (c.address-to.ensures w held) in
    let s = subst (λ (l : List Packet). SendsOn w ps all l c.loop-to.network c.args.lines.now c.loop-to.lines) is (c.loop-to.invariant.told w ps held h) in
    let p = err_from_is_err_and c.from_residual.result c.from_residual.ensures.1 in
    rw (p.1, p.2) (sends_over w ps all c.args.lines.now packet (packets_by w c.args.from rest) c.loop-to.network c.loop-to.lines s c.in_err-send.field-0.0
    (c.in_err-send.ensures.over w s.qs held s.packets))

pub returns-clause-sent : goal.returns-clause-sent
returns-clause-sent g c w ps held h =
    let all = packets_by w c.args.from c.args.messages in
    sends_all w ps all c.args.lines.now c.loop-to.network c.loop-to.lines
    (subst (λ (items : List (Option Node × Message)). SendsOn w ps all (packets_by w c.args.from items) c.loop-to.network c.args.lines.now c.loop-to.lines)
    (nil_from_length _ (sym c.loop-to.to-iterator.rest.ok.0 ∙ c.in-None.ensures.steps.0)) (c.loop-to.invariant.told w ps held h))
