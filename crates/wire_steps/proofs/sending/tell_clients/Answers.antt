use Rattle.std.proofs.Common.{List, sym, ◌∙◌, ap, subst}
use Rattle.std.proofs.lemmas.List.{nil_from_length}
use Rattle.std.proofs.lemmas.Result.{err_from_is_err_and}
use Rattle.journal_host.specs.declared.out.ClientOut.{ClientOut}
use Rattle.journal_host.specs.Holds.{outbox_of, outs_in}
use Rattle.world_tables.specs.World.{Outbox, owner_of}
use Rattle.wire_steps.specs.Sending.{AllOutsSent}
use Rattle.wire_steps.proofs.Sent.{TellsOn, tells_next, tells_all, tells_over}
use Rattle.wire_steps.proofs.sending.tell_clients.Goals as goal

pub loop-out-preserved : goal.loop-out-preserved
loop-out-preserved g c =
    let inv = c.loop-out.invariant in
    record {
      sent = (
        inv.sent.0,
        inv.sent.1,
        (subst (AllOutsSent inv.sent.0) (ap (λ (items : List ClientOut). outs_in (owner_of inv.sent.0) items) c.in-Some.ensures.steps.0) inv.sent.2).1,
      );
      told = λ w ps held h.
          let all = outs_in (owner_of w) c.args.outs in
          let rest = outs_in (owner_of w) c.next.new.self.rest.items in
          let is = ap (λ (items : List ClientOut). outs_in (owner_of w) items) c.in-Some.ensures.steps.0 in
          let s = subst (λ (l : List Outbox). TellsOn w ps all l c.loop-out.network c.args.lines.now c.loop-out.lines) is (inv.told w ps held h) in
          tells_next w ps all c.args.lines.now (outbox_of (owner_of w) c.in-Some.out) rest c.loop-out.network c.tell_client_move.new.network c.loop-out.lines c.tell_client_move.new.lines s
          (c.in_ok-tell_client_move.ensures.told w s.qs held s.packets);
    }

pub returns-in_err-tell_client_move-clause-over : goal.returns-in_err-tell_client_move-clause-over
returns-in_err-tell_client_move-clause-over g c w ps held h =
    let all = outs_in (owner_of w) c.args.outs in
    let is = ap (λ (items : List ClientOut). outs_in (owner_of w) items) c.in-Some.ensures.steps.0 in
    let s = subst (λ (l : List Outbox). TellsOn w ps all l c.loop-out.network c.args.lines.now c.loop-out.lines) is (c.loop-out.invariant.told w ps held h) in
    let p = err_from_is_err_and c.from_residual.result c.from_residual.ensures.1 in
    rw (p.1, p.2) (tells_over w ps all c.args.lines.now (outbox_of (owner_of w) c.in-Some.out) (outs_in (owner_of w) c.next.new.self.rest.items) c.loop-out.network c.loop-out.lines s
    c.in_err-tell_client_move.field-0.0 (c.in_err-tell_client_move.ensures.over w s.qs held s.packets))

pub returns-clause-told : goal.returns-clause-told
returns-clause-told g c w ps held h =
    let all = outs_in (owner_of w) c.args.outs in
    tells_all w ps all c.args.lines.now c.loop-out.network c.loop-out.lines
    (subst (λ (items : List ClientOut). TellsOn w ps all (outs_in (owner_of w) items) c.loop-out.network c.args.lines.now c.loop-out.lines)
    (nil_from_length _ (sym c.loop-out.out-iterator.rest.ok.0 ∙ c.in-None.ensures.steps.0)) (c.loop-out.invariant.told w ps held h))
