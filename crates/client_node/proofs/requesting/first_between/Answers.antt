use Rattle.std.proofs.Common.{Some, Ok, Err, sym, ◌∙◌}
use Rattle.std.proofs.lemmas.Result.{err_from_is_err_and}
use Rattle.client_node.specs.declared.fault.CallFault.TheVariants as call
use Rattle.client_node.proofs.Serving.{looks_err, looks_other, looks_then}
use Rattle.client_node.proofs.AskedAgain.{ok_not, nothing_passed, one_passed}
use Rattle.client_node.proofs.requesting.first_between.Goals as goal

pub loop-key-init : goal.loop-key-init
loop-key-init g c = nothing_passed g.D.Disk.state g.D.Disk.images g.met.D.Disk.only_now c.args.devs.now c.requires.up c.requires.ready c.args.table c.into_iter-key-iterator.result c.args.stale.now.items

pub returns-in_err-slots-clause-looks : goal.returns-in_err-slots-clause-looks
returns-in_err-slots-clause-looks g c =
    let s = g.D.Disk.state in
    let im = g.D.Disk.images in
    let mid = c.loop-key.devs in
    let l = c.loop-key.invariant.looks in
    let p = err_from_is_err_and c.from_residual.result c.from_residual.ensures.1 in
    rw (p.1, p.2) (looks_then s im c.args.devs.now c.row_slots.new.devs c.requires.up c.requires.ready mid tt (Err c.in_err-slots.field-0.0) l
    (looks_err s im mid c.row_slots.new.devs (l.serves.up (λ is. cc)) (l.serves.ready (λ is. cc)) c.in_err-slots.field-0.0 c.in_err-slots.ensures.looks))

pub returns-then-can_send-clause-looks : goal.returns-then-can_send-clause-looks
returns-then-can_send-clause-looks g c =
    let s = g.D.Disk.state in
    let im = g.D.Disk.images in
    let found = Some (c.in-Some.key.now.row, c.in_ok-slots.slots) in
    looks_other s im c.args.devs.now c.row_slots.new.devs c.requires.up c.requires.ready c.in_ok-slots.slots (Ok found)
    (looks_then s im c.args.devs.now c.row_slots.new.devs c.requires.up c.requires.ready c.loop-key.devs tt (Ok c.in_ok-slots.slots) c.loop-key.invariant.looks c.in_ok-slots.ensures.looks) (ok_not found)

pub returns-in_err-push-clause-looks : goal.returns-in_err-push-clause-looks
returns-in_err-push-clause-looks g c =
    let s = g.D.Disk.state in
    let im = g.D.Disk.images in
    let p = err_from_is_err_and c.from_residual-in_err-push.result c.from_residual-in_err-push.ensures.1 in
    rw (p.1, p.2) (looks_other s im c.args.devs.now c.row_slots.new.devs c.requires.up c.requires.ready c.in_ok-slots.slots (Err call.Memory)
    (looks_then s im c.args.devs.now c.row_slots.new.devs c.requires.up c.requires.ready c.loop-key.devs tt (Ok c.in_ok-slots.slots) c.loop-key.invariant.looks c.in_ok-slots.ensures.looks) (λ no. cc))

pub loop-key-preserved-in_ok-push : goal.loop-key-preserved-in_ok-push
loop-key-preserved-in_ok-push g c =
    one_passed g.D.Disk.state g.D.Disk.images g.met.D.Disk.only_now c.args.devs.now c.requires.up c.requires.ready c.args.table c.into_iter-key-iterator.result c.loop-key.devs c.loop-key.key-iterator c.in-Some.key.now c.next.new.self c.args.stale.now.items c.loop-key.stale.items
    c.loop-key.invariant c.in-Some.ensures.steps c.if-key-table.true c.row_slots.new.devs c.in_ok-slots.slots c.in_ok-slots.ensures.looks c.in_ok-slots.ensures.slots (sym c.can_send.ensures ∙ c.if-can_send.false) c.push.new.self.items c.in_ok-push.ensures.items

pub loop-key-preserved-in_ok-push-2 : goal.loop-key-preserved-in_ok-push-2
loop-key-preserved-in_ok-push-2 g c =
    one_passed g.D.Disk.state g.D.Disk.images g.met.D.Disk.only_now c.args.devs.now c.requires.up c.requires.ready c.args.table c.into_iter-key-iterator.result c.loop-key.devs c.loop-key.key-iterator c.in-Some.key.now c.next.new.self c.args.stale.now.items c.loop-key.stale.items
    c.loop-key.invariant c.in-Some.ensures.steps c.if-key-table.true c.row_slots.new.devs c.in_ok-slots.slots c.in_ok-slots.ensures.looks c.in_ok-slots.ensures.slots (sym c.can_send.ensures ∙ c.if-can_send.false) c.push.new.self.items c.in_ok-push.ensures.items

pub loop-key-preserved-in_ok-push-3 : goal.loop-key-preserved-in_ok-push-3
loop-key-preserved-in_ok-push-3 g c =
    one_passed g.D.Disk.state g.D.Disk.images g.met.D.Disk.only_now c.args.devs.now c.requires.up c.requires.ready c.args.table c.into_iter-key-iterator.result c.loop-key.devs c.loop-key.key-iterator c.in-Some.key.now c.next.new.self c.args.stale.now.items c.loop-key.stale.items
    c.loop-key.invariant c.in-Some.ensures.steps c.if-key-table.true c.row_slots.new.devs c.in_ok-slots.slots c.in_ok-slots.ensures.looks c.in_ok-slots.ensures.slots (sym c.can_send.ensures ∙ c.if-can_send.false) c.push.new.self.items c.in_ok-push.ensures.items
