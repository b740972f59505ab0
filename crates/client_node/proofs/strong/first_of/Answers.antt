use Rattle.std.proofs.Common.{List, ℕ, Some, None, Ok, Err, sym, ◌∙◌, subst}
use Rattle.std.proofs.lemmas.Result.{err_from_is_err_and}
use Rattle.client_journal.specs.Standing.{devs}
use Rattle.client_node.specs.Requesting.{NoneWaits}
use Rattle.client_node.specs.declared.fault.CallFault.TheVariants as call
use Rattle.client_node.proofs.AskedAgain.{ok_not}
use Rattle.client_node.proofs.Outstanding.{none_before, none_waits, no_out, one_more, one_waits}
use Rattle.client_node.proofs.Serving.{looks_err, looks_other, looks_then}
use Rattle.client_node.proofs.strong.first_of.Goals as goal

pub loop-row-init : goal.loop-row-init
loop-row-init g c = none_before g.D.Disk.state g.D.Disk.images g.met.D.Disk.only_now c.args.devs.now c.requires.up c.requires.ready c.args.table c.args.rows.now c.args.stale.now.items

pub row_slots-requires-clause-up : goal.row_slots-requires-clause-up
row_slots-requires-clause-up g c = c.loop-row.invariant.looks.serves.up (λ no. cc)

pub row_slots-requires-clause-ready : goal.row_slots-requires-clause-ready
row_slots-requires-clause-ready g c = c.loop-row.invariant.looks.serves.ready (λ no. cc)

pub returns-in_err-slots-clause-looks : goal.returns-in_err-slots-clause-looks
returns-in_err-slots-clause-looks g c =
    let s = g.D.Disk.state in
    let im = g.D.Disk.images in
    let mid = c.loop-row.devs in
    let l = c.loop-row.invariant.looks in
    let p = err_from_is_err_and c.from_residual.result c.from_residual.ensures.1 in
    rw (p.1, p.2) (looks_then s im c.args.devs.now c.row_slots.new.devs c.requires.up c.requires.ready mid tt (Err c.in_err-slots.field-0.0) l
    (looks_err s im mid c.row_slots.new.devs (l.serves.up (λ is. cc)) (l.serves.ready (λ is. cc)) c.in_err-slots.field-0.0 c.in_err-slots.ensures.looks))

pub returns-clause-looks : goal.returns-clause-looks
returns-clause-looks g c = looks_other g.D.Disk.state g.D.Disk.images c.args.devs.now c.loop-row.devs c.requires.up c.requires.ready tt (Ok None) c.loop-row.invariant.looks (λ no. cc)

pub returns-clause-found : goal.returns-clause-found
returns-clause-found g c = none_waits g.D.Disk.state g.D.Disk.images g.met.D.Disk.only_now c.args.devs.now c.requires.up c.requires.ready c.args.table c.args.rows.now c.args.stale.now.items c.loop-row.devs c.loop-row.row-index c.loop-row.stale.items c.loop-row.invariant c.loop-row-test.false

pub returns-in-Some-clause-looks : goal.returns-in-Some-clause-looks
returns-in-Some-clause-looks g c =
    let s = g.D.Disk.state in
    let im = g.D.Disk.images in
    looks_other s im c.args.devs.now c.row_slots.new.devs c.requires.up c.requires.ready c.in_ok-slots.slots (Ok (Some c.in-Some.out.number)) (looks_then s im c.args.devs.now c.row_slots.new.devs c.requires.up c.requires.ready c.loop-row.devs tt (Ok c.in_ok-slots.slots) c.loop-row.invariant.looks c.in_ok-slots.ensures.looks) (ok_not (Some c.in-Some.out.number))

pub returns-in-Some-clause-found : goal.returns-in-Some-clause-found
returns-in-Some-clause-found g c =
    one_waits g.D.Disk.state g.D.Disk.images g.met.D.Disk.only_now c.args.devs.now c.requires.up c.requires.ready c.args.table c.args.rows.now c.args.stale.now.items c.loop-row.devs c.loop-row.row-index c.loop-row.stale.items c.loop-row.invariant
    c.row_slots.new.devs c.row-item.result c.row-item.result c.loop-row-test.true c.row-item.is c.in_ok-slots.slots c.in_ok-slots.ensures.looks c.in_ok-slots.ensures.slots c.in-Some.out c.in-Some.is

pub loop-row-preserved : goal.loop-row-preserved
loop-row-preserved g c =
    one_more g.D.Disk.state g.D.Disk.images g.met.D.Disk.only_now c.args.devs.now c.requires.up c.requires.ready c.args.table c.args.rows.now c.args.stale.now.items c.loop-row.devs c.loop-row.row-index c.loop-row.stale.items c.loop-row.invariant
    c.row_slots.new.devs c.row-item.result c.row-item.result c.loop-row-test.true c.row-item.is c.in_ok-slots.slots c.in_ok-slots.ensures.looks c.in_ok-slots.ensures.slots (no_out c.in_ok-slots.slots.out c.in_default.not-Some) c.push.new.self.items c.in_ok-push.ensures.items

pub returns-in_err-slots-clause-stale : goal.returns-in_err-slots-clause-stale
returns-in_err-slots-clause-stale g c = c.loop-row.invariant.none

pub returns-in-Some-clause-stale : goal.returns-in-Some-clause-stale
returns-in-Some-clause-stale g c = c.loop-row.invariant.none

pub returns-in_err-push-clause-looks : goal.returns-in_err-push-clause-looks
returns-in_err-push-clause-looks g c =
    let s = g.D.Disk.state in
    let im = g.D.Disk.images in
    let p = err_from_is_err_and c.from_residual-in_err-push.result c.from_residual-in_err-push.ensures.1 in
    rw (p.1, p.2) (looks_other s im c.args.devs.now c.row_slots.new.devs c.requires.up c.requires.ready c.in_ok-slots.slots (Err call.Memory)
    (looks_then s im c.args.devs.now c.row_slots.new.devs c.requires.up c.requires.ready c.loop-row.devs tt (Ok c.in_ok-slots.slots) c.loop-row.invariant.looks c.in_ok-slots.ensures.looks) (λ no. cc))

pub returns-in_err-push-clause-stale : goal.returns-in_err-push-clause-stale
returns-in_err-push-clause-stale g c none = subst (NoneWaits (devs g.D.Disk.state c.args.devs.now) c.args.table) (sym c.in_err-push.ensures.items) (c.loop-row.invariant.none none)

pub returns-clause-stale : goal.returns-clause-stale
returns-clause-stale g c = c.loop-row.invariant.none
