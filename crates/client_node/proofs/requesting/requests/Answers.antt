use Rattle.std.proofs.Common.{Ok, Err}
use Rattle.std.proofs.lemmas.Result.{err_from_is_err_and}
use Rattle.client_node.proofs.Serving.{looks_err, looks_other, looks_then}
use Rattle.client_node.proofs.AskedAgain.{nothing_asked, one_asked, all_asked}
use Rattle.client_node.proofs.requesting.requests.Goals as goal

pub loop-row-init : goal.loop-row-init
loop-row-init g c = nothing_asked g.D.Disk.state g.D.Disk.images g.met.D.Disk.only_now c.args.devs.now c.requires.up c.requires.ready c.args.client c.args.table c.args.rows.now c.new-sends.result.items c.args.stale.now.items c.new-sends.ensures.items

pub add_request-requires-clause-up : goal.add_request-requires-clause-up
add_request-requires-clause-up g c = c.loop-row.invariant.looks.serves.up (λ no. cc)

pub add_request-requires-clause-ready : goal.add_request-requires-clause-ready
add_request-requires-clause-ready g c = c.loop-row.invariant.looks.serves.ready (λ no. cc)

pub returns-in_err-add_request-clause-looks : goal.returns-in_err-add_request-clause-looks
returns-in_err-add_request-clause-looks g c =
    let s = g.D.Disk.state in
    let im = g.D.Disk.images in
    let mid = c.loop-row.devs in
    let l = c.loop-row.invariant.looks in
    let p = err_from_is_err_and c.from_residual.result c.from_residual.ensures.1 in
    rw (p.1, p.2) (looks_then s im c.args.devs.now c.add_request.new.devs c.requires.up c.requires.ready mid tt (Err c.in_err-add_request.field-0.0) l
    (looks_err s im mid c.add_request.new.devs (l.serves.up (λ is. cc)) (l.serves.ready (λ is. cc)) c.in_err-add_request.field-0.0 c.in_err-add_request.ensures.looks))

pub loop-row-preserved : goal.loop-row-preserved
loop-row-preserved g c =
    one_asked g.D.Disk.state g.D.Disk.images g.met.D.Disk.only_now c.args.devs.now c.requires.up c.requires.ready c.args.client c.args.table c.args.rows.now c.loop-row.devs c.add_request.new.devs c.loop-row.row-index c.row-item.result c.row-item.result c.loop-row.sends.items c.add_request.new.sends.items
    c.args.stale.now.items c.loop-row.stale.items c.add_request.new.stale.items c.loop-row.invariant c.loop-row-test.true c.row-item.is c.in_ok-add_request.ensures.looks c.in_ok-add_request.ensures.adds c.in_ok-add_request.ensures.stale

pub returns-clause-looks : goal.returns-clause-looks
returns-clause-looks g c = looks_other g.D.Disk.state g.D.Disk.images c.args.devs.now c.loop-row.devs c.requires.up c.requires.ready tt (Ok c.loop-row.sends) c.loop-row.invariant.looks (λ no. cc)

pub returns-clause-sends : goal.returns-clause-sends
returns-clause-sends g c = all_asked g.D.Disk.state g.D.Disk.images g.met.D.Disk.only_now c.args.devs.now c.requires.up c.requires.ready c.args.client c.args.table c.args.rows.now c.loop-row.devs c.loop-row.row-index c.loop-row.sends.items c.args.stale.now.items c.loop-row.stale.items c.loop-row.invariant c.loop-row-test.false

pub returns-clause-stale : goal.returns-clause-stale
returns-clause-stale g c = c.loop-row.invariant.none
