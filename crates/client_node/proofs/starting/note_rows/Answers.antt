use Rattle.std.proofs.Common.{Ok, Err}
use Rattle.std.proofs.lemmas.Result.{err_from_is_err_and}
use Rattle.client_node.proofs.AskedAgain.{ok_not}
use Rattle.client_node.proofs.NotedAtStart.{more_then, nothing_noted, one_noted, all_noted}
use Rattle.client_node.proofs.Serving.{looks_err, looks_other, looks_then}
use Rattle.client_node.proofs.starting.note_rows.Goals as goal

pub loop-row-init : goal.loop-row-init
loop-row-init g c = nothing_noted g.D.Disk.state g.D.Disk.images g.met.D.Disk.only_now c.args.devs.now c.requires.up c.requires.ready c.args.table c.args.rows.now c.args.waiting.now

pub note_held-requires-clause-up : goal.note_held-requires-clause-up
note_held-requires-clause-up g c = c.loop-row.invariant.looks.serves.up (λ no. cc)

pub note_held-requires-clause-ready : goal.note_held-requires-clause-ready
note_held-requires-clause-ready g c = c.loop-row.invariant.looks.serves.ready (λ no. cc)

pub returns-in_err-note_held-clause-looks : goal.returns-in_err-note_held-clause-looks
returns-in_err-note_held-clause-looks g c =
    let s = g.D.Disk.state in
    let im = g.D.Disk.images in
    let mid = c.loop-row.devs in
    let l = c.loop-row.invariant.looks in
    let p = err_from_is_err_and c.from_residual.result c.from_residual.ensures.1 in
    rw (p.1, p.2) (looks_then s im c.args.devs.now c.note_held.new.devs c.requires.up c.requires.ready mid tt (Err c.in_err-note_held.field-0.0) l
    (looks_err s im mid c.note_held.new.devs (l.serves.up (λ is. cc)) (l.serves.ready (λ is. cc)) c.in_err-note_held.field-0.0 c.in_err-note_held.ensures.looks))

pub returns-in_err-note_held-clause-more : goal.returns-in_err-note_held-clause-more
returns-in_err-note_held-clause-more g c = more_then c.args.waiting.now c.loop-row.waiting c.note_held.new.waiting c.loop-row.invariant.more c.in_err-note_held.ensures.more

pub loop-row-preserved : goal.loop-row-preserved
loop-row-preserved g c =
    one_noted g.D.Disk.state g.D.Disk.images g.met.D.Disk.only_now c.args.devs.now c.requires.up c.requires.ready c.args.table c.args.rows.now c.args.waiting.now c.loop-row.row-index c.loop-row.devs c.loop-row.waiting c.loop-row.invariant
    c.note_held.new.devs c.note_held.new.waiting c.row-item.result c.row-item.result c.loop-row-test.true c.row-item.is c.in_ok-note_held.ensures.looks c.in_ok-note_held.ensures.more c.in_ok-note_held.ensures.noted

pub returns-clause-looks : goal.returns-clause-looks
returns-clause-looks g c = looks_other g.D.Disk.state g.D.Disk.images c.args.devs.now c.loop-row.devs c.requires.up c.requires.ready tt (Ok tt) c.loop-row.invariant.looks (ok_not tt)

pub returns-clause-more : goal.returns-clause-more
returns-clause-more g c = c.loop-row.invariant.more

pub returns-clause-noted : goal.returns-clause-noted
returns-clause-noted g c =
    all_noted g.D.Disk.state g.D.Disk.images g.met.D.Disk.only_now c.args.devs.now c.requires.up c.requires.ready c.args.table c.args.rows.now c.args.waiting.now c.loop-row.row-index c.loop-row.devs c.loop-row.waiting c.loop-row.invariant c.loop-row-test.false
