use Rattle.std.proofs.Common.{Ok, Err}
use Rattle.std.proofs.lemmas.Result.{err_from_is_err_and}
use Rattle.client_node.specs.declared.fault.CallFault.TheVariants as call
use Rattle.client_node.proofs.AskedAgain.{ok_not}
use Rattle.client_node.proofs.NotedAtStart.{nothing_held, one_held, all_held}
use Rattle.client_node.proofs.Serving.{looks_none, looks_err, looks_other, looks_then}
use Rattle.client_node.proofs.starting.note_tables.Goals as goal

pub loop-table-init : goal.loop-table-init
loop-table-init g c = nothing_held g.D.Disk.state g.D.Disk.images g.met.D.Disk.only_now c.args.devs.now c.requires.up c.requires.ready c.args.rolled.now c.note_redone.new.waiting c.in_ok-note_redone.ensures

pub returns-in_err-note_redone-clause-looks : goal.returns-in_err-note_redone-clause-looks
returns-in_err-note_redone-clause-looks g c =
    let p = err_from_is_err_and c.from_residual.result c.from_residual.ensures.1 in
    rw (p.1, p.2) (looks_none g.D.Disk.state g.D.Disk.images g.met.D.Disk.only_now c.args.devs.now c.requires.up c.requires.ready (Err call.Memory) (λ no. cc))

pub note_table-requires-clause-up : goal.note_table-requires-clause-up
note_table-requires-clause-up g c = c.loop-table.invariant.looks.serves.up (λ no. cc)

pub note_table-requires-clause-ready : goal.note_table-requires-clause-ready
note_table-requires-clause-ready g c = c.loop-table.invariant.looks.serves.ready (λ no. cc)

pub returns-in_err-note_table-clause-looks : goal.returns-in_err-note_table-clause-looks
returns-in_err-note_table-clause-looks g c =
    let s = g.D.Disk.state in
    let im = g.D.Disk.images in
    let mid = c.loop-table.devs in
    let l = c.loop-table.invariant.looks in
    let p = err_from_is_err_and c.from_residual-in_err-note_table.result c.from_residual-in_err-note_table.ensures.1 in
    rw (p.1, p.2) (looks_then s im c.args.devs.now c.note_table.new.devs c.requires.up c.requires.ready mid tt (Err c.in_err-note_table.field-0.0) l
    (looks_err s im mid c.note_table.new.devs (l.serves.up (λ is. cc)) (l.serves.ready (λ is. cc)) c.in_err-note_table.field-0.0 c.in_err-note_table.ensures.looks))

pub loop-table-preserved : goal.loop-table-preserved
loop-table-preserved g c =
    one_held g.D.Disk.state g.D.Disk.images g.met.D.Disk.only_now c.args.devs.now c.requires.up c.requires.ready c.args.rolled.now c.loop-table.table c.loop-table.devs c.note_table.new.devs c.loop-table.waiting c.note_table.new.waiting c.loop-table.invariant
    c.in_ok-note_table.ensures.looks c.in_ok-note_table.ensures.more c.in_ok-note_table.ensures.noted

pub returns-clause-looks : goal.returns-clause-looks
returns-clause-looks g c = looks_other g.D.Disk.state g.D.Disk.images c.args.devs.now c.loop-table.devs c.requires.up c.requires.ready tt (Ok c.loop-table.waiting) c.loop-table.invariant.looks (ok_not c.loop-table.waiting)

pub returns-clause-each : goal.returns-clause-each
returns-clause-each g c = all_held g.D.Disk.state g.D.Disk.images g.met.D.Disk.only_now c.args.devs.now c.requires.up c.requires.ready c.args.rolled.now c.loop-table.table c.loop-table.devs c.loop-table.waiting c.loop-table.invariant c.loop-table-test.false

pub returns-clause-redone : goal.returns-clause-redone
returns-clause-redone g c = c.loop-table.invariant.again
