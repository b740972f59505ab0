use Rattle.std.proofs.Common.{Ok, Err}
use Rattle.std.proofs.lemmas.Result.{err_from_is_err_and}
use Rattle.client_node.specs.declared.fault.CallFault.TheVariants as call
use Rattle.client_node.proofs.AskedAgain.{ok_not}
use Rattle.client_node.proofs.Contended.{no_pairs, all_pairs, one_pair}
use Rattle.client_node.proofs.Serving.{looks_err, looks_other, looks_then}
use Rattle.client_node.proofs.calls.listing.pairs_of.Goals as goal

pub loop-row-init : goal.loop-row-init
loop-row-init g c = no_pairs g.D.Disk.state g.D.Disk.images g.met.D.Disk.only_now c.args.devs.now c.requires.up c.requires.ready c.args.table c.args.rows.now c.args.calm.now.items c.new-pairs.result.items c.new-pairs.ensures.items

pub row_slots-requires-clause-up : goal.row_slots-requires-clause-up
row_slots-requires-clause-up g c = c.loop-row.invariant.looks.serves.up (λ no. cc)

pub row_slots-requires-clause-ready : goal.row_slots-requires-clause-ready
row_slots-requires-clause-ready g c = c.loop-row.invariant.looks.serves.ready (λ no. cc)

pub returns-in_err-slots-clause-looks : goal.returns-in_err-slots-clause-looks
returns-in_err-slots-clause-looks g c =
    let s = g.D.Disk.state in
    let im = g.D.Disk.images in
    let mid = c.loop-row.devs in
    let l = c.loop-row.invariant.looks in
    let p = err_from_is_err_and c.from_residual.result c.from_residual.ensures.1 in
    rw (p.1, p.2) (looks_then s im c.args.devs.now c.row_slots.new.devs c.requires.up c.requires.ready mid tt (Err c.in_err-slots.field-0.0) l
    (looks_err s im mid c.row_slots.new.devs (l.serves.up (λ is. cc)) (l.serves.ready (λ is. cc)) c.in_err-slots.field-0.0 c.in_err-slots.ensures.looks))

pub returns-in_err-add_pair-clause-looks : goal.returns-in_err-add_pair-clause-looks
returns-in_err-add_pair-clause-looks g c =
    let s = g.D.Disk.state in
    let im = g.D.Disk.images in
    let p = err_from_is_err_and c.from_residual-in_err-add_pair.result c.from_residual-in_err-add_pair.ensures.1 in
    rw (p.1, p.2) (looks_other s im c.args.devs.now c.row_slots.new.devs c.requires.up c.requires.ready c.in_ok-slots.slots (Err call.Memory)
    (looks_then s im c.args.devs.now c.row_slots.new.devs c.requires.up c.requires.ready c.loop-row.devs tt (Ok c.in_ok-slots.slots) c.loop-row.invariant.looks c.in_ok-slots.ensures.looks) (λ no. cc))

pub returns-in_err-add_calm-clause-looks : goal.returns-in_err-add_calm-clause-looks
returns-in_err-add_calm-clause-looks g c =
    let s = g.D.Disk.state in
    let im = g.D.Disk.images in
    let p = err_from_is_err_and c.from_residual-in_err-add_calm.result c.from_residual-in_err-add_calm.ensures.1 in
    rw (p.1, p.2) (looks_other s im c.args.devs.now c.row_slots.new.devs c.requires.up c.requires.ready c.in_ok-slots.slots (Err call.Memory)
    (looks_then s im c.args.devs.now c.row_slots.new.devs c.requires.up c.requires.ready c.loop-row.devs tt (Ok c.in_ok-slots.slots) c.loop-row.invariant.looks c.in_ok-slots.ensures.looks) (λ no. cc))

pub loop-row-preserved : goal.loop-row-preserved
loop-row-preserved g c =
    one_pair g.D.Disk.state g.D.Disk.images g.met.D.Disk.only_now c.args.devs.now c.requires.up c.requires.ready c.args.table c.args.rows.now c.args.calm.now.items c.loop-row.devs c.loop-row.row-index c.loop-row.pairs.items c.loop-row.calm.items c.loop-row.invariant
    c.row_slots.new.devs c.row-item.result c.row-item.result c.loop-row-test.true c.row-item.is c.in_ok-slots.slots c.in_ok-slots.ensures.looks c.in_ok-slots.ensures.slots c.add_pair.new.pairs.items c.in_ok-add_pair.ensures c.add_calm.new.calm.items c.in_ok-add_calm.ensures

pub returns-clause-looks : goal.returns-clause-looks
returns-clause-looks g c = looks_other g.D.Disk.state g.D.Disk.images c.args.devs.now c.loop-row.devs c.requires.up c.requires.ready tt (Ok c.loop-row.pairs) c.loop-row.invariant.looks (λ no. cc)

pub returns-clause-pairs : goal.returns-clause-pairs
returns-clause-pairs g c = all_pairs g.D.Disk.state g.D.Disk.images g.met.D.Disk.only_now c.args.devs.now c.requires.up c.requires.ready c.args.table c.args.rows.now c.args.calm.now.items c.loop-row.devs c.loop-row.row-index c.loop-row.pairs.items c.loop-row.calm.items c.loop-row.invariant c.loop-row-test.false

pub returns-clause-calm : goal.returns-clause-calm
returns-clause-calm g c = c.loop-row.invariant.none
