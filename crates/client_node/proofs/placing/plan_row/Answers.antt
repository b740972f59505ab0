use Rattle.std.proofs.Common.{map, Ok, Err, refl, sym, subst}
use Rattle.std.proofs.lemmas.Result.{err_from_is_err_and}
use Rattle.client_journal.specs.Devs.{ClientDevs}
use Rattle.client_journal.specs.Standing.{devs}
use Rattle.step_tables.specs.Travels.{send_of}
use Rattle.client_node.specs.declared.fault.CallFault.TheVariants as call
use Rattle.client_node.specs.Placing.{IsRowThere}
use Rattle.client_node.proofs.Serving.{looks_err, looks_other, looks_then}
use Rattle.client_node.proofs.RowsTaken.{chunk_some, of_each, plans_found}
use Rattle.client_node.proofs.placing.plan_row.Goals as goal

pub returns-in_err-last-clause-looks : goal.returns-in_err-last-clause-looks
returns-in_err-last-clause-looks g c =
    let p = err_from_is_err_and c.from_residual.result c.from_residual.ensures.1 in
    rw (p.1, p.2) (looks_err g.D.Disk.state g.D.Disk.images c.args.devs.now c.last_write.new.devs c.requires.up c.requires.ready c.in_err-last.field-0.0 c.in_err-last.ensures.looks)

pub hold_row-requires-clause-up : goal.hold_row-requires-clause-up
hold_row-requires-clause-up g c = c.in_ok-last.ensures.looks.serves.up (λ is. cc)

pub hold_row-requires-clause-ready : goal.hold_row-requires-clause-ready
hold_row-requires-clause-ready g c = c.in_ok-last.ensures.looks.serves.ready (λ is. cc)

pub hold_row-requires-clause-size : goal.hold_row-requires-clause-size
hold_row-requires-clause-size g c = chunk_some (devs g.D.Disk.state c.args.devs.now) c.args.client c.requires.idle c.args.table c.args.opened.now c.requires.opened

pub hold_row-requires-clause-fit : goal.hold_row-requires-clause-fit
hold_row-requires-clause-fit g c = record { schema = c.args.opened.now.schema; chunk = refl; fit = c.requires.whole.fits }

pub hold_row-requires-clause-named : goal.hold_row-requires-clause-named
hold_row-requires-clause-named g c = of_each c.args.opened.now.schema.chunk c.args.header.now.content c.args.header.now.names c.requires.whole.named

pub returns-in_err-held-clause-looks : goal.returns-in_err-held-clause-looks
returns-in_err-held-clause-looks g c =
    let s = g.D.Disk.state in
    let im = g.D.Disk.images in
    let mid = c.last_write.new.devs in
    let l = c.in_ok-last.ensures.looks in
    let p = err_from_is_err_and c.from_residual-in_err-held.result c.from_residual-in_err-held.ensures.1 in
    rw (p.1, p.2) (looks_then s im c.args.devs.now c.hold_row.new.devs c.requires.up c.requires.ready mid c.in_ok-last.last (Err c.in_err-held.field-0.0) l
    (looks_err s im mid c.hold_row.new.devs (l.serves.up (λ is. cc)) (l.serves.ready (λ is. cc)) c.in_err-held.field-0.0 c.in_err-held.ensures.looks))

pub returns-in_err-made-clause-looks : goal.returns-in_err-made-clause-looks
returns-in_err-made-clause-looks g c =
    let s = g.D.Disk.state in
    let im = g.D.Disk.images in
    let p = err_from_is_err_and c.from_residual-in_err-made.result c.from_residual-in_err-made.ensures.1 in
    rw (p.1, p.2) (looks_other s im c.args.devs.now c.hold_row.new.devs c.requires.up c.requires.ready c.in_ok-held.held (Err call.Memory) (looks_then s im c.args.devs.now c.hold_row.new.devs c.requires.up c.requires.ready c.last_write.new.devs c.in_ok-last.last (Ok c.in_ok-held.held) c.in_ok-last.ensures.looks c.in_ok-held.ensures.looks) (λ no. cc))

pub returns-in_err-found-clause-looks : goal.returns-in_err-found-clause-looks
returns-in_err-found-clause-looks g c =
    let s = g.D.Disk.state in
    let im = g.D.Disk.images in
    let p = err_from_is_err_and c.from_residual-in_err-found.result c.from_residual-in_err-found.ensures.1 in
    rw (p.1, p.2) (looks_other s im c.args.devs.now c.hold_row.new.devs c.requires.up c.requires.ready c.in_ok-held.held (Err call.Memory) (looks_then s im c.args.devs.now c.hold_row.new.devs c.requires.up c.requires.ready c.last_write.new.devs c.in_ok-last.last (Ok c.in_ok-held.held) c.in_ok-last.ensures.looks c.in_ok-held.ensures.looks) (λ no. cc))

pub returns-clause-looks : goal.returns-clause-looks
returns-clause-looks g c =
    let s = g.D.Disk.state in
    let im = g.D.Disk.images in
    looks_other s im c.args.devs.now c.hold_row.new.devs c.requires.up c.requires.ready c.in_ok-held.held (Ok c.in_ok-found.found) (looks_then s im c.args.devs.now c.hold_row.new.devs c.requires.up c.requires.ready c.last_write.new.devs c.in_ok-last.last (Ok c.in_ok-held.held) c.in_ok-last.ensures.looks c.in_ok-held.ensures.looks) (λ no. cc)

pub returns-clause-plans : goal.returns-clause-plans
returns-clause-plans g c =
    let s = g.D.Disk.state in
    let d = devs s c.args.devs.now in
    let same = c.in_ok-last.ensures.looks.serves.same (λ is. cc) in
    plans_found d c.args.client c.args.table c.args.opened.now c.requires.opened c.args.header.now c.args.slots.now c.requires.held c.requires.whole.fits c.requires.newer c.in_ok-last.last c.in_ok-last.ensures.last c.in_ok-held.held
    (λ meaning there. c.in_ok-held.ensures.holds meaning (subst (λ (x : ClientDevs). IsRowThere meaning x c.args.slots.now) (sym same) there)) c.in_ok-held.ensures.words c.in_ok-held.ensures.spelled c.of_64_bits-version.result c.of_64_bits-version.ensures.same c.of_64_bits-version.ensures.few c.yours_in-yours.result c.yours_in-yours.ensures.same c.yours_in-yours.ensures.few
    c.in_ok-made.made c.in_ok-made.ensures c.in_ok-found.ensures.len c.args.position c.requires.few c.in_ok-found.ensures.known (map send_of c.args.messages.items) c.in_ok-found.found c.in_ok-found.ensures.none c.in_ok-found.ensures.some
