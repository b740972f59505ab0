use Rattle.std.proofs.Common.{Err, refl, sym, ◌∙◌}
use Rattle.std.proofs.lemmas.Result.{err_from_is_err_and}
use Rattle.client_journal.specs.Standing.{devs, writes_of}
use Rattle.client_node.specs.declared.fault.CallFault.TheVariants as call
use Rattle.client_node.proofs.Answering.{of_err}
use Rattle.client_node.proofs.Passed.{all_passed, passed_wait}
use Rattle.client_node.proofs.PreparedWrites.{write_prepares}
use Rattle.client_node.proofs.Serving.{looks_none}
use Rattle.client_node.proofs.WriteRefusals.{fit_not_disk, write_misfits, write_waits, write_in_phase, write_in_conflict}
use Rattle.client_node.proofs.preparing.prepare.Goals as goal

pub returns-in_err-fits-clause-looks : goal.returns-in_err-fits-clause-looks
returns-in_err-fits-clause-looks g c =
    let p = err_from_is_err_and c.from_residual.result c.from_residual.ensures.1 in
    rw (p.1, p.2) (looks_none g.D.Disk.state g.D.Disk.images g.met.D.Disk.only_now c.args.devs.now c.requires.up c.requires.ready _
    (λ no. fit_not_disk c.in_err-fits.field-0.0 (of_err _ call.Disk no)))

pub returns-in_err-fits-clause-prepares : goal.returns-in_err-fits-clause-prepares
returns-in_err-fits-clause-prepares g c phase is_open =
    let p = err_from_is_err_and c.from_residual.result c.from_residual.ensures.1 in
    rw (p.1, p.2) (write_misfits g.D.Disk.state c.args.devs.now c.args.waiting.now phase c.args.gate.is_linked c.args.client c.args.at.now.table c.args.at.now.row c.args.at.now.opened c.requires.opened.opened c.args.content
    c.in_err-fits.field-0.0 _ refl (sym c.fits.ensures ∙ c.in_err-fits.was))

pub returns-in_err-check_idle-clause-looks : goal.returns-in_err-check_idle-clause-looks
returns-in_err-check_idle-clause-looks g c =
    let p = err_from_is_err_and c.from_residual-in_err-check_idle.result c.from_residual-in_err-check_idle.ensures.1 in
    let is = c.in_err-check_idle.ensures.busy.1 in
    rw (p.1, p.2, is) (looks_none g.D.Disk.state g.D.Disk.images g.met.D.Disk.only_now c.args.devs.now c.requires.up c.requires.ready _ (λ no. cc))

pub returns-in_err-check_idle-clause-prepares : goal.returns-in_err-check_idle-clause-prepares
returns-in_err-check_idle-clause-prepares g c phase is_open =
    let p = err_from_is_err_and c.from_residual-in_err-check_idle.result c.from_residual-in_err-check_idle.ensures.1 in
    let b = c.in_err-check_idle.ensures.busy in
    rw (p.1, p.2) (write_waits g.D.Disk.state c.args.devs.now c.args.waiting.now phase c.args.gate.is_linked c.args.client c.args.at.now.table c.args.at.now.row c.args.at.now.opened c.requires.opened.opened c.args.content
    c.in_err-check_idle.field-0.0 (sym c.fits.ensures ∙ c.in_ok-fits.was) b.0 b.1)

pub returns-in_err-check_closed-clause-looks : goal.returns-in_err-check_closed-clause-looks
returns-in_err-check_closed-clause-looks g c =
    let p = err_from_is_err_and c.from_residual-in_err-check_closed.result c.from_residual-in_err-check_closed.ensures.1 in
    let is = c.in_err-check_closed.ensures.open.1 in
    rw (p.1, p.2, is) (looks_none g.D.Disk.state g.D.Disk.images g.met.D.Disk.only_now c.args.devs.now c.requires.up c.requires.ready _ (λ no. cc))

pub returns-in_err-check_closed-clause-prepares : goal.returns-in_err-check_closed-clause-prepares
returns-in_err-check_closed-clause-prepares g c phase is_open =
    let p = err_from_is_err_and c.from_residual-in_err-check_closed.result c.from_residual-in_err-check_closed.ensures.1 in
    let b = c.in_err-check_closed.ensures.open in
    rw (p.1, p.2) (write_in_phase g.D.Disk.state c.args.devs.now c.args.waiting.now phase c.args.gate.is_linked c.args.client c.args.at.now.table c.args.at.now.row c.args.at.now.opened c.requires.opened.opened c.args.content
    c.in_err-check_closed.field-0.0 (sym c.fits.ensures ∙ c.in_ok-fits.was) c.in_ok-check_idle.ensures.idle (is_open ∙ b.0) b.1)

pub returns-in_err-check_calm-clause-looks : goal.returns-in_err-check_calm-clause-looks
returns-in_err-check_calm-clause-looks g c =
    let p = err_from_is_err_and c.from_residual-in_err-check_calm.result c.from_residual-in_err-check_calm.ensures.1 in
    let is = c.in_err-check_calm.ensures.conflict.2 in
    rw (p.1, p.2, is) (looks_none g.D.Disk.state g.D.Disk.images g.met.D.Disk.only_now c.args.devs.now c.requires.up c.requires.ready _ (λ no. cc))

pub returns-in_err-check_calm-clause-prepares : goal.returns-in_err-check_calm-clause-prepares
returns-in_err-check_calm-clause-prepares g c phase is_open =
    let p = err_from_is_err_and c.from_residual-in_err-check_calm.result c.from_residual-in_err-check_calm.ensures.1 in
    let b = c.in_err-check_calm.ensures.conflict in
    let at = c.args.at.now in
    let is = c.requires.opened in
    rw (p.1, p.2) (write_in_conflict g.D.Disk.state c.args.devs.now c.args.waiting.now phase c.args.gate.is_linked c.args.client at.table at.row at.opened is.opened c.args.content
    (sym c.fits.ensures ∙ c.in_ok-fits.was) c.in_ok-check_idle.ensures.idle (is_open ∙ c.in_ok-check_closed.ensures.closed) at.slots is.slots c.in_err-check_calm.field-0.0 b.0 b.1 b.2)

pub prepare_by-requires-clause-idle : goal.prepare_by-requires-clause-idle
prepare_by-requires-clause-idle g c = c.requires.idle c.in_ok-check_idle.ensures.idle

pub prepare_by-requires-clause-fits : goal.prepare_by-requires-clause-fits
prepare_by-requires-clause-fits g c = sym c.fits.ensures ∙ c.in_ok-fits.was

pub returns-clause-prepares : goal.returns-clause-prepares
returns-clause-prepares g c phase is_open =
    write_prepares g.D.Disk.state c.args.devs.now c.args.waiting.now phase c.args.gate.is_linked c.args.client c.args.at.now c.requires.opened c.requires.spelled c.args.content
    (sym c.fits.ensures ∙ c.in_ok-fits.was) c.in_ok-check_idle.ensures.idle (is_open ∙ c.in_ok-check_closed.ensures.closed) c.in_ok-check_calm.ensures.calm c.prepare_by.result c.prepare_by.ensures.write
    c.prepare_by.ensures.refused

pub returns-clause-stale : goal.returns-clause-stale
returns-clause-stale g c passed =
    all_passed (devs g.D.Disk.state c.args.devs.now) (writes_of c.args.devs.now) c.args.at.now.table c.prepare_by.new.stale.items c.in_ok-check_idle.ensures.idle
    (c.prepare_by.ensures.stale (passed_wait (devs g.D.Disk.state c.args.devs.now) (writes_of c.args.devs.now) c.args.at.now.table c.args.stale.now.items passed))
