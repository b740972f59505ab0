use Rattle.std.proofs.Common.{⊎_elim, inl, inr, ap}
use Rattle.std.specs.Prelude.{is_some, not}
use Rattle.std.proofs.lemmas.Result.{err_from_is_err_and}
use Rattle.client_journal.specs.Standing.{devs}
use Rattle.client_node.specs.declared.fault.CallFault.TheVariants as call
use Rattle.client_node.specs.Answers.{record_at}
use Rattle.client_node.proofs.Phased.{not_disk, unphased, turned}
use Rattle.client_node.proofs.Syncs.{on_ok}
use Rattle.client_node.proofs.Serving.{looks_err, looks_other}
use Rattle.client_node.proofs.calls.phases.check_begin.Goals as goal

pub returns-in_err-_opened-clause-looks : goal.returns-in_err-_opened-clause-looks
returns-in_err-_opened-clause-looks g c =
    let p = err_from_is_err_and c.from_residual.result c.from_residual.ensures.1 in
    rw (p.1, p.2) (looks_err g.D.Disk.state g.D.Disk.images c.args.devs.now c.open_table.new.devs c.requires.up c.requires.ready c.in_err-_opened.field-0.0 c.in_err-_opened.ensures.looks)

pub returns-in_err-_opened-clause-refused : goal.returns-in_err-_opened-clause-refused
returns-in_err-_opened-clause-refused g c =
    let p = err_from_is_err_and c.from_residual.result c.from_residual.ensures.1 in
    rw (p.1, p.2) (⊎_elim (λ none. inl none) (λ fault. inr (inr fault)) c.in_err-_opened.ensures.refused)

pub returns-clause-looks : goal.returns-clause-looks
returns-clause-looks g c =
    looks_other g.D.Disk.state g.D.Disk.images c.args.devs.now c.open_table.new.devs c.requires.up c.requires.ready c.in_ok-_opened._opened c.check_closed.result c.in_ok-_opened.ensures.looks (not_disk call.InResolution (λ is. cc) _ c.check_closed.result c.check_closed.ensures.open)

pub returns-clause-opened : goal.returns-clause-opened
returns-clause-opened g c = on_ok c.check_closed.result (ap is_some c.in_ok-_opened.ensures.opened)

pub returns-clause-refused : goal.returns-clause-refused
returns-clause-refused g c =
    unphased (record_at (devs g.D.Disk.state c.args.devs.now) c.args.table) call.InResolution c.args.is_open (ap is_some c.in_ok-_opened.ensures.opened) c.check_closed.result c.check_closed.ensures.open
