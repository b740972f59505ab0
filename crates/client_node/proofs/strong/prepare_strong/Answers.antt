use Rattle.std.proofs.Common.{◌≡◌, ◌⊎◌, inl, inr, ⊎_elim, ℕ, List, Ok, Err, refl, sym, ◌∙◌, ap, subst}
use Rattle.std.specs.Prelude.{IsSome, is_some}
use Rattle.std.proofs.lemmas.Result.{err_from_is_err_and, IfOk-weaker}
use Rattle.client_journal.specs.Devs.{ClientDevs}
use Rattle.client_journal.specs.Standing.{devs}
use Rattle.client_node.specs.Preparing.{IsOpenedRow, IsStrongWrite, IsSpent}
use Rattle.client_node.specs.Readied.{IsIdle}
use Rattle.client_node.specs.Requesting.{IsFirstOut}
use Rattle.client_node.proofs.Serving.{looks_none, looks_err, looks_then}
use Rattle.client_node.proofs.Syncs.{table_small, on_ok}
use Rattle.client_node.proofs.PreparedWrites.{spent_unsent}
use Rattle.client_node.proofs.strong.prepare_strong.Goals as goal

pub returns-in_err-check_link-clause-looks : goal.returns-in_err-check_link-clause-looks
returns-in_err-check_link-clause-looks g c =
    let p = err_from_is_err_and c.from_residual.result c.from_residual.ensures.1 in
    let is = c.in_err-check_link.ensures.down.1 in
    rw (p.1, p.2, is) (looks_none g.D.Disk.state g.D.Disk.images g.met.D.Disk.only_now c.args.devs.now c.requires.up c.requires.ready _ (λ no. cc))

pub returns-in_err-check_link-clause-refused : goal.returns-in_err-check_link-clause-refused
returns-in_err-check_link-clause-refused g c =
    let p = err_from_is_err_and c.from_residual.result c.from_residual.ensures.1 in
    let b = c.in_err-check_link.ensures.down in
    rw (p.1, p.2) (inl (b.1, b.0))

pub check_none_waits-requires-clause-small : goal.check_none_waits-requires-clause-small
check_none_waits-requires-clause-small g c = table_small (devs g.D.Disk.state c.args.devs.now) c.args.client c.args.at.now.table c.requires.idle c.args.at.now.opened c.requires.opened.opened

pub returns-in_err-check_none_waits-clause-looks : goal.returns-in_err-check_none_waits-clause-looks
returns-in_err-check_none_waits-clause-looks g c =
    let p = err_from_is_err_and c.from_residual-in_err-check_none_waits.result c.from_residual-in_err-check_none_waits.ensures.1 in
    rw (p.1, p.2) (looks_err g.D.Disk.state g.D.Disk.images c.args.devs.now c.check_none_waits.new.devs c.requires.up c.requires.ready c.in_err-check_none_waits.field-0.0 c.in_err-check_none_waits.ensures.looks)

pub returns-in_err-check_none_waits-clause-refused : goal.returns-in_err-check_none_waits-clause-refused
returns-in_err-check_none_waits-clause-refused g c =
    let p = err_from_is_err_and c.from_residual-in_err-check_none_waits.result c.from_residual-in_err-check_none_waits.ensures.1 in
    rw (p.1, p.2) (⊎_elim (λ out. inr (inl (c.in_ok-check_link.ensures.up, out.0, out.1, out.2))) (λ fault. inr (inr (inr fault))) c.in_err-check_none_waits.ensures.refused)

pub prepare_sent-requires-clause-up : goal.prepare_sent-requires-clause-up
prepare_sent-requires-clause-up g c = c.in_ok-check_none_waits.ensures.looks.serves.up (λ is. cc)

pub prepare_sent-requires-clause-ready : goal.prepare_sent-requires-clause-ready
prepare_sent-requires-clause-ready g c = c.in_ok-check_none_waits.ensures.looks.serves.ready (λ is. cc)

pub prepare_sent-requires-clause-idle : goal.prepare_sent-requires-clause-idle
prepare_sent-requires-clause-idle g c = subst (λ (d : ClientDevs). IsIdle d c.args.client) (sym (c.in_ok-check_none_waits.ensures.looks.serves.same (λ is. cc))) c.requires.idle

pub prepare_sent-requires-clause-opened : goal.prepare_sent-requires-clause-opened
prepare_sent-requires-clause-opened g c =
    subst (λ (d : ClientDevs). IsOpenedRow d c.args.at.now.table c.args.at.now.row c.args.at.now) (sym (c.in_ok-check_none_waits.ensures.looks.serves.same (λ is. cc))) c.requires.opened

pub returns-clause-looks : goal.returns-clause-looks
returns-clause-looks g c =
    looks_then g.D.Disk.state g.D.Disk.images c.args.devs.now c.prepare_sent.new.devs c.requires.up c.requires.ready c.check_none_waits.new.devs tt c.prepare_sent.result c.in_ok-check_none_waits.ensures.looks
    c.prepare_sent.ensures.looks

pub returns-clause-linked : goal.returns-clause-linked
returns-clause-linked g c = on_ok c.prepare_sent.result c.in_ok-check_link.ensures.up

pub returns-clause-none : goal.returns-clause-none
returns-clause-none g c = on_ok c.prepare_sent.result c.in_ok-check_none_waits.ensures.none

pub returns-clause-write : goal.returns-clause-write
returns-clause-write g c =
    let same = c.in_ok-check_none_waits.ensures.looks.serves.same (λ is. cc) in
    IfOk-weaker c.prepare_sent.result _ (IsStrongWrite (devs g.D.Disk.state c.args.devs.now) c.args.client c.args.at.now c.args.content) (λ x w. subst (λ (d : ClientDevs). IsStrongWrite d c.args.client c.args.at.now c.args.content x) same w) c.prepare_sent.ensures.write

pub returns-clause-refused : goal.returns-clause-refused
returns-clause-refused g c =
    let same = c.in_ok-check_none_waits.ensures.looks.serves.same (λ is. cc) in
    spent_unsent _ _ same c.args.outs.now c.args.is_linked c.args.at.now.table c.prepare_sent.result c.prepare_sent.ensures.refused

pub returns-in_err-check_none_waits-clause-stale : goal.returns-in_err-check_none_waits-clause-stale
returns-in_err-check_none_waits-clause-stale g c = c.in_err-check_none_waits.ensures.stale

pub returns-clause-stale : goal.returns-clause-stale
returns-clause-stale g c = c.in_ok-check_none_waits.ensures.stale
