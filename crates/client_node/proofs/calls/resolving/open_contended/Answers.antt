use Rattle.std.proofs.Common.{◌≡◌, ⊎_elim, ℕ, List, sym, ◌∙◌, ap}
use Rattle.std.proofs.lemmas.Result.{err_from_is_err_and}
use Rattle.client_journal.specs.Devs.{ClientDevs, Write}
use Rattle.client_journal.specs.Plan.{plan_at_work}
use Rattle.client_journal.specs.Standing.{devs, writes_of}
use Rattle.client_node.specs.declared.fault.CallFault.TheVariants as call
use Rattle.client_node.proofs.PreparedResolves.{resolve_unopened, resolve_waits, resolve_outside}
use Rattle.client_node.proofs.Serving.{looks_err, looks_other}
use Rattle.client_node.proofs.WriteRefusals.{by_fault}
use Rattle.client_node.proofs.calls.resolving.open_contended.Goals as goal

pub returns-in_err-at-clause-looks : goal.returns-in_err-at-clause-looks
returns-in_err-at-clause-looks g c =
    let p = err_from_is_err_and c.from_residual.result c.from_residual.ensures.1 in
    rw (p.1, p.2) (looks_err g.D.Disk.state g.D.Disk.images c.args.devs.now c.open_row.new.devs c.requires.up c.requires.ready c.in_err-at.field-0.0 c.in_err-at.ensures.looks)

pub returns-in_err-at-clause-refused : goal.returns-in_err-at-clause-refused
returns-in_err-at-clause-refused g c =
    let p = err_from_is_err_and c.from_residual.result c.from_residual.ensures.1 in
    let e = c.in_err-at.field-0.0 in
    rw (p.1, p.2) (λ n waiting phase linked seen choice is_open. ⊎_elim
    (λ none. resolve_unopened g.D.Disk.state c.args.devs.now waiting phase linked n c.args.table c.args.row seen choice e none.0 none.1)
    (λ fault. by_fault g.D.Disk.state c.args.devs.now waiting phase linked n _ e fault) c.in_err-at.ensures.refused)

pub check_idle-requires-clause-up : goal.check_idle-requires-clause-up
check_idle-requires-clause-up g c = c.in_ok-at.ensures.looks.serves.up (λ is. cc)

pub check_idle-requires-clause-ready : goal.check_idle-requires-clause-ready
check_idle-requires-clause-ready g c = c.in_ok-at.ensures.looks.serves.ready (λ is. cc)

pub returns-in_err-check_idle-clause-looks : goal.returns-in_err-check_idle-clause-looks
returns-in_err-check_idle-clause-looks g c =
    let p = err_from_is_err_and c.from_residual-in_err-check_idle.result c.from_residual-in_err-check_idle.ensures.1 in
    let is = c.in_err-check_idle.ensures.busy.1 in
    rw (p.1, p.2, is) (looks_other g.D.Disk.state g.D.Disk.images c.args.devs.now c.open_row.new.devs c.requires.up c.requires.ready c.in_ok-at.at _ c.in_ok-at.ensures.looks (λ no. cc))

pub returns-in_err-check_idle-clause-refused : goal.returns-in_err-check_idle-clause-refused
returns-in_err-check_idle-clause-refused g c =
    let s = g.D.Disk.state in
    let old = c.args.devs.now in
    let mid = c.open_row.new.devs in
    let p = err_from_is_err_and c.from_residual-in_err-check_idle.result c.from_residual-in_err-check_idle.ensures.1 in
    let l = c.in_ok-at.ensures.looks in
    let b = c.in_err-check_idle.ensures.busy in
    let same : plan_at_work (devs s mid) (writes_of mid) ≡ plan_at_work (devs s old) (writes_of old) =
    ap (λ (d : ClientDevs). plan_at_work d (writes_of mid)) (l.serves.same (λ is. cc)) ∙ ap (λ (ws : List Write). plan_at_work (devs s old) ws) l.agenda in
    rw (p.1, p.2) (λ n waiting phase linked seen choice is_open.
    resolve_waits s old waiting phase linked n c.args.table c.args.row seen choice c.in_ok-at.at.opened c.in_ok-at.ensures.opened.opened c.in_err-check_idle.field-0.0
    (λ none. b.0 (l.agenda ∙ none)) (b.1 ∙ ap (λ (n : ℕ). call.Busy n) same))

pub returns-in_err-check_open-clause-looks : goal.returns-in_err-check_open-clause-looks
returns-in_err-check_open-clause-looks g c =
    let p = err_from_is_err_and c.from_residual-in_err-check_open.result c.from_residual-in_err-check_open.ensures.1 in
    let is = c.in_err-check_open.ensures.closed.1 in
    rw (p.1, p.2, is) (looks_other g.D.Disk.state g.D.Disk.images c.args.devs.now c.open_row.new.devs c.requires.up c.requires.ready c.in_ok-at.at _ c.in_ok-at.ensures.looks (λ no. cc))

pub returns-in_err-check_open-clause-refused : goal.returns-in_err-check_open-clause-refused
returns-in_err-check_open-clause-refused g c =
    let p = err_from_is_err_and c.from_residual-in_err-check_open.result c.from_residual-in_err-check_open.ensures.1 in
    let b = c.in_err-check_open.ensures.closed in
    let l = c.in_ok-at.ensures.looks in
    rw (p.1, p.2) (λ n waiting phase linked seen choice is_open.
    resolve_outside g.D.Disk.state c.args.devs.now waiting phase linked n c.args.table c.args.row seen choice c.in_ok-at.at.opened c.in_ok-at.ensures.opened.opened
    (sym l.agenda ∙ c.in_ok-check_idle.ensures.idle) c.in_err-check_open.field-0.0 (is_open ∙ b.0) b.1)

pub returns-clause-idle : goal.returns-clause-idle
returns-clause-idle g c = sym c.in_ok-at.ensures.looks.agenda ∙ c.in_ok-check_idle.ensures.idle
