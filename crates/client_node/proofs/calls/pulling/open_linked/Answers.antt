use Rattle.std.proofs.Common.{◌≡◌, ℕ, List, map, ⊎_elim, refl, sym, ◌∙◌, ap}
use Rattle.std.proofs.lemmas.Result.{err_from_is_err_and}
use Rattle.client_journal.specs.Devs.{ClientDevs, Write}
use Rattle.client_journal.specs.Plan.{plan_at_work}
use Rattle.client_journal.specs.Standing.{devs, writes_of}
use Rattle.step_tables.specs.ClientMoves.{next_from}
use Rattle.step_tables.specs.Facts as facts
use Rattle.client_node.specs.declared.fault.CallFault.TheVariants as call
use Rattle.client_node.proofs.Serving.{looks_err, looks_other}
use Rattle.client_node.proofs.Pulls.{pull_fault, pull_closed, pull_busy, pull_offline, pull_sent}
use Rattle.client_node.proofs.calls.pulling.open_linked.Goals as goal

pub returns-in_err-opened-clause-looks : goal.returns-in_err-opened-clause-looks
returns-in_err-opened-clause-looks g c =
    let p = err_from_is_err_and c.from_residual.result c.from_residual.ensures.1 in
    rw (p.1, p.2) (looks_err g.D.Disk.state g.D.Disk.images c.args.devs.now c.open_table.new.devs c.requires.up c.requires.ready c.in_err-opened.field-0.0 c.in_err-opened.ensures.looks)

pub returns-in_err-opened-clause-sends : goal.returns-in_err-opened-clause-sends
returns-in_err-opened-clause-sends g c client tears asks =
    let p = err_from_is_err_and c.from_residual.result c.from_residual.ensures.1 in
    rw (p.1, p.2) (⊎_elim
    (λ none. pull_closed g.D.Disk.state c.args.devs.now c.args.is_linked client c.args.table tears asks (λ opened. map (facts.Torn client c.args.table) tears) (λ opened. next_from client c.args.table opened.position asks) c.in_err-opened.field-0.0 none.0 none.1)
    (λ fault. pull_fault g.D.Disk.state c.args.devs.now c.args.is_linked client c.args.table tears asks (λ opened. map (facts.Torn client c.args.table) tears) (λ opened. next_from client c.args.table opened.position asks) c.in_err-opened.field-0.0 fault)
    c.in_err-opened.ensures.refused)

pub check_idle-requires-clause-up : goal.check_idle-requires-clause-up
check_idle-requires-clause-up g c = c.in_ok-opened.ensures.looks.serves.up (λ is. cc)

pub check_idle-requires-clause-ready : goal.check_idle-requires-clause-ready
check_idle-requires-clause-ready g c = c.in_ok-opened.ensures.looks.serves.ready (λ is. cc)

pub returns-in_err-check_idle-clause-looks : goal.returns-in_err-check_idle-clause-looks
returns-in_err-check_idle-clause-looks g c =
    let p = err_from_is_err_and c.from_residual-in_err-check_idle.result c.from_residual-in_err-check_idle.ensures.1 in
    let is = c.in_err-check_idle.ensures.busy.1 in
    rw (p.1, p.2, is) (looks_other g.D.Disk.state g.D.Disk.images c.args.devs.now c.open_table.new.devs c.requires.up c.requires.ready c.in_ok-opened.opened _ c.in_ok-opened.ensures.looks (λ no. cc))

pub returns-in_err-check_idle-clause-sends : goal.returns-in_err-check_idle-clause-sends
returns-in_err-check_idle-clause-sends g c client tears asks =
    let s = g.D.Disk.state in
    let old = c.args.devs.now in
    let mid = c.open_table.new.devs in
    let p = err_from_is_err_and c.from_residual-in_err-check_idle.result c.from_residual-in_err-check_idle.ensures.1 in
    let l = c.in_ok-opened.ensures.looks in
    let b = c.in_err-check_idle.ensures.busy in
    let same : plan_at_work (devs s mid) (writes_of mid) ≡ plan_at_work (devs s old) (writes_of old) = ap (λ (d : ClientDevs). plan_at_work d (writes_of mid)) (l.serves.same (λ is. cc)) ∙ ap (λ (ws : List Write). plan_at_work (devs s old) ws) l.agenda in
    rw (p.1, p.2) (pull_busy s old c.args.is_linked client c.args.table tears asks c.in_ok-opened.opened c.in_ok-opened.ensures.opened (λ opened. map (facts.Torn client c.args.table) tears) (λ opened. next_from client c.args.table opened.position asks)
    c.in_err-check_idle.field-0.0 (λ none. b.0 (l.agenda ∙ none)) (b.1 ∙ ap (λ (n : ℕ). call.Busy n) same))

pub returns-in_err-check_link-clause-looks : goal.returns-in_err-check_link-clause-looks
returns-in_err-check_link-clause-looks g c =
    let p = err_from_is_err_and c.from_residual-in_err-check_link.result c.from_residual-in_err-check_link.ensures.1 in
    let is = c.in_err-check_link.ensures.down.1 in
    rw (p.1, p.2, is) (looks_other g.D.Disk.state g.D.Disk.images c.args.devs.now c.open_table.new.devs c.requires.up c.requires.ready c.in_ok-opened.opened _ c.in_ok-opened.ensures.looks (λ no. cc))

pub returns-in_err-check_link-clause-sends : goal.returns-in_err-check_link-clause-sends
returns-in_err-check_link-clause-sends g c client tears asks =
    let p = err_from_is_err_and c.from_residual-in_err-check_link.result c.from_residual-in_err-check_link.ensures.1 in
    let b = c.in_err-check_link.ensures.down in
    rw (p.1, p.2) (pull_offline g.D.Disk.state c.args.devs.now c.args.is_linked client c.args.table tears asks c.in_ok-opened.opened c.in_ok-opened.ensures.opened (sym c.in_ok-opened.ensures.looks.agenda ∙ c.in_ok-check_idle.ensures.idle)
    (λ opened. map (facts.Torn client c.args.table) tears) (λ opened. next_from client c.args.table opened.position asks) c.in_err-check_link.field-0.0 b.0 b.1)

pub returns-clause-looks : goal.returns-clause-looks
returns-clause-looks g c = looks_other g.D.Disk.state g.D.Disk.images c.args.devs.now c.open_table.new.devs c.requires.up c.requires.ready c.in_ok-opened.opened _ c.in_ok-opened.ensures.looks (λ no. cc)

pub returns-clause-sends : goal.returns-clause-sends
returns-clause-sends g c client tears asks =
    pull_sent g.D.Disk.state c.args.devs.now c.args.is_linked client c.args.table tears asks c.in_ok-opened.opened c.in_ok-opened.ensures.opened (sym c.in_ok-opened.ensures.looks.agenda ∙ c.in_ok-check_idle.ensures.idle) (λ opened. map (facts.Torn client c.args.table) tears)
    (λ opened. next_from client c.args.table opened.position asks) c.in_ok-opened.opened c.in_ok-check_link.ensures.up refl refl

pub returns-clause-idle : goal.returns-clause-idle
returns-clause-idle g c = sym c.in_ok-opened.ensures.looks.agenda ∙ c.in_ok-check_idle.ensures.idle
