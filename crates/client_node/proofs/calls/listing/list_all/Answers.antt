use Rattle.std.proofs.Common.{◌≡◌, ℕ, List, refl, sym, ◌∙◌, ap, subst}
use Rattle.std.proofs.lemmas.Result.{err_from_is_err_and}
use Rattle.std.specs.Prelude.{IfSome, OnOk}
use Rattle.plan_log.specs.Spelling.{IsTable}
use Rattle.client_node.specs.Answers.{record_at}
use Rattle.client_node.specs.Listing.{AreCalm}
use Rattle.client_journal.specs.Devs.{ClientDevs, Write}
use Rattle.client_journal.specs.Plan.{plan_at_work}
use Rattle.client_journal.specs.Standing.{devs, writes_of}
use Rattle.client_node.specs.declared.fault.CallFault.TheVariants as call
use Rattle.client_node.specs.Node.{StandsFor}
use Rattle.client_node.proofs.AllListed.{fit_not_disk, all_closed, all_unfit, all_busy, all_listed, contended, list_unspent, unopened_unspent}
use Rattle.client_node.proofs.Answering.{of_err}
use Rattle.client_node.proofs.Serving.{looks_err, looks_other, looks_then}
use Rattle.client_node.proofs.WriteRefusals.{fit_not_spent}
use Rattle.client_node.proofs.calls.listing.list_all.Goals as goal

pub returns-in_err-opened-clause-looks : goal.returns-in_err-opened-clause-looks
returns-in_err-opened-clause-looks g c =
    let p = err_from_is_err_and c.from_residual.result c.from_residual.ensures.1 in
    rw (p.1, p.2) (looks_err g.D.Disk.state g.D.Disk.images c.args.devs.now c.open_table.new.devs c.requires.up c.requires.ready c.in_err-opened.field-0.0 c.in_err-opened.ensures.looks)

pub returns-in_err-opened-clause-answered : goal.returns-in_err-opened-clause-answered
returns-in_err-opened-clause-answered g c n disk tasks st steady are =
    let p = err_from_is_err_and c.from_residual.result c.from_residual.ensures.1 in
    let d = devs g.D.Disk.state c.args.devs.now in
    rw (p.1, p.2) (all_closed n d disk st c.args.table c.args.by c.args.is_open (plan_at_work d (writes_of c.args.devs.now)) tasks c.in_err-opened.field-0.0 c.in_err-opened.ensures.refused)

pub returns-in_err-opened-clause-unspent : goal.returns-in_err-opened-clause-unspent
returns-in_err-opened-clause-unspent g c last =
    let p = err_from_is_err_and c.from_residual.result c.from_residual.ensures.1 in
    let e = c.in_err-opened.field-0.0 in
    rw (p.1, p.2) (λ is. unopened_unspent e (devs g.D.Disk.state c.args.devs.now) c.args.table last c.in_err-opened.ensures.refused (of_err e (call.Spent last) is))

pub returns-in_err-check_way-clause-looks : goal.returns-in_err-check_way-clause-looks
returns-in_err-check_way-clause-looks g c =
    let p = err_from_is_err_and c.from_residual-in_err-check_way.result c.from_residual-in_err-check_way.ensures.1 in
    let fault = c.in_err-check_way.field-0.0 in
    rw (p.1, p.2) (looks_other g.D.Disk.state g.D.Disk.images c.args.devs.now c.open_table.new.devs c.requires.up c.requires.ready c.in_ok-opened.opened _ c.in_ok-opened.ensures.looks (fit_not_disk fault))

pub returns-in_err-check_way-clause-answered : goal.returns-in_err-check_way-clause-answered
returns-in_err-check_way-clause-answered g c n disk tasks st steady are =
    let p = err_from_is_err_and c.from_residual-in_err-check_way.result c.from_residual-in_err-check_way.ensures.1 in
    let d = devs g.D.Disk.state c.args.devs.now in
    let fault = c.in_err-check_way.field-0.0 in
    rw (p.1, p.2) (all_unfit n d disk st c.args.table c.args.by c.args.is_open (plan_at_work d (writes_of c.args.devs.now)) tasks c.in_ok-opened.opened c.in_ok-opened.ensures.opened fault (sym c.in_err-check_way.ensures) _ refl)

pub returns-in_err-check_way-clause-unspent : goal.returns-in_err-check_way-clause-unspent
returns-in_err-check_way-clause-unspent g c last =
    let p = err_from_is_err_and c.from_residual-in_err-check_way.result c.from_residual-in_err-check_way.ensures.1 in
    let fault = c.in_err-check_way.field-0.0 in
    rw (p.1, p.2) (λ is. fit_not_spent fault last (of_err _ (call.Spent last) is))

pub check_idle-requires-clause-up : goal.check_idle-requires-clause-up
check_idle-requires-clause-up g c = c.in_ok-opened.ensures.looks.serves.up (λ is. cc)

pub check_idle-requires-clause-ready : goal.check_idle-requires-clause-ready
check_idle-requires-clause-ready g c = c.in_ok-opened.ensures.looks.serves.ready (λ is. cc)

pub returns-in_err-check_idle-clause-looks : goal.returns-in_err-check_idle-clause-looks
returns-in_err-check_idle-clause-looks g c =
    let p = err_from_is_err_and c.from_residual-in_err-check_idle.result c.from_residual-in_err-check_idle.ensures.1 in
    let is = c.in_err-check_idle.ensures.busy.1 in
    rw (p.1, p.2, is) (looks_other g.D.Disk.state g.D.Disk.images c.args.devs.now c.open_table.new.devs c.requires.up c.requires.ready c.in_ok-opened.opened _ c.in_ok-opened.ensures.looks (λ no. cc))

pub returns-in_err-check_idle-clause-answered : goal.returns-in_err-check_idle-clause-answered
returns-in_err-check_idle-clause-answered g c n disk tasks st steady are =
    let s = g.D.Disk.state in
    let old = c.args.devs.now in
    let mid = c.open_table.new.devs in
    let d = devs s old in
    let p = err_from_is_err_and c.from_residual-in_err-check_idle.result c.from_residual-in_err-check_idle.ensures.1 in
    let l = c.in_ok-opened.ensures.looks in
    let b = c.in_err-check_idle.ensures.busy in
    let same : plan_at_work (devs s mid) (writes_of mid) ≡ plan_at_work (devs s old) (writes_of old) =
    ap (λ (e : ClientDevs). plan_at_work e (writes_of mid)) (l.serves.same (λ is. cc)) ∙ ap (λ (ws : List Write). plan_at_work (devs s old) ws) l.agenda in
    rw (p.1, p.2) (all_busy n d disk st c.args.table c.args.by c.args.is_open (plan_at_work d (writes_of old)) tasks c.in_ok-opened.opened c.in_ok-opened.ensures.opened (sym c.in_ok-check_way.ensures)
    (λ none. b.0 (l.agenda ∙ are.some none)) c.in_err-check_idle.field-0.0 (b.1 ∙ ap (λ (k : ℕ). call.Busy k) same))

pub returns-in_err-check_idle-clause-unspent : goal.returns-in_err-check_idle-clause-unspent
returns-in_err-check_idle-clause-unspent g c last =
    let p = err_from_is_err_and c.from_residual-in_err-check_idle.result c.from_residual-in_err-check_idle.ensures.1 in
    let is = c.in_err-check_idle.ensures.busy.1 in
    rw (p.1, p.2, is) (λ no. cc)

pub list-requires-clause-up : goal.list-requires-clause-up
list-requires-clause-up g c = c.in_ok-opened.ensures.looks.serves.up (λ is. cc)

pub list-requires-clause-ready : goal.list-requires-clause-ready
list-requires-clause-ready g c = c.in_ok-opened.ensures.looks.serves.ready (λ is. cc)

pub list-requires-clause-numbered : goal.list-requires-clause-numbered
list-requires-clause-numbered g c =
    subst (λ (e : ClientDevs). IfSome (record_at e c.args.table) (λ opened. IsTable c.args.table)) (sym (c.in_ok-opened.ensures.looks.serves.same (λ is. cc))) c.requires.numbered

pub returns-clause-calm : goal.returns-clause-calm
returns-clause-calm g c =
    let d = devs g.D.Disk.state c.args.devs.now in
    subst (λ (e : ClientDevs). OnOk c.list.result (AreCalm e c.args.table c.args.calm.now.items → AreCalm e c.args.table c.list.new.calm.items)) (c.in_ok-opened.ensures.looks.serves.same (λ is. cc)) c.list.ensures.calm

pub returns-clause-looks : goal.returns-clause-looks
returns-clause-looks g c =
    looks_then g.D.Disk.state g.D.Disk.images c.args.devs.now c.list.new.devs c.requires.up c.requires.ready c.open_table.new.devs c.in_ok-opened.opened c.list.result c.in_ok-opened.ensures.looks c.list.ensures.looks

pub returns-clause-answered : goal.returns-clause-answered
returns-clause-answered g c n disk tasks st steady are =
    let d = devs g.D.Disk.state c.args.devs.now in
    let l = c.in_ok-opened.ensures.looks in
    let there = subst (λ (e : ClientDevs). StandsFor n e disk) (sym (l.serves.same (λ is. cc))) st in
    all_listed n d disk st c.args.table c.args.by c.args.is_open (plan_at_work d (writes_of c.args.devs.now)) tasks c.in_ok-opened.opened c.in_ok-opened.ensures.opened (sym c.in_ok-check_way.ensures)
    (are.none (sym l.agenda ∙ c.in_ok-check_idle.ensures.idle)) c.list.result (c.list.ensures.answered n disk there steady)

pub returns-clause-pairs : goal.returns-clause-pairs
returns-clause-pairs g c n disk st steady =
    let there = subst (λ (e : ClientDevs). StandsFor n e disk) (sym (c.in_ok-opened.ensures.looks.serves.same (λ is. cc))) st in
    contended c.args.table c.args.is_open disk c.list.result (c.list.ensures.answered n disk there steady)

pub returns-clause-unspent : goal.returns-clause-unspent
returns-clause-unspent g c last is = list_unspent c.list.result c.list.ensures.refused last is
