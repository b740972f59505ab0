use Rattle.std.proofs.Common.{⊎_elim, ℕ, List, sym, ◌∙◌, ap, subst}
use Rattle.std.proofs.lemmas.Result.{err_from_is_err_and}
use Rattle.client_journal.specs.Devs.{ClientDevs}
use Rattle.client_journal.specs.Standing.{devs, writes_of}
use Rattle.step_tables.specs.ClientMoves.{Write}
use Rattle.client_node.specs.Preparing.{Prepares}
use Rattle.client_node.specs.Readied.{IsIdle}
use Rattle.client_node.proofs.Looked.{still_opened, opened_spelled, prepares_looked}
use Rattle.client_node.proofs.Passed.{passed_looked}
use Rattle.client_node.proofs.Serving.{looks_then, looks_err}
use Rattle.client_node.proofs.WriteRefusals.{by_fault, write_unopened}
use Rattle.client_node.proofs.calls.writing.prepare_write.Goals as goal

pub returns-in_err-at-clause-looks : goal.returns-in_err-at-clause-looks
returns-in_err-at-clause-looks g c =
    let p = err_from_is_err_and c.from_residual.result c.from_residual.ensures.1 in
    rw (p.1, p.2) (looks_err g.D.Disk.state g.D.Disk.images c.args.devs.now c.open_row.new.devs c.requires.up c.requires.ready c.in_err-at.field-0.0 c.in_err-at.ensures.looks)

pub returns-in_err-at-clause-prepares : goal.returns-in_err-at-clause-prepares
returns-in_err-at-clause-prepares g c phase is_open =
    let p = err_from_is_err_and c.from_residual.result c.from_residual.ensures.1 in
    let e = c.in_err-at.field-0.0 in
    rw (p.1, p.2) (⊎_elim
    (λ none. write_unopened g.D.Disk.state c.args.devs.now c.args.waiting.now phase c.args.gate.is_linked c.args.client c.args.table c.args.row c.args.content e none.0 none.1)
    (λ fault. by_fault g.D.Disk.state c.args.devs.now c.args.waiting.now phase c.args.gate.is_linked c.args.client _ e fault) c.in_err-at.ensures.refused)

pub prepare-requires-clause-up : goal.prepare-requires-clause-up
prepare-requires-clause-up g c = c.in_ok-at.ensures.looks.serves.up (λ is. cc)

pub prepare-requires-clause-ready : goal.prepare-requires-clause-ready
prepare-requires-clause-ready g c = c.in_ok-at.ensures.looks.serves.ready (λ is. cc)

pub prepare-requires-clause-opened : goal.prepare-requires-clause-opened
prepare-requires-clause-opened g c =
    still_opened (devs g.D.Disk.state c.args.devs.now) _ c.args.table c.args.row c.in_ok-at.at (c.in_ok-at.ensures.looks.serves.same (λ is. cc)) c.in_ok-at.ensures.opened

pub prepare-requires-clause-spelled : goal.prepare-requires-clause-spelled
prepare-requires-clause-spelled g c = opened_spelled (devs g.D.Disk.state c.args.devs.now) c.args.table c.args.row c.in_ok-at.at c.in_ok-at.ensures.opened c.requires.spelled

pub returns-clause-looks : goal.returns-clause-looks
returns-clause-looks g c =
    looks_then g.D.Disk.state g.D.Disk.images c.args.devs.now c.prepare.new.devs c.requires.up c.requires.ready c.open_row.new.devs c.in_ok-at.at c.prepare.result c.in_ok-at.ensures.looks
    c.prepare.ensures.looks

pub returns-clause-prepares : goal.returns-clause-prepares
returns-clause-prepares g c phase is_open =
    let s = g.D.Disk.state in
    let l = c.in_ok-at.ensures.looks in
    let is = c.in_ok-at.ensures.opened in
    let mid = c.open_row.new.devs in
    prepares_looked s c.args.devs.now mid (l.serves.same (λ is. cc)) l.agenda c.args.waiting.now phase c.args.gate.is_linked c.args.client (Write c.args.table c.args.row c.args.content) c.prepare.result
    (subst (λ (q : ℕ). Prepares s mid c.args.waiting.now phase c.args.gate.is_linked c.args.client (Write q c.args.row c.args.content) c.prepare.result) is.table_is
    (subst (λ (r : List ℕ). Prepares s mid c.args.waiting.now phase c.args.gate.is_linked c.args.client (Write c.in_ok-at.at.table r c.args.content) c.prepare.result) is.row_is
    (c.prepare.ensures.prepares phase (ap phase is.table_is ∙ is_open))))

pub prepare-requires-clause-idle : goal.prepare-requires-clause-idle
prepare-requires-clause-idle g c none =
    let l = c.in_ok-at.ensures.looks in
    subst (λ (d : ClientDevs). IsIdle d c.args.client) (sym (l.serves.same (λ is. cc))) (c.requires.idle (sym l.agenda ∙ none))

pub returns-clause-stale : goal.returns-clause-stale
returns-clause-stale g c =
    let l = c.in_ok-at.ensures.looks in
    passed_looked (devs g.D.Disk.state c.args.devs.now) (devs g.D.Disk.state c.open_row.new.devs) (writes_of c.args.devs.now) (writes_of c.open_row.new.devs) (l.serves.same (λ is. cc)) l.agenda c.args.table c.in_ok-at.at.table
    c.in_ok-at.ensures.opened.table_is c.args.stale.now.items c.prepare.new.stale.items c.prepare.ensures.stale
