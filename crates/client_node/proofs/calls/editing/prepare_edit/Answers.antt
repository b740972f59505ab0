use Rattle.std.proofs.Common.{⊎_elim, ℕ, List, Err, sym, ◌∙◌, ap, subst}
use Rattle.std.proofs.lemmas.Result.{err_from_is_err_and}
use Rattle.client_tables.specs.Shown.{shown_content}
use Rattle.client_journal.specs.Devs.{ClientDevs}
use Rattle.client_journal.specs.Standing.{devs, writes_of}
use Rattle.held_contents.specs.Reading.{AreThereIf}
use Rattle.step_tables.specs.ClientMoves.{Write}
use Rattle.client_node.specs.declared.fault.CallFault.TheVariants as call
use Rattle.client_node.specs.Preparing.{Prepares}
use Rattle.client_node.specs.Readied.{IsIdle}
use Rattle.client_node.proofs.Answering.{as_err}
use Rattle.client_node.proofs.Looked.{still_opened, opened_spelled, prepares_looked}
use Rattle.client_node.proofs.Passed.{passed_looked}
use Rattle.client_node.proofs.Serving.{looks_then, looks_err}
use Rattle.client_node.proofs.WriteRefusals.{by_fault, edit_unopened, edit_unmade, edit_as_write}
use Rattle.client_node.proofs.calls.editing.prepare_edit.Goals as goal

pub returns-in_err-at-clause-looks : goal.returns-in_err-at-clause-looks
returns-in_err-at-clause-looks g c =
    let p = err_from_is_err_and c.from_residual.result c.from_residual.ensures.1 in
    rw (p.1, p.2) (looks_err g.D.Disk.state g.D.Disk.images c.args.devs.now c.open_row.new.devs c.requires.up c.requires.ready c.in_err-at.field-0.0 c.in_err-at.ensures.looks)

pub returns-in_err-at-clause-prepares : goal.returns-in_err-at-clause-prepares
returns-in_err-at-clause-prepares g c phase is_open =
    let p = err_from_is_err_and c.from_residual.result c.from_residual.ensures.1 in
    let e = c.in_err-at.field-0.0 in
    rw (p.1, p.2) (⊎_elim
    (λ none. edit_unopened g.D.Disk.state c.args.devs.now c.args.waiting.now phase c.args.gate.is_linked c.args.client c.args.table c.args.row c.args.edit.now e none.0 none.1)
    (λ fault. by_fault g.D.Disk.state c.args.devs.now c.args.waiting.now phase c.args.gate.is_linked c.args.client _ e fault) c.in_err-at.ensures.refused)

pub edited_content-requires-clause-up : goal.edited_content-requires-clause-up
edited_content-requires-clause-up g c = c.in_ok-at.ensures.looks.serves.up (λ is. cc)

pub edited_content-requires-clause-ready : goal.edited_content-requires-clause-ready
edited_content-requires-clause-ready g c = c.in_ok-at.ensures.looks.serves.ready (λ is. cc)

pub returns-in_err-content-clause-looks : goal.returns-in_err-content-clause-looks
returns-in_err-content-clause-looks g c =
    let s = g.D.Disk.state in
    let im = g.D.Disk.images in
    let mid = c.open_row.new.devs in
    let l = c.in_ok-at.ensures.looks in
    let p = err_from_is_err_and c.from_residual-in_err-content.result c.from_residual-in_err-content.ensures.1 in
    let e = c.in_err-content.field-0.0 in
    rw (p.1, p.2) (looks_then s im c.args.devs.now c.edited_content.new.devs c.requires.up c.requires.ready mid c.in_ok-at.at (Err e) l
    (looks_err s im mid c.edited_content.new.devs (l.serves.up (λ is. cc)) (l.serves.ready (λ is. cc)) e c.in_err-content.ensures.looks))

pub returns-in_err-content-clause-prepares : goal.returns-in_err-content-clause-prepares
returns-in_err-content-clause-prepares g c phase is_open =
    let l = c.in_ok-at.ensures.looks in
    let is = c.in_ok-at.ensures.opened in
    let at = c.in_ok-at.at in
    let p = err_from_is_err_and c.from_residual-in_err-content.result c.from_residual-in_err-content.ensures.1 in
    let e = c.in_err-content.field-0.0 in
    rw (p.1, p.2) (edit_unmade g.D.Disk.state c.args.devs.now c.args.waiting.now phase c.args.gate.is_linked c.args.client c.args.table c.args.row at.opened is.opened at.slots is.slots c.args.edit.now e
    (λ meaning there. c.in_err-content.ensures.refused meaning (subst (λ (d : ClientDevs). AreThereIf meaning d (shown_content at.slots)) (sym (l.serves.same (λ no. cc))) there))
    (λ last was. c.in_err-content.ensures.unspent last (as_err e (call.Spent last) was)))

pub prepare-requires-clause-up : goal.prepare-requires-clause-up
prepare-requires-clause-up g c = c.in_ok-content.ensures.looks.serves.up (λ is. cc)

pub prepare-requires-clause-ready : goal.prepare-requires-clause-ready
prepare-requires-clause-ready g c = c.in_ok-content.ensures.looks.serves.ready (λ is. cc)

pub prepare-requires-clause-opened : goal.prepare-requires-clause-opened
prepare-requires-clause-opened g c =
    still_opened (devs g.D.Disk.state c.args.devs.now) _ c.args.table c.args.row c.in_ok-at.at
    (c.in_ok-content.ensures.looks.serves.same (λ is. cc) ∙ c.in_ok-at.ensures.looks.serves.same (λ is. cc)) c.in_ok-at.ensures.opened

pub prepare-requires-clause-spelled : goal.prepare-requires-clause-spelled
prepare-requires-clause-spelled g c = opened_spelled (devs g.D.Disk.state c.args.devs.now) c.args.table c.args.row c.in_ok-at.at c.in_ok-at.ensures.opened c.requires.spelled

pub returns-clause-looks : goal.returns-clause-looks
returns-clause-looks g c =
    let s = g.D.Disk.state in
    let im = g.D.Disk.images in
    let old = c.args.devs.now in
    let one = c.open_row.new.devs in
    let two = c.edited_content.new.devs in
    let new = c.prepare.new.devs in
    let a = c.in_ok-at.ensures.looks in
    let b = c.in_ok-content.ensures.looks in
    looks_then s im old new c.requires.up c.requires.ready one c.in_ok-at.at c.prepare.result a
    (looks_then s im one new (a.serves.up (λ is. cc)) (a.serves.ready (λ is. cc)) two c.in_ok-content.content c.prepare.result b c.prepare.ensures.looks)

pub returns-clause-prepares : goal.returns-clause-prepares
returns-clause-prepares g c phase is_open =
    let s = g.D.Disk.state in
    let old = c.args.devs.now in
    let a = c.in_ok-at.ensures.looks in
    let b = c.in_ok-content.ensures.looks in
    let is = c.in_ok-at.ensures.opened in
    let at = c.in_ok-at.at in
    let content = c.in_ok-content.content in
    let mid = c.edited_content.new.devs in
    let same = b.serves.same (λ no. cc) ∙ a.serves.same (λ no. cc) in
    edit_as_write s old c.args.waiting.now phase c.args.gate.is_linked c.args.client c.args.table c.args.row at.opened is.opened at.slots is.slots c.args.edit.now content
    (λ meaning there. c.in_ok-content.ensures.made meaning (subst (λ (d : ClientDevs). AreThereIf meaning d (shown_content at.slots)) (sym (a.serves.same (λ no. cc))) there)) c.prepare.result
    (prepares_looked s old mid same (b.agenda ∙ a.agenda) c.args.waiting.now phase c.args.gate.is_linked c.args.client (Write c.args.table c.args.row content) c.prepare.result
    (subst (λ (q : ℕ). Prepares s mid c.args.waiting.now phase c.args.gate.is_linked c.args.client (Write q c.args.row content) c.prepare.result) is.table_is
    (subst (λ (r : List ℕ). Prepares s mid c.args.waiting.now phase c.args.gate.is_linked c.args.client (Write at.table r content) c.prepare.result) is.row_is
    (c.prepare.ensures.prepares phase (ap phase is.table_is ∙ is_open)))))

pub prepare-requires-clause-idle : goal.prepare-requires-clause-idle
prepare-requires-clause-idle g c none =
    let a = c.in_ok-at.ensures.looks in
    let b = c.in_ok-content.ensures.looks in
    subst (λ (d : ClientDevs). IsIdle d c.args.client) (sym (b.serves.same (λ no. cc) ∙ a.serves.same (λ no. cc))) (c.requires.idle (sym (b.agenda ∙ a.agenda) ∙ none))

pub returns-clause-stale : goal.returns-clause-stale
returns-clause-stale g c =
    let a = c.in_ok-at.ensures.looks in
    let b = c.in_ok-content.ensures.looks in
    passed_looked (devs g.D.Disk.state c.args.devs.now) (devs g.D.Disk.state c.edited_content.new.devs) (writes_of c.args.devs.now) (writes_of c.edited_content.new.devs) (b.serves.same (λ no. cc) ∙ a.serves.same (λ no. cc)) (b.agenda ∙ a.agenda)
    c.args.table c.in_ok-at.at.table c.in_ok-at.ensures.opened.table_is c.args.stale.now.items c.prepare.new.stale.items c.prepare.ensures.stale
