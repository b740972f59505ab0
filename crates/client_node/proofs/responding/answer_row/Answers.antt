use Rattle.step_tables.specs.Travels.{send_of}
use Rattle.std.specs.Prelude.{not}
use Rattle.std.proofs.Common.{map, ℕ, Option, Some, None, Ok, Err, inr, refl, sym, ◌∙◌, ap, subst}
use Rattle.std.proofs.lemmas.Result.{err_from_is_err_and}
use Rattle.client_journal.specs.Devs.{ClientDevs}
use Rattle.client_journal.specs.Redone.{redone}
use Rattle.client_journal.specs.Standing.{devs}
use Rattle.client_node.specs.declared.fault.CallFault.TheVariants as call
use Rattle.step_tables.specs.declared.message.Message.TheVariants.{SyncResponse}
use Rattle.client_node.specs.declared.planning.Reaction.{Reaction}
use Rattle.client_node.specs.declared.planning.Reaction.TheVariants.{Sends}
use Rattle.client_node.specs.Answering.{IsThere, out_behind}
use Rattle.client_node.specs.Readied.{Reacts}
use Rattle.client_node.proofs.Serving.{looks_err, looks_other, looks_then}
use Rattle.client_node.proofs.Responded.{countable_now, row_still, row_reacts}
use Rattle.client_node.proofs.responding.answer_row.Goals as goal

pub returns-in_err-slots-clause-looks : goal.returns-in_err-slots-clause-looks
returns-in_err-slots-clause-looks g c =
    let p = err_from_is_err_and c.from_residual.result c.from_residual.ensures.1 in
    rw (p.1, p.2) (looks_err g.D.Disk.state g.D.Disk.images c.args.devs.now c.row_slots.new.devs c.requires.up c.requires.ready c.in_err-slots.field-0.0 c.in_err-slots.ensures.looks)

pub last_write-requires-clause-up : goal.last_write-requires-clause-up
last_write-requires-clause-up g c = c.in_ok-slots.ensures.looks.serves.up (λ is. cc)

pub last_write-requires-clause-ready : goal.last_write-requires-clause-ready
last_write-requires-clause-ready g c = c.in_ok-slots.ensures.looks.serves.ready (λ is. cc)

pub returns-in_err-last-clause-looks : goal.returns-in_err-last-clause-looks
returns-in_err-last-clause-looks g c =
    let s = g.D.Disk.state in
    let im = g.D.Disk.images in
    let mid = c.row_slots.new.devs in
    let l = c.in_ok-slots.ensures.looks in
    let p = err_from_is_err_and c.from_residual-in_err-last.result c.from_residual-in_err-last.ensures.1 in
    rw (p.1, p.2) (looks_then s im c.args.devs.now c.last_write.new.devs c.requires.up c.requires.ready mid _ (Err c.in_err-last.field-0.0) l
    (looks_err s im mid c.last_write.new.devs (l.serves.up (λ is. cc)) (l.serves.ready (λ is. cc)) c.in_err-last.field-0.0 c.in_err-last.ensures.looks))

pub plan_response-requires : goal.plan_response-requires
plan_response-requires g c =
    countable_now (devs g.D.Disk.state c.args.devs.now) c.args.client c.requires.idle c.args.response.now.table c.args.response.now.row c.args.opened.now c.requires.opened c.in_ok-slots.slots c.in_ok-slots.ensures.slots

pub returns-in_err-made-clause-looks : goal.returns-in_err-made-clause-looks
returns-in_err-made-clause-looks g c =
    let s = g.D.Disk.state in
    let im = g.D.Disk.images in
    let p = err_from_is_err_and c.from_residual-in_err-made.result c.from_residual-in_err-made.ensures.1 in
    rw (p.1, p.2) (looks_other s im c.args.devs.now c.last_write.new.devs c.requires.up c.requires.ready c.in_ok-last.last (Err call.Memory) (looks_then s im c.args.devs.now c.last_write.new.devs c.requires.up c.requires.ready c.row_slots.new.devs _ (Ok c.in_ok-last.last) c.in_ok-slots.ensures.looks c.in_ok-last.ensures.looks) (λ no. cc))

pub returns-in_err-found-clause-looks : goal.returns-in_err-found-clause-looks
returns-in_err-found-clause-looks g c =
    let s = g.D.Disk.state in
    let im = g.D.Disk.images in
    let p = err_from_is_err_and c.from_residual-in_err-found.result c.from_residual-in_err-found.ensures.1 in
    rw (p.1, p.2) (looks_other s im c.args.devs.now c.asked_by.new.devs c.requires.up c.requires.ready c.in_ok-asked.asked (Err call.Memory) (looks_then s im c.args.devs.now c.asked_by.new.devs c.requires.up c.requires.ready c.last_write.new.devs _ (Ok c.in_ok-asked.asked) (looks_then s im c.args.devs.now c.last_write.new.devs c.requires.up c.requires.ready c.row_slots.new.devs _ (Ok c.in_ok-last.last) c.in_ok-slots.ensures.looks c.in_ok-last.ensures.looks) c.in_ok-asked.ensures.looks) (λ no. cc))

pub returns-clause-looks : goal.returns-clause-looks
returns-clause-looks g c =
    let s = g.D.Disk.state in
    let im = g.D.Disk.images in
    looks_other s im c.args.devs.now c.asked_by.new.devs c.requires.up c.requires.ready c.in_ok-asked.asked (Ok _) (looks_then s im c.args.devs.now c.asked_by.new.devs c.requires.up c.requires.ready c.last_write.new.devs _ (Ok c.in_ok-asked.asked) (looks_then s im c.args.devs.now c.last_write.new.devs c.requires.up c.requires.ready c.row_slots.new.devs _ (Ok c.in_ok-last.last) c.in_ok-slots.ensures.looks c.in_ok-last.ensures.looks) c.in_ok-asked.ensures.looks) (λ no. cc)

pub asked_by-requires-clause-up : goal.asked_by-requires-clause-up
asked_by-requires-clause-up g c = c.in_ok-last.ensures.looks.serves.up (λ is. cc)

pub asked_by-requires-clause-ready : goal.asked_by-requires-clause-ready
asked_by-requires-clause-ready g c = c.in_ok-last.ensures.looks.serves.ready (λ is. cc)

pub returns-in_err-asked-clause-looks : goal.returns-in_err-asked-clause-looks
returns-in_err-asked-clause-looks g c =
    let s = g.D.Disk.state in
    let im = g.D.Disk.images in
    let mid = c.last_write.new.devs in
    let l = looks_then s im c.args.devs.now c.last_write.new.devs c.requires.up c.requires.ready c.row_slots.new.devs _ (Ok c.in_ok-last.last) c.in_ok-slots.ensures.looks c.in_ok-last.ensures.looks in
    let p = err_from_is_err_and c.from_residual-in_err-asked.result c.from_residual-in_err-asked.ensures.1 in
    rw (p.1, p.2) (looks_then s im c.args.devs.now c.asked_by.new.devs c.requires.up c.requires.ready mid _ (Err c.in_err-asked.field-0.0) l
    (looks_err s im mid c.asked_by.new.devs (l.serves.up (λ is. cc)) (l.serves.ready (λ is. cc)) c.in_err-asked.field-0.0 c.in_err-asked.ensures.looks))

pub returns-then-is_none-clause-looks : goal.returns-then-is_none-clause-looks
returns-then-is_none-clause-looks g c =
    let s = g.D.Disk.state in
    let im = g.D.Disk.images in
    looks_other s im c.args.devs.now c.asked_by.new.devs c.requires.up c.requires.ready c.in_ok-asked.asked (Ok (Sends c.in_ok-asked.asked)) (looks_then s im c.args.devs.now c.asked_by.new.devs c.requires.up c.requires.ready c.last_write.new.devs _ (Ok c.in_ok-asked.asked) (looks_then s im c.args.devs.now c.last_write.new.devs c.requires.up c.requires.ready c.row_slots.new.devs _ (Ok c.in_ok-last.last) c.in_ok-slots.ensures.looks c.in_ok-last.ensures.looks) c.in_ok-asked.ensures.looks) (λ no. cc)

pub returns-then-is_none-clause-reacts : goal.returns-then-is_none-clause-reacts
returns-then-is_none-clause-reacts g c =
    let s = g.D.Disk.state in
    let same = c.in_ok-slots.ensures.looks.serves.same (λ is. cc) in
    row_still (devs s c.args.devs.now) c.args.client c.args.response.now c.args.opened.now c.requires.opened c.in_ok-slots.slots c.in_ok-slots.ensures.slots c.in_ok-last.last (c.in_ok-last.ensures.last ∙ ap (λ (d : ClientDevs). (redone d).last) same)
    c.outcome_in-outcome.result c.outcome_in-outcome.ensures.same c.outcome_in-outcome.ensures.fit c.in_ok-made.made c.in_ok-made.ensures (map send_of c.in_ok-asked.asked.items)
    (λ meaning there. c.in_ok-asked.ensures.asks meaning (subst (λ (d : ClientDevs). IsThere meaning d (out_behind c.in_ok-made.made.change.slots)) (sym (c.in_ok-last.ensures.looks.serves.same (λ is. cc) ∙ same)) there))
    (c.is_none.ensures ∙ ap not c.if-is_none.true)

pub returns-clause-reacts : goal.returns-clause-reacts
returns-clause-reacts g c =
    let s = g.D.Disk.state in
    let d = devs s c.args.devs.now in
    let same = c.in_ok-slots.ensures.looks.serves.same (λ is. cc) in
    subst (λ (r : Reaction). Reacts d c.args.client (SyncResponse c.args.response.now) r) (sym c.begins.ensures)
    (row_reacts d c.args.client c.args.response.now c.args.opened.now c.requires.opened c.in_ok-slots.slots c.in_ok-slots.ensures.slots c.in_ok-last.last (c.in_ok-last.ensures.last ∙ ap (λ (d : ClientDevs). (redone d).last) same)
    c.outcome_in-outcome.result c.outcome_in-outcome.ensures.same c.outcome_in-outcome.ensures.fit c.in_ok-made.made c.in_ok-made.ensures c.in_ok-found.ensures.len c.in_ok-found.ensures.known (map send_of c.in_ok-asked.asked.items)
    (λ meaning there. c.in_ok-asked.ensures.asks meaning (subst (λ (d : ClientDevs). IsThere meaning d (out_behind c.in_ok-made.made.change.slots)) (sym (c.in_ok-last.ensures.looks.serves.same (λ is. cc) ∙ same)) there))
    (c.is_none.ensures ∙ ap not c.if-is_none.false) c.in_ok-found.found c.in_ok-found.ensures.none c.in_ok-found.ensures.some)
