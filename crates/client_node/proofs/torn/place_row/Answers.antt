use Rattle.std.proofs.Common.{map, None, Ok, Err, sym, ◌∙◌, ap, subst}
use Rattle.std.proofs.lemmas.Result.{err_from_is_err_and}
use Rattle.client_journal.specs.Devs.{ClientDevs}
use Rattle.client_journal.specs.Standing.{devs}
use Rattle.step_tables.specs.declared.message.Message.TheVariants.{TornRowResponse}
use Rattle.step_tables.specs.Travels.{send_of}
use Rattle.client_node.specs.declared.fault.CallFault.TheVariants as call
use Rattle.client_node.specs.Answers.{record_at, held_at}
use Rattle.client_node.specs.declared.planning.Reaction.{Reaction}
use Rattle.client_node.specs.declared.planning.Reaction.TheVariants.{Sends}
use Rattle.client_node.specs.Placing.{PlansRow}
use Rattle.client_node.specs.Readied.{IsIdle, Reacts}
use Rattle.client_node.proofs.Serving.{looks_err, looks_other, looks_then}
use Rattle.client_node.proofs.WholeRows.{torn_old, torn_found}
use Rattle.client_node.proofs.torn.place_row.Goals as goal

pub returns-in_err-slots-clause-looks : goal.returns-in_err-slots-clause-looks
returns-in_err-slots-clause-looks g c =
    let p = err_from_is_err_and c.from_residual.result c.from_residual.ensures.1 in
    rw (p.1, p.2) (looks_err g.D.Disk.state g.D.Disk.images c.args.devs.now c.row_slots.new.devs c.requires.up c.requires.ready c.in_err-slots.field-0.0 c.in_err-slots.ensures.looks)

pub returns-in_err-next-clause-looks : goal.returns-in_err-next-clause-looks
returns-in_err-next-clause-looks g c =
    let p = err_from_is_err_and c.from_residual-in_err-next.result c.from_residual-in_err-next.ensures.1 in
    rw (p.1, p.2) (looks_other g.D.Disk.state g.D.Disk.images c.args.devs.now c.row_slots.new.devs c.requires.up c.requires.ready c.in_ok-slots.slots (Err call.Memory) c.in_ok-slots.ensures.looks (λ no. cc))

pub returns-then-is_old-clause-looks : goal.returns-then-is_old-clause-looks
returns-then-is_old-clause-looks g c = looks_other g.D.Disk.state g.D.Disk.images c.args.devs.now c.row_slots.new.devs c.requires.up c.requires.ready c.in_ok-slots.slots (Ok (Sends c.in_ok-next.next)) c.in_ok-slots.ensures.looks (λ no. cc)

pub returns-then-is_old-clause-reacts : goal.returns-then-is_old-clause-reacts
returns-then-is_old-clause-reacts g c =
    torn_old (devs g.D.Disk.state c.args.devs.now) c.args.client c.args.answer.now c.args.opened.now c.requires.opened c.args.header.now c.requires.header c.requires.whole c.in_ok-slots.slots c.in_ok-slots.ensures.slots (sym c.is_old.ensures ∙ c.if-is_old.true)
    (map send_of c.in_ok-next.next.items) c.in_ok-next.ensures

pub plan_row-requires-clause-up : goal.plan_row-requires-clause-up
plan_row-requires-clause-up g c = c.in_ok-slots.ensures.looks.serves.up (λ is. cc)

pub plan_row-requires-clause-ready : goal.plan_row-requires-clause-ready
plan_row-requires-clause-ready g c = c.in_ok-slots.ensures.looks.serves.ready (λ is. cc)

pub plan_row-requires-clause-idle : goal.plan_row-requires-clause-idle
plan_row-requires-clause-idle g c = subst (λ (d : ClientDevs). IsIdle d c.args.client) (sym (c.in_ok-slots.ensures.looks.serves.same (λ is. cc))) c.requires.idle

pub plan_row-requires-clause-opened : goal.plan_row-requires-clause-opened
plan_row-requires-clause-opened g c = ap (λ (d : ClientDevs). record_at d c.args.answer.now.table) (c.in_ok-slots.ensures.looks.serves.same (λ is. cc)) ∙ c.requires.opened

pub plan_row-requires-clause-held : goal.plan_row-requires-clause-held
plan_row-requires-clause-held g c = c.in_ok-slots.ensures.slots ∙ ap (λ (d : ClientDevs). held_at d c.args.answer.now.table c.args.header.now.row) (sym (c.in_ok-slots.ensures.looks.serves.same (λ is. cc)))

pub plan_row-requires-clause-newer : goal.plan_row-requires-clause-newer
plan_row-requires-clause-newer g c = sym c.is_old.ensures ∙ c.if-is_old.false

pub returns-in_err-found-clause-looks : goal.returns-in_err-found-clause-looks
returns-in_err-found-clause-looks g c =
    let s = g.D.Disk.state in
    let im = g.D.Disk.images in
    let mid = c.row_slots.new.devs in
    let l = c.in_ok-slots.ensures.looks in
    let p = err_from_is_err_and c.from_residual-in_err-found.result c.from_residual-in_err-found.ensures.1 in
    rw (p.1, p.2) (looks_then s im c.args.devs.now c.plan_row.new.devs c.requires.up c.requires.ready mid c.in_ok-slots.slots (Err c.in_err-found.field-0.0) l
    (looks_err s im mid c.plan_row.new.devs (l.serves.up (λ is. cc)) (l.serves.ready (λ is. cc)) c.in_err-found.field-0.0 c.in_err-found.ensures.looks))

pub returns-clause-looks : goal.returns-clause-looks
returns-clause-looks g c =
    let s = g.D.Disk.state in
    let im = g.D.Disk.images in
    looks_other s im c.args.devs.now c.plan_row.new.devs c.requires.up c.requires.ready c.in_ok-found.found (Ok _) (looks_then s im c.args.devs.now c.plan_row.new.devs c.requires.up c.requires.ready c.row_slots.new.devs c.in_ok-slots.slots (Ok c.in_ok-found.found) c.in_ok-slots.ensures.looks c.in_ok-found.ensures.looks) (λ no. cc)

pub returns-clause-reacts : goal.returns-clause-reacts
returns-clause-reacts g c =
    let d = devs g.D.Disk.state c.args.devs.now in
    let same = c.in_ok-slots.ensures.looks.serves.same (λ is. cc) in
    subst (λ (r : Reaction). Reacts d c.args.client (TornRowResponse c.args.answer.now) r) (sym c.begins.ensures)
    (torn_found d c.args.client c.args.answer.now c.args.opened.now c.requires.opened c.args.header.now c.requires.header c.requires.whole c.in_ok-slots.slots c.in_ok-slots.ensures.slots (sym c.is_old.ensures ∙ c.if-is_old.false)
    (map send_of c.in_ok-next.next.items) c.in_ok-next.ensures c.in_ok-found.found
    (subst (λ (x : ClientDevs). PlansRow x c.args.client c.args.answer.now.table c.args.header.now None (map send_of c.in_ok-next.next.items) c.in_ok-found.found) same c.in_ok-found.ensures.plans))
