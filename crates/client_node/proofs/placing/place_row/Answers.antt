use Rattle.std.proofs.Common.{◌≡◌, ℕ, List, map, Option, Some, None, Result, Ok, Err, true, false, ⊎_elim, inr, refl, sym, ◌∙◌, ap, subst, [], ◌∷◌}
use Rattle.std.proofs.lemmas.Result.{err_from_is_err_and, IfOk-weaker}
use Rattle.slot_store.specs.declared.held.TableRecord.{TableRecord}
use Rattle.client_journal.specs.Devs.{ClientDevs}
use Rattle.client_journal.specs.Redone.{redone}
use Rattle.client_journal.specs.Standing.{devs}
use Rattle.step_tables.specs.declared.message.Message.TheVariants.{PullResponse}
use Rattle.step_tables.specs.Travels.{send_of}
use Rattle.client_node.specs.declared.fault.CallFault.TheVariants as call
use Rattle.client_node.specs.Answers.{record_at, held_at}
use Rattle.client_node.specs.Readied.{IsIdle, Readies}
use Rattle.client_node.proofs.Serving.{looks_err, looks_ok, looks_fault, looks_none, looks_other, looks_then}
use Rattle.client_node.proofs.Pulled.{moved_result}
use Rattle.client_node.proofs.placing.place_row.Goals as goal

pub returns-in_err-slots-clause-looks : goal.returns-in_err-slots-clause-looks
returns-in_err-slots-clause-looks g c =
    let p = err_from_is_err_and c.from_residual.result c.from_residual.ensures.1 in
    rw (p.1, p.2) (looks_err g.D.Disk.state g.D.Disk.images c.args.devs.now c.row_slots.new.devs c.requires.up c.requires.ready c.in_err-slots.field-0.0 c.in_err-slots.ensures.looks)

pub move_position-requires-clause-up : goal.move_position-requires-clause-up
move_position-requires-clause-up g c = c.in_ok-slots.ensures.looks.serves.up (λ is. cc)

pub move_position-requires-clause-ready : goal.move_position-requires-clause-ready
move_position-requires-clause-ready g c = c.in_ok-slots.ensures.looks.serves.ready (λ is. cc)

pub returns-then-is_old-clause-looks : goal.returns-then-is_old-clause-looks
returns-then-is_old-clause-looks g c = looks_then g.D.Disk.state g.D.Disk.images c.args.devs.now c.move_position.new.devs c.requires.up c.requires.ready c.row_slots.new.devs c.in_ok-slots.slots c.move_position.result c.in_ok-slots.ensures.looks c.move_position.ensures.looks

pub returns-then-is_old-clause-readies : goal.returns-then-is_old-clause-readies
returns-then-is_old-clause-readies g c =
    let d = devs g.D.Disk.state c.args.devs.now in
    let same = c.in_ok-slots.ensures.looks.serves.same (λ is. cc) in
    let k = c.move_position.ensures in
    moved_result d c.args.client c.args.pulled.now c.args.opened.now c.requires.opened c.args.header.now c.requires.header c.requires.next c.in_ok-slots.slots c.in_ok-slots.ensures.slots (sym c.is_old.ensures ∙ c.if-is_old.true) (redone (devs g.D.Disk.state c.row_slots.new.devs)).last (ap (λ (x : ClientDevs). (redone x).last) same)
    c.move_position.result k.few k.some k.moves

pub put_row-requires-clause-up : goal.put_row-requires-clause-up
put_row-requires-clause-up g c = c.in_ok-slots.ensures.looks.serves.up (λ is. cc)

pub put_row-requires-clause-ready : goal.put_row-requires-clause-ready
put_row-requires-clause-ready g c = c.in_ok-slots.ensures.looks.serves.ready (λ is. cc)

pub put_row-requires-clause-idle : goal.put_row-requires-clause-idle
put_row-requires-clause-idle g c = subst (λ (d : ClientDevs). IsIdle d c.args.client) (sym (c.in_ok-slots.ensures.looks.serves.same (λ is. cc))) c.requires.idle

pub put_row-requires-clause-opened : goal.put_row-requires-clause-opened
put_row-requires-clause-opened g c = ap (λ (d : ClientDevs). record_at d c.args.pulled.now.table) (c.in_ok-slots.ensures.looks.serves.same (λ is. cc)) ∙ c.requires.opened

pub put_row-requires-clause-held : goal.put_row-requires-clause-held
put_row-requires-clause-held g c = c.in_ok-slots.ensures.slots ∙ ap (λ (d : ClientDevs). held_at d c.args.pulled.now.table c.args.header.now.row) (sym (c.in_ok-slots.ensures.looks.serves.same (λ is. cc)))

pub put_row-requires-clause-newer : goal.put_row-requires-clause-newer
put_row-requires-clause-newer g c = sym c.is_old.ensures ∙ c.if-is_old.false

pub returns-clause-looks : goal.returns-clause-looks
returns-clause-looks g c = looks_then g.D.Disk.state g.D.Disk.images c.args.devs.now c.put_row.new.devs c.requires.up c.requires.ready c.row_slots.new.devs c.in_ok-slots.slots c.put_row.result c.in_ok-slots.ensures.looks c.put_row.ensures.looks

pub returns-clause-readies : goal.returns-clause-readies
returns-clause-readies g c =
    let same = c.in_ok-slots.ensures.looks.serves.same (λ is. cc) in
    IfOk-weaker c.put_row.result _ _ (λ o r. subst (λ (d : ClientDevs). Readies d c.args.client (PullResponse c.args.pulled.now) o) same r) c.put_row.ensures.readies
