use Rattle.std.proofs.Common.{ℕ, List, Ok, Err, ap, subst, ◌∙◌}
use Rattle.std.proofs.lemmas.Result.{err_from_is_err_and}
use Rattle.held_value.specs.declared.slots.Slots.{Slots}
use Rattle.client_node.specs.Carrying.{IsNotedRow}
use Rattle.client_node.specs.declared.fault.CallFault.TheVariants as call
use Rattle.client_node.proofs.AskedAgain.{ok_not}
use Rattle.client_node.proofs.Serving.{looks_err, looks_other}
use Rattle.client_node.proofs.starting.note_held.Goals as goal

pub returns-in_err-slots-clause-looks : goal.returns-in_err-slots-clause-looks
returns-in_err-slots-clause-looks g c =
    let p = err_from_is_err_and c.from_residual.result c.from_residual.ensures.1 in
    rw (p.1, p.2) (looks_err g.D.Disk.state g.D.Disk.images c.args.devs.now c.row_slots.new.devs c.requires.up c.requires.ready c.in_err-slots.field-0.0 c.in_err-slots.ensures.looks)

pub returns-in_err-note_row-clause-looks : goal.returns-in_err-note_row-clause-looks
returns-in_err-note_row-clause-looks g c =
    let p = err_from_is_err_and c.from_residual-in_err-note_row.result c.from_residual-in_err-note_row.ensures.1 in
    rw (p.1, p.2) (looks_other g.D.Disk.state g.D.Disk.images c.args.devs.now c.row_slots.new.devs c.requires.up c.requires.ready c.in_ok-slots.slots (Err call.Memory) c.in_ok-slots.ensures.looks (λ no. cc))

pub returns-clause-looks : goal.returns-clause-looks
returns-clause-looks g c = looks_other g.D.Disk.state g.D.Disk.images c.args.devs.now c.row_slots.new.devs c.requires.up c.requires.ready c.in_ok-slots.slots (Ok tt) c.in_ok-slots.ensures.looks (ok_not tt)

pub returns-clause-noted : goal.returns-clause-noted
returns-clause-noted g c = subst (λ (slots : Slots). IsNotedRow c.note_row.new.waiting c.args.table (record { row = c.args.row.now; slots = slots })) c.in_ok-slots.ensures.slots c.in_ok-note_row.ensures.noted
