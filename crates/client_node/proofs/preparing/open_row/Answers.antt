use Rattle.std.proofs.Common.{Err, refl, ◌∙◌, ap}
use Rattle.std.proofs.lemmas.Result.{err_from_is_err_and}
use Rattle.client_journal.specs.Devs.{ClientDevs}
use Rattle.client_node.specs.Answers.{held_at}
use Rattle.client_node.proofs.Serving.{looks_then, looks_err, looks_other}
use Rattle.client_node.proofs.preparing.open_row.Goals as goal

pub returns-in_err-opened-clause-looks : goal.returns-in_err-opened-clause-looks
returns-in_err-opened-clause-looks g c =
    let p = err_from_is_err_and c.from_residual.result c.from_residual.ensures.1 in
    rw (p.1, p.2) (looks_err g.D.Disk.state g.D.Disk.images c.args.devs.now c.open_table.new.devs c.requires.up c.requires.ready c.in_err-opened.field-0.0 c.in_err-opened.ensures.looks)

pub returns-in_err-slots-clause-looks : goal.returns-in_err-slots-clause-looks
returns-in_err-slots-clause-looks g c =
    let s = g.D.Disk.state in
    let im = g.D.Disk.images in
    let old = c.args.devs.now in
    let mid = c.open_table.new.devs in
    let l = c.in_ok-opened.ensures.looks in
    let p = err_from_is_err_and c.from_residual-in_err-slots.result c.from_residual-in_err-slots.ensures.1 in
    rw (p.1, p.2) (looks_then s im old c.row_slots.new.devs c.requires.up c.requires.ready mid _ (Err c.in_err-slots.field-0.0) l
    (looks_err s im mid c.row_slots.new.devs (l.serves.up (λ is. cc)) (l.serves.ready (λ is. cc)) c.in_err-slots.field-0.0 c.in_err-slots.ensures.looks))

pub returns-clause-looks : goal.returns-clause-looks
returns-clause-looks g c =
    let s = g.D.Disk.state in
    let im = g.D.Disk.images in
    let old = c.args.devs.now in
    let mid = c.open_table.new.devs in
    let new = c.row_slots.new.devs in
    let l = c.in_ok-opened.ensures.looks in
    looks_then s im old new c.requires.up c.requires.ready mid _ _ l (looks_other s im mid new (l.serves.up (λ is. cc)) (l.serves.ready (λ is. cc)) _ _ c.in_ok-slots.ensures.looks (λ no. cc))

pub returns-clause-opened : goal.returns-clause-opened
returns-clause-opened g c = record {
  table_is = refl;
  row_is = c.of_16_bytes.ensures.same;
  opened = c.in_ok-opened.ensures.opened;
  slots = c.in_ok-slots.ensures.slots ∙ ap (λ (d : ClientDevs). held_at d c.args.table c.args.row) (c.in_ok-opened.ensures.looks.serves.same (λ is. cc));
  size = c.of_16_bytes.ensures.size;
}
