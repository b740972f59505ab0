use Rattle.std.proofs.Common.{◌≡◌, ⊎_elim, Ok, Err, ◌∙◌, ap}
use Rattle.std.proofs.lemmas.Result.{err_from_is_err_and}
use Rattle.client_journal.specs.Devs.{ClientDevs}
use Rattle.client_journal.specs.Standing.{devs}
use Rattle.client_node.specs.Answers.{held_at}
use Rattle.client_node.proofs.Serving.{looks_then, looks_err}
use Rattle.client_node.proofs.Shown.{show_fault, show_closed, show_row}
use Rattle.client_node.proofs.reading.show.Goals as goal

pub returns-in_err-_opened-clause-answered : goal.returns-in_err-_opened-clause-answered
returns-in_err-_opened-clause-answered g c n disk st =
    let d = devs g.D.Disk.state c.args.devs.now in
    let p = err_from_is_err_and c.from_residual.result c.from_residual.ensures.1 in
    rw (p.1, p.2) (⊎_elim (λ none. show_closed n d disk st c.args.table c.args.row.now c.in_err-_opened.field-0.0 none.0 none.1) (λ fault. show_fault n d disk st c.args.table c.args.row.now c.in_err-_opened.field-0.0 fault) c.in_err-_opened.ensures.refused)

pub returns-in_err-slots-clause-looks : goal.returns-in_err-slots-clause-looks
returns-in_err-slots-clause-looks g c =
    let s = g.D.Disk.state in
    let im = g.D.Disk.images in
    let old = c.args.devs.now in
    let mid = c.open_table.new.devs in
    let l = c.in_ok-_opened.ensures.looks in
    let p = err_from_is_err_and c.from_residual-in_err-slots.result c.from_residual-in_err-slots.ensures.1 in
    rw (p.1, p.2) (looks_then s im old c.row_slots.new.devs c.requires.up c.requires.ready mid _ (Err c.in_err-slots.field-0.0) l
    (looks_err s im mid c.row_slots.new.devs (l.serves.up (λ is. cc)) (l.serves.ready (λ is. cc)) c.in_err-slots.field-0.0 c.in_err-slots.ensures.looks))

pub returns-clause-looks : goal.returns-clause-looks
returns-clause-looks g c =
    let s = g.D.Disk.state in
    let im = g.D.Disk.images in
    let old = c.args.devs.now in
    let one = c.open_table.new.devs in
    let two = c.row_slots.new.devs in
    let new = c.read_shown.new.devs in
    let a = c.in_ok-_opened.ensures.looks in
    let b = c.in_ok-slots.ensures.looks in
    looks_then s im old new c.requires.up c.requires.ready one _ c.read_shown.result a
    (looks_then s im one new (a.serves.up (λ is. cc)) (a.serves.ready (λ is. cc)) two _ c.read_shown.result b c.read_shown.ensures.looks)

pub returns-clause-answered : goal.returns-clause-answered
returns-clause-answered g c n disk st =
    let s = g.D.Disk.state in
    let d = devs s c.args.devs.now in
    let a = c.in_ok-_opened.ensures.looks.serves.same (λ is. cc) in
    let b = c.in_ok-slots.ensures.looks.serves.same (λ is. cc) in
    show_row n d disk st c.args.table c.args.row.now _ c.in_ok-_opened.ensures.opened c.in_ok-slots.slots (c.in_ok-slots.ensures.slots ∙ ap (λ (x : ClientDevs). held_at x c.args.table c.args.row.now) a)
    (devs s c.row_slots.new.devs) (b ∙ a) c.read_shown.result c.read_shown.ensures.shown c.read_shown.ensures.refused
