use Rattle.std.proofs.Common.{◌++◌, ℕ, List, Option, Err, sym, ◌∙◌, ap, subst}
use Rattle.std.proofs.lemmas.Result.{err_from_is_err_and}
use Rattle.held_value.specs.declared.content.HeldContent.{HeldContent}
use Rattle.held_value.specs.declared.content.HeldPiece.{HeldPiece}
use Rattle.client_journal.specs.Devs.{ClientDevs}
use Rattle.client_journal.specs.Standing.{devs}
use Rattle.held_contents.specs.Reading.{AreThereIf, chunks_shown, content_read}
use Rattle.client_node.specs.Placing.{read_behind}
use Rattle.client_node.proofs.Serving.{looks_then, looks_err, looks_other}
use Rattle.client_node.proofs.placing.chunks_behind.Goals as goal

pub returns-in_err-read-clause-looks : goal.returns-in_err-read-clause-looks
returns-in_err-read-clause-looks g c =
    let p = err_from_is_err_and c.from_residual.result c.from_residual.ensures.1 in
    rw (p.1, p.2) (looks_err g.D.Disk.state g.D.Disk.images c.args.devs.now c.chunks_of.new.devs c.requires.up c.requires.ready c.in_err-read.field-0.0 c.in_err-read.ensures.looks)

pub chunks_of-requires-2-clause-up : goal.chunks_of-requires-2-clause-up
chunks_of-requires-2-clause-up g c = c.in_ok-read.ensures.looks.serves.up (λ is. cc)

pub chunks_of-requires-2-clause-ready : goal.chunks_of-requires-2-clause-ready
chunks_of-requires-2-clause-ready g c = c.in_ok-read.ensures.looks.serves.ready (λ is. cc)

pub returns-in_err-conflict-clause-looks : goal.returns-in_err-conflict-clause-looks
returns-in_err-conflict-clause-looks g c =
    let s = g.D.Disk.state in
    let im = g.D.Disk.images in
    let mid = c.chunks_of.new.devs in
    let l = c.in_ok-read.ensures.looks in
    let p = err_from_is_err_and c.from_residual-in_err-conflict.result c.from_residual-in_err-conflict.ensures.1 in
    let e = c.in_err-conflict.field-0.0 in
    rw (p.1, p.2) (looks_then s im c.args.devs.now c.chunks_of-2.new.devs c.requires.up c.requires.ready mid c.in_ok-read.read (Err e) l
    (looks_err s im mid c.chunks_of-2.new.devs (l.serves.up (λ is. cc)) (l.serves.ready (λ is. cc)) e c.in_err-conflict.ensures.looks))

pub returns-clause-looks : goal.returns-clause-looks
returns-clause-looks g c =
    let s = g.D.Disk.state in
    let im = g.D.Disk.images in
    let mid = c.chunks_of.new.devs in
    let l = c.in_ok-read.ensures.looks in
    looks_then s im c.args.devs.now c.chunks_of-2.new.devs c.requires.up c.requires.ready mid c.in_ok-read.read _ l
    (looks_other s im mid c.chunks_of-2.new.devs (l.serves.up (λ is. cc)) (l.serves.ready (λ is. cc)) c.in_ok-conflict.conflict _ c.in_ok-conflict.ensures.looks (λ no. cc))

pub returns-clause-chunks : goal.returns-clause-chunks
returns-clause-chunks g c meaning there =
    let same = c.in_ok-read.ensures.looks.serves.same (λ is. cc) in
    let read = c.in_ok-read.ensures.chunks meaning (subst (λ (o : Option HeldContent). AreThereIf meaning (devs g.D.Disk.state c.args.devs.now) o) (sym c.read_behind.ensures) there.read) in
    let conflict = c.in_ok-conflict.ensures.chunks meaning (subst (λ (o : Option HeldContent). AreThereIf meaning (devs g.D.Disk.state c.chunks_of.new.devs) o) (sym c.content_read.ensures)
    (subst (λ (d : ClientDevs). AreThereIf meaning d (content_read c.args.slots.now.conflict)) (sym same) there.conflict)) in
    ap (λ (l : List (List (HeldPiece × List ℕ))). l ++ c.in_ok-conflict.conflict) (read ∙ ap (chunks_shown meaning) c.read_behind.ensures)
    ∙ ap (λ (l : List (List (HeldPiece × List ℕ))). chunks_shown meaning (read_behind c.args.slots.now.main c.args.slots.now.shadow) ++ l) (conflict ∙ ap (chunks_shown meaning) c.content_read.ensures)
