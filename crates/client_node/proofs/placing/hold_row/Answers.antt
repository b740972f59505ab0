use Rattle.std.proofs.Common.{◌≡◌, ◌++◌, ℕ, List, Option, Err, sym, ◌∙◌, ap, subst}
use Rattle.std.proofs.lemmas.Result.{err_from_is_err_and}
use Rattle.held_value.specs.declared.content.HeldContent.{HeldContent}
use Rattle.held_value.specs.declared.content.HeldPiece.{HeldPiece}
use Rattle.client_tables.specs.Shown.{shown_content}
use Rattle.client_journal.specs.Devs.{ClientDevs}
use Rattle.client_journal.specs.Standing.{devs}
use Rattle.held_contents.specs.Reading.{AreThereIf, chunks_shown}
use Rattle.kept_chunks.specs.Kept.{HoldsKept}
use Rattle.client_node.specs.declared.fault.CallFault.TheVariants as call
use Rattle.client_node.specs.Placing.{IsRowThere, chunks_behind}
use Rattle.client_node.proofs.Serving.{looks_then, looks_err, looks_other}
use Rattle.client_node.proofs.placing.hold_row.Goals as goal

pub returns-in_err-shown-clause-looks : goal.returns-in_err-shown-clause-looks
returns-in_err-shown-clause-looks g c =
    let p = err_from_is_err_and c.from_residual.result c.from_residual.ensures.1 in
    rw (p.1, p.2) (looks_err g.D.Disk.state g.D.Disk.images c.args.devs.now c.chunks_of.new.devs c.requires.up c.requires.ready c.in_err-shown.field-0.0 c.in_err-shown.ensures.looks)

pub chunks_behind-requires-clause-up : goal.chunks_behind-requires-clause-up
chunks_behind-requires-clause-up g c = c.in_ok-shown.ensures.looks.serves.up (λ is. cc)

pub chunks_behind-requires-clause-ready : goal.chunks_behind-requires-clause-ready
chunks_behind-requires-clause-ready g c = c.in_ok-shown.ensures.looks.serves.ready (λ is. cc)

pub returns-in_err-read-clause-looks : goal.returns-in_err-read-clause-looks
returns-in_err-read-clause-looks g c =
    let s = g.D.Disk.state in
    let im = g.D.Disk.images in
    let mid = c.chunks_of.new.devs in
    let l = c.in_ok-shown.ensures.looks in
    let p = err_from_is_err_and c.from_residual-in_err-read.result c.from_residual-in_err-read.ensures.1 in
    let e = c.in_err-read.field-0.0 in
    rw (p.1, p.2) (looks_then s im c.args.devs.now c.chunks_behind.new.devs c.requires.up c.requires.ready mid c.in_ok-shown.shown (Err e) l
    (looks_err s im mid c.chunks_behind.new.devs (l.serves.up (λ is. cc)) (l.serves.ready (λ is. cc)) e c.in_err-read.ensures.looks))

pub returns-in_err-held-clause-looks : goal.returns-in_err-held-clause-looks
returns-in_err-held-clause-looks g c =
    let s = g.D.Disk.state in
    let im = g.D.Disk.images in
    let mid = c.chunks_of.new.devs in
    let l = c.in_ok-shown.ensures.looks in
    let p = err_from_is_err_and c.from_residual-in_err-held.result c.from_residual-in_err-held.ensures.1 in
    rw (p.1, p.2) (looks_then s im c.args.devs.now c.chunks_behind.new.devs c.requires.up c.requires.ready mid c.in_ok-shown.shown (Err call.Memory) l
    (looks_other s im mid c.chunks_behind.new.devs (l.serves.up (λ is. cc)) (l.serves.ready (λ is. cc)) _ (Err call.Memory) c.in_ok-read.ensures.looks (λ no. cc)))

pub returns-clause-looks : goal.returns-clause-looks
returns-clause-looks g c =
    let s = g.D.Disk.state in
    let im = g.D.Disk.images in
    let mid = c.chunks_of.new.devs in
    let l = c.in_ok-shown.ensures.looks in
    looks_then s im c.args.devs.now c.chunks_behind.new.devs c.requires.up c.requires.ready mid c.in_ok-shown.shown _ l
    (looks_other s im mid c.chunks_behind.new.devs (l.serves.up (λ is. cc)) (l.serves.ready (λ is. cc)) _ _ c.in_ok-read.ensures.looks (λ no. cc))

pub returns-clause-holds : goal.returns-clause-holds
returns-clause-holds g c meaning there =
    let made = c.in_ok-held.held in
    let same = c.in_ok-shown.ensures.looks.serves.same (λ is. cc) in
    let shown = c.in_ok-shown.ensures.chunks meaning (subst (λ (o : Option HeldContent). AreThereIf meaning (devs g.D.Disk.state c.args.devs.now) o) (sym c.shown_content.ensures) there.shown) ∙ ap (chunks_shown meaning) c.shown_content.ensures in
    let more : c.in_ok-read.read ++ c.in_ok-read.conflict ≡ chunks_behind meaning c.args.slots.now = c.in_ok-read.ensures.chunks meaning (subst (λ (d : ClientDevs). IsRowThere meaning d c.args.slots.now) (sym same) there) in
    subst (λ (l : List (List (HeldPiece × List ℕ))). HoldsKept c.args.size l (chunks_behind meaning c.args.slots.now) c.args.content.now c.args.names.now made) shown
    (subst (λ (l : List (List (HeldPiece × List ℕ))). HoldsKept c.args.size c.in_ok-shown.shown l c.args.content.now c.args.names.now made) more c.in_ok-held.ensures.kept)
