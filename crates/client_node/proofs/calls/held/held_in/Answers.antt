use Rattle.std.proofs.Common.{Err, sym, subst}
use Rattle.std.proofs.lemmas.Result.{err_from_is_err_and}
use Rattle.client_journal.specs.Devs.{ClientDevs}
use Rattle.client_journal.specs.Standing.{devs}
use Rattle.held_contents.specs.Reading.{AreThereIf, content_read}
use Rattle.client_node.proofs.NamedChunks.{held_is}
use Rattle.client_node.proofs.Serving.{looks_then, looks_err, looks_other}
use Rattle.client_node.proofs.calls.held.held_in.Goals as goal

pub returns-in_err-slots-clause-looks : goal.returns-in_err-slots-clause-looks
returns-in_err-slots-clause-looks g c =
    let p = err_from_is_err_and c.from_residual.result c.from_residual.ensures.1 in
    rw (p.1, p.2) (looks_err g.D.Disk.state g.D.Disk.images c.args.devs.now c.row_slots.new.devs c.requires.up c.requires.ready c.in_err-slots.field-0.0 c.in_err-slots.ensures.looks)

pub chunks_named-requires-clause-up : goal.chunks_named-requires-clause-up
chunks_named-requires-clause-up g c = c.in_ok-slots.ensures.looks.serves.up (λ is. cc)

pub chunks_named-requires-clause-ready : goal.chunks_named-requires-clause-ready
chunks_named-requires-clause-ready g c = c.in_ok-slots.ensures.looks.serves.ready (λ is. cc)

pub returns-in_err-held-clause-looks : goal.returns-in_err-held-clause-looks
returns-in_err-held-clause-looks g c =
    let s = g.D.Disk.state in
    let im = g.D.Disk.images in
    let mid = c.row_slots.new.devs in
    let l = c.in_ok-slots.ensures.looks in
    let p = err_from_is_err_and c.from_residual-in_err-held.result c.from_residual-in_err-held.ensures.1 in
    let e = c.in_err-held.field-0.0 in
    rw (p.1, p.2) (looks_then s im c.args.devs.now c.chunks_named.new.devs c.requires.up c.requires.ready mid c.in_ok-slots.slots (Err e) l
    (looks_err s im mid c.chunks_named.new.devs (l.serves.up (λ is. cc)) (l.serves.ready (λ is. cc)) e c.in_err-held.ensures.looks))

pub returns-clause-looks : goal.returns-clause-looks
returns-clause-looks g c =
    let s = g.D.Disk.state in
    let im = g.D.Disk.images in
    let mid = c.row_slots.new.devs in
    let l = c.in_ok-slots.ensures.looks in
    looks_then s im c.args.devs.now c.chunks_named.new.devs c.requires.up c.requires.ready mid c.in_ok-slots.slots _ l
    (looks_other s im mid c.chunks_named.new.devs (l.serves.up (λ is. cc)) (l.serves.ready (λ is. cc)) c.in_ok-held.held _ c.in_ok-held.ensures.looks (λ no. cc))

pub returns-clause-held : goal.returns-clause-held
returns-clause-held g c client disk w st steady =
    let d = devs g.D.Disk.state c.args.devs.now in
    let same = c.in_ok-slots.ensures.looks.serves.same (λ is. cc) in
    held_is client d disk st w steady c.args.table c.args.row.now c.args.opened.now c.requires.opened c.in_ok-slots.slots c.in_ok-slots.ensures.slots c.version_read.result c.version_read.ensures c.in_ok-held.held
    (λ meaning read conflict. c.in_ok-held.ensures.chunks meaning (subst (λ (x : ClientDevs). AreThereIf meaning x (content_read c.in_ok-slots.slots.shadow)) (sym same) read)
    (subst (λ (x : ClientDevs). AreThereIf meaning x (content_read c.in_ok-slots.slots.conflict)) (sym same) conflict))
