use Rattle.std.proofs.Common.{◌≡◌, ℕ, ◌<◌, Ok, Err, length, sym, ap, subst}
use Rattle.std.specs.Prelude.{◌^◌, IfOk}
use Rattle.std.proofs.lemmas.Result.{err_from_is_err_and}
use Rattle.row_value.specs.declared.content.Content.{Content}
use Rattle.client_journal.specs.Devs.{ClientDevs}
use Rattle.client_journal.specs.Standing.{devs}
use Rattle.step_tables.specs.Chunks.{flat}
use Rattle.client_node.specs.Spelling.{cuts_of, SpellsContent}
use Rattle.client_node.proofs.Serving.{looks_ok, looks_fault, looks_err, looks_other, looks_then}
use Rattle.client_node.proofs.spelling.spell_held.Goals as goal

pub returns-in_err-content-clause-looks : goal.returns-in_err-content-clause-looks
returns-in_err-content-clause-looks g c =
    let p = err_from_is_err_and c.from_residual.result c.from_residual.ensures.1 in
    rw (p.1, p.2) (looks_fault g.D.Disk.state g.D.Disk.images c.args.devs.now c.read_whole.new.devs c.requires.up c.requires.ready c.in_err-content.field-0.0 c.in_err-content.ensures.asks)

pub spell_content-requires-clause-up : goal.spell_content-requires-clause-up
spell_content-requires-clause-up g c = (looks_ok g.D.Disk.state g.D.Disk.images c.args.devs.now c.read_whole.new.devs c.requires.up c.requires.ready c.in_ok-content.content c.in_ok-content.ensures.asks (Ok c.in_ok-content.content) (λ no. cc)).serves.up (λ is. cc)

pub spell_content-requires-clause-ready : goal.spell_content-requires-clause-ready
spell_content-requires-clause-ready g c = (looks_ok g.D.Disk.state g.D.Disk.images c.args.devs.now c.read_whole.new.devs c.requires.up c.requires.ready c.in_ok-content.content c.in_ok-content.ensures.asks (Ok c.in_ok-content.content) (λ no. cc)).serves.ready (λ is. cc)

pub spell_content-requires-clause-few : goal.spell_content-requires-clause-few
spell_content-requires-clause-few g c =
    let f = c.requires.few in
    subst (λ (x : Content). length (flat (cuts_of c.args.size x)) < 2 ^ 32) (sym (c.in_ok-content.ensures.whole f.meaning f.there)) f.few

pub returns-in_err-pieces-clause-looks : goal.returns-in_err-pieces-clause-looks
returns-in_err-pieces-clause-looks g c =
    let s = g.D.Disk.state in
    let im = g.D.Disk.images in
    let mid = c.read_whole.new.devs in
    let l = looks_ok s im c.args.devs.now mid c.requires.up c.requires.ready c.in_ok-content.content c.in_ok-content.ensures.asks (Ok c.in_ok-content.content) (λ no. cc) in
    let p = err_from_is_err_and c.from_residual-in_err-pieces.result c.from_residual-in_err-pieces.ensures.1 in
    rw (p.1, p.2) (looks_then s im c.args.devs.now c.spell_content.new.devs c.requires.up c.requires.ready mid c.in_ok-content.content (Err c.in_err-pieces.field-0.0) l
    (looks_err s im mid c.spell_content.new.devs (l.serves.up (λ is. cc)) (l.serves.ready (λ is. cc)) c.in_err-pieces.field-0.0 c.in_err-pieces.ensures.looks))

pub returns-clause-looks : goal.returns-clause-looks
returns-clause-looks g c =
    let s = g.D.Disk.state in
    let im = g.D.Disk.images in
    let mid = c.read_whole.new.devs in
    let l = looks_ok s im c.args.devs.now mid c.requires.up c.requires.ready c.in_ok-content.content c.in_ok-content.ensures.asks (Ok c.in_ok-content.content) (λ no. cc) in
    looks_other s im c.args.devs.now c.spell_content.new.devs c.requires.up c.requires.ready c.in_ok-pieces.pieces (Ok _)
    (looks_then s im c.args.devs.now c.spell_content.new.devs c.requires.up c.requires.ready mid c.in_ok-content.content (Ok c.in_ok-pieces.pieces) l c.in_ok-pieces.ensures.looks) (λ no. cc)

pub returns-clause-spells : goal.returns-clause-spells
returns-clause-spells g c =
    let l = looks_ok g.D.Disk.state g.D.Disk.images c.args.devs.now c.read_whole.new.devs c.requires.up c.requires.ready c.in_ok-content.content c.in_ok-content.ensures.asks (Ok c.in_ok-content.content) (λ no. cc) in
    subst (λ (d : ClientDevs). SpellsContent d c.args.size c.args.shadow.now c.in_ok-content.content c.in_ok-pieces.pieces) (l.serves.same (λ is. cc)) c.in_ok-pieces.ensures.spells
