use Rattle.std.proofs.Common.{◌≡◌, ℕ, map, Option, Some, None, Result, Ok, Err, sym, ◌∙◌, ap, subst}
use Rattle.std.proofs.lemmas.Result.{err_from_is_err_and}
use Rattle.client_journal.specs.Devs.{ClientDevs}
use Rattle.client_journal.specs.Standing.{devs}
use Rattle.step_tables.specs.Travels.{send_of}
use Rattle.held_contents.specs.Reading.{AreThere}
use Rattle.journal_laws.specs.Whole.{pieces_by}
use Rattle.client_node.specs.Requesting.{request_with}
use Rattle.client_node.specs.Spelling.{SpellsContent, IsFewChunks}
use Rattle.client_node.specs.declared.fault.CallFault.TheVariants as call
use Rattle.client_node.proofs.Serving.{looks_err, looks_other, looks_then}
use Rattle.client_node.proofs.SendPlans.{few_there, some_sized, sending_is}
use Rattle.client_node.proofs.calls.sending.plan_of_main.Goals as goal

pub returns-in_err-last-clause-looks : goal.returns-in_err-last-clause-looks
returns-in_err-last-clause-looks g c =
    let p = err_from_is_err_and c.from_residual.result c.from_residual.ensures.1 in
    rw (p.1, p.2) (looks_err g.D.Disk.state g.D.Disk.images c.args.devs.now c.last_write.new.devs c.requires.up c.requires.ready c.in_err-last.field-0.0 c.in_err-last.ensures.looks)

pub spell_held-requires-clause-up : goal.spell_held-requires-clause-up
spell_held-requires-clause-up g c = c.in_ok-last.ensures.looks.serves.up (λ is. cc)

pub spell_held-requires-clause-ready : goal.spell_held-requires-clause-ready
spell_held-requires-clause-ready g c = c.in_ok-last.ensures.looks.serves.ready (λ is. cc)

pub spell_held-requires-clause-size : goal.spell_held-requires-clause-size
spell_held-requires-clause-size g c = some_sized (devs g.D.Disk.state c.args.devs.now) c.args.client c.args.table c.args.row.now c.args.opened.now c.requires.opened c.args.slots.now c.requires.held c.args.main.now c.requires.main c.requires.idle

pub spell_held-requires-clause-few : goal.spell_held-requires-clause-few
spell_held-requires-clause-few g c =
    subst (λ (d : ClientDevs). IsFewChunks d c.args.opened.now.schema.chunk c.args.main.now.content) (sym (c.in_ok-last.ensures.looks.serves.same (λ is. cc)))
    (few_there (devs g.D.Disk.state c.args.devs.now) c.args.client c.args.table c.args.row.now c.args.opened.now c.requires.opened c.args.slots.now c.requires.held c.args.main.now c.requires.main c.requires.idle)

pub returns-in_err-spelled-clause-looks : goal.returns-in_err-spelled-clause-looks
returns-in_err-spelled-clause-looks g c =
    let s = g.D.Disk.state in
    let im = g.D.Disk.images in
    let mid = c.last_write.new.devs in
    let l = c.in_ok-last.ensures.looks in
    let p = err_from_is_err_and c.from_residual-in_err-spelled.result c.from_residual-in_err-spelled.ensures.1 in
    rw (p.1, p.2) (looks_then s im c.args.devs.now c.spell_held.new.devs c.requires.up c.requires.ready mid c.in_ok-last.last (Err c.in_err-spelled.field-0.0) l
    (looks_err s im mid c.spell_held.new.devs (l.serves.up (λ is. cc)) (l.serves.ready (λ is. cc)) c.in_err-spelled.field-0.0 c.in_err-spelled.ensures.looks))

pub returns-in_err-parted-clause-looks : goal.returns-in_err-parted-clause-looks
returns-in_err-parted-clause-looks g c =
    let s = g.D.Disk.state in
    let im = g.D.Disk.images in
    let p = err_from_is_err_and c.from_residual-in_err-parted.result c.from_residual-in_err-parted.ensures.1 in
    rw (p.1, p.2) (looks_other s im c.args.devs.now c.spell_held.new.devs c.requires.up c.requires.ready c.in_ok-spelled.spelled (Err call.Memory) (looks_then s im c.args.devs.now c.spell_held.new.devs c.requires.up c.requires.ready c.last_write.new.devs c.in_ok-last.last (Ok c.in_ok-spelled.spelled) c.in_ok-last.ensures.looks c.in_ok-spelled.ensures.looks) (λ no. cc))

pub returns-in_err-made-clause-looks : goal.returns-in_err-made-clause-looks
returns-in_err-made-clause-looks g c =
    let s = g.D.Disk.state in
    let im = g.D.Disk.images in
    let p = err_from_is_err_and c.from_residual-in_err-made.result c.from_residual-in_err-made.ensures.1 in
    rw (p.1, p.2) (looks_other s im c.args.devs.now c.spell_held.new.devs c.requires.up c.requires.ready c.in_ok-spelled.spelled (Err call.Memory) (looks_then s im c.args.devs.now c.spell_held.new.devs c.requires.up c.requires.ready c.last_write.new.devs c.in_ok-last.last (Ok c.in_ok-spelled.spelled) c.in_ok-last.ensures.looks c.in_ok-spelled.ensures.looks) (λ no. cc))

pub returns-in_err-messages-clause-looks : goal.returns-in_err-messages-clause-looks
returns-in_err-messages-clause-looks g c =
    let s = g.D.Disk.state in
    let im = g.D.Disk.images in
    let p = err_from_is_err_and c.from_residual-in_err-messages.result c.from_residual-in_err-messages.ensures.1 in
    rw (p.1, p.2) (looks_other s im c.args.devs.now c.spell_held.new.devs c.requires.up c.requires.ready c.in_ok-spelled.spelled (Err call.Memory) (looks_then s im c.args.devs.now c.spell_held.new.devs c.requires.up c.requires.ready c.last_write.new.devs c.in_ok-last.last (Ok c.in_ok-spelled.spelled) c.in_ok-last.ensures.looks c.in_ok-spelled.ensures.looks) (λ no. cc))

pub returns-in_err-found-clause-looks : goal.returns-in_err-found-clause-looks
returns-in_err-found-clause-looks g c =
    let s = g.D.Disk.state in
    let im = g.D.Disk.images in
    let p = err_from_is_err_and c.from_residual-in_err-found.result c.from_residual-in_err-found.ensures.1 in
    rw (p.1, p.2) (looks_other s im c.args.devs.now c.spell_held.new.devs c.requires.up c.requires.ready c.in_ok-spelled.spelled (Err call.Memory) (looks_then s im c.args.devs.now c.spell_held.new.devs c.requires.up c.requires.ready c.last_write.new.devs c.in_ok-last.last (Ok c.in_ok-spelled.spelled) c.in_ok-last.ensures.looks c.in_ok-spelled.ensures.looks) (λ no. cc))

pub returns-clause-looks : goal.returns-clause-looks
returns-clause-looks g c =
    let s = g.D.Disk.state in
    let im = g.D.Disk.images in
    looks_other s im c.args.devs.now c.spell_held.new.devs c.requires.up c.requires.ready c.in_ok-spelled.spelled (Ok c.in_ok-found.found) (looks_then s im c.args.devs.now c.spell_held.new.devs c.requires.up c.requires.ready c.last_write.new.devs c.in_ok-last.last (Ok c.in_ok-spelled.spelled) c.in_ok-last.ensures.looks c.in_ok-spelled.ensures.looks) (λ no. cc)

pub returns-clause-plan : goal.returns-clause-plan
returns-clause-plan g c =
    let s = g.D.Disk.state in
    let d = devs s c.args.devs.now in
    let same = c.in_ok-last.ensures.looks.serves.same (λ is. cc) in
    let spelled = c.in_ok-spelled.spelled in
    let k = c.in_ok-spelled.ensures in
    sending_is d c.args.client c.args.table c.args.row.now c.args.opened.now c.requires.opened c.args.slots.now c.requires.held c.args.main.now c.requires.main c.in_ok-last.last c.in_ok-last.ensures.last
    spelled.content (λ meaning there. k.whole meaning (subst (λ (x : ClientDevs). AreThere meaning x c.args.main.now.content) (sym same) there)) spelled.pieces (subst (λ (x : ClientDevs). SpellsContent x c.args.opened.now.schema.chunk c.args.slots.now.shadow spelled.content spelled.pieces) same k.spells)
    c.in_ok-made.made c.in_ok-made.ensures c.in_ok-found.ensures.len c.in_ok-found.ensures.known (send_of c.request_with-request.result)
    (c.request_with-request.ensures ∙ (ap (request_with c.args.client c.args.table c.args.row.now c.args.main.now.number c.version_in-base.result spelled.content) c.in_ok-parted.ensures
    ∙ ap (λ n. request_with c.args.client c.args.table c.args.row.now c.args.main.now.number n spelled.content (pieces_by c.args.main.now.content spelled.pieces)) c.version_in-base.ensures))
    (map send_of c.in_ok-messages.messages.items) (ap (map send_of) c.in_ok-messages.ensures.items) c.in_ok-found.found c.in_ok-found.ensures.none c.in_ok-found.ensures.some
