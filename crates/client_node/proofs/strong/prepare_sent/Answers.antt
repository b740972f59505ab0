use Rattle.std.proofs.Common.{◌∷◌, [], inr, ⊎_elim, Ok, Err, refl, sym, ◌∙◌, ap, subst}
use Rattle.std.proofs.lemmas.Result.{err_from_is_err_and}
use Rattle.std.specs.Prelude.{map}
use Rattle.client_tables.specs.Shown.{shown_content}
use Rattle.client_tables.specs.Transitions.{written_strong}
use Rattle.client_journal.specs.Devs.{ClientDevs}
use Rattle.client_journal.specs.Standing.{devs}
use Rattle.held_contents.specs.Reading.{AreThereIf}
use Rattle.step_tables.specs.Travels.{send_of}
use Rattle.table_model.specs.declared.line.Write.{Write}
use Rattle.client_node.specs.declared.fault.CallFault.TheVariants as call
use Rattle.client_node.specs.Preparing.{MakesChange, wrote}
use Rattle.journal_laws.specs.Whole.{pieces_by}
use Rattle.client_node.specs.Requesting.{request_with}
use Rattle.client_node.specs.Spelling.{SpellsContent}
use Rattle.client_node.proofs.Looked.{some_size}
use Rattle.client_node.proofs.NewContents.{holds_now, few_cuts}
use Rattle.client_node.proofs.Serving.{looks_then, looks_err, looks_other}
use Rattle.client_node.proofs.strong.prepare_sent.Goals as goal

pub returns-in_err-number-clause-looks : goal.returns-in_err-number-clause-looks
returns-in_err-number-clause-looks g c =
    let p = err_from_is_err_and c.from_residual.result c.from_residual.ensures.1 in
    rw (p.1, p.2) (looks_err g.D.Disk.state g.D.Disk.images c.args.devs.now c.next_write.new.devs c.requires.up c.requires.ready c.in_err-number.field-0.0 c.in_err-number.ensures.looks)

pub returns-in_err-number-clause-refused : goal.returns-in_err-number-clause-refused
returns-in_err-number-clause-refused g c =
    let p = err_from_is_err_and c.from_residual.result c.from_residual.ensures.1 in
    rw (p.1, p.2) c.in_err-number.ensures.refused

pub returns-in_err-check_unused-clause-looks : goal.returns-in_err-check_unused-clause-looks
returns-in_err-check_unused-clause-looks g c =
    let p = err_from_is_err_and c.from_residual-in_err-check_unused.result c.from_residual-in_err-check_unused.ensures.1 in
    let is = c.in_err-check_unused.ensures.refused in
    rw (p.1, p.2, is) (looks_other g.D.Disk.state g.D.Disk.images c.args.devs.now c.next_write.new.devs c.requires.up c.requires.ready c.in_ok-number.number _ c.in_ok-number.ensures.looks (λ no. cc))

pub returns-in_err-check_unused-clause-refused : goal.returns-in_err-check_unused-clause-refused
returns-in_err-check_unused-clause-refused g c =
    let p = err_from_is_err_and c.from_residual-in_err-check_unused.result c.from_residual-in_err-check_unused.ensures.1 in
    rw (p.1, p.2) (inr (inr c.in_err-check_unused.ensures.refused))

pub hold_new-requires-clause-up : goal.hold_new-requires-clause-up
hold_new-requires-clause-up g c = c.in_ok-number.ensures.looks.serves.up (λ is. cc)

pub hold_new-requires-clause-ready : goal.hold_new-requires-clause-ready
hold_new-requires-clause-ready g c = c.in_ok-number.ensures.looks.serves.ready (λ is. cc)

pub hold_new-requires-clause-size : goal.hold_new-requires-clause-size
hold_new-requires-clause-size g c = some_size c.args.at.now.opened.schema.chunk c.requires.spelled.size

pub hold_new-requires-clause-fit : goal.hold_new-requires-clause-fit
hold_new-requires-clause-fit g c = record { schema = c.args.at.now.opened.schema; chunk = refl; fit = c.requires.fits }

pub returns-in_err-new-clause-looks : goal.returns-in_err-new-clause-looks
returns-in_err-new-clause-looks g c =
    let s = g.D.Disk.state in
    let im = g.D.Disk.images in
    let mid = c.next_write.new.devs in
    let l = c.in_ok-number.ensures.looks in
    let p = err_from_is_err_and c.from_residual-in_err-new.result c.from_residual-in_err-new.ensures.1 in
    let e = c.in_err-new.field-0.0 in
    rw (p.1, p.2) (looks_then s im c.args.devs.now c.hold_new.new.devs c.requires.up c.requires.ready mid c.in_ok-number.number (Err e) l
    (looks_err s im mid c.hold_new.new.devs (l.serves.up (λ is. cc)) (l.serves.ready (λ is. cc)) e c.in_err-new.ensures.looks))

pub returns-in_err-new-clause-refused : goal.returns-in_err-new-clause-refused
returns-in_err-new-clause-refused g c =
    let p = err_from_is_err_and c.from_residual-in_err-new.result c.from_residual-in_err-new.ensures.1 in
    rw (p.1, p.2) (inr c.in_err-new.ensures.refused)

pub spell_content-requires-clause-up : goal.spell_content-requires-clause-up
spell_content-requires-clause-up g c = c.in_ok-new.ensures.looks.serves.up (λ is. cc)

pub spell_content-requires-clause-ready : goal.spell_content-requires-clause-ready
spell_content-requires-clause-ready g c = c.in_ok-new.ensures.looks.serves.ready (λ is. cc)

pub spell_content-requires-clause-size : goal.spell_content-requires-clause-size
spell_content-requires-clause-size g c = some_size c.args.at.now.opened.schema.chunk c.requires.spelled.size

pub spell_content-requires-clause-few : goal.spell_content-requires-clause-few
spell_content-requires-clause-few g c =
    let at = c.args.at.now in
    let d = devs g.D.Disk.state c.args.devs.now in
    let i = c.requires.idle in
    let is = c.requires.opened in
    let same = c.in_ok-number.ensures.looks.serves.same (λ is. cc) in
    few_cuts c.args.client d i.waiting i.disk i.at at.table at.row at.opened is.opened c.requires.spelled c.args.content c.requires.fits c.know_words.ensures c.in_ok-new.new
    (holds_now c.args.client d i.waiting i.disk i.at at is c.args.content c.in_ok-new.new
    (λ meaning there. c.in_ok-new.ensures.holds meaning (subst (λ (x : ClientDevs). AreThereIf meaning x (shown_content at.slots)) (sym same) there))) c.in_ok-number.number c.in_ok-number.ensures.few

pub returns-in_err-pieces-clause-looks : goal.returns-in_err-pieces-clause-looks
returns-in_err-pieces-clause-looks g c =
    let s = g.D.Disk.state in
    let im = g.D.Disk.images in
    let mid = c.next_write.new.devs in
    let l = c.in_ok-number.ensures.looks in
    let held = looks_then s im c.args.devs.now c.hold_new.new.devs c.requires.up c.requires.ready mid c.in_ok-number.number (Ok c.in_ok-new.new) l c.in_ok-new.ensures.looks in
    let p = err_from_is_err_and c.from_residual-in_err-pieces.result c.from_residual-in_err-pieces.ensures.1 in
    rw (p.1, p.2) (looks_then s im c.args.devs.now c.spell_content.new.devs c.requires.up c.requires.ready c.hold_new.new.devs c.in_ok-new.new (Err c.in_err-pieces.field-0.0) held
    (looks_err s im c.hold_new.new.devs c.spell_content.new.devs (held.serves.up (λ is. cc)) (held.serves.ready (λ is. cc)) c.in_err-pieces.field-0.0 c.in_err-pieces.ensures.looks))

pub returns-in_err-pieces-clause-refused : goal.returns-in_err-pieces-clause-refused
returns-in_err-pieces-clause-refused g c =
    let p = err_from_is_err_and c.from_residual-in_err-pieces.result c.from_residual-in_err-pieces.ensures.1 in
    rw (p.1, p.2) (inr c.in_err-pieces.ensures.refused)

pub returns-in_err-planned-clause-looks : goal.returns-in_err-planned-clause-looks
returns-in_err-planned-clause-looks g c =
    let s = g.D.Disk.state in
    let im = g.D.Disk.images in
    let mid = c.next_write.new.devs in
    let l = c.in_ok-number.ensures.looks in
    let held = looks_then s im c.args.devs.now c.hold_new.new.devs c.requires.up c.requires.ready mid c.in_ok-number.number (Ok c.in_ok-new.new) l c.in_ok-new.ensures.looks in
    let p = err_from_is_err_and c.from_residual-in_err-planned.result c.from_residual-in_err-planned.ensures.1 in
    rw (p.1, p.2) (looks_other s im c.args.devs.now c.spell_content.new.devs c.requires.up c.requires.ready c.in_ok-pieces.pieces (Err call.Memory)
    (looks_then s im c.args.devs.now c.spell_content.new.devs c.requires.up c.requires.ready c.hold_new.new.devs c.in_ok-new.new (Ok c.in_ok-pieces.pieces) held c.in_ok-pieces.ensures.looks) (λ no. cc))

pub returns-clause-looks : goal.returns-clause-looks
returns-clause-looks g c =
    let s = g.D.Disk.state in
    let im = g.D.Disk.images in
    let mid = c.next_write.new.devs in
    let l = c.in_ok-number.ensures.looks in
    let held = looks_then s im c.args.devs.now c.hold_new.new.devs c.requires.up c.requires.ready mid c.in_ok-number.number (Ok c.in_ok-new.new) l c.in_ok-new.ensures.looks in
    looks_other s im c.args.devs.now c.spell_content.new.devs c.requires.up c.requires.ready c.in_ok-pieces.pieces (Ok _)
    (looks_then s im c.args.devs.now c.spell_content.new.devs c.requires.up c.requires.ready c.hold_new.new.devs c.in_ok-new.new (Ok c.in_ok-pieces.pieces) held c.in_ok-pieces.ensures.looks) (λ no. cc)

pub returns-clause-write : goal.returns-clause-write
returns-clause-write g c =
    let at = c.args.at.now in
    let new = c.in_ok-new.new in
    let pieces = c.in_ok-pieces.pieces in
    let same = c.in_ok-number.ensures.looks.serves.same (λ is. cc) in
    let k = c.in_ok-planned.ensures in
    let is = c.write_over-write.ensures in
    record {
      new = new;
      pieces = pieces;
      spells = subst (λ (d : ClientDevs). SpellsContent d at.opened.schema.chunk at.slots.shadow c.args.content pieces) (c.in_ok-new.ensures.looks.serves.same (λ is. cc) ∙ same) c.in_ok-pieces.ensures.spells;
      unused = c.in_ok-check_unused.ensures.unused;
      is = record {
        next = c.in_ok-number.ensures.next;
        few = c.in_ok-number.ensures.few;
        words = c.know_words.ensures;
        holds = λ meaning there. c.in_ok-new.ensures.holds meaning (subst (λ (d : ClientDevs). AreThereIf meaning d (shown_content at.slots)) (sym same) there);
        makes = subst (λ (w : Write). MakesChange at.slots (written_strong at.slots w.number new.content pieces) new.brought w.table w.number w.row c.in_ok-planned.planned) is k.makes;
        facts = k.facts ∙ ap (λ (w : Write). wrote w ∷ []) is;
        sends_are = k.messages ∙ ap (λ (w : Write). request_with w.client w.table w.row w.number w.read w.content (pieces_by new.content pieces) ∷ []) is;
      };
    }
