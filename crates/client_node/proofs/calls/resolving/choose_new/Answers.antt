use Rattle.std.proofs.Common.{◌≡◌, ◌∷◌, [], ℕ, List, inl, inr, ⊎_elim, Ok, Err, refl, sym, ◌∙◌, ap, subst}
use Rattle.std.proofs.lemmas.Result.{err_from_is_err_and}
use Rattle.client_tables.specs.declared.resolving.HeldChoice.TheVariants as choices
use Rattle.client_tables.specs.Shown.{shown_content}
use Rattle.client_tables.specs.Transitions.{resolved}
use Rattle.client_journal.specs.Devs.{ClientDevs}
use Rattle.held_contents.specs.Reading.{AreThereIf}
use Rattle.table_model.specs.declared.line.Write.{Write}
use Rattle.client_node.specs.declared.fault.CallFault.TheVariants as call
use Rattle.client_node.specs.Preparing.{wrote}
use Rattle.client_node.specs.Resolving.{resolved_fact}
use Rattle.client_node.proofs.Answering.{of_err}
use Rattle.client_node.proofs.Looked.{some_size}
use Rattle.client_node.proofs.Serving.{looks_then, looks_err, looks_other, looks_none}
use Rattle.client_node.proofs.WriteRefusals.{fit_not_disk}
use Rattle.client_node.proofs.calls.resolving.choose_new.Goals as goal

pub returns-in_err-fits-clause-looks : goal.returns-in_err-fits-clause-looks
returns-in_err-fits-clause-looks g c =
    let p = err_from_is_err_and c.from_residual.result c.from_residual.ensures.1 in
    rw (p.1, p.2) (looks_none g.D.Disk.state g.D.Disk.images g.met.D.Disk.only_now c.args.devs.now c.requires.up c.requires.ready _
    (λ no. fit_not_disk c.in_err-fits.field-0.0 (of_err _ call.Disk no)))

pub returns-in_err-fits-clause-refused : goal.returns-in_err-fits-clause-refused
returns-in_err-fits-clause-refused g c =
    let p = err_from_is_err_and c.from_residual.result c.from_residual.ensures.1 in
    rw (p.1, p.2) (inl (c.in_err-fits.field-0.0, sym c.fits.ensures ∙ c.in_err-fits.was, refl))

pub returns-in_err-number-clause-looks : goal.returns-in_err-number-clause-looks
returns-in_err-number-clause-looks g c =
    let p = err_from_is_err_and c.from_residual-in_err-number.result c.from_residual-in_err-number.ensures.1 in
    rw (p.1, p.2) (looks_err g.D.Disk.state g.D.Disk.images c.args.devs.now c.next_write.new.devs c.requires.up c.requires.ready c.in_err-number.field-0.0 c.in_err-number.ensures.looks)

pub returns-in_err-number-clause-refused : goal.returns-in_err-number-clause-refused
returns-in_err-number-clause-refused g c =
    let p = err_from_is_err_and c.from_residual-in_err-number.result c.from_residual-in_err-number.ensures.1 in
    rw (p.1, p.2) (inr c.in_err-number.ensures.refused)

pub hold_new-requires-clause-up : goal.hold_new-requires-clause-up
hold_new-requires-clause-up g c = c.in_ok-number.ensures.looks.serves.up (λ is. cc)

pub hold_new-requires-clause-ready : goal.hold_new-requires-clause-ready
hold_new-requires-clause-ready g c = c.in_ok-number.ensures.looks.serves.ready (λ is. cc)

pub hold_new-requires-clause-size : goal.hold_new-requires-clause-size
hold_new-requires-clause-size g c = some_size c.args.at.now.opened.schema.chunk c.requires.spelled.size

pub hold_new-requires-clause-fit : goal.hold_new-requires-clause-fit
hold_new-requires-clause-fit g c = record { schema = c.args.at.now.opened.schema; chunk = refl; fit = sym c.fits.ensures ∙ c.in_ok-fits.was }

pub returns-in_err-new-clause-looks : goal.returns-in_err-new-clause-looks
returns-in_err-new-clause-looks g c =
    let s = g.D.Disk.state in
    let im = g.D.Disk.images in
    let mid = c.next_write.new.devs in
    let l = c.in_ok-number.ensures.looks in
    let p = err_from_is_err_and c.from_residual-in_err-new.result c.from_residual-in_err-new.ensures.1 in
    let e = c.in_err-new.field-0.0 in
    rw (p.1, p.2) (looks_then s im c.args.devs.now c.hold_new.new.devs c.requires.up c.requires.ready mid c.in_ok-number.number (Err e) l
    (looks_err s im mid c.hold_new.new.devs (l.serves.up (λ is. cc)) (l.serves.ready (λ is. cc)) e c.in_err-new.ensures.looks))

pub returns-in_err-new-clause-refused : goal.returns-in_err-new-clause-refused
returns-in_err-new-clause-refused g c =
    let p = err_from_is_err_and c.from_residual-in_err-new.result c.from_residual-in_err-new.ensures.1 in
    rw (p.1, p.2) (inr (inr c.in_err-new.ensures.refused))

pub returns-in_err-facts-clause-looks : goal.returns-in_err-facts-clause-looks
returns-in_err-facts-clause-looks g c =
    let s = g.D.Disk.state in
    let im = g.D.Disk.images in
    let mid = c.next_write.new.devs in
    let l = c.in_ok-number.ensures.looks in
    let p = err_from_is_err_and c.from_residual-in_err-facts.result c.from_residual-in_err-facts.ensures.1 in
    rw (p.1, p.2) (looks_then s im c.args.devs.now c.hold_new.new.devs c.requires.up c.requires.ready mid c.in_ok-number.number (Err call.Memory) l
    (looks_other s im mid c.hold_new.new.devs (l.serves.up (λ is. cc)) (l.serves.ready (λ is. cc)) c.in_ok-new.new (Err call.Memory) c.in_ok-new.ensures.looks (λ no. cc)))

pub returns-in_err-planned-clause-looks : goal.returns-in_err-planned-clause-looks
returns-in_err-planned-clause-looks g c =
    let s = g.D.Disk.state in
    let im = g.D.Disk.images in
    let mid = c.next_write.new.devs in
    let l = c.in_ok-number.ensures.looks in
    let p = err_from_is_err_and c.from_residual-in_err-planned.result c.from_residual-in_err-planned.ensures.1 in
    rw (p.1, p.2) (looks_then s im c.args.devs.now c.hold_new.new.devs c.requires.up c.requires.ready mid c.in_ok-number.number (Err call.Memory) l
    (looks_other s im mid c.hold_new.new.devs (l.serves.up (λ is. cc)) (l.serves.ready (λ is. cc)) c.in_ok-new.new (Err call.Memory) c.in_ok-new.ensures.looks (λ no. cc)))

pub returns-clause-looks : goal.returns-clause-looks
returns-clause-looks g c =
    let s = g.D.Disk.state in
    let im = g.D.Disk.images in
    let mid = c.next_write.new.devs in
    let l = c.in_ok-number.ensures.looks in
    looks_then s im c.args.devs.now c.hold_new.new.devs c.requires.up c.requires.ready mid c.in_ok-number.number _ l
    (looks_other s im mid c.hold_new.new.devs (l.serves.up (λ is. cc)) (l.serves.ready (λ is. cc)) c.in_ok-new.new _ c.in_ok-new.ensures.looks (λ no. cc))

pub returns-clause-new : goal.returns-clause-new
returns-clause-new g c =
    let at = c.args.at.now in
    let same = c.in_ok-number.ensures.looks.serves.same (λ is. cc) in
    let k = c.in_ok-planned.ensures in
    let is = c.write_over-write.ensures in
    record {
      fits = sym c.fits.ensures ∙ c.in_ok-fits.was;
      next = c.in_ok-number.ensures.next;
      few = c.in_ok-number.ensures.few;
      words = c.know_words.ensures;
      new = c.in_ok-new.new;
      holds = λ meaning there. c.in_ok-new.ensures.holds meaning (subst (λ (d : ClientDevs). AreThereIf meaning d (shown_content at.slots)) (sym same) there);
      makes = k.makes;
      facts = k.facts ∙ (c.in_ok-facts.ensures ∙ ap (λ (w : Write). resolved_fact c.args.client at c.args.main.now c.args.row.now ∷ wrote w ∷ []) is);
      messages = k.messages;
    }
