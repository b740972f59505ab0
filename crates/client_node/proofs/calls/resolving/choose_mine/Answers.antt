use Rattle.std.proofs.Common.{◌≡◌, ◌∷◌, [], ℕ, List, inl, inr, ⊎_elim, Ok, Err, refl, sym, ◌∙◌, ap, subst}
use Rattle.std.proofs.lemmas.Result.{err_from_is_err_and}
use Rattle.client_tables.specs.declared.resolving.HeldChoice.TheVariants as choices
use Rattle.client_tables.specs.Transitions.{resolved}
use Rattle.client_journal.specs.Devs.{ClientDevs}
use Rattle.held_contents.specs.Reading.{AreThere}
use Rattle.table_model.specs.declared.line.Fact.{Fact}
use Rattle.table_model.specs.declared.line.Write.{Write}
use Rattle.client_node.specs.declared.fault.CallFault.TheVariants as call
use Rattle.client_node.specs.Preparing.{MakesChange, wrote}
use Rattle.client_node.specs.Resolving.{resolved_fact}
use Rattle.client_node.proofs.Serving.{looks_then, looks_err, looks_other}
use Rattle.client_node.proofs.calls.resolving.choose_mine.Goals as goal

pub returns-in_err-number-clause-looks : goal.returns-in_err-number-clause-looks
returns-in_err-number-clause-looks g c =
    let p = err_from_is_err_and c.from_residual.result c.from_residual.ensures.1 in
    rw (p.1, p.2) (looks_err g.D.Disk.state g.D.Disk.images c.args.devs.now c.next_write.new.devs c.requires.up c.requires.ready c.in_err-number.field-0.0 c.in_err-number.ensures.looks)

pub returns-in_err-number-clause-refused : goal.returns-in_err-number-clause-refused
returns-in_err-number-clause-refused g c =
    let p = err_from_is_err_and c.from_residual.result c.from_residual.ensures.1 in
    rw (p.1, p.2) c.in_err-number.ensures.refused

pub read_content-requires-clause-up : goal.read_content-requires-clause-up
read_content-requires-clause-up g c = c.in_ok-number.ensures.looks.serves.up (λ is. cc)

pub read_content-requires-clause-ready : goal.read_content-requires-clause-ready
read_content-requires-clause-ready g c = c.in_ok-number.ensures.looks.serves.ready (λ is. cc)

pub returns-in_err-content-clause-looks : goal.returns-in_err-content-clause-looks
returns-in_err-content-clause-looks g c =
    let s = g.D.Disk.state in
    let im = g.D.Disk.images in
    let mid = c.next_write.new.devs in
    let l = c.in_ok-number.ensures.looks in
    let p = err_from_is_err_and c.from_residual-in_err-content.result c.from_residual-in_err-content.ensures.1 in
    let e = c.in_err-content.field-0.0 in
    rw (p.1, p.2) (looks_then s im c.args.devs.now c.read_content.new.devs c.requires.up c.requires.ready mid c.in_ok-number.number (Err e) l
    (looks_err s im mid c.read_content.new.devs (l.serves.up (λ is. cc)) (l.serves.ready (λ is. cc)) e c.in_err-content.ensures.looks))

pub returns-in_err-content-clause-refused : goal.returns-in_err-content-clause-refused
returns-in_err-content-clause-refused g c =
    let p = err_from_is_err_and c.from_residual-in_err-content.result c.from_residual-in_err-content.ensures.1 in
    rw (p.1, p.2) (inr c.in_err-content.ensures.refused)

pub returns-in_err-facts-clause-looks : goal.returns-in_err-facts-clause-looks
returns-in_err-facts-clause-looks g c =
    let s = g.D.Disk.state in
    let im = g.D.Disk.images in
    let mid = c.next_write.new.devs in
    let l = c.in_ok-number.ensures.looks in
    let p = err_from_is_err_and c.from_residual-in_err-facts.result c.from_residual-in_err-facts.ensures.1 in
    rw (p.1, p.2) (looks_then s im c.args.devs.now c.read_content.new.devs c.requires.up c.requires.ready mid c.in_ok-number.number (Err call.Memory) l
    (looks_other s im mid c.read_content.new.devs (l.serves.up (λ is. cc)) (l.serves.ready (λ is. cc)) c.in_ok-content.content (Err call.Memory) c.in_ok-content.ensures.looks (λ no. cc)))

pub returns-in_err-planned-clause-looks : goal.returns-in_err-planned-clause-looks
returns-in_err-planned-clause-looks g c =
    let s = g.D.Disk.state in
    let im = g.D.Disk.images in
    let mid = c.next_write.new.devs in
    let l = c.in_ok-number.ensures.looks in
    let p = err_from_is_err_and c.from_residual-in_err-planned.result c.from_residual-in_err-planned.ensures.1 in
    rw (p.1, p.2) (looks_then s im c.args.devs.now c.read_content.new.devs c.requires.up c.requires.ready mid c.in_ok-number.number (Err call.Memory) l
    (looks_other s im mid c.read_content.new.devs (l.serves.up (λ is. cc)) (l.serves.ready (λ is. cc)) c.in_ok-content.content (Err call.Memory) c.in_ok-content.ensures.looks (λ no. cc)))

pub returns-clause-looks : goal.returns-clause-looks
returns-clause-looks g c =
    let s = g.D.Disk.state in
    let im = g.D.Disk.images in
    let mid = c.next_write.new.devs in
    let l = c.in_ok-number.ensures.looks in
    looks_then s im c.args.devs.now c.read_content.new.devs c.requires.up c.requires.ready mid c.in_ok-number.number _ l
    (looks_other s im mid c.read_content.new.devs (l.serves.up (λ is. cc)) (l.serves.ready (λ is. cc)) c.in_ok-content.content _ c.in_ok-content.ensures.looks (λ no. cc))

pub returns-clause-mine : goal.returns-clause-mine
returns-clause-mine g c =
    let at = c.args.at.now in
    let same = c.in_ok-number.ensures.looks.serves.same (λ is. cc) in
    let k = c.in_ok-planned.ensures in
    let is = c.write_over-write.ensures in
    record {
      next = c.in_ok-number.ensures.next;
      few = c.in_ok-number.ensures.few;
      content = c.in_ok-content.content;
      whole_is = λ meaning there. c.in_ok-content.ensures.whole meaning (subst (λ (d : ClientDevs). AreThere meaning d c.args.main.now.content) (sym same) there);
      makes = subst (λ (l : List (List ℕ)). MakesChange at.slots (resolved at.slots c.in_ok-number.number choices.Mine) l at.table c.in_ok-number.number at.row c.in_ok-planned.planned) c.new-none.ensures k.makes;
      facts = k.facts ∙ (c.in_ok-facts.ensures ∙ ap (λ (w : Write). resolved_fact c.args.client at c.args.main.now c.args.row.now ∷ wrote w ∷ []) is);
      messages = k.messages;
    }
