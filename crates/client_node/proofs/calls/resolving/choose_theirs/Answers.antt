use Rattle.std.proofs.Common.{◌≡◌, ◌∷◌, [], ℕ, List, inl, inr, ⊎_elim, Ok, Err, refl, sym, ◌∙◌, ap, subst}
use Rattle.std.proofs.lemmas.Result.{err_from_is_err_and}
use Rattle.client_journal.specs.Redone.{redone}
use Rattle.client_journal.specs.Standing.{devs}
use Rattle.client_tables.specs.declared.resolving.HeldChoice.TheVariants as choices
use Rattle.client_tables.specs.Transitions.{resolved}
use Rattle.table_model.specs.declared.line.Fact.{Fact}
use Rattle.client_node.specs.declared.fault.CallFault.TheVariants as call
use Rattle.client_node.specs.Preparing.{MakesChange}
use Rattle.client_node.proofs.Serving.{looks_err, looks_other}
use Rattle.client_node.proofs.calls.resolving.choose_theirs.Goals as goal

pub returns-in_err-last-clause-looks : goal.returns-in_err-last-clause-looks
returns-in_err-last-clause-looks g c =
    let p = err_from_is_err_and c.from_residual.result c.from_residual.ensures.1 in
    rw (p.1, p.2) (looks_err g.D.Disk.state g.D.Disk.images c.args.devs.now c.last_write.new.devs c.requires.up c.requires.ready c.in_err-last.field-0.0 c.in_err-last.ensures.looks)

pub returns-in_err-last-clause-refused : goal.returns-in_err-last-clause-refused
returns-in_err-last-clause-refused g c =
    let p = err_from_is_err_and c.from_residual.result c.from_residual.ensures.1 in
    rw (p.1, p.2) (inr c.in_err-last.ensures.refused)

pub returns-in_err-facts-clause-looks : goal.returns-in_err-facts-clause-looks
returns-in_err-facts-clause-looks g c =
    let p = err_from_is_err_and c.from_residual-in_err-facts.result c.from_residual-in_err-facts.ensures.1 in
    rw (p.1, p.2) (looks_other g.D.Disk.state g.D.Disk.images c.args.devs.now c.last_write.new.devs c.requires.up c.requires.ready c.in_ok-last.last (Err call.Memory) c.in_ok-last.ensures.looks (λ no. cc))

pub returns-in_err-planned-clause-looks : goal.returns-in_err-planned-clause-looks
returns-in_err-planned-clause-looks g c =
    let p = err_from_is_err_and c.from_residual-in_err-planned.result c.from_residual-in_err-planned.ensures.1 in
    rw (p.1, p.2) (looks_other g.D.Disk.state g.D.Disk.images c.args.devs.now c.last_write.new.devs c.requires.up c.requires.ready c.in_ok-last.last (Err call.Memory) c.in_ok-last.ensures.looks (λ no. cc))

pub returns-clause-looks : goal.returns-clause-looks
returns-clause-looks g c = looks_other g.D.Disk.state g.D.Disk.images c.args.devs.now c.last_write.new.devs c.requires.up c.requires.ready c.in_ok-last.last _ c.in_ok-last.ensures.looks (λ no. cc)

pub returns-clause-theirs : goal.returns-clause-theirs
returns-clause-theirs g c =
    let at = c.args.at.now in
    let k = c.in_ok-planned.ensures in
    record {
      none = refl;
      makes = subst (λ (l : List (List ℕ)). MakesChange at.slots (resolved at.slots 0 choices.Theirs) l at.table (redone (devs g.D.Disk.state c.args.devs.now)).last at.row c.in_ok-planned.planned) c.new-none.ensures
          (subst (λ (n : ℕ). MakesChange at.slots (resolved at.slots 0 choices.Theirs) c.new-none.result at.table n at.row c.in_ok-planned.planned) c.in_ok-last.ensures.last k.makes);
      facts = k.facts ∙ (c.in_ok-facts.ensures.items ∙ ap (λ (f : Fact). f ∷ []) c.tell_resolved.ensures);
      messages = k.messages;
    }
