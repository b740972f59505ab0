use Rattle.std.proofs.Common.{◌≡◌, inl, inr, ⊎_elim, Ok, Err, refl, sym, ◌∙◌, ap}
use Rattle.std.proofs.lemmas.Result.{err_from_is_err_and}
use Rattle.step_tables.specs.Facts as facts
use Rattle.step_tables.specs.Sums.{by_digests}
use Rattle.step_tables.specs.Lines.{answer_of}
use Rattle.client_node.specs.declared.fault.CallFault.TheVariants as call
use Rattle.client_node.proofs.Serving.{looks_err, looks_other}
use Rattle.client_node.proofs.Readers.{sum_same}
use Rattle.client_node.proofs.calls.showing.show_sum.Goals as goal

pub returns-in_err-shown-clause-looks : goal.returns-in_err-shown-clause-looks
returns-in_err-shown-clause-looks g c =
    let p = err_from_is_err_and c.from_residual.result c.from_residual.ensures.1 in
    rw (p.1, p.2) (looks_err g.D.Disk.state g.D.Disk.images c.args.devs.now c.show.new.devs c.requires.up c.requires.ready c.in_err-shown.field-0.0 c.in_err-shown.ensures.looks)

pub returns-in_err-shown-clause-answered : goal.returns-in_err-shown-clause-answered
returns-in_err-shown-clause-answered g c n disk st =
    let p = err_from_is_err_and c.from_residual.result c.from_residual.ensures.1 in
    rw (p.1, p.2) (λ refusal is. ap by_digests (c.in_err-shown.ensures.answered n disk st refusal is))

pub returns-in_err-shown-clause-refused : goal.returns-in_err-shown-clause-refused
returns-in_err-shown-clause-refused g c =
    let p = err_from_is_err_and c.from_residual.result c.from_residual.ensures.1 in
    rw (p.1, p.2) c.in_err-shown.ensures.refused

pub returns-in_err-answer-clause-looks : goal.returns-in_err-answer-clause-looks
returns-in_err-answer-clause-looks g c =
    let p = err_from_is_err_and c.from_residual-in_err-answer.result c.from_residual-in_err-answer.ensures.1 in
    rw (p.1, p.2) (looks_other g.D.Disk.state g.D.Disk.images c.args.devs.now c.show.new.devs c.requires.up c.requires.ready c.in_ok-shown.shown (Err call.Memory) c.in_ok-shown.ensures.looks (λ no. cc))

pub returns-in_err-answer-clause-answered : goal.returns-in_err-answer-clause-answered
returns-in_err-answer-clause-answered g c n disk st =
    let p = err_from_is_err_and c.from_residual-in_err-answer.result c.from_residual-in_err-answer.ensures.1 in
    rw (p.1, p.2) (λ refusal is. absurd cc)

pub returns-clause-looks : goal.returns-clause-looks
returns-clause-looks g c = looks_other g.D.Disk.state g.D.Disk.images c.args.devs.now c.show.new.devs c.requires.up c.requires.ready c.in_ok-shown.shown _ c.in_ok-shown.ensures.looks (λ no. cc)

pub returns-clause-answered : goal.returns-clause-answered
returns-clause-answered g c n disk st =
    ap by_digests (c.in_ok-shown.ensures.answered n disk st) ∙ (sym (sum_same c.in_ok-shown.shown) ∙ ap answer_of (sym c.in_ok-answer.ensures))
