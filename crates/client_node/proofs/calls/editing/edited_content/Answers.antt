use Rattle.std.proofs.Common.{Option, sym, ◌∙◌, ap, subst}
use Rattle.std.proofs.lemmas.Result.{err_from_is_err_and}
use Rattle.row_value.specs.declared.content.Content.{Content}
use Rattle.step_tables.specs.Lines.{shown_of}
use Rattle.client_node.specs.declared.fault.CallFault.TheVariants as call
use Rattle.client_node.specs.Editing.{edited_over, IsWhy}
use Rattle.client_node.proofs.Answering.{of_err}
use Rattle.client_node.proofs.Edits.{not_shown, read_whole_is, unread_unspent}
use Rattle.client_node.proofs.Serving.{looks_err, looks_other}
use Rattle.client_node.proofs.calls.editing.edited_content.Goals as goal

pub returns-in_err-shown-clause-looks : goal.returns-in_err-shown-clause-looks
returns-in_err-shown-clause-looks g c =
    let p = err_from_is_err_and c.from_residual.result c.from_residual.ensures.1 in
    rw (p.1, p.2) (looks_err g.D.Disk.state g.D.Disk.images c.args.devs.now c.read_shown.new.devs c.requires.up c.requires.ready c.in_err-shown.field-0.0 c.in_err-shown.ensures.looks)

pub returns-in_err-shown-clause-refused : goal.returns-in_err-shown-clause-refused
returns-in_err-shown-clause-refused g c =
    let p = err_from_is_err_and c.from_residual.result c.from_residual.ensures.1 in
    rw (p.1, p.2) (λ meaning there. not_shown c.args.at.now.opened.schema c.args.edit.now meaning c.args.at.now.slots c.in_err-shown.field-0.0 c.in_err-shown.ensures.refused)

pub returns-in_err-shown-clause-unspent : goal.returns-in_err-shown-clause-unspent
returns-in_err-shown-clause-unspent g c last =
    let p = err_from_is_err_and c.from_residual.result c.from_residual.ensures.1 in
    rw (p.1, p.2) (λ is. unread_unspent c.args.at.now.slots c.in_err-shown.field-0.0 c.in_err-shown.ensures.refused last (of_err c.in_err-shown.field-0.0 (call.Spent last) is))

pub returns-in_err-content-clause-looks : goal.returns-in_err-content-clause-looks
returns-in_err-content-clause-looks g c =
    let p = err_from_is_err_and c.from_residual-in_err-content.result c.from_residual-in_err-content.ensures.1 in
    rw (p.1, p.2) (looks_other g.D.Disk.state g.D.Disk.images c.args.devs.now c.read_shown.new.devs c.requires.up c.requires.ready c.in_ok-shown.shown _ c.in_ok-shown.ensures.looks
    (λ no. c.in_err-content.ensures.not_disk no))

pub returns-in_err-content-clause-refused : goal.returns-in_err-content-clause-refused
returns-in_err-content-clause-refused g c =
    let p = err_from_is_err_and c.from_residual-in_err-content.result c.from_residual-in_err-content.ensures.1 in
    let at = c.args.at.now in
    let e = c.in_err-content.field-0.0 in
    rw (p.1, p.2) (λ meaning there.
    subst (λ (o : Option Content). IsWhy (edited_over at.opened.schema c.args.edit.now o) e)
    (sym (read_whole_is meaning at.slots (shown_of c.in_ok-shown.shown) (c.in_ok-shown.ensures.shown meaning there))) c.in_err-content.ensures.refused)

pub returns-in_err-content-clause-unspent : goal.returns-in_err-content-clause-unspent
returns-in_err-content-clause-unspent g c last =
    let p = err_from_is_err_and c.from_residual-in_err-content.result c.from_residual-in_err-content.ensures.1 in
    rw (p.1, p.2) (c.in_err-content.ensures.unspent last)

pub returns-clause-looks : goal.returns-clause-looks
returns-clause-looks g c = looks_other g.D.Disk.state g.D.Disk.images c.args.devs.now c.read_shown.new.devs c.requires.up c.requires.ready c.in_ok-shown.shown _ c.in_ok-shown.ensures.looks (λ no. cc)

pub returns-clause-made : goal.returns-clause-made
returns-clause-made g c meaning there =
    let at = c.args.at.now in
    ap (edited_over at.opened.schema c.args.edit.now) (read_whole_is meaning at.slots (shown_of c.in_ok-shown.shown) (c.in_ok-shown.ensures.shown meaning there)) ∙ c.in_ok-content.ensures.made
