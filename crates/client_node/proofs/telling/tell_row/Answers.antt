use Rattle.std.proofs.Common.{◌++◌, map, Err, ◌∙◌, ap}
use Rattle.std.proofs.lemmas.Result.{err_from_is_err_and}
use Rattle.step_tables.specs.Lines.{fact_of}
use Rattle.client_node.specs.declared.fault.CallFault.TheVariants as call
use Rattle.client_node.specs.Telling.{again_if}
use Rattle.client_node.proofs.Serving.{looks_err, looks_other}
use Rattle.client_node.proofs.telling.tell_row.Goals as goal

pub returns-in_err-fact-clause-looks : goal.returns-in_err-fact-clause-looks
returns-in_err-fact-clause-looks g c =
    let p = err_from_is_err_and c.from_residual.result c.from_residual.ensures.1 in
    rw (p.1, p.2) (looks_err g.D.Disk.state g.D.Disk.images c.args.devs.now c.row_fact.new.devs c.requires.up c.requires.ready c.in_err-fact.field-0.0 c.in_err-fact.ensures.looks)

pub returns-in_err-add_again-clause-looks : goal.returns-in_err-add_again-clause-looks
returns-in_err-add_again-clause-looks g c =
    let p = err_from_is_err_and c.from_residual-in_err-add_again.result c.from_residual-in_err-add_again.ensures.1 in
    rw (p.1, p.2) (looks_other g.D.Disk.state g.D.Disk.images c.args.devs.now c.row_fact.new.devs c.requires.up c.requires.ready c.in_ok-fact.fact (Err call.Memory) c.in_ok-fact.ensures.looks (λ no. cc))

pub returns-clause-looks : goal.returns-clause-looks
returns-clause-looks g c = looks_other g.D.Disk.state g.D.Disk.images c.args.devs.now c.row_fact.new.devs c.requires.up c.requires.ready c.in_ok-fact.fact _ c.in_ok-fact.ensures.looks (λ no. cc)

pub returns-clause-adds : goal.returns-clause-adds
returns-clause-adds g c meaning there = c.in_ok-add_again.ensures ∙ ap (λ o. map fact_of c.args.told.now.items ++ again_if o) (c.in_ok-fact.ensures.fact meaning there)
