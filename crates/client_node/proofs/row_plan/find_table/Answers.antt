use Rattle.std.proofs.Common.{Ok, Err}
use Rattle.std.proofs.lemmas.Result.{err_from_is_err_and}
use Rattle.client_node.proofs.Serving.{looks_ok, looks_fault}
use Rattle.client_node.proofs.row_plan.find_table.Goals as goal

pub returns-in_err-found-clause-looks : goal.returns-in_err-found-clause-looks
returns-in_err-found-clause-looks g c =
    let p = err_from_is_err_and c.from_residual.result c.from_residual.ensures.1 in
    rw (p.1, p.2) (looks_fault g.D.Disk.state g.D.Disk.images c.args.devs.now c.record.new.self c.requires.up c.requires.ready c.in_err-found.field-0.0 c.in_err-found.ensures.asks)

pub returns-clause-looks : goal.returns-clause-looks
returns-clause-looks g c = looks_ok g.D.Disk.state g.D.Disk.images c.args.devs.now c.record.new.self c.requires.up c.requires.ready _ c.in_ok-found.ensures.asks _ (λ no. cc)
