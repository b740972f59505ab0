use Rattle.std.proofs.Common.{Ok, Err}
use Rattle.std.proofs.lemmas.Result.{err_from_is_err_and}
use Rattle.client_node.proofs.Serving.{looks_ok, looks_fault}
use Rattle.client_node.proofs.row_plan.last_write.Goals as goal

pub returns-in_err-last-clause-looks : goal.returns-in_err-last-clause-looks
returns-in_err-last-clause-looks g c =
    let p = err_from_is_err_and c.from_residual.result c.from_residual.ensures.1 in
    rw (p.1, p.2) (looks_fault g.D.Disk.state g.D.Disk.images c.args.devs.now c.last_number.new.self c.requires.up c.requires.ready c.in_err-last.field-0.0 c.in_err-last.ensures.asks)

pub returns-clause-looks : goal.returns-clause-looks
returns-clause-looks g c = looks_ok g.D.Disk.state g.D.Disk.images c.args.devs.now c.last_number.new.self c.requires.up c.requires.ready _ c.in_ok-last.ensures.asks _ (λ no. cc)
