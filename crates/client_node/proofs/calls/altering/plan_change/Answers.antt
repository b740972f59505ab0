use Rattle.std.proofs.Common.{ℕ, Ok, Err, subst}
use Rattle.std.proofs.lemmas.Result.{err_from_is_err_and}
use Rattle.client_node.specs.declared.fault.CallFault.TheVariants as call
use Rattle.client_node.specs.Altering.{IsOfTable}
use Rattle.client_node.proofs.Serving.{looks_err, looks_other}
use Rattle.client_node.proofs.calls.altering.plan_change.Goals as goal

pub returns-in_err-last-clause-looks : goal.returns-in_err-last-clause-looks
returns-in_err-last-clause-looks g c =
    let p = err_from_is_err_and c.from_residual.result c.from_residual.ensures.1 in
    rw (p.1, p.2) (looks_err g.D.Disk.state g.D.Disk.images c.args.devs.now c.last_write.new.devs c.requires.up c.requires.ready c.in_err-last.field-0.0 c.in_err-last.ensures.looks)

pub returns-in_err-planned-clause-looks : goal.returns-in_err-planned-clause-looks
returns-in_err-planned-clause-looks g c =
    let p = err_from_is_err_and c.from_residual-in_err-planned.result c.from_residual-in_err-planned.ensures.1 in
    rw (p.1, p.2) (looks_other g.D.Disk.state g.D.Disk.images c.args.devs.now c.last_write.new.devs c.requires.up c.requires.ready c.in_ok-last.last (Err call.Memory) c.in_ok-last.ensures.looks (λ no. cc))

pub returns-clause-looks : goal.returns-clause-looks
returns-clause-looks g c = looks_other g.D.Disk.state g.D.Disk.images c.args.devs.now c.last_write.new.devs c.requires.up c.requires.ready c.in_ok-last.last (Ok c.in_ok-planned.planned) c.in_ok-last.ensures.looks (λ no. cc)

pub returns-clause-plan : goal.returns-clause-plan
returns-clause-plan g c = subst (λ (n : ℕ). IsOfTable c.args.table n c.args.change c.args.tell c.args.fact c.in_ok-planned.planned) c.in_ok-last.ensures.last c.in_ok-planned.ensures
