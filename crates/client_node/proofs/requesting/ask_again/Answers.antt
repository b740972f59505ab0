use Rattle.std.proofs.Common.{Ok, Err, ap, ◌∙◌}
use Rattle.std.proofs.lemmas.Result.{err_from_is_err_and}
use Rattle.client_node.specs.declared.fault.CallFault.TheVariants as call
use Rattle.client_node.proofs.Serving.{looks_err, looks_other}
use Rattle.client_node.proofs.AskedAgain.{ok_not, pushes}
use Rattle.client_node.proofs.requesting.ask_again.Goals as goal

pub returns-in_err-request-clause-looks : goal.returns-in_err-request-clause-looks
returns-in_err-request-clause-looks g c =
    let p = err_from_is_err_and c.from_residual.result c.from_residual.ensures.1 in
    rw (p.1, p.2) (looks_err g.D.Disk.state g.D.Disk.images c.args.devs.now c.request_of.new.devs c.requires.up c.requires.ready c.in_err-request.field-0.0 c.in_err-request.ensures.looks)

pub returns-in_err-push-clause-looks : goal.returns-in_err-push-clause-looks
returns-in_err-push-clause-looks g c =
    let p = err_from_is_err_and c.from_residual-in_err-push.result c.from_residual-in_err-push.ensures.1 in
    rw (p.1, p.2) (looks_other g.D.Disk.state g.D.Disk.images c.args.devs.now c.request_of.new.devs c.requires.up c.requires.ready c.in_ok-request.request (Err call.Memory) c.in_ok-request.ensures.looks (λ no. cc))

pub returns-clause-looks : goal.returns-clause-looks
returns-clause-looks g c = looks_other g.D.Disk.state g.D.Disk.images c.args.devs.now c.request_of.new.devs c.requires.up c.requires.ready c.in_ok-request.request (Ok tt) c.in_ok-request.ensures.looks (ok_not tt)

pub returns-clause-adds : goal.returns-clause-adds
returns-clause-adds g c meaning there = pushes c.args.sends.now.items c.push.new.self.items c.in_ok-request.request _ c.in_ok-push.ensures.items (c.in_ok-request.ensures.request meaning there)
