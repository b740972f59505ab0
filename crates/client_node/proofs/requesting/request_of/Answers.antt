use Rattle.std.proofs.Common.{Ok, Err, ap, ◌∙◌}
use Rattle.std.proofs.lemmas.Result.{err_from_is_err_and}
use Rattle.journal_laws.specs.Whole.{whole}
use Rattle.client_node.specs.Requesting.{request_with}
use Rattle.client_node.specs.declared.fault.CallFault.TheVariants as call
use Rattle.client_node.proofs.Serving.{looks_ok, looks_fault}
use Rattle.client_node.proofs.requesting.request_of.Goals as goal

pub returns-in_err-content-clause-looks : goal.returns-in_err-content-clause-looks
returns-in_err-content-clause-looks g c =
    let p = err_from_is_err_and c.from_residual.result c.from_residual.ensures.1 in
    rw (p.1, p.2) (looks_fault g.D.Disk.state g.D.Disk.images c.args.devs.now c.read_whole.new.devs c.requires.up c.requires.ready c.in_err-content.field-0.0 c.in_err-content.ensures.asks)

pub returns-in_err-pieces-clause-looks : goal.returns-in_err-pieces-clause-looks
returns-in_err-pieces-clause-looks g c =
    let p = err_from_is_err_and c.from_residual-in_err-pieces.result c.from_residual-in_err-pieces.ensures.1 in
    rw (p.1, p.2) (looks_ok g.D.Disk.state g.D.Disk.images c.args.devs.now c.read_whole.new.devs c.requires.up c.requires.ready _ c.in_ok-content.ensures.asks (Err call.Memory) (λ no. cc))

pub returns-clause-looks : goal.returns-clause-looks
returns-clause-looks g c = looks_ok g.D.Disk.state g.D.Disk.images c.args.devs.now c.read_whole.new.devs c.requires.up c.requires.ready _ c.in_ok-content.ensures.asks _ (λ no. cc)

pub returns-clause-request : goal.returns-clause-request
returns-clause-request g c meaning there =
    let out = c.args.out.now in
    let asks = request_with c.args.client c.args.table c.args.row.now out.number out.base in
    c.request_with.ensures ∙ (ap (λ x. asks x c.in_ok-pieces.pieces) (c.in_ok-content.ensures.whole meaning there) ∙ ap (asks (whole meaning out.content)) c.in_ok-pieces.ensures)
