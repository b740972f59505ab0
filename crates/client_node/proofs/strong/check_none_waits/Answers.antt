use Rattle.std.proofs.Common.{inl, inr, Err, refl}
use Rattle.std.proofs.lemmas.Result.{err_from_is_err_and}
use Rattle.client_node.proofs.Serving.{looks_err, looks_other}
use Rattle.client_node.proofs.strong.check_none_waits.Goals as goal

pub returns-in_err-first_out-clause-looks : goal.returns-in_err-first_out-clause-looks
returns-in_err-first_out-clause-looks g c =
    let p = err_from_is_err_and c.from_residual.result c.from_residual.ensures.1 in
    rw (p.1, p.2) (looks_err g.D.Disk.state g.D.Disk.images c.args.devs.now c.first_out.new.devs c.requires.up c.requires.ready c.in_err-first_out.field-0.0 c.in_err-first_out.ensures.looks)

pub returns-in_err-first_out-clause-refused : goal.returns-in_err-first_out-clause-refused
returns-in_err-first_out-clause-refused g c =
    let p = err_from_is_err_and c.from_residual.result c.from_residual.ensures.1 in
    rw (p.1, p.2) (inr c.in_err-first_out.ensures.refused)

pub returns-in-None-clause-looks : goal.returns-in-None-clause-looks
returns-in-None-clause-looks g c = looks_other g.D.Disk.state g.D.Disk.images c.args.devs.now c.first_out.new.devs c.requires.up c.requires.ready c.in_ok-first_out.field-0 _ c.in_ok-first_out.ensures.looks (λ no. cc)

pub returns-in-Some-clause-looks : goal.returns-in-Some-clause-looks
returns-in-Some-clause-looks g c = looks_other g.D.Disk.state g.D.Disk.images c.args.devs.now c.first_out.new.devs c.requires.up c.requires.ready c.in_ok-first_out.field-0 _ c.in_ok-first_out.ensures.looks (λ no. cc)
