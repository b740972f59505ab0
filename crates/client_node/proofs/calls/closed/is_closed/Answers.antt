use Rattle.std.proofs.Common.{◌∙◌}
use Rattle.std.proofs.lemmas.Result.{err_from_is_err_and}
use Rattle.client_journal.specs.Standing.{devs}
use Rattle.client_node.proofs.Closing.{is_closed}
use Rattle.client_node.proofs.Serving.{looks_err, looks_other}
use Rattle.client_node.proofs.calls.closed.is_closed.Goals as goal

pub returns-in_err-found-clause-looks : goal.returns-in_err-found-clause-looks
returns-in_err-found-clause-looks g c =
    let p = err_from_is_err_and c.from_residual.result c.from_residual.ensures.1 in
    rw (p.1, p.2) (looks_err g.D.Disk.state g.D.Disk.images c.args.devs.now c.find_table.new.devs c.requires.up c.requires.ready c.in_err-found.field-0.0 c.in_err-found.ensures.looks)

pub returns-clause-looks : goal.returns-clause-looks
returns-clause-looks g c = looks_other g.D.Disk.state g.D.Disk.images c.args.devs.now c.find_table.new.devs c.requires.up c.requires.ready _ _ c.in_ok-found.ensures.looks (λ no. cc)

pub returns-clause-closed : goal.returns-clause-closed
returns-clause-closed g c client disk st = c.is_closed_record.ensures ∙ is_closed client (devs g.D.Disk.state c.args.devs.now) disk st c.args.table c.in_ok-found.found c.in_ok-found.ensures.found
