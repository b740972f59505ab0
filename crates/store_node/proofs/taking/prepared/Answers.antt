use Rattle.std.proofs.lemmas.Result.{err_from_is_err_and}
use Rattle.store_node.proofs.Onlys.{only_err}
use Rattle.store_node.proofs.Telling.{fits_counted}
use Rattle.store_node.proofs.Requests.{read_different, prepared_is}
use Rattle.store_node.proofs.taking.prepared.Goals as goal

pub returns-in_err-held-clause-reads : goal.returns-in_err-held-clause-reads
returns-in_err-held-clause-reads g c =
    let p = err_from_is_err_and c.from_residual.result c.from_residual.ensures.1 in
    rw (p.1, p.2) (only_err g.D.Disk.state g.D.Disk.images g.met.D.Disk.only_now c.args.table.now c.read_standing.new.table c.in_err-held.field-0.0 c.in_err-held.ensures.reads)

pub update_of-requires-clause-len : goal.update_of-requires-clause-len
update_of-requires-clause-len g c = fits_counted c.args.schema.now c.args.request.now.content c.requires.fits

pub update_of-requires-clause-different : goal.update_of-requires-clause-different
update_of-requires-clause-different g c =
    let n = c.requires.stands in
    read_different g.D.Disk.state g.D.Disk.images c.args.table.now c.args.schema.now c.args.request.now c.requires.hidden n.0 c.requires.size n.1 c.args.standing.now c.requires.standing c.in_ok-held.held c.in_ok-held.ensures.held

pub returns-clause-update : goal.returns-clause-update
returns-clause-update g c disk st =
    prepared_is g.D.Disk.state g.D.Disk.images c.args.table.now c.args.schema.now c.args.request.now c.requires.hidden disk c.requires.size st c.args.standing.now c.requires.standing c.in_ok-held.held c.in_ok-held.ensures.held c.in_ok-update_of.field-0
    c.in_ok-update_of.ensures.update
