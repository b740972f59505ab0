use Rattle.std.proofs.Common.{refl}
use Rattle.std.proofs.lemmas.Result.{err_from_is_err_and}
use Rattle.store_node.proofs.Onlys.{only_named, only_short, only_err}
use Rattle.store_node.proofs.showing.read_whole.Goals as goal

pub returns-in_err-held-clause-reads : goal.returns-in_err-held-clause-reads
returns-in_err-held-clause-reads g c =
    let p = err_from_is_err_and c.from_residual.result c.from_residual.ensures.1 in
    rw (p.1, p.2) (only_err g.D.Disk.state g.D.Disk.images g.met.D.Disk.only_now c.args.table.now c.read_content.new.table c.in_err-held.field-0.0 c.in_err-held.ensures.reads)

pub returns-in_err-whole-clause-reads : goal.returns-in_err-whole-clause-reads
returns-in_err-whole-clause-reads g c =
    let p = err_from_is_err_and c.from_residual-in_err-whole.result c.from_residual-in_err-whole.ensures.1 in
    rw (p.1, p.2) (only_short g.D.Disk.state g.D.Disk.images g.met.D.Disk.only_now c.args.table.now c.read_content.new.table c.in_ok-held.held c.in_ok-held.ensures.reads)

pub returns-clause-reads : goal.returns-clause-reads
returns-clause-reads g c = only_named g.D.Disk.state g.D.Disk.images g.met.D.Disk.only_now c.args.table.now c.read_content.new.table c.in_ok-held.held _ c.in_ok-held.ensures.reads

pub returns-clause-row : goal.returns-clause-row
returns-clause-row g c = rw (c.in_ok-whole.ensures, c.in_ok-names.ensures, c.in_ok-held.ensures.held) refl
