use Rattle.std.proofs.Common.{Option, None, sym, ◌∙◌, ap}
use Rattle.std.specs.Prelude.{option_map}
use Rattle.std.proofs.lemmas.Result.{err_from_is_err_and}
use Rattle.store_commit.specs.Standing.{devs}
use Rattle.step_tables.specs.declared.message.RowHeader.{RowHeader}
use Rattle.store_node.specs.Taking.{header_by, header_at}
use Rattle.store_node.proofs.Onlys.{only_none, only_named, only_err}
use Rattle.store_node.proofs.pulling.read_header.Goals as goal

pub returns-in_err-found-in-Some-clause-reads : goal.returns-in_err-found-in-Some-clause-reads
returns-in_err-found-in-Some-clause-reads g c =
    let p = err_from_is_err_and c.from_residual.result c.from_residual.ensures.1 in
    rw (p.1, p.2) (only_err g.D.Disk.state g.D.Disk.images g.met.D.Disk.only_now c.args.table.now c.read_row.new.table c.in_err-found-in-Some.field-0.0 c.in_err-found-in-Some.ensures.reads)

pub returns-in_ok-found-in-Some-clause-reads : goal.returns-in_ok-found-in-Some-clause-reads
returns-in_ok-found-in-Some-clause-reads g c = only_named g.D.Disk.state g.D.Disk.images g.met.D.Disk.only_now c.args.table.now c.read_row.new.table c.in_ok-found-in-Some.found c.header_if.result c.in_ok-found-in-Some.ensures.reads

pub returns-in_ok-found-in-Some-clause-header : goal.returns-in_ok-found-in-Some-clause-header
returns-in_ok-found-in-Some-clause-header g c =
    c.header_if.ensures
    ∙ (ap (option_map (header_by c.args.client)) c.in_ok-found-in-Some.ensures.row
    ∙ ap (header_at (devs g.D.Disk.state c.args.table.now) c.args.client) (sym c.in-Some.is))

pub returns-in-None-clause-reads : goal.returns-in-None-clause-reads
returns-in-None-clause-reads g c =
    let none : Option RowHeader = None in
    only_none g.D.Disk.state g.D.Disk.images g.met.D.Disk.only_now c.args.table.now none c.requires.up c.requires.looked

pub returns-in-None-clause-header : goal.returns-in-None-clause-header
returns-in-None-clause-header g c = ap (header_at (devs g.D.Disk.state c.args.table.now) c.args.client) (sym c.in-None.is)
