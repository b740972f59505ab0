use Rattle.std.proofs.Common.{refl, ◌∙◌, ap}
use Rattle.std.specs.Prelude.{option_map}
use Rattle.std.proofs.lemmas.Result.{err_from_is_err_and}
use Rattle.store_node.specs.Taking.{header_by}
use Rattle.store_node.proofs.Onlys.{only_named, only_err}
use Rattle.store_node.proofs.pulling.pull_torn.Goals as goal

pub returns-in_err-found-clause-reads : goal.returns-in_err-found-clause-reads
returns-in_err-found-clause-reads g c =
    let p = err_from_is_err_and c.from_residual.result c.from_residual.ensures.1 in
    rw (p.1, p.2) (only_err g.D.Disk.state g.D.Disk.images g.met.D.Disk.only_now c.args.table.now c.read_row.new.table c.in_err-found.field-0.0 c.in_err-found.ensures.reads)

pub returns-clause-reads : goal.returns-clause-reads
returns-clause-reads g c = only_named g.D.Disk.state g.D.Disk.images g.met.D.Disk.only_now c.args.table.now c.read_row.new.table c.in_ok-found.found _ c.in_ok-found.ensures.reads

pub returns-clause-answer : goal.returns-clause-answer
returns-clause-answer g c = record {
  client = refl;
  table = refl;
  row = refl;
  header = c.header_if.ensures ∙ ap (option_map (header_by c.args.request.now.client)) c.in_ok-found.ensures.row;
}
