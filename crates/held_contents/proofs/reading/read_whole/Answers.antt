use Rattle.std.proofs.lemmas.Result.{err_from_is_err_and}
use Rattle.client_journal.specs.Standing.{devs}
use Rattle.client_journal.proofs.ShownRows.{asks_err}
use Rattle.held_contents.proofs.Readings.{reads_nothing, refused, row_means}
use Rattle.held_contents.proofs.reading.read_whole.Goals as goal

pub returns-in_err-cells-in-Row-clause-asks : goal.returns-in_err-cells-in-Row-clause-asks
returns-in_err-cells-in-Row-clause-asks g c =
    let p = err_from_is_err_and c.from_residual.result c.from_residual.ensures.1 in
    let up = c.if-is_down.ensures in
    rw (p.1, p.2) (refused g.D.Disk.state g.D.Disk.images g.met.D.Disk.only_now c.args.devs.now up (c.requires.looked up))

pub returns-in_err-objects-in-Row-clause-asks : goal.returns-in_err-objects-in-Row-clause-asks
returns-in_err-objects-in-Row-clause-asks g c =
    let p = err_from_is_err_and c.from_residual-in_err-objects-in-Row.result c.from_residual-in_err-objects-in-Row.ensures.1 in
    rw (p.1, p.2) (asks_err g.D.Disk.state g.D.Disk.images c.args.devs.now c.whole_objects.new.devs c.in_err-objects-in-Row.field-0.0 c.in_err-objects-in-Row.ensures.asks)

pub returns-in-Gone-clause-asks : goal.returns-in-Gone-clause-asks
returns-in-Gone-clause-asks g c = let up = c.if-is_down.ensures in reads_nothing g.D.Disk.state g.D.Disk.images g.met.D.Disk.only_now c.args.devs.now up (c.requires.looked up) _

pub returns-in_ok-objects-in-Row-clause-whole : goal.returns-in_ok-objects-in-Row-clause-whole
returns-in_ok-objects-in-Row-clause-whole g c = λ meaning there.
    row_means meaning (devs g.D.Disk.state c.args.devs.now) c.args.held.now c.in-Row.cells c.in_ok-cells-in-Row.cells c.in-Row.objects c.as_slice.result.now c.in_ok-objects-in-Row.objects c.in-Row.is c.in_ok-cells-in-Row.ensures
    c.as_slice.ensures c.in_ok-objects-in-Row.ensures.whole there
