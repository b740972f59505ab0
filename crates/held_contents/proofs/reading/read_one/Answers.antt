use Rattle.std.proofs.lemmas.Result.{err_from_is_err_and}
use Rattle.client_journal.proofs.ShownRows.{asks_err}
use Rattle.held_contents.proofs.reading.read_one.Goals as goal

pub returns-in_err-chunks-clause-asks : goal.returns-in_err-chunks-clause-asks
returns-in_err-chunks-clause-asks g c =
    let p = err_from_is_err_and c.from_residual.result c.from_residual.ensures.1 in
    rw (p.1, p.2) (asks_err g.D.Disk.state g.D.Disk.images c.args.devs.now c.read_object.new.devs c.in_err-chunks.field-0.0 c.in_err-chunks.ensures.asks)
