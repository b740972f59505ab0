use Rattle.std.proofs.lemmas.Result.{err_from_is_err_and}
use Rattle.client_node.proofs.Serving.{looks_ok, looks_fault, ask_fault}
use Rattle.client_node.proofs.calls.held.chunks_of.Goals as goal

pub returns-in_err-read_chunks-clause-looks : goal.returns-in_err-read_chunks-clause-looks
returns-in_err-read_chunks-clause-looks g c =
    let p = err_from_is_err_and c.from_residual.result c.from_residual.ensures.1 in
    rw (p.1, p.2) (looks_fault g.D.Disk.state g.D.Disk.images c.args.devs.now c.read_chunks.new.devs c.requires.up c.requires.ready c.in_err-read_chunks.field-0.0 c.in_err-read_chunks.ensures.asks)

pub returns-in_err-read_chunks-clause-refused : goal.returns-in_err-read_chunks-clause-refused
returns-in_err-read_chunks-clause-refused g c =
    let p = err_from_is_err_and c.from_residual.result c.from_residual.ensures.1 in
    rw (p.1, p.2) (ask_fault g.D.Disk.state g.D.Disk.images c.args.devs.now c.read_chunks.new.devs c.requires.up c.requires.ready c.in_err-read_chunks.field-0.0 c.in_err-read_chunks.ensures.asks)

pub returns-clause-looks : goal.returns-clause-looks
returns-clause-looks g c = looks_ok g.D.Disk.state g.D.Disk.images c.args.devs.now c.read_chunks.new.devs c.requires.up c.requires.ready _ c.in_ok-read_chunks.ensures.asks _ (λ no. cc)
