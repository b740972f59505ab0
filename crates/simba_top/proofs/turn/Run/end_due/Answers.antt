use Rattle.std.proofs.Common.{ap, arith}
use Rattle.std.proofs.lemmas.Result.{err_from_is_err_and}
use Rattle.stab_io.specs.declared.limits.Limits.{Limits}
use Rattle.simba_top.proofs.Turns.{no_more}
use Rattle.simba_top.proofs.turn.Run.end_due.Goals as goal

pub returns-in_err-goes_on-clause-found : goal.returns-in_err-goes_on-clause-found
returns-in_err-goes_on-clause-found g c = λ input script told is_out stands.
    let e = c.in_err-goes_on.ensures in
    let fresh = c.requires.ready.stopped in
    let p = err_from_is_err_and c.from_residual.result c.from_residual.ensures.1 in
    let limit = ap (λ (limits : Limits). limits.input) e.same.1 in
    rw (p.1, p.2) (no_more g.D.Disk.state input script told c.args.self.now is_out (g.S.Source.left c.args.source.now) c.requires.ready stands c.goes_on.new.self (g.S.Source.left c.goes_on.new.source)
    c.in_err-goes_on.field-0.0 e.keeps (omega (arith, e.same.0, e.within, limit))
    (λ is. (e.read fresh (cc is)).1) (λ len is. (e.input_limit len fresh (cc is)).2) (e.refusals fresh))
