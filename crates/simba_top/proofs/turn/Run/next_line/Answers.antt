use Rattle.std.proofs.Common.{arith}
use Rattle.std.proofs.lemmas.Result.{err_from_is_err_and}
use Rattle.simba_top.proofs.Turns.{next_found, line_stops}
use Rattle.simba_top.proofs.turn.Run.next_line.Goals as goal

pub returns-clause-found : goal.returns-clause-found
returns-clause-found g c = λ input script told is_out stands.
    let e = c.in_ok-next_line.ensures in
    next_found g.D.Disk.state input script told c.args.self.now is_out (g.S.Source.left c.args.source.now) c.requires stands c.next_line.new.self (g.S.Source.left c.next_line.new.source)
    c.in_ok-next_line.field-0 e.line e.end e.counted

pub returns-in_err-end_due-clause-found : goal.returns-in_err-end_due-clause-found
returns-in_err-end_due-clause-found g c = λ input script told is_out stands.
    let p = err_from_is_err_and c.from_residual.result c.from_residual.ensures.1 in
    rw (p.1, p.2) (c.in_err-end_due.ensures.found input script told is_out stands)

pub returns-in_err-next_line-clause-found : goal.returns-in_err-next_line-clause-found
returns-in_err-next_line-clause-found g c = λ input script told is_out stands.
    let e = c.in_err-next_line.ensures in
    let fresh = c.requires.stopped in
    let p = err_from_is_err_and c.from_residual-in_err-next_line.result c.from_residual-in_err-next_line.ensures.1 in
    rw (p.1, p.2) (line_stops g.D.Disk.state input script told c.args.self.now is_out (g.S.Source.left c.args.source.now) c.requires stands
    c.next_line.new.self (g.S.Source.left c.next_line.new.source) (omega (arith, c.if-self-ge-MOST_LINES.false)) e.err e.err_used e.limits c.in_err-next_line.field-0.0
    (λ is. (e.read fresh (cc is)).1) (λ len is. (e.line_limit len fresh (cc is)).1) (λ len is. (e.input_limit len fresh (cc is)).1))
