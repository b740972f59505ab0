use Rattle.std.proofs.Common.{refl, arith}
use Rattle.std.proofs.lemmas.Result.{err_from_is_err_and}
use Rattle.client_node.proofs.Declaring.{late_short, late_node, late_failed, late_done}
use Rattle.client_node.proofs.node.ClientNode.declare_late.Goals as goal

pub returns-in_err-told-clause-starts : goal.returns-in_err-told-clause-starts
returns-in_err-told-clause-starts g c s t =
    let p = err_from_is_err_and c.from_residual.result c.from_residual.ensures.1 in
    let old = c.args.self.now in
    rw (p.1, p.2) (late_short g.D.Disk.state g.D.Disk.images old s.disk s.agenda t c.requires.undeclared old.facts refl)

pub returns-in_err-reserve-clause-starts : goal.returns-in_err-reserve-clause-starts
returns-in_err-reserve-clause-starts g c s t =
    let p = err_from_is_err_and c.from_residual-in_err-reserve.result c.from_residual-in_err-reserve.ensures.1 in
    rw (p.1, p.2) (late_short g.D.Disk.state g.D.Disk.images c.args.self.now s.disk s.agenda t c.requires.undeclared c.reserve.new.self c.reserve.ensures.same)

pub make-requires-clause-node : goal.make-requires-clause-node
make-requires-clause-node g c = let n = c.requires.node in (n.0, late_node g.D.Disk.state g.D.Disk.images c.args.self.now n.0.disk n.0.agenda n.1 c.requires.undeclared c.reserve.new.self c.reserve.ensures.same)

pub returns-in_err-make-clause-starts : goal.returns-in_err-make-clause-starts
returns-in_err-make-clause-starts g c s t =
    let p = err_from_is_err_and c.from_residual-in_err-make.result c.from_residual-in_err-make.ensures.1 in
    let u = late_node g.D.Disk.state g.D.Disk.images c.args.self.now s.disk s.agenda t c.requires.undeclared c.reserve.new.self c.reserve.ensures.same in
    rw (p.1, p.2) (late_failed g.D.Disk.state g.D.Disk.images c.args.self.now s.disk s.agenda t c.requires.undeclared c.reserve.new.self c.reserve.ensures.same c.make.new.self c.in_err-make.field-0.0 (c.in_err-make.ensures.declares s u))

pub returns-clause-starts : goal.returns-clause-starts
returns-clause-starts g c s t =
    let u = late_node g.D.Disk.state g.D.Disk.images c.args.self.now s.disk s.agenda t c.requires.undeclared c.reserve.new.self c.reserve.ensures.same in
    late_done g.D.Disk.state g.D.Disk.images c.args.self.now s.disk s.agenda t c.requires.undeclared c.reserve.new.self c.reserve.ensures.same c.make.new.self (c.in_ok-make.ensures.declares s u) c.make.ensures.facts c.in_ok-make.ensures.quiet
    c.put_all.new.self c.in_ok-told.told.items c.in_ok-told.ensures c.put_all.ensures.added
