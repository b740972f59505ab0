use Rattle.std.proofs.Common.{◌+◌, Err, ap}
use Rattle.std.proofs.lemmas.Result.{err_from_is_err_and}
use Rattle.net_steps.proofs.Passing.{stands_at, plans_too}
use Rattle.net_steps.proofs.Declaring.{declare_done, declare_over, declare_limited}
use Rattle.net_steps.specs.declared.world.World.{World}
use Rattle.net_steps.specs.Steps.{may_begin}
use Rattle.net_steps.proofs.world.World.declare.Goals as goal

pub go_through-requires-clause-held : goal.go_through-requires-clause-held
go_through-requires-clause-held g c =
    let k = c.requires.held in
    (k.0, stands_at g.D.Disk.state (g.P.Depot.state c.args.depot.now).is_out c.args.event.now k.0 c.args.self.now k.1)

pub returns-in_err-lines-clause-over : goal.returns-in_err-lines-clause-over
returns-in_err-lines-clause-over g c n at =
    let p = err_from_is_err_and c.from_residual.result c.from_residual.ensures.1 in
    let before = (g.P.Depot.state c.args.depot.now).is_out in
    let x = stands_at g.D.Disk.state before c.args.event.now n c.args.self.now at in
    rw (p.1, p.2) (declare_over g.D.Disk.state g.D.Disk.images n c.args.event.now c.requires.kind before (g.P.Depot.state c.go_through.new.depot).is_out c.args.self.now c.go_through.new.self x
    c.in_err-lines.field-0.0 (c.in_err-lines.ensures.over n x))

pub returns-in_err-lines-clause-limit : goal.returns-in_err-lines-clause-limit
returns-in_err-lines-clause-limit g c n m at below =
    let p = err_from_is_err_and c.from_residual.result c.from_residual.ensures.1 in
    let before = (g.P.Depot.state c.args.depot.now).is_out in
    let x = stands_at g.D.Disk.state before c.args.event.now n c.args.self.now at in
    rw (p.1, p.2) (declare_limited g.D.Disk.state g.D.Disk.images n c.args.event.now c.requires.kind before before c.args.self.now c.go_through.new.self x m (Err c.in_err-lines.field-0.0)
    (c.in_err-lines.ensures.limit n m x below))

pub returns-in_err-lines-clause-plans : goal.returns-in_err-lines-clause-plans
returns-in_err-lines-clause-plans g c n m at below =
    let x = stands_at g.D.Disk.state (g.P.Depot.state c.args.depot.now).is_out c.args.event.now n c.args.self.now at in
    c.in_err-lines.ensures.plans n m x below

pub returns-in_err-lines-clause-left : goal.returns-in_err-lines-clause-left
returns-in_err-lines-clause-left g c n at =
    let p = err_from_is_err_and c.from_residual.result c.from_residual.ensures.1 in
    let x = stands_at g.D.Disk.state (g.P.Depot.state c.args.depot.now).is_out c.args.event.now n c.args.self.now at in
    rw (p.1, p.2) (c.in_err-lines.ensures.left n x)

pub returns-clause-done : goal.returns-clause-done
returns-clause-done g c n at =
    let before = (g.P.Depot.state c.args.depot.now).is_out in
    let x = stands_at g.D.Disk.state before c.args.event.now n c.args.self.now at in
    declare_done g.D.Disk.state g.D.Disk.images n c.args.event.now c.requires.kind before (g.P.Depot.state c.go_through.new.depot).is_out c.args.self.now c.go_through.new.self x
    c.requires.built c.requires.framed c.in_ok-lines.ensures.rest c.tell_gates.new.self c.in_ok-tell_gates.ensures.rest c.in_ok-tell_gates.ensures.told c.in_ok-lines.lines (c.in_ok-lines.ensures.done n x)

pub returns-in_err-tell_gates-clause-plans : goal.returns-in_err-tell_gates-clause-plans
returns-in_err-tell_gates-clause-plans g c n m at below =
    let x = stands_at g.D.Disk.state (g.P.Depot.state c.args.depot.now).is_out c.args.event.now n c.args.self.now at in
    plans_too g.D.Disk.state (may_begin n c.args.event.now + m) c.go_through.new.self c.tell_gates.new.self (ap (λ (y : World g.row.D.Denot). y.wire) c.in_err-tell_gates.ensures.rest)
    (c.in_ok-lines.ensures.plans n m x below)

pub returns-clause-plans : goal.returns-clause-plans
returns-clause-plans g c n m at below =
    let x = stands_at g.D.Disk.state (g.P.Depot.state c.args.depot.now).is_out c.args.event.now n c.args.self.now at in
    plans_too g.D.Disk.state (may_begin n c.args.event.now + m) c.go_through.new.self c.tell_gates.new.self (ap (λ (y : World g.row.D.Denot). y.wire) c.in_ok-tell_gates.ensures.rest)
    (c.in_ok-lines.ensures.plans n m x below)
