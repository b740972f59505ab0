use Rattle.std.proofs.Common.{◌+◌}
use Rattle.std.proofs.lemmas.Result.{err_from_is_err_and}
use Rattle.table_model.specs.declared.event.Event.TheVariants as events
use Rattle.net_steps.proofs.Passing.{stands_at}
use Rattle.net_steps.proofs.Joined.{join_done, join_over, joined_as, joined_over}
use Rattle.net_steps.proofs.world.World.join_by.Goals as goal

pub go_through-requires-clause-held : goal.go_through-requires-clause-held
go_through-requires-clause-held g c =
    let k = c.requires.held in
    (k.0, stands_at g.D.Disk.state (g.P.Depot.state c.args.depot.now).is_out (events.Client c.args.client c.args.gate c.args.tables.now) k.0 c.args.self.now k.1)

pub returns-in_err-lines-clause-over : goal.returns-in_err-lines-clause-over
returns-in_err-lines-clause-over g c n at =
    let p = err_from_is_err_and c.from_residual-in_err-lines.result c.from_residual-in_err-lines.ensures.1 in
    let before = (g.P.Depot.state c.args.depot.now).is_out in
    let x = stands_at g.D.Disk.state before (events.Client c.args.client c.args.gate c.args.tables.now) n c.args.self.now at in
    rw (p.1, p.2) (λ count ten. joined_over g.D.Disk.state g.D.Disk.images n c.args.client c.args.gate c.in_ok-tables.tables c.args.tables.now c.in_ok-tables.ensures
    (g.P.Depot.state c.go_through.new.depot).is_out c.args.self.now c.go_through.new.self
    (join_over g.D.Disk.state g.D.Disk.images n c.args.client c.args.gate c.in_ok-tables.tables before (g.P.Depot.state c.go_through.new.depot).is_out c.args.self.now c.go_through.new.self x
    c.in_err-lines.field-0.0 (c.in_err-lines.ensures.over n x) count ten))

pub returns-in_err-lines-clause-limit : goal.returns-in_err-lines-clause-limit
returns-in_err-lines-clause-limit g c n m at below =
    let p = err_from_is_err_and c.from_residual-in_err-lines.result c.from_residual-in_err-lines.ensures.1 in
    let x = stands_at g.D.Disk.state (g.P.Depot.state c.args.depot.now).is_out (events.Client c.args.client c.args.gate c.args.tables.now) n c.args.self.now at in
    rw (p.1, p.2) (c.in_err-lines.ensures.limit n m x below)

pub returns-in_err-lines-clause-plans : goal.returns-in_err-lines-clause-plans
returns-in_err-lines-clause-plans g c n m at below =
    let x = stands_at g.D.Disk.state (g.P.Depot.state c.args.depot.now).is_out (events.Client c.args.client c.args.gate c.args.tables.now) n c.args.self.now at in
    c.in_err-lines.ensures.plans n m x below

pub returns-in_err-lines-clause-left : goal.returns-in_err-lines-clause-left
returns-in_err-lines-clause-left g c n at =
    let p = err_from_is_err_and c.from_residual-in_err-lines.result c.from_residual-in_err-lines.ensures.1 in
    let x = stands_at g.D.Disk.state (g.P.Depot.state c.args.depot.now).is_out (events.Client c.args.client c.args.gate c.args.tables.now) n c.args.self.now at in
    rw (p.1, p.2) (c.in_err-lines.ensures.left n x)

pub returns-clause-done : goal.returns-clause-done
returns-clause-done g c n at =
    let before = (g.P.Depot.state c.args.depot.now).is_out in
    let x = stands_at g.D.Disk.state before (events.Client c.args.client c.args.gate c.args.tables.now) n c.args.self.now at in
    let f = c.in_ok-give_gate.ensures in
    let is_out = (g.P.Depot.state c.go_through.new.depot).is_out in
    joined_as g.D.Disk.state g.D.Disk.images n c.args.client c.args.gate c.in_ok-tables.tables c.args.tables.now c.in_ok-tables.ensures c.in_ok-lines.lines is_out c.args.self.now c.give_gate.new.self
    (join_done g.D.Disk.state g.D.Disk.images n c.args.client c.args.gate c.in_ok-tables.tables before is_out c.args.self.now c.go_through.new.self x c.in_ok-lines.ensures.rest c.in_ok-lines.lines
    (c.in_ok-lines.ensures.done n x) c.give_gate.new.self f.store f.faults c.has_client-is_there.result (c.has_client-is_there.ensures n.wire at.held.wire) c.requires.client f.held)

pub returns-clause-plans : goal.returns-clause-plans
returns-clause-plans g c n m at below =
    let x = stands_at g.D.Disk.state (g.P.Depot.state c.args.depot.now).is_out (events.Client c.args.client c.args.gate c.args.tables.now) n c.args.self.now at in
    c.in_ok-give_gate.ensures.plans (1 + m) (c.in_ok-lines.ensures.plans n m x below)

pub returns-in_err-give_gate-clause-plans : goal.returns-in_err-give_gate-clause-plans
returns-in_err-give_gate-clause-plans g c n m at below =
    let x = stands_at g.D.Disk.state (g.P.Depot.state c.args.depot.now).is_out (events.Client c.args.client c.args.gate c.args.tables.now) n c.args.self.now at in
    c.in_err-give_gate.ensures.plans (1 + m) (c.in_ok-lines.ensures.plans n m x below)
