use Rattle.std.proofs.Common.{◌+◌, ◌∙◌, sym}
use Rattle.stab_base.specs.declared.node.Node.TheVariants as nodes
use Rattle.table_model.specs.declared.event.Event.TheVariants as events
use Rattle.net_steps.specs.Steps.{may_begin}
use Rattle.net_steps.proofs.Passing.{stands_at}
use Rattle.net_steps.proofs.Started.{start_done, start_over, start_left, there_now}
use Rattle.net_steps.proofs.world.World.wake.Goals as goal

pub go_through-requires-clause-held : goal.go_through-requires-clause-held
go_through-requires-clause-held g c =
    let k = c.requires.held in
    (k.0, stands_at g.D.Disk.state (g.P.Depot.state c.args.depot.now).is_out (events.Start (nodes.Client c.args.client)) k.0 c.args.self.now k.1)

pub returns-in-Ok-clause-done : goal.returns-in-Ok-clause-done
returns-in-Ok-clause-done g c n at =
    let before = (g.P.Depot.state c.args.depot.now).is_out in
    let x = stands_at g.D.Disk.state before (events.Start (nodes.Client c.args.client)) n c.args.self.now at in
    let f = c.in_ok-forget_session-in-Ok.ensures in
    start_done g.D.Disk.state g.D.Disk.images n c.args.client before (g.P.Depot.state c.go_through.new.depot).is_out c.args.self.now c.go_through.new.self x c.forget_session.new.self f.store f.faults
    c.in-Ok.ensures.rest c.is_down-was_down.result (c.is_down-was_down.ensures n.wire at.held.wire) f.held c.in-Ok.lines (c.in-Ok.ensures.done n x)

pub returns-in-Ok-clause-plans : goal.returns-in-Ok-clause-plans
returns-in-Ok-clause-plans g c n m at below =
    let x = stands_at g.D.Disk.state (g.P.Depot.state c.args.depot.now).is_out (events.Start (nodes.Client c.args.client)) n c.args.self.now at in
    c.in_ok-forget_session-in-Ok.ensures.plans (may_begin n (events.Start (nodes.Client c.args.client)) + m) (c.in-Ok.ensures.plans n m x below)

pub returns-clause-over : goal.returns-clause-over
returns-clause-over g c n at =
    let before = (g.P.Depot.state c.args.depot.now).is_out in
    let x = stands_at g.D.Disk.state before (events.Start (nodes.Client c.args.client)) n c.args.self.now at in
    let f = c.cut_off.ensures in
    start_over g.D.Disk.state g.D.Disk.images n c.args.client before (g.P.Depot.state c.go_through.new.depot).is_out c.args.self.now c.go_through.new.self x c.cut_off.new.self f.store f.faults
    c.in-Err.ensures.rest c.is_down-was_down.result (c.is_down-was_down.ensures n.wire at.held.wire) f.nodes c.in-Err.fault (c.in-Err.ensures.over n x)

pub returns-clause-limit : goal.returns-clause-limit
returns-clause-limit g c n m at below =
    let x = stands_at g.D.Disk.state (g.P.Depot.state c.args.depot.now).is_out (events.Start (nodes.Client c.args.client)) n c.args.self.now at in
    c.in-Err.ensures.limit n m x below

pub returns-clause-plans : goal.returns-clause-plans
returns-clause-plans g c n m at below =
    let x = stands_at g.D.Disk.state (g.P.Depot.state c.args.depot.now).is_out (events.Start (nodes.Client c.args.client)) n c.args.self.now at in
    c.cut_off.ensures.plans (may_begin n (events.Start (nodes.Client c.args.client)) + m) (c.in-Err.ensures.plans n m x below)

pub returns-clause-left : goal.returns-clause-left
returns-clause-left g c n at =
    let before = (g.P.Depot.state c.args.depot.now).is_out in
    let x = stands_at g.D.Disk.state before (events.Start (nodes.Client c.args.client)) n c.args.self.now at in
    let f = c.cut_off.ensures in
    λ memory limit why.
    let u = c.in-Err.ensures.left n x memory limit why in
    start_left g.D.Disk.state g.D.Disk.images n c.args.client before (g.P.Depot.state c.go_through.new.depot).is_out c.args.self.now c.go_through.new.self x c.cut_off.new.self f.store f.faults u
    (f.held n u.held (there_now n x.reached c.args.client) (λ was. sym (c.is_down-was_down.ensures n.wire at.held.wire) ∙ was))

pub returns-in_err-forget_session-in-Ok-clause-plans : goal.returns-in_err-forget_session-in-Ok-clause-plans
returns-in_err-forget_session-in-Ok-clause-plans g c n m at below =
    let x = stands_at g.D.Disk.state (g.P.Depot.state c.args.depot.now).is_out (events.Start (nodes.Client c.args.client)) n c.args.self.now at in
    c.in_err-forget_session-in-Ok.ensures.plans (may_begin n (events.Start (nodes.Client c.args.client)) + m) (c.in-Ok.ensures.plans n m x below)
