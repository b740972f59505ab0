use Rattle.std.proofs.Common.{refl}
use Rattle.stab_base.specs.declared.node.Node.TheVariants as nodes
use Rattle.world_tables.specs.World.{tables_of, without_down}
use Rattle.world_tables.specs.Passed.{started_at}
use Rattle.store_host.specs.Calls.{restart_moves}
use Rattle.store_host.proofs.Froms.{SameDisk, restart_from}
use Rattle.node_steps.proofs.Moved.{starts_badly, starts_ok}
use Rattle.node_steps.proofs.Counted.{follow_counted}
use Rattle.node_steps.proofs.Rows.{over_first, over_then_ok, start_left}
use Rattle.node_steps.proofs.moves.start.Goals as goal

pub returns-in-Ok-clause-done : goal.returns-in-Ok-clause-done
returns-in-Ok-clause-done g c w h is =
    let n = c.args.store in
    let s = c.in-Ok.ensures.started w h in
    let tables = tables_of w n in
    let m = restart_moves tables s.0 w in
    let x = without_down (nodes.Store n) m.world in
    let from = restart_from tables s.0 w in
    start_left g.D.Disk.state g.D.Disk.images n w c.args.stores.now c.follow.new.stores m c.follow.result
    (starts_ok g.D.Disk.state c.args.stores.now n w s.0 c.start.new.self c.follow.new.stores s.1 s.2 c.args.is_held is c.follow.result c.follow.ensures.done)
    (over_then_ok g.D.Disk.state g.D.Disk.images SameDisk w x m.world c.args.stores.now.tables c.start.new.self.tables h.tables s.2.held.tables
    (record { schemas = from.schemas; there = from.there }) (λ table hosted at. at) c.follow.result c.follow.new.stores.tables (c.in-Ok.ensures.left w h) (c.follow.ensures.rows x s.2.held))

pub returns-in-Err-Disk-clause-done : goal.returns-in-Err-Disk-clause-done
returns-in-Err-Disk-clause-done g c w h is =
    let n = c.args.store in
    let s = c.in-Err-Disk.ensures.failed w h (let is = c.in-Err-Disk.field-0-is in cc) in
    let k = starts_badly g.D.Disk.state c.args.stores.now n w s.0 c.start.new.self s.1 s.2 _ refl in (
      k.0,
      k.1,
      over_first g.D.Disk.state g.D.Disk.images w (started_at w k.0 (nodes.Store n)) c.args.stores.now.tables c.start.new.self.tables (c.in-Err-Disk.ensures.left w h),
    )

pub returns-in-Ok-clause-counted : goal.returns-in-Ok-clause-counted
returns-in-Ok-clause-counted g c =
    follow_counted g.D.Disk.state c.args.stores.now.tables c.start.new.self.tables c.follow.new.stores.tables c.follow.result (c.in-Ok.ensures.cause.counted (λ e. absurd cc)) c.follow.ensures.counted
