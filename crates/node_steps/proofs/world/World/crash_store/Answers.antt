use Rattle.std.proofs.Common.{refl}
use Rattle.stab_base.specs.declared.node.Node.TheVariants as nodes
use Rattle.step_tables.specs.Facts as facts
use Rattle.world_tables.specs.World.{crashed, busy_table, store_crashes}
use Rattle.world_tables.specs.Faults.{fails_crash}
use Rattle.node_steps.specs.Calls.{with_calls}
use Rattle.node_steps.proofs.Counted.{counted_done, cut_counted}
use Rattle.node_steps.proofs.Done.{told_done}
use Rattle.node_steps.proofs.Going.{crashes_goes}
use Rattle.store_host.specs.Holds.{AreLeft}
use Rattle.node_steps.proofs.Rows.{told_tables}
use Rattle.node_steps.proofs.world.World.crash_store.Goals as goal

pub returns-clause-done : goal.returns-clause-done
returns-clause-done g c w h =
    let k = c.crash-answer.ensures.crashed w h.store in
    counted_done g.D.Disk.state w (λ lucks. crashed w c.args.calls lucks.calls (nodes.Store c.args.store)) (λ lucks. crashed w c.args.calls lucks.calls (nodes.Store c.args.store)) (λ lucks. fails_crash w lucks.calls (nodes.Store c.args.store))
    (λ lucks. fails_crash w lucks.calls (nodes.Store c.args.store)) c.tell.result c.args.self.now c.tell.new.self (with_calls k.0) c.crash-answer.new.stores _
    (told_done g.D.Disk.state w c.args.self.now h (store_crashes c.args.store c.args.calls k.0 w) (crashes_goes c.args.store c.args.calls k.0 w) facts.Done _ _ c.tell.result c.tell.new.self
    (λ lucks. crashed w c.args.calls lucks.calls (nodes.Store c.args.store)) (with_calls k.0) refl k.1 c.tell.ensures.told) c.tell.ensures.told (cut_counted g.D.Disk.state (busy_table w c.args.store) _ _ k.0 k.2)

pub returns-clause-rows : goal.returns-clause-rows
returns-clause-rows g c w h =
    told_tables (AreLeft g.D.Disk.state g.D.Disk.images w c.args.self.now.store.tables) c.tell.result _ c.args.self.now c.tell.new.self c.crash-answer.new.stores
    (c.crash-answer.ensures.rows w h.store) c.tell.ensures.told
