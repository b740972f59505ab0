use Rattle.std.proofs.Common.{Bool, false, refl, ap, sym, ◌∙◌}
use Rattle.std.specs.Prelude.{if◌then◌else◌}
use Rattle.step_tables.specs.Facts as facts
use Rattle.table_model.specs.declared.event.Event.TheVariants as events
use Rattle.world_tables.specs.World.{crashed, refused, step}
use Rattle.world_tables.specs.Faults.{is_device_fault, fails_crash}
use Rattle.node_steps.proofs.Counted.{counted_still, comes_counted_as}
use Rattle.node_steps.proofs.Done.{down_refused}
use Rattle.store_host.specs.Holds.{AreLeft}
use Rattle.node_steps.proofs.Rows.{any_ok, none_left}
use Rattle.node_steps.proofs.world.World.crash.Goals as goal

pub returns-then-is_down-clause-done : goal.returns-then-is_down-clause-done
returns-then-is_down-clause-done g c w h =
    let event = events.Crash c.args.node c.args.calls c.args.pick in
    let is = sym c.if-is_down.true ∙ c.is_down.ensures.held w h in
    counted_still g.D.Disk.state w (step w event) (step w event) (λ lucks. is_device_fault w event lucks) (λ lucks. is_device_fault w event lucks) c.refuse.result c.args.self.now c.args.self.now
    (λ lucks. ap (λ (b : Bool). if b then false else fails_crash w lucks.calls c.args.node) (sym is)) refl refl
    (down_refused g.D.Disk.state w c.args.node (λ lucks. crashed w c.args.calls lucks.calls c.args.node) c.refuse.result c.args.self.now h is c.refuse.ensures.lines)

pub crash_up-requires-clause-up : goal.crash_up-requires-clause-up
crash_up-requires-clause-up g c = c.is_down.ensures.up c.if-is_down.false

pub returns-clause-done : goal.returns-clause-done
returns-clause-done g c w h =
    let event = events.Crash c.args.node c.args.calls c.args.pick in
    let is = sym c.if-is_down.false ∙ c.is_down.ensures.held w h in
    comes_counted_as g.D.Disk.state w (step w event) (λ lucks. crashed w c.args.calls lucks.calls c.args.node) (λ lucks. is_device_fault w event lucks) (λ lucks. fails_crash w lucks.calls c.args.node)
    c.crash_up.result c.args.self.now c.crash_up.new.self
    (λ lucks. ap (λ (b : Bool). if b then refused w (facts.NodeDown c.args.node) else crashed w c.args.calls lucks.calls c.args.node) (sym is))
    (λ lucks. ap (λ (b : Bool). if b then false else fails_crash w lucks.calls c.args.node) (sym is)) (c.crash_up.ensures.done w h)

pub returns-then-is_down-clause-rows : goal.returns-then-is_down-clause-rows
returns-then-is_down-clause-rows g c w h =
    any_ok c.refuse.result (AreLeft g.D.Disk.state g.D.Disk.images w c.args.self.now.store.tables c.args.self.now.store.tables)
    (none_left g.D.Disk.state g.D.Disk.images g.met.D.Disk.only_now w c.args.self.now.store h.store)
