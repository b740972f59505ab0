use Rattle.std.proofs.Common.{refl, sym, ◌∙◌}
use Rattle.world_tables.specs.World.{all_worked}
use Rattle.node_steps.proofs.Counted.{only_counted}
use Rattle.node_steps.proofs.Done.{down_refused, up_goes_on}
use Rattle.store_host.specs.Holds.{AreLeft}
use Rattle.node_steps.proofs.Rows.{any_ok, none_left}
use Rattle.node_steps.proofs.world.World.work_all.Goals as goal

pub returns-then-is_down-clause-done : goal.returns-then-is_down-clause-done
returns-then-is_down-clause-done g c w h =
    down_refused g.D.Disk.state w c.args.node (λ lucks. all_worked w lucks.calls c.args.node) c.refuse.result c.args.self.now h (sym c.if-is_down.true ∙ c.is_down.ensures.held w h) c.refuse.ensures.lines

pub work_all_up-requires-clause-up : goal.work_all_up-requires-clause-up
work_all_up-requires-clause-up g c = c.is_down.ensures.up c.if-is_down.false

pub returns-clause-done : goal.returns-clause-done
returns-clause-done g c w h =
    up_goes_on g.D.Disk.state w c.args.node (λ lucks. all_worked w lucks.calls c.args.node) c.work_all_up.result c.work_all_up.new.self (sym c.if-is_down.false ∙ c.is_down.ensures.held w h)
    (c.work_all_up.ensures.done w h)

pub returns-then-is_down-clause-counted : goal.returns-then-is_down-clause-counted
returns-then-is_down-clause-counted g c =
    only_counted g.D.Disk.state c.refuse.result _ c.args.self.now c.args.self.now refl refl refl c.refuse.ensures.lines

pub returns-then-is_down-clause-rows : goal.returns-then-is_down-clause-rows
returns-then-is_down-clause-rows g c w h =
    any_ok c.refuse.result (AreLeft g.D.Disk.state g.D.Disk.images w c.args.self.now.store.tables c.args.self.now.store.tables)
    (none_left g.D.Disk.state g.D.Disk.images g.met.D.Disk.only_now w c.args.self.now.store h.store)
