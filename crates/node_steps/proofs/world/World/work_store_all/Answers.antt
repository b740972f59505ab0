use Rattle.std.proofs.Common.{refl, length}
use Rattle.stab_base.specs.declared.node.Node.TheVariants as nodes
use Rattle.step_tables.specs.Facts as facts
use Rattle.world_tables.specs.World.{all_worked, tasks_of, store_until_idle}
use Rattle.node_steps.specs.Calls.{with_calls}
use Rattle.node_steps.proofs.Counted.{told_counted}
use Rattle.node_steps.proofs.Done.{told_moves}
use Rattle.node_steps.proofs.Going.{until_idle_goes}
use Rattle.store_host.specs.Holds.{AreLeft}
use Rattle.node_steps.proofs.Rows.{told_tables}
use Rattle.node_steps.proofs.world.World.work_store_all.Goals as goal

pub returns-clause-done : goal.returns-clause-done
returns-clause-done g c w h =
    let k = c.in_ok-answer.ensures.done w h.store in
    told_moves g.D.Disk.state w c.args.self.now h (store_until_idle c.args.store k.0 w) (until_idle_goes c.args.store k.0 w) (facts.Number (length (tasks_of w c.args.store))) _ _ c.tell.result c.tell.new.self
    (λ lucks. all_worked w lucks.calls (nodes.Store c.args.store)) (with_calls k.0) refl k.1 c.tell.ensures.told

pub returns-clause-counted : goal.returns-clause-counted
returns-clause-counted g c =
    let k = c.requires.held in
    told_counted g.D.Disk.state k.0 (λ lucks. all_worked k.0 lucks.calls (nodes.Store c.args.store)) c.tell.result _ c.args.self.now c.tell.new.self c.work_all.new.stores c.in_ok-answer.ensures.counted c.tell.ensures.told
    (returns-clause-done g c k.0 k.1)

pub returns-clause-rows : goal.returns-clause-rows
returns-clause-rows g c w h =
    told_tables (AreLeft g.D.Disk.state g.D.Disk.images w c.args.self.now.store.tables) c.tell.result _ c.args.self.now c.tell.new.self c.work_all.new.stores
    (c.in_ok-answer.ensures.rows w h.store) c.tell.ensures.told

pub work_all-requires-clause-held : goal.work_all-requires-clause-held
work_all-requires-clause-held g c = let k = c.requires.held in (k.0, k.1.store)
