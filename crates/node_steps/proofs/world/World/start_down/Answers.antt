use Rattle.std.proofs.Common.{ap, Bool}
use Rattle.std.specs.Prelude.{if◌then◌else◌}
use Rattle.stab_base.specs.declared.node.Node.TheVariants as nodes
use Rattle.step_tables.specs.Facts as facts
use Rattle.world_tables.specs.World.{started, store_starts, answering, answered}
use Rattle.world_tables.specs.Passed.{started_at}
use Rattle.node_steps.specs.Calls.{with_calls}
use Rattle.node_steps.specs.Rows.{AreLeftOver}
use Rattle.node_steps.proofs.Counted.{told_counted}
use Rattle.node_steps.proofs.Done.{told_done}
use Rattle.node_steps.proofs.Going.{starts_goes}
use Rattle.node_steps.proofs.Rows.{told_tables, comes_left, left_comes}
use Rattle.node_steps.proofs.Starting.{starts_there}
use Rattle.node_steps.proofs.world.World.start_down.Goals as goal

pub start-requires-clause-held : goal.start-requires-clause-held
start-requires-clause-held g c = let k = c.requires.held in (k.0, k.1.store)

pub returns-clause-done : goal.returns-clause-done
returns-clause-done g c w h =
    let n = c.args.store in
    let k = c.in_ok-answer.ensures.done w h.store (c.is_held-is_held.ensures w h) in
    let starts = starts_there g.D.Disk.state w c.args.self.now.store n h.store c.requires.declared c.requires.down in
    comes_left g.D.Disk.state g.D.Disk.images w (λ lucks. started w lucks.shape lucks.calls (nodes.Store n)) (λ lucks. started_at w lucks.calls (nodes.Store n)) c.tell.result c.args.self.now c.tell.new.self (with_calls k.0)
    (told_done g.D.Disk.state w c.args.self.now h (store_starts n k.0 w) (starts_goes n k.0 w) facts.Done _ _ c.tell.result c.tell.new.self (λ lucks. started w lucks.shape lucks.calls (nodes.Store n)) (with_calls k.0)
    (ap (λ (b : Bool). if b then answering facts.Done (store_starts n k.0 w) else answered w facts.Done) starts) k.1 c.tell.ensures.told)
    (told_tables (AreLeftOver g.D.Disk.state g.D.Disk.images w (started_at w k.0 (nodes.Store n)) c.args.self.now.store.tables) c.tell.result _ c.args.self.now c.tell.new.self c.start.new.stores k.2
    c.tell.ensures.told)

pub returns-clause-counted : goal.returns-clause-counted
returns-clause-counted g c =
    let k = c.requires.held in let n = c.args.store in
    told_counted g.D.Disk.state k.0 (λ lucks. started k.0 lucks.shape lucks.calls (nodes.Store n)) c.tell.result _ c.args.self.now c.tell.new.self c.start.new.stores c.in_ok-answer.ensures.counted c.tell.ensures.told
    (left_comes g.D.Disk.state g.D.Disk.images k.0 (λ lucks. started k.0 lucks.shape lucks.calls (nodes.Store n)) (λ lucks. started_at k.0 lucks.calls (nodes.Store n)) c.tell.result c.args.self.now c.tell.new.self
    (returns-clause-done g c k.0 k.1))
