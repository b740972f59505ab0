use Rattle.step_tables.specs.StoreMoves.{Place}
use Rattle.store_node.specs.Sides.{put_of}
use Rattle.world_tables.specs.World.{to_hosted, hosted_at, move_table}
use Rattle.node_steps.specs.Calls.{with_calls}
use Rattle.node_steps.specs.Rows.{AreLeftOver}
use Rattle.node_steps.proofs.Counted.{told_counted}
use Rattle.node_steps.proofs.Done.{told_moves}
use Rattle.node_steps.proofs.Rows.{told_tables}
use Rattle.node_steps.proofs.world.World.place.Goals as goal

pub place-requires-clause-held : goal.place-requires-clause-held
place-requires-clause-held g c = let k = c.requires.held in (k.0, k.1.store)

pub returns-clause-done : goal.returns-clause-done
returns-clause-done g c w h =
    let k = c.in_ok-answer.ensures.done w h.store (c.is_held-is_held.ensures w h) in
    told_moves g.D.Disk.state w c.args.self.now h k.1.moves k.1.goes k.1.answer _ _ c.tell.result c.tell.new.self
    (λ lucks. to_hosted w c.args.table (Place (put_of c.args.put)) lucks.calls (hosted_at w c.args.table)) (with_calls k.0) k.1.step_is k.1.answered c.tell.ensures.told

pub returns-clause-counted : goal.returns-clause-counted
returns-clause-counted g c =
    let k = c.requires.held in
    told_counted g.D.Disk.state k.0 (λ lucks. to_hosted k.0 c.args.table (Place (put_of c.args.put)) lucks.calls (hosted_at k.0 c.args.table)) c.tell.result _ c.args.self.now c.tell.new.self
    c.place.new.stores c.in_ok-answer.ensures.counted c.tell.ensures.told (returns-clause-done g c k.0 k.1)

pub returns-clause-rows : goal.returns-clause-rows
returns-clause-rows g c w h =
    told_tables (AreLeftOver g.D.Disk.state g.D.Disk.images w (move_table c.args.table (Place (put_of c.args.put)) w).world c.args.self.now.store.tables) c.tell.result _ c.args.self.now
    c.tell.new.self c.place.new.stores (c.in_ok-answer.ensures.rows w h.store) c.tell.ensures.told
