use Rattle.std.proofs.lemmas.Result.{err_from_is_err_and}
use Rattle.step_tables.specs.Messages.{table_of}
use Rattle.step_tables.specs.StoreMoves.{Take}
use Rattle.step_tables.specs.Travels.{message_of}
use Rattle.world_tables.specs.World.{to_hosted, hosted_at, move_table}
use Rattle.node_steps.specs.Calls.{with_calls}
use Rattle.node_steps.specs.Rows.{AreLeftOver}
use Rattle.node_steps.proofs.Counted.{told_counted}
use Rattle.node_steps.proofs.Clients.{still_store}
use Rattle.node_steps.proofs.Done.{told_moves}
use Rattle.node_steps.proofs.Rows.{told_tables}
use Rattle.node_steps.proofs.world.World.take.Goals as goal

pub take-requires-clause-held : goal.take-requires-clause-held
take-requires-clause-held g c =
    let k = c.requires.held in (k.0, k.1.store, k.2)

pub returns-clause-done : goal.returns-clause-done
returns-clause-done g c w h fits =
    let m = message_of c.args.message.now in
    let k = c.in_ok-answer.ensures.done w h.store (c.is_held-is_held.ensures w h) fits in
    told_moves g.D.Disk.state w c.args.self.now h k.1.moves k.1.goes k.1.answer _ _ c.tell.result c.tell.new.self
    (λ lucks. to_hosted w (table_of m) (Take c.args.from m) lucks.calls (hosted_at w (table_of m))) (with_calls k.0) k.1.step_is k.1.answered c.tell.ensures.told

pub returns-clause-counted : goal.returns-clause-counted
returns-clause-counted g c =
    let k = c.requires.held in
    let m = message_of c.args.message.now in
    told_counted g.D.Disk.state k.0 (λ lucks. to_hosted k.0 (table_of m) (Take c.args.from m) lucks.calls (hosted_at k.0 (table_of m))) c.tell.result _ c.args.self.now c.tell.new.self
    c.take.new.stores c.in_ok-answer.ensures.counted c.tell.ensures.told (returns-clause-done g c k.0 k.1 k.2)

pub returns-clause-rows : goal.returns-clause-rows
returns-clause-rows g c w h fits =
    let m = message_of c.args.message.now in
    told_tables (AreLeftOver g.D.Disk.state g.D.Disk.images w (move_table (table_of m) (Take c.args.from m) w).world c.args.self.now.store.tables) c.tell.result _ c.args.self.now
    c.tell.new.self c.take.new.stores (c.in_ok-answer.ensures.rows w h.store fits) c.tell.ensures.told

pub returns-in_err-answer-clause-left : goal.returns-in_err-answer-clause-left
returns-in_err-answer-clause-left g c w h =
    let p = err_from_is_err_and c.from_residual.result c.from_residual.ensures.1 in
    rw (p.1, p.2)
    (λ no. let k = c.in_err-answer.ensures.left w h.store no in still_store g.D.Disk.state w c.args.self.now c.take.new.stores h k.0 k.1 k.2)
