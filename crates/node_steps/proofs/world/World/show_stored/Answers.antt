use Rattle.std.proofs.Common.{◌∷◌, []}
use Rattle.step_tables.specs.Store.{current_of}
use Rattle.world_tables.specs.World.{row_read, row_shown, first_luck}
use Rattle.node_steps.specs.Outs.{read_moves}
use Rattle.node_steps.specs.Calls.{with_calls}
use Rattle.node_steps.proofs.Counted.{told_counted}
use Rattle.node_steps.proofs.Done.{told_moves}
use Rattle.node_steps.proofs.Showing.{read_goes, read_is, there_at}
use Rattle.store_host.specs.Holds.{AreLeft}
use Rattle.node_steps.proofs.Rows.{told_tables}
use Rattle.node_steps.proofs.world.World.show_stored.Goals as goal

pub returns-clause-done : goal.returns-clause-done
returns-clause-done g c w hosted h at =
    let k = c.in_ok-answer.ensures.done w hosted h.store at in
    told_moves g.D.Disk.state w c.args.self.now h (read_moves w c.args.table k.0) (read_goes w c.args.table k.0) (row_shown (current_of hosted.store.disk.items c.args.row.now)) _ _ c.tell.result
    c.tell.new.self (λ lucks. row_read w c.args.table hosted c.args.row.now (first_luck lucks.calls)) (with_calls (k.0 ∷ []))
    (read_is w c.args.table hosted c.args.row.now k.0) k.1 c.tell.ensures.told

pub returns-clause-counted : goal.returns-clause-counted
returns-clause-counted g c =
    let k = c.requires.held in let at = there_at g.D.Disk.state k.0 c.args.self.now.store c.args.table k.1.store c.requires.there in
    told_counted g.D.Disk.state k.0 (λ lucks. row_read k.0 c.args.table at.0 c.args.row.now (first_luck lucks.calls)) c.tell.result _ c.args.self.now c.tell.new.self c.show.new.stores c.in_ok-answer.ensures.counted
    c.tell.ensures.told (returns-clause-done g c k.0 at.0 k.1 at.1)

pub show-requires-clause-held : goal.show-requires-clause-held
show-requires-clause-held g c = let k = c.requires.held in (k.0, k.1.store)

pub returns-clause-rows : goal.returns-clause-rows
returns-clause-rows g c w h =
    told_tables (AreLeft g.D.Disk.state g.D.Disk.images w c.args.self.now.store.tables) c.tell.result _ c.args.self.now c.tell.new.self c.show.new.stores
    (c.in_ok-answer.ensures.rows w h.store) c.tell.ensures.told
