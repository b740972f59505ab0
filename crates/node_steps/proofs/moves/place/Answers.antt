use Rattle.std.proofs.Common.{refl, sym, ◌∙◌}
use Rattle.step_tables.specs.StoreMoves.{Place}
use Rattle.store_node.specs.Sides.{put_of}
use Rattle.world_tables.specs.World.{move_table}
use Rattle.node_steps.proofs.Taken.{lost, ok_there}
use Rattle.node_steps.proofs.Showing.{none_of}
use Rattle.node_steps.proofs.Rows.{none_left, over_first}
use Rattle.node_steps.proofs.moves.place.Goals as goal

pub returns-then-has-clause-done : goal.returns-then-has-clause-done
returns-then-has-clause-done g c w h is =
    ok_there g.D.Disk.state w c.args.stores.now h c.args.table (Place (put_of c.args.put)) c.place_there.new.stores c.args.table refl
    (sym c.if-has.true ∙ c.has.ensures.held w h) c.place_there.result
    (λ hosted at. c.place_there.ensures.done w hosted h is at)

pub returns-clause-done : goal.returns-clause-done
returns-clause-done g c w h is =
    lost g.D.Disk.state w c.args.stores.now h c.args.table (Place (put_of c.args.put))
    (none_of _ (sym c.if-has.false ∙ c.has.ensures.held w h)) _ refl

pub returns-clause-rows : goal.returns-clause-rows
returns-clause-rows g c w h =
    over_first g.D.Disk.state g.D.Disk.images w (move_table c.args.table (Place (put_of c.args.put)) w).world c.args.stores.now.tables c.args.stores.now.tables
    (none_left g.D.Disk.state g.D.Disk.images g.met.D.Disk.only_now w c.args.stores.now h)
