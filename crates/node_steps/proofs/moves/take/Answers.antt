use Rattle.std.proofs.Common.{refl, sym, ◌∙◌, ap}
use Rattle.std.specs.Prelude.{is_some}
use Rattle.step_tables.specs.Travels.{message_of}
use Rattle.step_tables.specs.Messages.{table_of}
use Rattle.step_tables.specs.StoreMoves.{Take}
use Rattle.world_tables.specs.World.{hosted_at, move_table}
use Rattle.node_steps.proofs.Taken.{lost, ok_there}
use Rattle.node_steps.proofs.Showing.{none_of}
use Rattle.node_steps.proofs.Rows.{none_left, over_first}
use Rattle.node_steps.proofs.moves.take.Goals as goal

pub returns-then-has-clause-done : goal.returns-then-has-clause-done
returns-then-has-clause-done g c w h is fits =
    let m = message_of c.args.message.now in
    ok_there g.D.Disk.state w c.args.stores.now h (table_of m) (Take c.args.from m) c.take_there.new.stores c.table_of.result c.table_of.ensures
    (sym c.if-has.true ∙ c.has.ensures.held w h) c.take_there.result
    (λ hosted at. c.take_there.ensures.done w hosted h is fits at)

pub returns-clause-done : goal.returns-clause-done
returns-clause-done g c w h is fits =
    let m = message_of c.args.message.now in
    lost g.D.Disk.state w c.args.stores.now h (table_of m) (Take c.args.from m)
    (none_of _ (sym c.if-has.false ∙ (c.has.ensures.held w h ∙ ap (λ t. is_some (hosted_at w t)) c.table_of.ensures))) _ refl

pub returns-clause-rows : goal.returns-clause-rows
returns-clause-rows g c w h fits =
    let m = message_of c.args.message.now in
    over_first g.D.Disk.state g.D.Disk.images w (move_table (table_of m) (Take c.args.from m) w).world c.args.stores.now.tables c.args.stores.now.tables
    (none_left g.D.Disk.state g.D.Disk.images g.met.D.Disk.only_now w c.args.stores.now h)
