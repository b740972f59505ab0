use Rattle.std.proofs.Common.{refl, sym, ◌∙◌}
use Rattle.node_steps.proofs.Taken.{goes_on, rests}
use Rattle.node_steps.proofs.Rows.{none_left}
use Rattle.node_steps.proofs.moves.follow_table.Goals as goal

pub returns-then-is_busy-clause-done : goal.returns-then-is_busy-clause-done
returns-then-is_busy-clause-done g c w h own is =
    goes_on g.D.Disk.state _ _ c.args.store w c.args.table c.follow.result own (sym c.if-is_busy.true ∙ c.is_busy.ensures w h) (c.follow.ensures.done w h is)

pub returns-clause-done : goal.returns-clause-done
returns-clause-done g c w h own is =
    rests g.D.Disk.state _ w c.args.table _ h (sym c.if-is_busy.false ∙ c.is_busy.ensures w h) refl

pub returns-clause-rows : goal.returns-clause-rows
returns-clause-rows g c w h = none_left g.D.Disk.state g.D.Disk.images g.met.D.Disk.only_now w c.args.stores.now h
