use Rattle.std.proofs.Common.{refl, sym, ◌∙◌}
use Rattle.node_steps.proofs.Moved.{follows_badly}
use Rattle.node_steps.proofs.Rows.{none_left}
use Rattle.node_steps.proofs.moves.follow.Goals as goal

pub returns-in-Err-Disk-clause-done : goal.returns-in-Err-Disk-clause-done
returns-in-Err-Disk-clause-done g c w h is =
    let k = c.in-Err-Disk.ensures.failed w h (let is = c.in-Err-Disk.field-0-is in cc) in follows_badly g.D.Disk.state _ _ c.args.store w (sym c.if-is_held.false ∙ is) k.0 k.1 k.2 _ refl

pub returns-then-is_held-clause-rows : goal.returns-then-is_held-clause-rows
returns-then-is_held-clause-rows g c w h = none_left g.D.Disk.state g.D.Disk.images g.met.D.Disk.only_now w c.args.stores.now h
