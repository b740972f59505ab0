use Rattle.std.proofs.Common.{refl, sym, ◌∙◌}
use Rattle.node_steps.proofs.Counted.{only_counted}
use Rattle.node_steps.proofs.Starting.{goes_on, up_stays}
use Rattle.node_steps.proofs.world.World.start_declared.Goals as goal

pub start_down-requires-clause-down : goal.start_down-requires-clause-down
start_down-requires-clause-down g c = sym c.is_up.ensures.up ∙ c.if-is_up.false

pub returns-then-is_up-clause-done : goal.returns-then-is_up-clause-done
returns-then-is_up-clause-done g c w h =
    goes_on g.D.Disk.state g.D.Disk.images g.met.D.Disk.only_now w c.args.self.now h c.args.store
    (up_stays _ _ (sym (c.is_up.ensures.held w h.store) ∙ c.if-is_up.true)) c.only.result c.only.ensures.lines

pub returns-then-is_up-clause-counted : goal.returns-then-is_up-clause-counted
returns-then-is_up-clause-counted g c =
    only_counted g.D.Disk.state c.only.result _ c.args.self.now c.args.self.now refl refl refl c.only.ensures.lines
