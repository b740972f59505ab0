use Rattle.std.proofs.Common.{◌∷◌, sym, ◌∙◌}
use Rattle.step_tables.specs.Facts as facts
use Rattle.world_tables.specs.World.{answered}
use Rattle.node_steps.proofs.Done.{down_refused, up_goes_on}
use Rattle.node_steps.proofs.world.World.hold.Goals as goal

pub returns-then-is_down-clause-done : goal.returns-then-is_down-clause-done
returns-then-is_down-clause-done g c w h =
    down_refused g.D.Disk.state w c.args.node (λ lucks. answered (record w { holds = c.args.node ∷ w.holds }) facts.Done) c.refuse.result c.args.self.now h
    (sym c.if-is_down.true ∙ c.is_down.ensures.held w h) c.refuse.ensures.lines

pub returns-clause-done : goal.returns-clause-done
returns-clause-done g c w h =
    up_goes_on g.D.Disk.state w c.args.node (λ lucks. answered (record w { holds = c.args.node ∷ w.holds }) facts.Done) c.hold_up.result c.hold_up.new.self
    (sym c.if-is_down.false ∙ c.is_down.ensures.held w h) (c.hold_up.ensures.done w h)
